use Rattle.std.proofs.Common.{sym, ap, subst, ◌∙◌, ◌≤◌, length}
use Rattle.std.proofs.lemmas.List.{length-map}
use Rattle.wy_tree.specs.Ast.{tokens}
use Rattle.wy_tree.specs.Tokens.{SpannedToken}
use Rattle.wy_syntax.specs.Declarations.{unit}
use Rattle.wy_program.proofs.Programs.{Laws, bodies_fit, few_parts}
use Rattle.wy_program.proofs.laws.texts_are_programs.Goals as goal

pub returns : goal.returns
returns c = λ text spans tree read is_tree few count p h.
    let few_tokens : length (tokens tree) ≤ 1048576 = subst (λ n. n ≤ 1048576) (sym (ap length is_tree.1 ∙ length-map spans (λ (s : SpannedToken). s.token))) few in
    let fit = c.methods_of_programs_fit.ensures.texts text spans tree read is_tree count p h in
    let words = c.texts_are_written.ensures text spans tree read is_tree in
    let laws : Laws = record {
      stand = c.members_stand.ensures;
      tables = c.trees_have_tables.ensures;
      rows = c.the_table_of_a_text_says_what_the_text_says.ensures.rows;
      names = c.the_table_of_a_text_says_what_the_text_says.ensures.names;
      library = c.programs_have_the_library.ensures;
      typed = c.what_a_text_becomes_fits_its_types.ensures.types;
    } in
    let bodies = bodies_fit laws tree is_tree.0 few_tokens words count p fit h in
    record {
      declarations = c.declarations_stand.ensures (unit 0 tree) count p h;
      a_place_a_method = c.each_method_of_a_tree_has_a_place.ensures.bodies tree is_tree.0 count p h;
      a_place_a_class = c.each_class_and_each_method_has_a_place.ensures.initializers (unit 0 tree) count p h;
      bodies = bodies.bodies;
      initializers = bodies.initializers;
      runs = c.classes_run_methods.ensures (unit 0 tree) count p ((few_parts (unit 0 tree) count p h (c.trees_declare_few.ensures tree is_tree.0 few_tokens)).classes) fit h;
      main = c.programs_have_a_main.ensures tree is_tree.0 few_tokens count p h;
    }
