use Rattle.std.proofs.Common.{sym, ap, subst, ◌∙◌, ◌≤◌, length, arith}
use Rattle.std.proofs.lemmas.List.{length-map}
use Rattle.wy_tree.specs.Ast.{tokens}
use Rattle.wy_tree.specs.Tokens.{SpannedToken}
use Rattle.wy_syntax.specs.Declarations.{unit as unit_of}
use Rattle.wy_typing.specs.Programs.{IsProgram}
use Rattle.law_typed_states.specs.Typed.{KeepsLibrary}
use Rattle.law_reached.specs.Laws.{StandsApart}
use Rattle.wy_program.proofs.Programs.{few_parts}
use Rattle.wy_top.proofs.laws.runs_of_texts.Goals as goal

pub returns-clause-typed : goal.returns-clause-typed
returns-clause-typed c = λ text spans tree read is_tree few count p h.
    let few_tokens : length (tokens tree) ≤ 1048576 = subst (λ n. n ≤ 1048576) (sym (ap length is_tree.1 ∙ length-map spans (λ (s : SpannedToken). s.token))) few in
    let parts = few_parts (unit_of 0 tree) count p h (c.trees_declare_few.ensures tree is_tree.0 few_tokens) in
    let fits : IsProgram p = c.texts_are_programs.ensures text spans tree read is_tree few count p h in
    let keeps : KeepsLibrary p = c.programs_keep_the_library.ensures (unit_of 0 tree) count p h (omega (arith, parts.classes)) in
    c.states_are_typed.ensures.states p fits keeps

pub returns-clause-reached : goal.returns-clause-reached
returns-clause-reached c = λ text spans tree read is_tree few count p h.
    let few_tokens : length (tokens tree) ≤ 1048576 = subst (λ n. n ≤ 1048576) (sym (ap length is_tree.1 ∙ length-map spans (λ (s : SpannedToken). s.token))) few in
    let parts = few_parts (unit_of 0 tree) count p h (c.trees_declare_few.ensures tree is_tree.0 few_tokens) in
    let fits : IsProgram p = c.texts_are_programs.ensures text spans tree read is_tree few count p h in
    let keeps : KeepsLibrary p = c.programs_keep_the_library.ensures (unit_of 0 tree) count p h (omega (arith, parts.classes)) in
    let apart : StandsApart p = c.programs_stand_apart.ensures p (c.each_number_is_one_statement.ensures tree is_tree.0 count p h) (c.no_two_choices_share_a_site.ensures tree is_tree.0 count p h) (c.tests_stand_apart.ensures tree is_tree.0 few_tokens count p h) in
    c.executed_points_are_reached.ensures.reached p fits keeps apart

pub returns-clause-needed : goal.returns-clause-needed
returns-clause-needed c = λ text spans tree read is_tree few count p h.
    let few_tokens : length (tokens tree) ≤ 1048576 = subst (λ n. n ≤ 1048576) (sym (ap length is_tree.1 ∙ length-map spans (λ (s : SpannedToken). s.token))) few in
    let parts = few_parts (unit_of 0 tree) count p h (c.trees_declare_few.ensures tree is_tree.0 few_tokens) in
    let fits : IsProgram p = c.texts_are_programs.ensures text spans tree read is_tree few count p h in
    let keeps : KeepsLibrary p = c.programs_keep_the_library.ensures (unit_of 0 tree) count p h (omega (arith, parts.classes)) in
    let apart : StandsApart p = c.programs_stand_apart.ensures p (c.each_number_is_one_statement.ensures tree is_tree.0 count p h) (c.no_two_choices_share_a_site.ensures tree is_tree.0 count p h) (c.tests_stand_apart.ensures tree is_tree.0 few_tokens count p h) in
    c.each_item_is_needed.ensures.needed p fits keeps apart

pub returns-clause-calls : goal.returns-clause-calls
returns-clause-calls c = λ text spans tree read is_tree few count p h.
    let few_tokens : length (tokens tree) ≤ 1048576 = subst (λ n. n ≤ 1048576) (sym (ap length is_tree.1 ∙ length-map spans (λ (s : SpannedToken). s.token))) few in
    let parts = few_parts (unit_of 0 tree) count p h (c.trees_declare_few.ensures tree is_tree.0 few_tokens) in
    let fits : IsProgram p = c.texts_are_programs.ensures text spans tree read is_tree few count p h in
    let keeps : KeepsLibrary p = c.programs_keep_the_library.ensures (unit_of 0 tree) count p h (omega (arith, parts.classes)) in
    let apart : StandsApart p = c.programs_stand_apart.ensures p (c.each_number_is_one_statement.ensures tree is_tree.0 count p h) (c.no_two_choices_share_a_site.ensures tree is_tree.0 count p h) (c.tests_stand_apart.ensures tree is_tree.0 few_tokens count p h) in
    c.calls_stand_on_links.ensures.calls p fits keeps apart

pub returns-clause-frames : goal.returns-clause-frames
returns-clause-frames c = λ text spans tree read is_tree few count p h. c.frames_are_the_bodies_that_were_active.ensures.frames p

pub returns-clause-held : goal.returns-clause-held
returns-clause-held c = λ text spans tree read is_tree few count p h.
    let few_tokens : length (tokens tree) ≤ 1048576 = subst (λ n. n ≤ 1048576) (sym (ap length is_tree.1 ∙ length-map spans (λ (s : SpannedToken). s.token))) few in
    let parts = few_parts (unit_of 0 tree) count p h (c.trees_declare_few.ensures tree is_tree.0 few_tokens) in
    let fits : IsProgram p = c.texts_are_programs.ensures text spans tree read is_tree few count p h in
    let keeps : KeepsLibrary p = c.programs_keep_the_library.ensures (unit_of 0 tree) count p h (omega (arith, parts.classes)) in
    c.held_is_what_the_store_last_had.ensures.last_had _ p fits keeps (c.trees_fit_their_texts.ensures tree is_tree.0 count p h)

pub returns-clause-stored : goal.returns-clause-stored
returns-clause-stored c = λ text spans tree read is_tree few count p h. c.held_is_what_the_store_last_had.ensures.stored p
