use Rattle.wy_kernel.specs.Parts.{program_of}
use Rattle.wy_kernel.specs.View.{class_of, method_of, field_of}
use Rattle.wy_program.proofs.Texts.{leaves, fits, stands, declares, few_lines, counted}
use Rattle.std.proofs.Common.{arith}
use Rattle.wy_program.proofs.typed.typed_program.Goals as goal

pub elaborate-requires-clause-leaves : goal.elaborate-requires-clause-leaves
elaborate-requires-clause-leaves c = leaves _ _ c.requires.read

pub invariant_of-result : goal.invariant_of-result
invariant_of-result c =
    let made = c.in_ok-program.ensures in
    let p = c.in_ok-program.program in
    let few = declares c.trees_declare_few.ensures _ _ (program_of p) c.requires.few c.requires.read made.program in
    record {
      fits = fits c.texts_are_programs.ensures _ _ _ c.requires.few c.requires.read made.program;
      stands = stands c.sites_are_tokens.ensures _ _ _ _ c.requires.read made.lines made.program;
      few_classes = counted class_of p.classes.items 1048594 few.classes (omega arith);
      few_methods = counted method_of p.methods.items 1048612 few.methods (omega arith);
      few_fields = counted field_of p.fields.items 1048577 few.fields (omega arith);
      few_texts = made.texts;
      few_tokens = few_lines _ _ made.lines c.requires.few;
    }
