use Rattle.law_program_parts.proofs.Members.{classes_are_typed}
use Rattle.law_program_parts.proofs.typed.what_a_class_becomes_fits_its_types.Goals as goal

pub returns : goal.returns
returns c = classes_are_typed
