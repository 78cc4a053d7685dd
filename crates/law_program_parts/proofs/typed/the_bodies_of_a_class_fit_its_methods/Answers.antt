use Rattle.law_program_parts.proofs.Rows.{bodies_fit_rows}
use Rattle.law_program_parts.proofs.typed.the_bodies_of_a_class_fit_its_methods.Goals as goal

pub returns : goal.returns
returns c = bodies_fit_rows
