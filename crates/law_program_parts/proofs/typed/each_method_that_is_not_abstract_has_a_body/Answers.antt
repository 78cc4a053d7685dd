use Rattle.law_program_parts.proofs.Shapes.{bodies_stand}
use Rattle.law_program_parts.proofs.typed.each_method_that_is_not_abstract_has_a_body.Goals as goal

pub returns : goal.returns
returns c = bodies_stand
