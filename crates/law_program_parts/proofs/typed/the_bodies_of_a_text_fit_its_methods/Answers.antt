use Rattle.law_program_parts.proofs.Bodies.{bodies_are_typed}
use Rattle.law_program_parts.proofs.typed.the_bodies_of_a_text_fit_its_methods.Goals as goal

pub returns : goal.returns
returns c = bodies_are_typed
