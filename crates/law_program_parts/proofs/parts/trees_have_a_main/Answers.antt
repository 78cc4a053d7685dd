use Rattle.law_program_parts.proofs.TreeMains.{trees_have_main}
use Rattle.law_program_parts.proofs.parts.trees_have_a_main.Goals as goal

pub returns : goal.returns
returns c = trees_have_main c.methods_of_programs_have_bodies.ensures
