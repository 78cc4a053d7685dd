use Rattle.law_program_parts.proofs.Standing.{trees_stand}
use Rattle.law_program_parts.proofs.parts.members_stand.Goals as goal

pub returns : goal.returns
returns c = trees_stand c.methods_without_bodies_are_abstract.ensures
