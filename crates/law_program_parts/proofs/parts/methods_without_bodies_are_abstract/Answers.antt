use Rattle.law_program_parts.proofs.Keeping.{trees_keep}
use Rattle.law_program_parts.proofs.parts.methods_without_bodies_are_abstract.Goals as goal

pub returns : goal.returns
returns c = trees_keep
