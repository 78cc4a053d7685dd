use Rattle.law_well_formed.proofs.Named.{trees_written}
use Rattle.law_well_formed.proofs.trees_are_written.Goals as goal

pub returns : goal.returns
returns c = trees_written
