use Rattle.law_well_formed.proofs.Missing.{nothing_missing}
use Rattle.law_well_formed.proofs.nothing_is_missing.Goals as goal

pub returns : goal.returns
returns c = nothing_missing
