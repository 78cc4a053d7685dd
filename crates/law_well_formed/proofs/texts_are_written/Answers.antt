use Rattle.law_well_formed.proofs.Sayings.{texts_written}
use Rattle.law_well_formed.proofs.texts_are_written.Goals as goal

pub returns : goal.returns
returns c = texts_written
