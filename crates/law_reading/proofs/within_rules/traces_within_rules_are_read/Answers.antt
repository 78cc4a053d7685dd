use Rattle.law_reading.proofs.ReadableTraces.{traces_read}
use Rattle.law_reading.proofs.within_rules.traces_within_rules_are_read.Goals as goal

pub returns : goal.returns
returns c = traces_read
