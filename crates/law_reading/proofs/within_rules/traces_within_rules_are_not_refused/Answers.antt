use Rattle.law_reading.proofs.ReadableTraces.{traces_not_refused}
use Rattle.law_reading.proofs.within_rules.traces_within_rules_are_not_refused.Goals as goal

pub returns : goal.returns
returns c = traces_not_refused
