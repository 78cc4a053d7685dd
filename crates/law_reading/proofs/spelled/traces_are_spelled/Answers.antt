use Rattle.law_reading.proofs.SpelledTraces.{whole_trace}
use Rattle.law_reading.proofs.spelled.traces_are_spelled.Goals as goal

pub returns : goal.returns
returns c = whole_trace
