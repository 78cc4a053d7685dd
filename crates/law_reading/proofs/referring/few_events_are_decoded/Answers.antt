use Rattle.law_reading.proofs.ReferringTraces.{are_few}
use Rattle.law_reading.proofs.referring.few_events_are_decoded.Goals as goal

pub returns : goal.returns
returns c = are_few
