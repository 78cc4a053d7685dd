use Rattle.law_reading.proofs.ReferringTraces.{refer_below}
use Rattle.law_reading.proofs.referring.decoded_events_refer_below.Goals as goal

pub returns : goal.returns
returns c = refer_below
