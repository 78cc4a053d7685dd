use Rattle.law_reading.proofs.ReferringTraces.{so_far}
use Rattle.law_reading.proofs.referring.read_events_refer_below.Goals as goal

pub returns : goal.returns
returns c = so_far
