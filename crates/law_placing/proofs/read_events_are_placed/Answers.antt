use Rattle.wy_payload.specs.Ranges.{ranges_of}
use Rattle.law_placing.proofs.Placing.{are_placed}
use Rattle.law_placing.proofs.read_events_are_placed.Goals as goal

pub returns : goal.returns
unfolding ranges_of
returns c v p head fed t rest are leaves = are_placed (ranges_of v p) head.steps head fed t rest are leaves
