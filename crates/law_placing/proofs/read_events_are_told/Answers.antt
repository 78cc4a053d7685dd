use Rattle.law_placing.proofs.Telling.{are_told}
use Rattle.law_placing.proofs.read_events_are_told.Goals as goal

pub returns : goal.returns
returns c = are_told c.recorded_traces_are_read_back.ensures.told
