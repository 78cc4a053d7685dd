use Rattle.law_reading.proofs.BackEnds.{events_back, events_told}
use Rattle.law_reading.proofs.spelled.recorded_traces_are_read_back.Goals as goal

pub returns-clause-told : goal.returns-clause-told
returns-clause-told c = events_told

pub returns-clause-whole : goal.returns-clause-whole
returns-clause-whole c = events_back
