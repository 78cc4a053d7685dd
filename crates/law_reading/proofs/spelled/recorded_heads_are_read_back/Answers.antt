use Rattle.law_reading.proofs.BackEnds.{heads_back}
use Rattle.law_reading.proofs.spelled.recorded_heads_are_read_back.Goals as goal

pub returns : goal.returns
returns c = heads_back
