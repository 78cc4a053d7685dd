use Rattle.law_reading.proofs.Heads.{head_is_short}
use Rattle.law_reading.proofs.spelled.heads_are_short.Goals as goal

pub returns : goal.returns
returns c = head_is_short
