use Rattle.law_reading.proofs.Heads.{head_spelled}
use Rattle.law_reading.proofs.spelled.heads_are_spelled.Goals as goal

pub returns : goal.returns
returns c = head_spelled
