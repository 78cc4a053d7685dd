use Rattle.law_reading.proofs.Tails.{whole_tail}
use Rattle.law_reading.proofs.spelled.tails_are_spelled.Goals as goal

pub returns : goal.returns
returns c = whole_tail
