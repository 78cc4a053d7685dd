use Rattle.law_reading.proofs.Answered.{one_reading}
use Rattle.law_reading.proofs.one_reading.bytes_are_read_in_one_way.Goals as goal

pub returns : goal.returns
returns c = one_reading
