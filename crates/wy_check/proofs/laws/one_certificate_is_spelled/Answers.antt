use Rattle.wy_check.proofs.Spellings.{one_spelling}
use Rattle.wy_check.proofs.laws.one_certificate_is_spelled.Goals as goal

pub returns : goal.returns
returns c = one_spelling
