use Rattle.wy_check.proofs.Alone.{one_certificate}
use Rattle.wy_check.proofs.laws.one_certificate_is_made.Goals as goal

pub returns : goal.returns
returns c = one_certificate
