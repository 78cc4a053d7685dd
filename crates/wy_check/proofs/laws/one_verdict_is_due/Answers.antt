use Rattle.wy_check.proofs.Alone.{one_verdict}
use Rattle.wy_check.proofs.laws.one_verdict_is_due.Goals as goal

pub returns : goal.returns
returns c = one_verdict
