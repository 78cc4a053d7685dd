use Rattle.wy_report.proofs.Alone.{one_report}
use Rattle.wy_report.proofs.laws.a_report_is_one.Goals as goal

pub returns : goal.returns
returns c = one_report
