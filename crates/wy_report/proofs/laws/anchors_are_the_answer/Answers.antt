use Rattle.wy_report.proofs.Values.{names_are}
use Rattle.wy_report.proofs.laws.anchors_are_the_answer.Goals as goal

pub returns : goal.returns
returns c = names_are
