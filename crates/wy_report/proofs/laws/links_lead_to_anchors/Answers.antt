use Rattle.wy_report.proofs.Values.{links_are}
use Rattle.wy_report.proofs.laws.links_lead_to_anchors.Goals as goal

pub returns : goal.returns
returns c = links_are
