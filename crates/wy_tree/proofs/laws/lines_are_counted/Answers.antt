use Rattle.wy_tree.proofs.LineEnds.{lines_are_counted}
use Rattle.wy_tree.proofs.laws.lines_are_counted.Goals as goal

pub returns : goal.returns
returns c = lines_are_counted
