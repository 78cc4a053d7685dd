use Rattle.wy_fold.proofs.Grouping.{group_where_one_stands}
use Rattle.wy_fold.proofs.laws.each_line_has_its_group.Goals as goal

pub returns : goal.returns
returns c = group_where_one_stands
