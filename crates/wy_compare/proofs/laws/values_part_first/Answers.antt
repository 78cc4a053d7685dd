use Rattle.wy_compare.proofs.Partings.{values_first}
use Rattle.wy_compare.proofs.laws.values_part_first.Goals as goal

pub returns : goal.returns
returns c = values_first
