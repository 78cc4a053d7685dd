use Rattle.wy_overloads.proofs.Unique.{antisymmetric}
use Rattle.wy_overloads.proofs.laws.subtyping_is_antisymmetric.Goals as goal

pub returns : goal.returns
returns c = antisymmetric
