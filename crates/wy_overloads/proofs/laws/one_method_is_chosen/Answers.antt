use Rattle.wy_overloads.proofs.Unique.{one_chosen}
use Rattle.wy_overloads.proofs.laws.one_method_is_chosen.Goals as goal

pub returns : goal.returns
returns c = one_chosen
