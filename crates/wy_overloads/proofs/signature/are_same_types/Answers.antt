use Rattle.wy_overloads.proofs.Lists.{types_equal}
use Rattle.wy_overloads.proofs.Related.{along}
use Rattle.wy_overloads.proofs.signature.are_same_types.Goals as goal

pub returns : goal.returns
returns c = along _ _ c.eq.ensures (types_equal c.args.a.now c.args.b.now)
