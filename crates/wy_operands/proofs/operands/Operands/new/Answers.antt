use Rattle.std.proofs.Common.{refl}
use Rattle.wy_operands.specs.Layout.{values_of}
use Rattle.wy_operands.proofs.operands.Operands.new.Goals as goal

pub returns : goal.returns
unfolding values_of
returns c = rw c.new.ensures.items refl
