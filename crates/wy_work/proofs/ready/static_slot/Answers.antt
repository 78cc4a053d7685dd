use Rattle.std.proofs.Common.{refl}
use Rattle.wy_kernel.proofs.ExpressionViews.{view_static}
use Rattle.wy_work.proofs.ready.static_slot.Goals as goal

pub returns-in-Static : goal.returns-in-Static
returns-in-Static c = rw (c.in-Static.is, view_static) refl
