use Rattle.std.proofs.Common.{rules}
use Rattle.wy_kernel.proofs.ExpressionViews.{view_elem, view_field, view_local, view_static}
use Rattle.wy_work.proofs.operand.of_place.Goals as goal

pub returns-in-Local : goal.returns-in-Local
returns-in-Local c = simp (c.in-Local.is, view_local)

pub returns-in-Static : goal.returns-in-Static
returns-in-Static c = simp (c.in-Static.is, view_static)

pub returns-in-Field : goal.returns-in-Field
returns-in-Field c = simp (c.in-Field.is, view_field) (search rules)

pub returns-in-Elem : goal.returns-in-Elem
returns-in-Elem c = simp (c.in-Elem.is, view_elem) (search rules)
