use Rattle.std.proofs.Common.{◌≡◌, map, length}
use Rattle.wy_elab_expr.specs.Members.{has_name}
use Rattle.wy_elab_expr.specs.Views.{library_method}
use Rattle.wy_elab_expr.proofs.library_call.has_name.Given as goal

abbrev pub invariant-loop-left : goal.invariant-loop-left
invariant-loop-left l = has_name (map library_method l.left) l.name ≡ has_name (map library_method l.methods) l.name

abbrev pub decreases-loop-left : goal.decreases-loop-left
decreases-loop-left l = length l.left
