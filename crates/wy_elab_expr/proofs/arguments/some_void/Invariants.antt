use Rattle.std.proofs.Common.{◌≡◌, map, length}
use Rattle.wy_elab_expr.specs.Members.{some_void}
use Rattle.wy_elab_expr.specs.Views.{meaning_of}
use Rattle.wy_elab_expr.proofs.arguments.some_void.Given as goal

abbrev pub invariant-loop-left : goal.invariant-loop-left
invariant-loop-left l = some_void (map meaning_of l.left) ≡ some_void (map meaning_of l.args)

abbrev pub decreases-loop-left : goal.decreases-loop-left
decreases-loop-left l = length l.left
