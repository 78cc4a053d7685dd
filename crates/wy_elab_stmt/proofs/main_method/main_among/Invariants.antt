use Rattle.std.proofs.Common.{◌≡◌, length, map}
use Rattle.wy_syntax.specs.View.{member_of}
use Rattle.wy_elab_stmt.specs.MainMethod.{main_among}
use Rattle.wy_elab_stmt.proofs.main_method.main_among.Given as goal

abbrev pub invariant-loop-left : goal.invariant-loop-left
invariant-loop-left l = main_among (map member_of l.left) ≡ main_among (map member_of l.initial.left)

abbrev pub decreases-loop-left : goal.decreases-loop-left
decreases-loop-left l = length l.left
