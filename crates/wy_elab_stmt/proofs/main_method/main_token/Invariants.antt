use Rattle.std.proofs.Common.{◌≡◌, length, map}
use Rattle.wy_syntax.specs.View.{declaration_of}
use Rattle.wy_elab_stmt.specs.MainMethod.{written_main_token}
use Rattle.wy_elab_stmt.proofs.main_method.main_token.Given as goal

abbrev pub invariant-loop-left : goal.invariant-loop-left
invariant-loop-left l = written_main_token (map declaration_of l.left) ≡ written_main_token (map declaration_of l.initial.left)

abbrev pub decreases-loop-left : goal.decreases-loop-left
decreases-loop-left l = length l.left
