use Rattle.std.proofs.Common.{◌≡◌, length}
use Rattle.wy_kernel.specs.Program.{same_types}
use Rattle.wy_calls.proofs.signature.same_types.Given as goal

abbrev pub invariant-loop-a : goal.invariant-loop-a
invariant-loop-a l = same_types l.left l.right ≡ same_types l.fn.left l.fn.right

abbrev pub decreases-loop-a : goal.decreases-loop-a
decreases-loop-a l = length l.left
