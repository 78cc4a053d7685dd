use Rattle.std.proofs.Common.{ℕ, ◌-◌, length}
use Rattle.std.specs.Prelude.{map}
use Rattle.wy_kernel.specs.View.{class_of}
use Rattle.wy_kernel.proofs.Closing.{Found}
use Rattle.wy_kernel.proofs.closure.supertypes_of.Given as goal

abbrev pub invariant-loop-done : goal.invariant-loop-done
invariant-loop-done l = Found (map class_of l.classes) l.c l.row.items l.done

abbrev pub decreases-loop-done : goal.decreases-loop-done
decreases-loop-done l = length l.classes - l.done
