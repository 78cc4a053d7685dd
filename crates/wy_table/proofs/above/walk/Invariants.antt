use Rattle.std.proofs.Common.{◌-◌, length}
use Rattle.std.specs.Prelude.{map}
use Rattle.wy_kernel.specs.View.{class_of}
use Rattle.wy_kernel.proofs.Closing.{Found}
use Rattle.wy_table.specs.Above.{AreMarked}
use Rattle.wy_table.proofs.above.walk.Given as goal

abbrev pub invariant-loop-done : goal.invariant-loop-done
invariant-loop-done l = record {
  found : Found (map class_of l.classes) l.c l.found.items l.done;
  marked : AreMarked l.numbers l.found.items l.marks.items;
}

abbrev pub decreases-loop-done : goal.decreases-loop-done
decreases-loop-done l = length l.classes - l.done
