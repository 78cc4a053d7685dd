use Rattle.std.proofs.Common.{◌≡◌, ◌++◌, map}
use Rattle.wy_operands.specs.Layout.{values_of}
use Rattle.wy_operands.specs.Values.{last_many}
use Rattle.wy_operation.specs.Operands.{carried}
use Rattle.wy_work.proofs.parts.parts.Given as goal

abbrev pub invariant-loop-left : goal.invariant-loop-left
invariant-loop-left l = map carried l.row.items ++ last_many l.left (values_of l.stack) ≡ last_many l.count (values_of l.stack)

abbrev pub decreases-loop-left : goal.decreases-loop-left
decreases-loop-left l = l.left
