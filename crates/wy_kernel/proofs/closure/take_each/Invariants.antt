use Rattle.std.proofs.Common.{take}
use Rattle.wy_kernel.specs.Rows.{TakesEach}
use Rattle.wy_kernel.proofs.closure.take_each.Given as goal

abbrev pub invariant-loop-other : goal.invariant-loop-other
invariant-loop-other l = TakesEach l.initial.row.items (take l.other-index l.others) l.row.items
