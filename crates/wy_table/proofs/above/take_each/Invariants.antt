use Rattle.std.proofs.Common.{take}
use Rattle.wy_kernel.specs.Rows.{TakesEach}
use Rattle.wy_table.specs.Above.{AreMarked}
use Rattle.wy_table.proofs.above.take_each.Given as goal

abbrev pub invariant-loop-other : goal.invariant-loop-other
invariant-loop-other l = record {
  takes : TakesEach l.initial.found.items (take l.other-index l.others) l.found.items;
  marked : AreMarked l.numbers l.found.items l.marks.items;
}
