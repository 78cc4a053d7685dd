use Rattle.std.proofs.Common.{◌≡◌, length}
use Rattle.wy_table.proofs.order.lists_above.Given as goal

abbrev pub invariant-loop-class : goal.invariant-loop-class
invariant-loop-class l = length l.above.items ≡ l.class-index
