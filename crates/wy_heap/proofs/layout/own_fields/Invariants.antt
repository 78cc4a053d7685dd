use Rattle.std.proofs.Common.{◌≡◌, length}
use Rattle.wy_heap.specs.Layout.{AreOwn, lists_of}
use Rattle.wy_heap.proofs.layout.own_fields.Given as goal

abbrev pub invariant-loop-number : goal.invariant-loop-number
invariant-loop-number l = record { many : length l.own.items ≡ l.classes; own : AreOwn l.fields l.number (lists_of l.own.items) }
