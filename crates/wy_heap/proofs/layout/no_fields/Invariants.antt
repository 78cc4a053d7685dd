use Rattle.std.proofs.Common.{◌≡◌, [], replicate}
use Rattle.wy_heap.specs.Layout.{lists_of}
use Rattle.wy_heap.proofs.layout.no_fields.Given as goal

abbrev pub invariant-loop : goal.invariant-loop
invariant-loop l = lists_of l.own.items ≡ replicate l.counter []
