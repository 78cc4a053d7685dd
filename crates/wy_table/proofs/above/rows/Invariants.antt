use Rattle.std.proofs.Common.{ℕ, ◌<◌, [], get_or}
use Rattle.std.specs.Prelude.{map}
use Rattle.wy_kernel.specs.View.{class_of}
use Rattle.wy_table.specs.Above.{AreBegun, IsRow}
use Rattle.wy_table.proofs.above.rows.Given as goal

abbrev pub invariant-loop-c : goal.invariant-loop-c
invariant-loop-c l = AreBegun (map class_of l.classes) l.numbers (map (λ row. row.items) l.rows.items)

abbrev pub invariant-loop-c-2 : goal.invariant-loop-c-2
invariant-loop-c-2 l = record {
  begun : AreBegun (map class_of l.classes) l.numbers (map (λ row. row.items) l.rows.items);
  made : (k : ℕ) → k < l.c → IsRow (map class_of l.classes) l.numbers k (get_or (map (λ row. row.items) l.rows.items) k []);
}
