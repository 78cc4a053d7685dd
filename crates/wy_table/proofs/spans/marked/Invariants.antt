use Rattle.std.proofs.Common.{◌≡◌, ℕ, take, false, get_or}
use Rattle.wy_table.specs.Spans.{is_covered}
use Rattle.wy_table.proofs.spans.marked.Given as goal

abbrev pub invariant-loop-n : goal.invariant-loop-n
invariant-loop-n l = (k : ℕ) → is_covered k l.row.items ≡ get_or (take l.n l.marks) k false
