use Rattle.std.proofs.Common.{◌≡◌, ℕ, ◌≤◌, ◌+◌, ◌-◌, ◌||◌, length, take}
use Rattle.wy_table.specs.Spans.{is_covered}
use Rattle.wy_table.proofs.spans.union.Given as goal

abbrev pub invariant-loop-i : goal.invariant-loop-i
invariant-loop-i l = record {
  left : l.i ≤ length l.a;
  right : l.j ≤ length l.b;
  covers : (n : ℕ) → is_covered n l.row.items ≡ (is_covered n (take l.i l.a) || is_covered n (take l.j l.b));
}

abbrev pub decreases-loop-i : goal.decreases-loop-i
decreases-loop-i l = (length l.a - l.i) + (length l.b - l.j)
