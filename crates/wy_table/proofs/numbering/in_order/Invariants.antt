use Rattle.std.proofs.Common.{◌≡◌, ℕ, ◌<◌, length, get_or}
use Rattle.wy_table.proofs.numbering.in_order.Given as goal

abbrev pub invariant-loop-n : goal.invariant-loop-n
invariant-loop-n l = record {
  long : length l.numbers.items ≡ l.n;
  each : (k : ℕ) → k < l.n → get_or l.numbers.items k 0 ≡ k;
}
