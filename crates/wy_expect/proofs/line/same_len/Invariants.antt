-- so far both are the same
use Rattle.std.proofs.Common.{◌≡◌, ◌+◌, ◌-◌, ◌≤◌, drop, length}
use Rattle.wy_expect.specs.Beside.{same_len}
use Rattle.wy_expect.proofs.line.same_len.Given as goal

abbrev pub invariant-loop-n : goal.invariant-loop-n
invariant-loop-n l =
    (l.n ≤ length l.expected) × (l.n ≤ length l.found) × (same_len l.expected l.found ≡ l.n + same_len (drop l.n l.expected) (drop l.n l.found))

abbrev pub decreases-loop-n : goal.decreases-loop-n
decreases-loop-n l = length l.expected - l.n
