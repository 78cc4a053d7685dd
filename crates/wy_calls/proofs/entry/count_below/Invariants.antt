use Rattle.std.proofs.Common.{◌≡◌, ◌≤◌, length, take}
use Rattle.wy_calls.specs.Layout.{Ascends}
use Rattle.wy_calls.proofs.entry.count_below.Given as goal

abbrev pub invariant-loop-newest : goal.invariant-loop-newest
invariant-loop-newest l = record {
  inside : length l.entries ≤ length l.fn.entries;
  front : l.entries ≡ take (length l.entries) l.fn.entries;
  ascends : Ascends l.entries;
}

abbrev pub decreases-loop-newest : goal.decreases-loop-newest
decreases-loop-newest l = length l.entries
