-- what was halved so often is at most the number of postings
use Rattle.std.proofs.Common.{◌+◌, ◌*◌, ◌-◌, ◌^◌, ◌≤◌, length}
use Rattle.wy_index.specs.Finds.{IsGap}
use Rattle.wy_index.proofs.posting.Postings.closed.Given as goal

abbrev pub invariant-loop-gap : goal.invariant-loop-gap
invariant-loop-gap g l = record {
  gap : IsGap l.self l.target l.gap;
  forward : l.initial.steps ≤ l.steps;
  halved : 2 ^ (l.steps - l.initial.steps) * (l.gap.high - l.gap.low) ≤ length l.self;
  taken : 2 ^ (l.steps - l.initial.steps) ≤ 2 * length l.self + 1;
}

abbrev pub decreases-loop-gap : goal.decreases-loop-gap
decreases-loop-gap g l = l.gap.high - l.gap.low
