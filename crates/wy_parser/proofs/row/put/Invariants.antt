use Rattle.std.proofs.Common.{◌≡◌, length, ◌++◌}
use Rattle.std.specs.Prelude.{reverse}
use Rattle.wy_parser.proofs.row.put.Given as goal

abbrev pub invariant-loop-last : goal.invariant-loop-last
invariant-loop-last l = l.left ++ reverse l.pending.items ≡ l.initial.left ++ reverse l.initial.pending.items

abbrev pub decreases-loop-last : goal.decreases-loop-last
decreases-loop-last l = length l.left
