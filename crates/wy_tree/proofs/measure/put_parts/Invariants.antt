use Rattle.std.proofs.Common.{◌≡◌, length, reverse}
use Rattle.wy_tree.specs.Ast.{views, views_of, joined}
use Rattle.wy_tree.proofs.measure.put_parts.Given as goal

abbrev pub invariant-loop-last : goal.invariant-loop-last
invariant-loop-last l = joined (views l.left) (views_of (reverse l.pending.items)) ≡ joined (views l.initial.left) (views_of (reverse l.initial.pending.items))

abbrev pub decreases-loop-last : goal.decreases-loop-last
decreases-loop-last l = length l.left
