use Rattle.std.proofs.Common.{◌≡◌, ◌+◌, ◌*◌, ◌≤◌, length, max}
use Rattle.wy_tree.specs.Ast.{view, views, deep, deepest}
use Rattle.wy_tree.proofs.measure.+depth.Given as goal

abbrev pub decreases-depth : goal.decreases-depth
decreases-depth l = 2 * deep (view l.tree.now)

abbrev pub decreases-deepest_part : goal.decreases-deepest_part
decreases-deepest_part l = 2 * deepest (views l.parts.now) + 1

abbrev pub invariant-deepest_part-loop-left : goal.invariant-deepest_part-loop-left
invariant-deepest_part-loop-left l = (max l.most (deepest (views l.left)) ≡ deepest (views l.initial.left)) × (deepest (views l.left) ≤ deepest (views l.initial.left))

abbrev pub decreases-deepest_part-loop-left : goal.decreases-deepest_part-loop-left
decreases-deepest_part-loop-left l = length l.left
