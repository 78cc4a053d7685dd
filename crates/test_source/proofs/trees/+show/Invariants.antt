use Rattle.std.proofs.Common.{◌+◌, ◌*◌, ◌≤◌, length}
use Rattle.wy_tree.specs.Ast.{view, views, deep, deepest}
use Rattle.test_source.proofs.trees.+show.Given as goal

abbrev pub decreases-show : goal.decreases-show
decreases-show l = 2 * deep (view l.tree.now)

abbrev pub decreases-show_all : goal.decreases-show_all
decreases-show_all l = 2 * deepest (views l.parts.now) + 1

abbrev pub invariant-show_all-loop-left : goal.invariant-show_all-loop-left
invariant-show_all-loop-left l = deepest (views l.left) ≤ deepest (views l.initial.left)

abbrev pub decreases-show_all-loop-left : goal.decreases-show_all-loop-left
decreases-show_all-loop-left l = length l.left
