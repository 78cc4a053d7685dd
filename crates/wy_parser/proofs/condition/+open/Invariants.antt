use Rattle.std.proofs.Common.{◌≡◌, ◌+◌, ◌≤◌, ◌*◌, length}
use Rattle.wy_tree.specs.Ast.{view, views, deep, deepest}
use Rattle.wy_tree.specs.Conditions.{ends_open}
use Rattle.wy_parser.proofs.condition.+open.Given as goal

abbrev pub decreases-is_open : goal.decreases-is_open
decreases-is_open l = 2 * deep (view l.tree.now)

abbrev pub decreases-ends_open : goal.decreases-ends_open
decreases-ends_open l = 2 * deepest (views l.parts.now) + 1

abbrev pub invariant-ends_open-loop-left : goal.invariant-ends_open-loop-left
invariant-ends_open-loop-left l = (ends_open (views l.left) ≡ ends_open (views l.initial.left)) × (deepest (views l.left) ≤ deepest (views l.initial.left))

abbrev pub decreases-ends_open-loop-left : goal.decreases-ends_open-loop-left
decreases-ends_open-loop-left l = length l.left
