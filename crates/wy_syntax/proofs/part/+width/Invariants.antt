use Rattle.std.proofs.Common.{◌≡◌, ◌≤◌, ◌+◌, ◌*◌, length}
use Rattle.wy_tree.specs.Ast.{view, views, deep, deepest}
use Rattle.wy_syntax.specs.Names.{widths}
use Rattle.wy_syntax.proofs.part.+width.Given as goal

abbrev pub decreases-width : goal.decreases-width
decreases-width l = 2 * deep (view l.tree.now)

abbrev pub decreases-widths : goal.decreases-widths
decreases-widths l = 2 * deepest (views l.parts.now) + 1

abbrev pub invariant-widths-loop-left : goal.invariant-widths-loop-left
invariant-widths-loop-left l = (l.total + widths (views l.left) ≡ widths (views l.initial.left)) × (deepest (views l.left) ≤ deepest (views l.initial.left))

abbrev pub decreases-widths-loop-left : goal.decreases-widths-loop-left
decreases-widths-loop-left l = length l.left
