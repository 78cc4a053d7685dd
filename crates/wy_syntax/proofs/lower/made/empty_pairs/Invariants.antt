use Rattle.std.proofs.Common.{◌≡◌, ◌≤◌, ◌+◌, length}
use Rattle.wy_tree.specs.Ast.{views}
use Rattle.wy_syntax.specs.Names.{widths}
use Rattle.wy_syntax.specs.Expressions.{empty_pairs}
use Rattle.wy_syntax.proofs.lower.made.empty_pairs.Given as goal

abbrev pub invariant-loop-left : goal.invariant-loop-left
invariant-loop-left l =
    (l.found + empty_pairs (views l.left) ≡ empty_pairs (views l.initial.left))
    × (l.found + widths (views l.left) ≤ widths (views l.initial.left))

abbrev pub decreases-loop-left : goal.decreases-loop-left
decreases-loop-left l = length l.left
