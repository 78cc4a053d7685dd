use Rattle.std.proofs.Common.{◌≡◌, ◌≤◌, ◌+◌, length}
use Rattle.wy_tree.specs.Ast.{views}
use Rattle.wy_syntax.specs.Names.{widths}
use Rattle.wy_syntax.specs.Expressions.{stepped}
use Rattle.wy_syntax.specs.View.{expression_of}
use Rattle.wy_syntax.proofs.lower.made.stepped.Given as goal

abbrev pub invariant-loop-left : goal.invariant-loop-left
invariant-loop-left l =
    (stepped (expression_of l.value) l.token (views l.left) ≡ stepped (expression_of l.initial.value) l.initial.token (views l.initial.left))
    × (l.token + widths (views l.left) ≤ l.initial.token + widths (views l.initial.left))

abbrev pub decreases-loop-left : goal.decreases-loop-left
decreases-loop-left l = length l.left
