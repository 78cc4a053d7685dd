use Rattle.std.proofs.Common.{◌≡◌, ◌≤◌, ◌+◌, length}
use Rattle.wy_tree.specs.Ast.{views}
use Rattle.wy_syntax.specs.Names.{widths}
use Rattle.wy_syntax.specs.Statements.{initial_in}
use Rattle.wy_syntax.proofs.lower.variable.initial_in.Given as goal

abbrev pub invariant-loop-left : goal.invariant-loop-left
invariant-loop-left l = record {
  rest : initial_in l.at (views l.left) ≡ initial_in l.initial.at (views l.initial.left);
  within : l.at + widths (views l.left) ≤ l.initial.at + widths (views l.initial.left);
}

abbrev pub decreases-loop-left : goal.decreases-loop-left
decreases-loop-left l = length l.left
