use Rattle.std.proofs.Common.{◌≡◌, ◌≤◌, ◌+◌, ◌++◌, map, length}
use Rattle.wy_tree.specs.Ast.{views}
use Rattle.wy_syntax.specs.Names.{widths}
use Rattle.wy_syntax.specs.Statements.{declarator_list}
use Rattle.wy_syntax.specs.View.{declarator_of}
use Rattle.wy_syntax.proofs.lower.variable.declarator_list.Given as goal

abbrev pub invariant-loop-left : goal.invariant-loop-left
invariant-loop-left l = record {
  row : map declarator_of l.found.items ++ declarator_list l.at (views l.left) ≡ declarator_list l.initial.at (views l.initial.left);
  within : l.at + widths (views l.left) ≤ l.initial.at + widths (views l.initial.left);
}

abbrev pub decreases-loop-left : goal.decreases-loop-left
decreases-loop-left l = length l.left
