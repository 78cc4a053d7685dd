use Rattle.std.proofs.Common.{◌≡◌, ◌≤◌, ◌+◌, ◌++◌, map, length}
use Rattle.wy_tree.specs.Ast.{views}
use Rattle.wy_syntax.specs.Names.{widths}
use Rattle.wy_syntax.specs.Statements.{effects_behind}
use Rattle.wy_syntax.specs.View.{effect_of}
use Rattle.wy_syntax.proofs.lower.head.effects_behind.Given as goal

abbrev pub invariant-loop-left : goal.invariant-loop-left
invariant-loop-left l = record {
  row : map effect_of l.found.items ++ effects_behind l.at (views l.left) ≡ map effect_of l.initial.found.items ++ effects_behind l.initial.at (views l.initial.left);
  within : l.at + widths (views l.left) ≤ l.initial.at + widths (views l.initial.left);
}

abbrev pub decreases-loop-left : goal.decreases-loop-left
decreases-loop-left l = length l.left
