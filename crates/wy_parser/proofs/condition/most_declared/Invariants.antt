use Rattle.std.proofs.Common.{◌≡◌, length, max}
use Rattle.wy_tree.specs.Ast.{views}
use Rattle.wy_tree.specs.Conditions.{most_declared}
use Rattle.wy_parser.proofs.condition.most_declared.Given as goal

abbrev pub invariant-loop-left : goal.invariant-loop-left
invariant-loop-left l = max l.most (most_declared (views l.left)) ≡ most_declared (views l.initial.left)

abbrev pub decreases-loop-left : goal.decreases-loop-left
decreases-loop-left l = length l.left
