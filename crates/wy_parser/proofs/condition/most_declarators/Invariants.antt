use Rattle.std.proofs.Common.{◌≡◌, length, max}
use Rattle.wy_tree.specs.Ast.{views}
use Rattle.wy_tree.specs.Conditions.{most_declarators}
use Rattle.wy_parser.proofs.condition.most_declarators.Given as goal

abbrev pub invariant-loop-left : goal.invariant-loop-left
invariant-loop-left l = max l.most (most_declarators (views l.left)) ≡ most_declarators (views l.initial.left)

abbrev pub decreases-loop-left : goal.decreases-loop-left
decreases-loop-left l = length l.left
