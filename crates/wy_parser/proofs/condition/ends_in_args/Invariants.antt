use Rattle.std.proofs.Common.{◌≡◌, length}
use Rattle.wy_tree.specs.Ast.{views}
use Rattle.wy_tree.specs.Conditions.{ends_in_args}
use Rattle.wy_parser.proofs.condition.ends_in_args.Given as goal

abbrev pub invariant-loop-left : goal.invariant-loop-left
invariant-loop-left l = ends_in_args (views l.left) ≡ ends_in_args (views l.initial.left)

abbrev pub decreases-loop-left : goal.decreases-loop-left
decreases-loop-left l = length l.left
