use Rattle.std.proofs.Common.{◌+◌, ◌*◌, max}
use Rattle.wy_syntax.specs.declared.expression.Expression.{size-Expression}
use Rattle.wy_constant.proofs.constant.+constant.Given as goal

-- two for each level of an expression, and one more for what takes a level apart
abbrev pub decreases-folded : goal.decreases-folded
decreases-folded l = 2 * goal.size-folded l

abbrev pub decreases-unary : goal.decreases-unary
decreases-unary l = 2 * goal.size-unary l + 1

abbrev pub decreases-binary : goal.decreases-binary
decreases-binary l = 2 * max (size-Expression l.left.now) (size-Expression l.right.now) + 1

abbrev pub decreases-both_hold : goal.decreases-both_hold
decreases-both_hold l = 2 * max (size-Expression l.left.now) (size-Expression l.right.now) + 1

abbrev pub decreases-either_holds : goal.decreases-either_holds
decreases-either_holds l = 2 * max (size-Expression l.left.now) (size-Expression l.right.now) + 1

abbrev pub decreases-cast : goal.decreases-cast
decreases-cast l = 2 * goal.size-cast l + 1

abbrev pub decreases-choice : goal.decreases-choice
decreases-choice l = 2 * max (size-Expression l.test.now) (max (size-Expression l.main.now) (size-Expression l.other.now)) + 1
