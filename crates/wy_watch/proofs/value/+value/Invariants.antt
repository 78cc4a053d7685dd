use Rattle.std.proofs.Common.{◌+◌, ◌*◌, max}
use Rattle.wy_syntax.specs.declared.expression.Expression.{size-Expression}
use Rattle.wy_watch.proofs.value.+value.Given as goal

-- three for each level of an expression: one for its value, one for its truth, and one for what takes a level apart
abbrev pub decreases-value : goal.decreases-value
decreases-value g l = 3 * size-Expression l.e.now

abbrev pub decreases-truth_of : goal.decreases-truth_of
decreases-truth_of g l = 3 * size-Expression l.e.now + 1

abbrev pub decreases-field : goal.decreases-field
decreases-field g l = 3 * size-Expression l.object.now + 2

abbrev pub decreases-indexed : goal.decreases-indexed
decreases-indexed g l = 3 * max (size-Expression l.array.now) (size-Expression l.index.now) + 2

abbrev pub decreases-unary : goal.decreases-unary
decreases-unary g l = 3 * size-Expression l.operand.now + 2

abbrev pub decreases-binary : goal.decreases-binary
decreases-binary g l = 3 * max (size-Expression l.left.now) (size-Expression l.right.now) + 2

abbrev pub decreases-both : goal.decreases-both
decreases-both g l = 3 * max (size-Expression l.left.now) (size-Expression l.right.now) + 2

abbrev pub decreases-either : goal.decreases-either
decreases-either g l = 3 * max (size-Expression l.left.now) (size-Expression l.right.now) + 2

abbrev pub decreases-choice : goal.decreases-choice
decreases-choice g l = 3 * max (size-Expression l.test.now) (max (size-Expression l.main.now) (size-Expression l.other.now)) + 2

abbrev pub decreases-chosen : goal.decreases-chosen
decreases-chosen g l = 3 * max (size-Expression l.main.now) (size-Expression l.other.now) + 1
