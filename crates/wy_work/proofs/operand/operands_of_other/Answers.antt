use Rattle.std.proofs.Common.{rules}
use Rattle.wy_kernel.proofs.ExpressionViews.{view_cond, view_call, view_cast, view_cat, view_instance, view_lib, view_new, view_new_array}
use Rattle.wy_work.proofs.Views.{listed_row}
use Rattle.wy_work.proofs.operand.operands_of_other.Goals as goal

pub returns-in-New : goal.returns-in-New
returns-in-New c = simp (c.in-New.is, view_new)

pub returns-in-Cast : goal.returns-in-Cast
returns-in-Cast c = simp (c.in-Cast.is, view_cast) (search rules)

pub returns-in-InstanceOf : goal.returns-in-InstanceOf
returns-in-InstanceOf c = simp (c.in-InstanceOf.is, view_instance) (search rules)

pub returns-in-NewArray : goal.returns-in-NewArray
returns-in-NewArray c = simp (c.in-NewArray.is, view_new_array, listed_row) (search rules)

pub returns-in-Cat : goal.returns-in-Cat
returns-in-Cat c = simp (c.in-Cat.is, view_cat) (search rules)

pub returns-in-Lib : goal.returns-in-Lib
returns-in-Lib c = simp (c.in-Lib.is, view_lib, listed_row) (search rules)

pub returns-in-Cond : goal.returns-in-Cond
returns-in-Cond c = simp (c.in-Cond.is, view_cond)

pub returns-in-Call : goal.returns-in-Call
returns-in-Call c = simp (c.in-Call.is, view_call, listed_row) (search rules)
