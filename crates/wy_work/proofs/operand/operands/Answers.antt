use Rattle.std.proofs.Common.{rules}
use Rattle.wy_kernel.proofs.ExpressionViews.{view_upd, view_bin, view_const, view_conv, view_read, view_set, view_str, view_un}
use Rattle.wy_work.proofs.operand.operands.Goals as goal

pub returns-in-Const : goal.returns-in-Const
returns-in-Const c = simp (c.in-Const.is, view_const)

pub returns-in-Str : goal.returns-in-Str
returns-in-Str c = simp (c.in-Str.is, view_str)

pub returns-in-Read : goal.returns-in-Read
returns-in-Read c = simp (c.in-Read.is, view_read) (search rules)

pub returns-in-Set : goal.returns-in-Set
returns-in-Set c = simp (c.in-Set.is, view_set) (search rules)

pub returns-in-Un : goal.returns-in-Un
returns-in-Un c = simp (c.in-Un.is, view_un) (search rules)

pub returns-in-Bin : goal.returns-in-Bin
returns-in-Bin c = simp (c.in-Bin.is, view_bin) (search rules)

pub returns-in-Conv : goal.returns-in-Conv
returns-in-Conv c = simp (c.in-Conv.is, view_conv) (search rules)

pub returns-in-Upd : goal.returns-in-Upd
returns-in-Upd c = simp (c.in-Upd.is, view_upd) (search rules)
