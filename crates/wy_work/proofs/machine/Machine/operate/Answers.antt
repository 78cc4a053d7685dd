use Rattle.std.proofs.Common.{◌∙◌, ap}
use Rattle.wy_kernel.specs.View.{expression}
use Rattle.wy_work.specs.Machines.{standing}
use Rattle.wy_work.proofs.Seen.{new_given, operating_by, test_given, update_given}
use Rattle.wy_kernel.proofs.ExpressionViews.{view_cond, view_const, view_new, view_read, view_set, view_str, view_upd}
use Rattle.wy_work.proofs.machine.Machine.operate.Goals as goal

pub returns-in-Const : goal.returns-in-Const
returns-in-Const g c = record { goes = operating_by _ (standing g.R.Register.keeps g.R.Register.kept c.args.self.now) (standing g.R.Register.keeps g.R.Register.kept c.constant.new.self) c.constant.result (expression c.args.expr.now) _ (ap expression c.in-Const.is ∙ view_const _) (c.constant.ensures.goes _) }

pub returns-in-Str : goal.returns-in-Str
returns-in-Str g c = record { goes = operating_by _ (standing g.R.Register.keeps g.R.Register.kept c.args.self.now) (standing g.R.Register.keeps g.R.Register.kept c.text.new.self) c.text.result (expression c.args.expr.now) _ (ap expression c.in-Str.is ∙ view_str _) (c.text.ensures.goes _) }

pub returns-in-Read : goal.returns-in-Read
returns-in-Read g c = record { goes = c.read.ensures.goes (ap expression c.in-Read.is ∙ view_read _) }

pub returns-in-Set : goal.returns-in-Set
returns-in-Set g c = record { goes = c.set.ensures.goes _ (ap expression c.in-Set.is ∙ view_set _ _ _) }

pub returns-in-Upd : goal.returns-in-Upd
returns-in-Upd g c = record { goes = c.update.ensures.goes (update_given (expression c.args.expr.now) _ _ _ _ _ _ _ _ (ap expression c.in-Upd.is ∙ view_upd _ _ _ _ _ _ _ _)) }

pub returns-in-Cond : goal.returns-in-Cond
returns-in-Cond g c = record { goes = c.conditional.ensures.goes _ (test_given (expression c.args.expr.now) _ _ _ _ _ _ (ap expression c.in-Cond.is ∙ view_cond _ _ _ _ _) (ap expression c.deref.ensures)) }

pub returns-in-New : goal.returns-in-New
returns-in-New g c = record { goes = c.create.ensures.goes (new_given (expression c.args.expr.now) _ _ _ _ (ap expression c.in-New.is ∙ view_new _ _ _ _)) }
