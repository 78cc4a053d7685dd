use Rattle.std.proofs.Common.{ap, ◌∙◌}
use Rattle.wy_kernel.specs.View.{expression}
use Rattle.wy_static.specs.Standings.{form_standings}
use Rattle.wy_static.proofs.Behind.{at}
use Rattle.wy_static.proofs.Stands.{no_arm}
use Rattle.wy_kernel.proofs.ExpressionViews.{view_cond}
use Rattle.wy_static.proofs.standing.put_arms.Goals as goal

pub returns-in-Cond : goal.returns-in-Cond
returns-in-Cond c = at (form_standings c.args.method c.args.around) c.put_both_arms.result c.args.out.now.items c.put_both_arms.new.out.items (expression c.args.form.now) _ (ap expression c.in-Cond.is ∙ view_cond _ _ _ _ _) c.put_both_arms.ensures

pub returns-in-Const : goal.returns-in-Const
returns-in-Const c = no_arm c.args.method c.args.around c.args.out.now.items c.args.form.now c.in-Const.is

pub returns-in-Const-2 : goal.returns-in-Const-2
returns-in-Const-2 c = no_arm c.args.method c.args.around c.args.out.now.items c.args.form.now c.in-Const.is

pub returns-in-Const-3 : goal.returns-in-Const-3
returns-in-Const-3 c = no_arm c.args.method c.args.around c.args.out.now.items c.args.form.now c.in-Const.is

pub returns-in-Const-4 : goal.returns-in-Const-4
returns-in-Const-4 c = no_arm c.args.method c.args.around c.args.out.now.items c.args.form.now c.in-Const.is

pub returns-in-Const-5 : goal.returns-in-Const-5
returns-in-Const-5 c = no_arm c.args.method c.args.around c.args.out.now.items c.args.form.now c.in-Const.is

pub returns-in-Const-6 : goal.returns-in-Const-6
returns-in-Const-6 c = no_arm c.args.method c.args.around c.args.out.now.items c.args.form.now c.in-Const.is

pub returns-in-Const-7 : goal.returns-in-Const-7
returns-in-Const-7 c = no_arm c.args.method c.args.around c.args.out.now.items c.args.form.now c.in-Const.is

pub returns-in-Const-8 : goal.returns-in-Const-8
returns-in-Const-8 c = no_arm c.args.method c.args.around c.args.out.now.items c.args.form.now c.in-Const.is

pub returns-in-Const-9 : goal.returns-in-Const-9
returns-in-Const-9 c = no_arm c.args.method c.args.around c.args.out.now.items c.args.form.now c.in-Const.is

pub returns-in-Const-10 : goal.returns-in-Const-10
returns-in-Const-10 c = no_arm c.args.method c.args.around c.args.out.now.items c.args.form.now c.in-Const.is

pub returns-in-Const-11 : goal.returns-in-Const-11
returns-in-Const-11 c = no_arm c.args.method c.args.around c.args.out.now.items c.args.form.now c.in-Const.is

pub returns-in-Const-12 : goal.returns-in-Const-12
returns-in-Const-12 c = no_arm c.args.method c.args.around c.args.out.now.items c.args.form.now c.in-Const.is

pub returns-in-Const-13 : goal.returns-in-Const-13
returns-in-Const-13 c = no_arm c.args.method c.args.around c.args.out.now.items c.args.form.now c.in-Const.is

pub returns-in-Const-14 : goal.returns-in-Const-14
returns-in-Const-14 c = no_arm c.args.method c.args.around c.args.out.now.items c.args.form.now c.in-Const.is

pub returns-in-Const-15 : goal.returns-in-Const-15
returns-in-Const-15 c = no_arm c.args.method c.args.around c.args.out.now.items c.args.form.now c.in-Const.is
