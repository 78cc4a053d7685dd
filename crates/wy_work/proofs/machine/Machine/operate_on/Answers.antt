use Rattle.std.proofs.Common.{◌∙◌, ap}
use Rattle.wy_kernel.specs.View.{expression}
use Rattle.wy_work.specs.Machines.{standing}
use Rattle.wy_work.proofs.Seen.{operating_by}
use Rattle.wy_kernel.proofs.ExpressionViews.{view_bin, view_cast, view_conv, view_instance, view_un}
use Rattle.wy_work.proofs.machine.Machine.operate_on.Goals as goal

pub returns-in-Un : goal.returns-in-Un
returns-in-Un g c = record { goes = operating_by _ (standing g.R.Register.keeps g.R.Register.kept c.args.self.now) (standing g.R.Register.keeps g.R.Register.kept c.unary.new.self) c.unary.result (expression c.args.expr.now) _ (ap expression c.in-Un.is ∙ view_un _ _) (c.unary.ensures.goes _) }

pub returns-in-Bin : goal.returns-in-Bin
returns-in-Bin g c = record { goes = operating_by _ (standing g.R.Register.keeps g.R.Register.kept c.args.self.now) (standing g.R.Register.keeps g.R.Register.kept c.binary.new.self) c.binary.result (expression c.args.expr.now) _ (ap expression c.in-Bin.is ∙ view_bin _ _ _ _) (c.binary.ensures.goes _) }

pub returns-in-Conv : goal.returns-in-Conv
returns-in-Conv g c = record { goes = operating_by _ (standing g.R.Register.keeps g.R.Register.kept c.args.self.now) (standing g.R.Register.keeps g.R.Register.kept c.convert.new.self) c.convert.result (expression c.args.expr.now) _ (ap expression c.in-Conv.is ∙ view_conv _ _) (c.convert.ensures.goes _) }

pub returns-in-Cast : goal.returns-in-Cast
returns-in-Cast g c = record { goes = operating_by _ (standing g.R.Register.keeps g.R.Register.kept c.args.self.now) (standing g.R.Register.keeps g.R.Register.kept c.cast.new.self) c.cast.result (expression c.args.expr.now) _ (ap expression c.in-Cast.is ∙ view_cast _ _ _) (c.cast.ensures.goes) }

pub returns-in-InstanceOf : goal.returns-in-InstanceOf
returns-in-InstanceOf g c = record { goes = operating_by _ (standing g.R.Register.keeps g.R.Register.kept c.args.self.now) (standing g.R.Register.keeps g.R.Register.kept c.instance_of.new.self) c.instance_of.result (expression c.args.expr.now) _ (ap expression c.in-InstanceOf.is ∙ view_instance _ _) (c.instance_of.ensures.goes) }

pub returns-in-NewArray : goal.returns-in-NewArray
returns-in-NewArray g c = record { goes = c.new_array.ensures.goes _ }
