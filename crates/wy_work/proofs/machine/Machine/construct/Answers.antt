use Rattle.std.proofs.Common.{◌∙◌, add-one, ap}
use Rattle.wy_kernel.specs.View.{expression}
use Rattle.wy_operands.specs.Values.{under_many}
use Rattle.wy_work.specs.Machines.{standing}
use Rattle.wy_work.proofs.Created.{has_none, has_one, is_constructed, not_constructed}
use Rattle.wy_work.proofs.Seen.{row_length}
use Rattle.wy_kernel.proofs.ExpressionViews.{view_new}
use Rattle.wy_work.proofs.machine.Machine.construct.Goals as goal

pub returns-then-constructor : goal.returns-then-constructor
returns-then-constructor g c = record {
  goes = not_constructed _ (standing g.R.Register.keeps g.R.Register.kept c.args.self.now) (expression c.args.expr.now) _ _ _ c.in-New.site (ap expression c.in-New.is ∙ view_new _ _ _ _) _ (row_length c.in-New.args.items _ (c.len.ensures ∙ c.in-New.args.ok.0)) (has_none _ c.if-constructor.true) _ (c.drop_last.ensures ∙ ap (λ k. under_many k (standing g.R.Register.keeps g.R.Register.kept c.args.self.now).values) (add-one c.len.result));
}

pub returns : goal.returns
returns g c = record {
  goes = is_constructed _ (standing g.R.Register.keeps g.R.Register.kept c.args.self.now) (expression c.args.expr.now) _ _ _ c.in-New.site (ap expression c.in-New.is ∙ view_new _ _ _ _) _ (row_length c.in-New.args.items _ (c.len-2.ensures ∙ c.in-New.args.ok.0)) (standing g.R.Register.keeps g.R.Register.kept c.push_step.new.self) c.call_on.result (standing g.R.Register.keeps g.R.Register.kept c.call_on.new.self) _ (has_one _ c.if-constructor.false) c.in_ok-push_step.ensures c.call_on.ensures.goes;
}
