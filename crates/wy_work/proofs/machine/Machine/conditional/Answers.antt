use Rattle.std.proofs.Common.{◌∙◌, ap}
use Rattle.wy_work.specs.Machines.{standing}
use Rattle.wy_work.specs.Tasks.{pushed}
use Rattle.wy_work.proofs.Conds.{conditional_goes}
use Rattle.wy_work.proofs.machine.Machine.conditional.Goals as goal

pub returns : goal.returns
returns g c = record {
  goes = λ p is. conditional_goes p (standing g.R.Register.keeps g.R.Register.kept c.args.self.now) _ _ c.args.expr c.args.test (standing g.R.Register.keeps g.R.Register.kept c.push_expr-2.new.self) is (c.in_ok-scope.ensures.step p) c.in_ok-scope.ensures.calls
      (c.in_ok-push_expr-2.ensures ∙ ap (pushed _) (c.in_ok-push_expr.ensures ∙ ap (pushed _) c.in_ok-push.ensures));
}
