use Rattle.std.proofs.Common.{◌∙◌, ap, sym}
use Rattle.std.proofs.lemmas.Result.{err_from_is_err_and}
use Rattle.wy_kernel.specs.View.{expression}
use Rattle.wy_work.specs.Tasks.{pushed_all}
use Rattle.wy_work.specs.Listed.{finding, listed}
use Rattle.wy_work.specs.Machines.{standing}
use Rattle.wy_work.proofs.Operands.{none_found, none_left, operands_next}
use Rattle.wy_work.proofs.machine.Machine.find.Goals as goal

pub returns-in_err-tick : goal.returns-in_err-tick
returns-in_err-tick g c = record {
  goes =
      let h = err_from_is_err_and c.from_residual.result c.from_residual.ensures.1 in
      rw (h.1, h.2) (none_left _ (standing g.R.Register.keeps g.R.Register.kept c.args.self.now) _ (expression c.args.expr.now) c.tick.ensures.calls _ (c.in_err-tick.ensures.step _));
}

pub returns-in-None : goal.returns-in-None
returns-in-None g c = record { goes = none_found _ (standing g.R.Register.keeps g.R.Register.kept c.args.self.now) _ (expression c.args.expr.now) c.tick.ensures.calls _ _ (c.in_ok-tick.ensures.step _) (sym (ap listed c.in-None.is) ∙ c.in-Some.ensures) c.operate.ensures.goes }

pub returns-in_ok-push_operands-in_default-listed : goal.returns-in_ok-push_operands-in_default-listed
returns-in_ok-push_operands-in_default-listed g c = record { goes = operands_next _ (standing g.R.Register.keeps g.R.Register.kept c.args.self.now) _ c.args.expr c.in-Some.listed (standing g.R.Register.keeps g.R.Register.kept c.push_operands.new.self) c.tick.ensures.calls (c.in_ok-tick.ensures.step _) c.in-Some.ensures (c.in_ok-push_operands-in_default-listed.ensures ∙ ap (pushed_all (finding c.in-Some.listed)) c.in_ok-push_expr-in_default-listed.ensures) }
