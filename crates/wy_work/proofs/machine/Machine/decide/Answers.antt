use Rattle.std.proofs.Common.{◌∙◌, [], ◌∷◌, ap, refl}
use Rattle.std.specs.Prelude.{if◌then◌else◌}
use Rattle.std.proofs.lemmas.Result.{err_from_is_err_and}
use Rattle.wy_kernel.specs.View.{expression}
use Rattle.wy_value.specs.declared.value.Value.TheVariants as val
use Rattle.wy_event.specs.declared.record.Use.TheVariants as uses
use Rattle.wy_operands.specs.Values.{given}
use Rattle.wy_work.specs.Tasks.{pushed}
use Rattle.wy_work.specs.Machines.{standing}
use Rattle.wy_work.proofs.Conds.{arm_empty, arm_found, cond_seen, no_arm, one_arm, test_refused}
use Rattle.wy_work.proofs.machine.Machine.decide.Goals as goal

pub returns-in_err-event : goal.returns-in_err-event
returns-in_err-event g c = record {
  goes = λ p.
      let h = err_from_is_err_and c.from_residual.result c.from_residual.ensures.1 in
      rw (h.1, h.2) (test_refused p (standing g.R.Register.keeps g.R.Register.kept c.args.self.now) _ (expression c.args.expr.now) _ _ _ _ _ (cond_seen c.args.expr.now _ _ _ _ _ c.in-Cond.is) _ _ c.top-value.ensures c.last_uses.ensures.last _ (c.in_err-event.ensures.step p) c.in_err-event.ensures.around);
}

pub returns-in_default-arm_of : goal.returns-in_default-arm_of
returns-in_default-arm_of g c = record {
  goes = λ p. arm_empty p (standing g.R.Register.keeps g.R.Register.kept c.args.self.now) _ (expression c.args.expr.now) _ _ _ _ _ (cond_seen c.args.expr.now _ _ _ _ _ c.in-Cond.is) _ _ c.top-value.ensures c.last_uses.ensures.last _ (c.in_ok-event.ensures.step p) c.in_ok-event.ensures.around
      _ (no_arm _ c.in-Cond.yes c.in-Cond.no c.arm_of.result.now (c.arm_of.ensures ∙ ap (λ b. if b then c.in-Cond.yes else c.in-Cond.no) c.is_true.ensures) c.in_default-arm_of.is) c.in_ok-replace.ensures;
}

pub returns : goal.returns
returns g c = record {
  goes = λ p. arm_found p (standing g.R.Register.keeps g.R.Register.kept c.args.self.now) _ (expression c.args.expr.now) _ _ _ _ _ (cond_seen c.args.expr.now _ _ _ _ _ c.in-Cond.is) _ _ c.top-value.ensures c.last_uses.ensures.last _ (c.in_ok-event.ensures.step p) c.in_ok-event.ensures.around
      c.args.expr c.deref.result _ (standing g.R.Register.keeps g.R.Register.kept c.push_expr-2.new.self) refl (one_arm _ c.in-Cond.yes c.in-Cond.no c.arm_of.result.now _ _ (c.arm_of.ensures ∙ ap (λ b. if b then c.in-Cond.yes else c.in-Cond.no) c.is_true.ensures) c.in-Some.is c.deref.ensures) (c.in_ok-push_with.ensures ∙ ap (λ us. given val.None (uses.Choice c.in_ok-event.event ∷ []) ∷ us) c.drop_last.ensures) (c.in_ok-push_expr-2.ensures ∙ ap (pushed _) c.in_ok-push_expr.ensures);
}
