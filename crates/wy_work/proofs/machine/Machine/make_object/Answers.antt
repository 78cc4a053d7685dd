use Rattle.std.proofs.Common.{◌∙◌, ◌∷◌, ap}
use Rattle.std.proofs.lemmas.Result.{err_from_is_err_and}
use Rattle.wy_kernel.specs.View.{expression}
use Rattle.wy_state.specs.Seen.{valued}
use Rattle.wy_value.specs.declared.value.Value.TheVariants as val
use Rattle.wy_operands.specs.Values.{Values}
use Rattle.wy_work.specs.Tasks.{pushed}
use Rattle.wy_work.specs.Machines.{standing}
use Rattle.wy_work.proofs.Created.{object_failed, object_made}
use Rattle.wy_kernel.proofs.ExpressionViews.{view_new}
use Rattle.wy_work.proofs.machine.Machine.make_object.Goals as goal

pub returns-in_err-event : goal.returns-in_err-event
returns-in_err-event g c = record {
  goes = λ p.
      let h = err_from_is_err_and c.from_residual.result c.from_residual.ensures.1 in
      rw (h.1, h.2) (object_failed p (standing g.R.Register.keeps g.R.Register.kept c.args.self.now) c.args.expr _ _ c.in-New.args.items c.in-New.site (ap expression c.in-New.is ∙ view_new _ _ _ _) _ c.in_err-event.ensures.calls _ (c.in_err-event.ensures.step p));
}

pub returns : goal.returns
returns g c = record {
  goes = λ p.
      object_made p (standing g.R.Register.keeps g.R.Register.kept c.args.self.now) c.args.expr _ _ c.in-New.args.items c.in-New.site (ap expression c.in-New.is ∙ view_new _ _ _ _) _ c.in_ok-event.ensures.calls c.in_ok-event.event _ _ (standing g.R.Register.keeps g.R.Register.kept c.push.new.self) (c.in_ok-event.ensures.step p)
      (c.in_ok-push_with-2.ensures ∙ ap (λ (vs : Values). valued c.in_ok-event.event (val.Object c.in_ok-event.event) ∷ vs) c.in_ok-push_with.ensures) c.as_slice.ensures.value (c.in_ok-push.ensures ∙ ap (pushed _) c.in_ok-push_expr.ensures);
}
