use Rattle.std.proofs.Common.{◌∙◌, ◌∷◌, ap}
use Rattle.std.proofs.lemmas.Result.{err_from_is_err_and}
use Rattle.wy_value.specs.declared.value.Value.TheVariants as val
use Rattle.wy_state.specs.Seen.{valued}
use Rattle.wy_work.specs.Machines.{standing}
use Rattle.wy_work.proofs.Returns.{body_ended, body_refused}
use Rattle.wy_work.proofs.machine.Machine.end_body.Goals as goal

pub returns-in_err-event : goal.returns-in_err-event
returns-in_err-event g c = record {
  goes = λ p.
      let h = err_from_is_err_and c.from_residual.result c.from_residual.ensures.1 in
      rw (h.1, h.2) (body_refused p (standing g.R.Register.keeps g.R.Register.kept c.args.self.now) c.args.returns_none c.args.site _ _ _ (c.in_err-event.ensures.step p) c.in_err-event.ensures.around);
}

pub returns : goal.returns
returns g c = record { goes = λ p. body_ended p (standing g.R.Register.keeps g.R.Register.kept c.args.self.now) c.args.returns_none c.args.site _ _ _ (c.in_ok-event.ensures.step p) c.in_ok-event.ensures.around (c.in_ok-push_with.ensures ∙ ap (λ vs. valued c.in_ok-event.event val.None ∷ vs) c.clear.ensures) }
