use Rattle.std.proofs.lemmas.Result.{err_from_is_err_and}
use Rattle.wy_work.specs.Machines.{standing}
use Rattle.wy_work.proofs.Single.{store_failed, store_went}
use Rattle.wy_work.proofs.machine.Machine.store.Goals as goal

pub returns-in_err-event : goal.returns-in_err-event
returns-in_err-event g c = record {
  goes = λ o.
      let h = err_from_is_err_and c.from_residual.result c.from_residual.ensures.1 in
      rw (h.1, h.2) (store_failed _ (standing g.R.Register.keeps g.R.Register.kept c.args.self.now) _ (standing g.R.Register.keeps g.R.Register.kept c.args.self.now).values c.args.slot c.args.many c.args.site _ _ c.top-value.ensures c.last_uses-uses.ensures.last o _ c.in_err-event.ensures.step c.in_err-event.ensures.around);
}

pub returns : goal.returns
returns g c = record { goes = λ o. store_went _ (standing g.R.Register.keeps g.R.Register.kept c.args.self.now) _ _ c.args.slot c.args.many c.args.site _ _ c.top-value.ensures c.last_uses-uses.ensures.last o _ c.in_ok-event.ensures.step c.in_ok-event.ensures.around c.in_ok-replace.ensures }
