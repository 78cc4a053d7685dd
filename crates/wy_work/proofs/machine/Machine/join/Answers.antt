use Rattle.std.proofs.lemmas.Result.{err_from_is_err_and}
use Rattle.wy_work.specs.Machines.{standing}
use Rattle.wy_work.proofs.Shows.{join_made, join_refused}
use Rattle.wy_work.proofs.machine.Machine.join.Goals as goal

pub returns-in_err-event : goal.returns-in_err-event
returns-in_err-event g c = record {
  goes =
      let h = err_from_is_err_and c.from_residual.result c.from_residual.ensures.1 in
      rw (h.1, h.2) (join_refused _ (standing g.R.Register.keeps g.R.Register.kept c.args.self.now) _ (standing g.R.Register.keeps g.R.Register.kept c.args.self.now).values c.args.site _ _ _ c.value_at-left.ensures c.top-right.ensures c.last_uses-uses.ensures.last _ c.in_err-event.ensures.step c.in_err-event.ensures.around);
}

pub returns : goal.returns
returns g c = record { goes = join_made _ (standing g.R.Register.keeps g.R.Register.kept c.args.self.now) _ _ c.args.site _ _ _ c.value_at-left.ensures c.top-right.ensures c.last_uses-uses.ensures.last _ c.in_ok-event.ensures.step c.in_ok-event.ensures.around c.in_ok-replace.ensures }
