use Rattle.std.proofs.lemmas.Result.{err_from_is_err_and}
use Rattle.wy_work.specs.Machines.{standing}
use Rattle.wy_work.proofs.Single.{fetch_failed, fetch_went}
use Rattle.wy_work.proofs.machine.Machine.fetch.Goals as goal

pub returns-in_err-value : goal.returns-in_err-value
returns-in_err-value g c = record {
  goes = λ p x own.
      let h = err_from_is_err_and c.from_residual.result c.from_residual.ensures.1 in
      rw (h.1, h.2) (fetch_failed p (standing g.R.Register.keeps g.R.Register.kept c.args.self.now) (standing g.R.Register.keeps g.R.Register.kept c.args.self.now).state (standing g.R.Register.keeps g.R.Register.kept c.args.self.now).values c.args.slot c.args.many x own _ c.in_err-value.ensures);
}

pub returns : goal.returns
returns g c = record { goes = λ p x own. fetch_went p (standing g.R.Register.keeps g.R.Register.kept c.args.self.now) (standing g.R.Register.keeps g.R.Register.kept c.args.self.now).state _ c.args.slot c.args.many x own _ _ c.in_ok-value.ensures c.in_ok-join_with.ensures }
