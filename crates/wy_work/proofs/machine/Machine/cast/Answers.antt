use Rattle.std.proofs.lemmas.Result.{err_from_is_err_and}
use Rattle.wy_work.specs.Machines.{standing}
use Rattle.wy_work.proofs.Single.{cast_failed, cast_went}
use Rattle.wy_work.proofs.machine.Machine.cast.Goals as goal

pub returns-in_err-cast : goal.returns-in_err-cast
returns-in_err-cast g c = record {
  goes =
      let h = err_from_is_err_and c.from_residual.result c.from_residual.ensures.1 in
      rw (h.1, h.2) (cast_failed _ (standing g.R.Register.keeps g.R.Register.kept c.args.self.now) _ _ c.args.ty c.args.site _ _ c.top-value.ensures c.last_uses.ensures.last _ c.in_err-cast.ensures.step c.in_err-cast.ensures.around);
}

pub returns : goal.returns
returns g c = record { goes = cast_went _ (standing g.R.Register.keeps g.R.Register.kept c.args.self.now) _ _ c.args.ty c.args.site _ _ c.top-value.ensures c.last_uses.ensures.last c.in_ok-cast.ensures.step c.in_ok-cast.ensures.around c.in_ok-join.ensures }
