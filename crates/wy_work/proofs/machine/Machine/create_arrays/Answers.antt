use Rattle.std.proofs.Common.{◌∙◌, ap, map}
use Rattle.std.proofs.lemmas.Result.{err_from_is_err_and}
use Rattle.wy_work.specs.Machines.{standing}
use Rattle.wy_operation.specs.Operands.{carried}
use Rattle.wy_work.proofs.Made.{arrays_failed, arrays_made}
use Rattle.wy_work.proofs.machine.Machine.create_arrays.Goals as goal

pub returns-in_err-array : goal.returns-in_err-array
returns-in_err-array g c = record {
  goes = λ p.
      let h = err_from_is_err_and c.from_residual-in_err-array.result c.from_residual-in_err-array.ensures.1 in
      rw (h.1, h.2) (arrays_failed p (standing g.R.Register.keeps g.R.Register.kept c.args.self.now) _ (standing g.R.Register.keeps g.R.Register.kept c.args.self.now).values c.args.site c.args.count _ _ (ap (map carried) c.as_slice.ensures.value ∙ c.in_ok-dims.ensures) c.last_uses-all.ensures.joined c.args.ty _ c.in_err-array.ensures.step c.in_err-array.ensures.around);
}

pub returns : goal.returns
returns g c = record { goes = λ p. arrays_made p (standing g.R.Register.keeps g.R.Register.kept c.args.self.now) _ _ c.args.site c.args.count _ _ (ap (map carried) c.as_slice.ensures.value ∙ c.in_ok-dims.ensures) c.last_uses-all.ensures.joined c.args.ty _ c.in_ok-array.ensures.step c.in_ok-array.ensures.around c.in_ok-replace.ensures }
