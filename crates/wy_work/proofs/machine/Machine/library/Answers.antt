use Rattle.std.proofs.Common.{◌∙◌, ap, map}
use Rattle.std.proofs.lemmas.Result.{err_from_is_err_and}
use Rattle.wy_work.specs.Machines.{standing}
use Rattle.wy_operation.specs.Operands.{carried}
use Rattle.wy_work.proofs.Made.{library_failed, library_made, library_same}
use Rattle.wy_work.proofs.machine.Machine.library.Goals as goal

pub returns-in_err-found : goal.returns-in_err-found
returns-in_err-found g c = record {
  goes =
      let h = err_from_is_err_and c.from_residual-in_err-found.result c.from_residual-in_err-found.ensures.1 in
      rw (h.1, h.2) (library_failed _ (standing g.R.Register.keeps g.R.Register.kept c.args.self.now) _ (standing g.R.Register.keeps g.R.Register.kept c.args.self.now).values c.args.site c.args.count _ _ (ap (map carried) c.as_slice.ensures.value ∙ c.in_ok-row.ensures) c.last_uses-all.ensures.joined c.args.op _ c.in_err-found.ensures.step c.in_err-found.ensures.around);
}

pub returns-in_ok-join-in-Same : goal.returns-in_ok-join-in-Same
returns-in_ok-join-in-Same g c = record { goes = library_same _ (standing g.R.Register.keeps g.R.Register.kept c.args.self.now) _ _ c.args.site c.args.count _ _ (ap (map carried) c.as_slice.ensures.value ∙ c.in_ok-row.ensures) c.last_uses-all.ensures.joined c.args.op _ _ c.in-Same.is c.last_uses-all.ensures.last c.in_ok-found.ensures.step c.in_ok-found.ensures.around c.in_ok-join-in-Same.ensures }

pub returns-in_ok-replace-in-Made : goal.returns-in_ok-replace-in-Made
returns-in_ok-replace-in-Made g c = record { goes = library_made _ (standing g.R.Register.keeps g.R.Register.kept c.args.self.now) _ _ c.args.site c.args.count _ _ (ap (map carried) c.as_slice.ensures.value ∙ c.in_ok-row.ensures) c.last_uses-all.ensures.joined c.args.op _ _ _ c.in-Made.is c.in_ok-found.ensures.step c.in_ok-found.ensures.around c.in_ok-replace-in-Made.ensures }
