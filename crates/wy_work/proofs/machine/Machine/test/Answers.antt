use Rattle.std.proofs.lemmas.Result.{err_from_is_err_and}
use Rattle.wy_operands.specs.Layout.{values_of}
use Rattle.wy_work.specs.Machines.{standing}
use Rattle.wy_work.proofs.Tests.{test_failed, test_went}
use Rattle.wy_work.proofs.machine.Machine.test.Goals as goal

pub returns-in_err-holds-clause-goes : goal.returns-in_err-holds-clause-goes
returns-in_err-holds-clause-goes g c p next =
    let h = err_from_is_err_and c.from_residual.result c.from_residual.ensures.1 in
    rw (h.1, h.2) (test_failed p (standing g.R.Register.keeps g.R.Register.kept c.args.self.now) _ c.args.stmt.now.site c.args.stmt.now.reach _ _ c.top-value.ensures c.last_uses.ensures.last _ _ next (c.in_err-holds.ensures.step p) c.in_err-holds.ensures.around)

pub returns-clause-goes : goal.returns-clause-goes
returns-clause-goes g c p next = test_went p (standing g.R.Register.keeps g.R.Register.kept c.args.self.now) _ c.args.stmt.now.site c.args.stmt.now.reach _ _ c.top-value.ensures c.last_uses.ensures.last _ (values_of c.clear.new.self) next (c.in_ok-holds.ensures.step p) c.in_ok-holds.ensures.around
