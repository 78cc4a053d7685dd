use Rattle.std.proofs.lemmas.Result.{err_from_is_err_and}
use Rattle.wy_work.specs.Machines.{standing}
use Rattle.wy_work.proofs.Runs.{turned_after}
use Rattle.wy_work.proofs.Begins.{begins, cannot_begin}
use Rattle.wy_work.proofs.machine.Machine.begin.Goals as goal

pub returns-in_err-tick : goal.returns-in_err-tick
returns-in_err-tick g c = record {
  goes = λ p.
      let h = err_from_is_err_and c.from_residual.result c.from_residual.ensures.1 in
      rw (h.1, h.2) (cannot_begin p (standing g.R.Register.keeps g.R.Register.kept c.args.self.now) _ c.args.stmt.now _ (c.in_err-tick.ensures.step p) c.in_err-tick.ensures.calls);
}

pub returns : goal.returns
returns g c = record {
  goes = λ p.
      let m = standing g.R.Register.keeps g.R.Register.kept c.args.self.now in
      turned_after p m.state (standing g.R.Register.keeps g.R.Register.kept c.push_step.new.self) (standing g.R.Register.keeps g.R.Register.kept c.act.new.self) _ _ c.act.result _ (begins p m _ _ c.args.stmt.now (c.in_ok-tick.ensures.step p) c.in_ok-tick.ensures.calls (c.in_ok-begin.ensures.step p) c.in_ok-begin.ensures.calls _ c.in_ok-push_step.ensures) (c.act.ensures.goes p);
}
