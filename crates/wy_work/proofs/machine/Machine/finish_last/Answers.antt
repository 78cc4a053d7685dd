use Rattle.std.proofs.Common.{ap}
use Rattle.wy_work.specs.Machines.{standing}
use Rattle.wy_work.proofs.Handlers.{last_begins}
use Rattle.wy_work.proofs.machine.Machine.finish_last.Goals as goal

pub returns : goal.returns
returns g c = record {
  goes = λ p.
      let m = standing g.R.Register.keeps g.R.Register.kept c.args.self.now in
      last_begins p m c.args.stmt c.deref.result _ _ _ _ c.in-Try.is c.in-Some.is c.deref.ensures _ (standing g.R.Register.keeps g.R.Register.kept c.push_stmt.new.self) (ap (λ vs. record m { values = vs }) c.clear.ensures) c.in_ok-push_stmt.ensures;
}
