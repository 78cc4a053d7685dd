use Rattle.wy_work.specs.Machines.{standing}
use Rattle.wy_work.proofs.Single.{unary_gave}
use Rattle.wy_work.proofs.machine.Machine.unary.Goals as goal

pub returns : goal.returns
returns g c = record { goes = λ p. unary_gave p (standing g.R.Register.keeps g.R.Register.kept c.args.self.now) _ c.args.op _ _ c.top.ensures c.in-Some.ensures c.in_ok-join.ensures }
