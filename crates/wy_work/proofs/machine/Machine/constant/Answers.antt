use Rattle.wy_work.specs.Machines.{standing}
use Rattle.wy_work.proofs.Single.{constant_gave}
use Rattle.wy_work.proofs.machine.Machine.constant.Goals as goal

pub returns : goal.returns
returns g c = record { goes = λ p. constant_gave p (standing g.R.Register.keeps g.R.Register.kept c.args.self.now) _ _ _ c.in-Some.ensures c.in_ok-push.ensures }
