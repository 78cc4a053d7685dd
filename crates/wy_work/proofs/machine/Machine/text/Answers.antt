use Rattle.wy_work.specs.Machines.{standing}
use Rattle.wy_work.proofs.Single.{text_gave}
use Rattle.wy_work.proofs.machine.Machine.text.Goals as goal

pub returns : goal.returns
returns g c = record { goes = λ p. text_gave p (standing g.R.Register.keeps g.R.Register.kept c.args.self.now) _ c.args.text c.in_ok-push.ensures }
