use Rattle.wy_work.specs.Machines.{standing}
use Rattle.wy_work.proofs.Single.{convert_gave}
use Rattle.wy_work.proofs.machine.Machine.convert.Goals as goal

pub returns : goal.returns
returns g c = record { goes = λ p. convert_gave p (standing g.R.Register.keeps g.R.Register.kept c.args.self.now) _ c.args.to _ _ c.top.ensures c.in-Some.ensures c.in_ok-join.ensures }
