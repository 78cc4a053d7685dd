use Rattle.wy_work.specs.Machines.{standing}
use Rattle.wy_work.proofs.Single.{instance_gave}
use Rattle.wy_work.proofs.machine.Machine.instance_of.Goals as goal

pub returns : goal.returns
returns g c = record { goes = instance_gave _ (standing g.R.Register.keeps g.R.Register.kept c.args.self.now) (standing g.R.Register.keeps g.R.Register.kept c.args.self.now).state _ c.args.ty _ _ c.top.ensures c.in_ok-is_one.ensures c.in_ok-join.ensures }
