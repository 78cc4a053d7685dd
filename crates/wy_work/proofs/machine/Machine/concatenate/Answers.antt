use Rattle.wy_work.specs.Machines.{standing}
use Rattle.wy_work.proofs.Shows.{left_shown}
use Rattle.wy_work.proofs.machine.Machine.concatenate.Goals as goal

pub returns : goal.returns
returns g c = record { goes = left_shown _ (standing g.R.Register.keeps g.R.Register.kept c.args.self.now) (standing g.R.Register.keeps g.R.Register.kept c.push_step.new.self) c.args.site c.show.result (standing g.R.Register.keeps g.R.Register.kept c.show.new.self) c.in_ok-push_step.ensures c.show.ensures.goes }
