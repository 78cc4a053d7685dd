use Rattle.wy_work.specs.Machines.{standing}
use Rattle.wy_work.proofs.Finishes.{finished}
use Rattle.wy_work.proofs.machine.Machine.end.Goals as goal

pub returns : goal.returns
returns g c = record { goes = λ p. finished p (standing g.R.Register.keeps g.R.Register.kept c.args.self.now) c.args.statement _ c.in_ok-finish.ensures.calls _ c.clear.ensures (c.in_ok-finish.ensures.step p) }
