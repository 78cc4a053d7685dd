use Rattle.wy_work.specs.Machines.{standing}
use Rattle.wy_work.proofs.Passing.{failure_passed, failure_stops}
use Rattle.wy_work.proofs.machine.Machine.pass_failure.Goals as goal

pub returns-in-Threw : goal.returns-in-Threw
returns-in-Threw g c = record { goes = λ p. failure_stops p (standing g.R.Register.keeps g.R.Register.kept c.args.self.now) c.args.why c.in-Threw.event c.in-Threw.value c.in-Threw.is }

pub returns-in_default : goal.returns-in_default
returns-in_default g c = record { goes = λ p. failure_passed p (standing g.R.Register.keeps g.R.Register.kept c.args.self.now) c.args.why c.in_default.not-Threw }
