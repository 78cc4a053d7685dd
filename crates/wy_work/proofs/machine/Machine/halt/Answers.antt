use Rattle.wy_state.specs.Seen.{stop_of}
use Rattle.wy_work.specs.Machines.{standing}
use Rattle.wy_work.proofs.Passing.{close_stopped, frame_halted}
use Rattle.wy_work.proofs.machine.Machine.halt.Goals as goal

pub returns-in_ok-close_scope-in-Close : goal.returns-in_ok-close_scope-in-Close
returns-in_ok-close_scope-in-Close g c = record { goes = λ p. close_stopped p (standing g.R.Register.keeps g.R.Register.kept c.args.self.now) _ c.args.task _ c.in-Close.is c.in_ok-close_scope-in-Close.ensures.calls (c.in_ok-close_scope-in-Close.ensures.step p) (stop_of c.args.why) }

pub returns-in_default : goal.returns-in_default
returns-in_default g c = record { goes = λ p. frame_halted p (standing g.R.Register.keeps g.R.Register.kept c.args.self.now) c.args.task (stop_of c.args.why) c.in_default.not-Plain c.in_default.not-Close }
