use Rattle.wy_kernel.specs.Parts.{program_of}
use Rattle.wy_state.specs.Seen.{reason_of}
use Rattle.wy_work.specs.Machines.{standing}
use Rattle.wy_work.proofs.Passing.{close_left, frame_passed}
use Rattle.wy_work.proofs.machine.Machine.pass.Goals as goal

pub returns-in_ok-close_scope-in-Close : goal.returns-in_ok-close_scope-in-Close
returns-in_ok-close_scope-in-Close g c = record { goes = let p = program_of c.args.on.now.program.now in close_left p (standing g.R.Register.keeps g.R.Register.kept c.args.self.now) _ c.args.task _ c.in-Close.is c.in_ok-close_scope-in-Close.ensures.calls (c.in_ok-close_scope-in-Close.ensures.step p) (reason_of c.args.why) }

pub returns-in_default : goal.returns-in_default
returns-in_default g c = record { goes = frame_passed (program_of c.args.on.now.program.now) (standing g.R.Register.keeps g.R.Register.kept c.args.self.now) c.args.task (reason_of c.args.why) c.in_default.not-Stmt c.in_default.not-Plain c.in_default.not-Close }
