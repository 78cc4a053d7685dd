use Rattle.wy_kernel.specs.Parts.{program_of}
use Rattle.wy_state.specs.Seen.{reason_of}
use Rattle.wy_work.specs.Machines.{standing}
use Rattle.wy_work.proofs.Passing.{stmt_passed}
use Rattle.wy_work.proofs.machine.Machine.pass_stmt.Goals as goal

pub returns-in_default : goal.returns-in_default
returns-in_default g c = record { goes = stmt_passed (program_of c.args.on.now.program.now) (standing g.R.Register.keeps g.R.Register.kept c.args.self.now) c.args.stmt c.args.step (reason_of c.args.why) c.in_default.not-Catch c.in_default.not-Finally }
