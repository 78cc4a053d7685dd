use Rattle.wy_kernel.specs.Parts.{program_of}
use Rattle.wy_work.specs.Machines.{standing}
use Rattle.wy_work.specs.declared.task.StmtStep.TheVariants as step
use Rattle.wy_work.proofs.Resuming.{first_goes_on, stmt_at}
use Rattle.wy_work.proofs.machine.Machine.resume_stmt.Goals as goal

pub returns-in-Do : goal.returns-in-Do
returns-in-Do g c = record { goes = stmt_at (program_of c.args.on.now.program.now) (standing g.R.Register.keeps g.R.Register.kept c.args.self.now) c.begin.result (standing g.R.Register.keeps g.R.Register.kept c.begin.new.self) c.args.stmt c.args.step step.Do c.in-Do.is tt (c.begin.ensures.goes (program_of c.args.on.now.program.now)) }

pub returns-in-Operate : goal.returns-in-Operate
returns-in-Operate g c = record { goes = stmt_at (program_of c.args.on.now.program.now) (standing g.R.Register.keeps g.R.Register.kept c.args.self.now) c.act_on.result (standing g.R.Register.keeps g.R.Register.kept c.act_on.new.self) c.args.stmt c.args.step step.Operate c.in-Operate.is tt c.act_on.ensures.goes }

pub returns-in-Print : goal.returns-in-Print
returns-in-Print g c = record { goes = stmt_at (program_of c.args.on.now.program.now) (standing g.R.Register.keeps g.R.Register.kept c.args.self.now) c.print.result (standing g.R.Register.keeps g.R.Register.kept c.print.new.self) c.args.stmt c.args.step step.Print c.in-Print.is tt c.print.ensures.goes }

pub returns-in-Loop : goal.returns-in-Loop
returns-in-Loop g c = record { goes = stmt_at (program_of c.args.on.now.program.now) (standing g.R.Register.keeps g.R.Register.kept c.args.self.now) c.begin_turns.result (standing g.R.Register.keeps g.R.Register.kept c.begin_turns.new.self) c.args.stmt c.args.step step.Loop c.in-Loop.is tt (c.begin_turns.ensures.goes (program_of c.args.on.now.program.now)) }

pub returns-in-Turn : goal.returns-in-Turn
returns-in-Turn g c = record { goes = stmt_at (program_of c.args.on.now.program.now) (standing g.R.Register.keeps g.R.Register.kept c.args.self.now) c.turn_loop.result (standing g.R.Register.keeps g.R.Register.kept c.turn_loop.new.self) c.args.stmt c.args.step (step.Turn c.in-Turn.turns) c.in-Turn.is tt (c.turn_loop.ensures.goes (program_of c.args.on.now.program.now)) }

pub returns-in-Decide : goal.returns-in-Decide
returns-in-Decide g c = record { goes = stmt_at (program_of c.args.on.now.program.now) (standing g.R.Register.keeps g.R.Register.kept c.args.self.now) c.decide_turn.result (standing g.R.Register.keeps g.R.Register.kept c.decide_turn.new.self) c.args.stmt c.args.step (step.Decide c.in-Decide.turns) c.in-Decide.is tt (c.decide_turn.ensures.goes (program_of c.args.on.now.program.now)) }

pub returns-in-Catch : goal.returns-in-Catch
returns-in-Catch g c = record { goes = first_goes_on (program_of c.args.on.now.program.now) (standing g.R.Register.keeps g.R.Register.kept c.args.self.now) c.args.stmt c.args.step c.in-Catch.is _ c.clear.ensures }
