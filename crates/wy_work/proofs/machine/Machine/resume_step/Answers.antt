use Rattle.wy_kernel.specs.Parts.{program_of}
use Rattle.wy_work.specs.Machines.{standing}
use Rattle.wy_work.proofs.Resuming.{both_joined, class_made, left_again, main_runs, right_shown}
use Rattle.wy_work.proofs.machine.Machine.resume_step.Goals as goal

pub returns-in-ShowRight : goal.returns-in-ShowRight
returns-in-ShowRight g c = record { goes = right_shown (program_of c.args.on.now.program.now) (standing g.R.Register.keeps g.R.Register.kept c.args.self.now) c.show_right.result (standing g.R.Register.keeps g.R.Register.kept c.show_right.new.self) c.args.step _ c.in-ShowRight.is c.show_right.ensures.goes }

pub returns-in-Join : goal.returns-in-Join
returns-in-Join g c = record { goes = both_joined (program_of c.args.on.now.program.now) (standing g.R.Register.keeps g.R.Register.kept c.args.self.now) c.join.result (standing g.R.Register.keeps g.R.Register.kept c.join.new.self) c.args.step _ c.in-Join.is c.join.ensures.goes }

pub returns-in-Initialize : goal.returns-in-Initialize
returns-in-Initialize g c = record { goes = class_made (program_of c.args.on.now.program.now) (standing g.R.Register.keeps g.R.Register.kept c.args.self.now) c.initialize.result (standing g.R.Register.keeps g.R.Register.kept c.initialize.new.self) c.args.step _ _ c.in-Initialize.is c.initialize.ensures.goes }

pub returns-in-Main : goal.returns-in-Main
returns-in-Main g c = record { goes = main_runs (program_of c.args.on.now.program.now) (standing g.R.Register.keeps g.R.Register.kept c.args.self.now) c.call_main.result (standing g.R.Register.keeps g.R.Register.kept c.call_main.new.self) c.args.step c.in-Main.is c.call_main.ensures.goes }

pub returns-in-Again : goal.returns-in-Again
returns-in-Again g c = record { goes = left_again (program_of c.args.on.now.program.now) (standing g.R.Register.keeps g.R.Register.kept c.args.self.now) c.args.step c.in-Again.why c.in-Again.is }
