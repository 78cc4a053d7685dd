use Rattle.wy_work.specs.Machines.{standing}
use Rattle.wy_work.proofs.Resuming.{class_ends, initialized_ends, top_forgotten}
use Rattle.wy_work.proofs.machine.Machine.resume_end.Goals as goal

pub returns-in-Initialized : goal.returns-in-Initialized
returns-in-Initialized g c = record { goes = λ p. initialized_ends p (standing g.R.Register.keeps g.R.Register.kept c.args.self.now) c.args.step _ c.in-Initialized.is c.clear.ensures }

pub returns-in-LeaveClass : goal.returns-in-LeaveClass
returns-in-LeaveClass g c = record { goes = λ p. class_ends p (standing g.R.Register.keeps g.R.Register.kept c.args.self.now) c.leave_body.result (standing g.R.Register.keeps g.R.Register.kept c.leave_body.new.self) c.args.step c.in-LeaveClass.is (c.leave_body.ensures.goes p) c.leave_body.ensures.refused }

pub returns-in-Forget : goal.returns-in-Forget
returns-in-Forget g c = record { goes = λ p. top_forgotten p (standing g.R.Register.keeps g.R.Register.kept c.args.self.now) c.args.step _ c.in-Forget.is c.drop_last.ensures }
