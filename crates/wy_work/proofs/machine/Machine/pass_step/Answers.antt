use Rattle.wy_state.specs.Seen.{reason_of}
use Rattle.wy_work.specs.Machines.{standing}
use Rattle.wy_work.proofs.Passing.{call_passed, class_passed, step_passed}
use Rattle.wy_work.proofs.machine.Machine.pass_step.Goals as goal

pub returns-in_ok-leave_body-in-LeaveCall : goal.returns-in_ok-leave_body-in-LeaveCall
returns-in_ok-leave_body-in-LeaveCall g c = record { goes = λ p. call_passed p (standing g.R.Register.keeps g.R.Register.kept c.args.self.now) (standing g.R.Register.keeps g.R.Register.kept c.leave_body.new.self) (c.in_ok-leave_body-in-LeaveCall.ensures.goes p) c.args.step _ (reason_of c.args.why) c.in-LeaveCall.is }

pub returns-in_ok-leave_body-in-LeaveClass : goal.returns-in_ok-leave_body-in-LeaveClass
returns-in_ok-leave_body-in-LeaveClass g c = record { goes = λ p. class_passed p (standing g.R.Register.keeps g.R.Register.kept c.args.self.now) (standing g.R.Register.keeps g.R.Register.kept c.leave_body-in-LeaveClass.new.self) (c.in_ok-leave_body-in-LeaveClass.ensures.goes p) c.args.step (reason_of c.args.why) c.in-LeaveClass.is }

pub returns-in_default : goal.returns-in_default
returns-in_default g c = record { goes = λ p. step_passed p (standing g.R.Register.keeps g.R.Register.kept c.args.self.now) c.args.step (reason_of c.args.why) c.in_default.not-BodyEnd c.in_default.not-Initialized c.in_default.not-LeaveCall c.in_default.not-LeaveClass c.in_default.not-End }
