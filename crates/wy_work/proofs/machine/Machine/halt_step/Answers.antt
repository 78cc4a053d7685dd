use Rattle.wy_state.specs.Seen.{stop_of}
use Rattle.wy_work.specs.Machines.{standing}
use Rattle.wy_work.proofs.Passing.{call_halted, class_halted, end_stopped, step_halted}
use Rattle.wy_work.proofs.machine.Machine.halt_step.Goals as goal

pub returns-in_ok-leave_body-in-LeaveCall : goal.returns-in_ok-leave_body-in-LeaveCall
returns-in_ok-leave_body-in-LeaveCall g c = record { goes = λ p. call_halted p (standing g.R.Register.keeps g.R.Register.kept c.args.self.now) (standing g.R.Register.keeps g.R.Register.kept c.leave_body.new.self) (c.in_ok-leave_body-in-LeaveCall.ensures.goes p) c.args.step _ (stop_of c.args.why) c.in-LeaveCall.is }

pub returns-in_ok-leave_body-in-LeaveClass : goal.returns-in_ok-leave_body-in-LeaveClass
returns-in_ok-leave_body-in-LeaveClass g c = record { goes = λ p. class_halted p (standing g.R.Register.keeps g.R.Register.kept c.args.self.now) (standing g.R.Register.keeps g.R.Register.kept c.leave_body-in-LeaveClass.new.self) (c.in_ok-leave_body-in-LeaveClass.ensures.goes p) c.args.step (stop_of c.args.why) c.in-LeaveClass.is }

pub returns-in_ok-leave_by-in-End : goal.returns-in_ok-leave_by-in-End
returns-in_ok-leave_by-in-End g c = record { goes = λ p. end_stopped p (standing g.R.Register.keeps g.R.Register.kept c.args.self.now) _ _ c.args.step c.in-End.is c.in_ok-leave_by-in-End.ensures.calls (stop_of c.args.why) _ c.cause_of.ensures (c.in_ok-leave_by-in-End.ensures.step p) }

pub returns-in_default : goal.returns-in_default
returns-in_default g c = record { goes = λ p. step_halted p (standing g.R.Register.keeps g.R.Register.kept c.args.self.now) c.args.step (stop_of c.args.why) c.in_default.not-LeaveCall c.in_default.not-LeaveClass c.in_default.not-End }
