use Rattle.wy_work.specs.Machines.{standing}
use Rattle.wy_work.proofs.Acts.{jumped}
use Rattle.wy_work.proofs.machine.Machine.act_more.Goals as goal

pub returns-in-Jump : goal.returns-in-Jump
returns-in-Jump g c = record { goes = λ p. jumped p (standing g.R.Register.keeps g.R.Register.kept c.args.self.now) _ c.args.stmt.now _ _ c.in-Jump.is (c.jump.ensures.step p) c.jump.ensures.around }

pub returns-in-Return : goal.returns-in-Return
returns-in-Return g c = record { goes = λ p. c.act_return.ensures.goes p c.in-Return.is }

pub returns-in-Print : goal.returns-in-Print
returns-in-Print g c = record { goes = λ p. c.act_print.ensures.goes p _ c.in-Print.is }

pub returns-in-Try : goal.returns-in-Try
returns-in-Try g c = record { goes = λ p. c.act_try.ensures.goes p (record { main = _; catches = _; is = c.in-Try.is; same = c.deref.ensures }) }
