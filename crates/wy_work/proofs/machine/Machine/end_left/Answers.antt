use Rattle.std.proofs.Common.{◌∙◌, sym}
use Rattle.wy_state.specs.Seen.{reason_of}
use Rattle.wy_work.specs.Machines.{standing}
use Rattle.wy_work.proofs.Finishes.{arrived, left_early}
use Rattle.wy_work.proofs.machine.Machine.end_left.Goals as goal

pub returns-then-arrives : goal.returns-then-arrives
returns-then-arrives g c = record { goes = λ p. arrived p (standing g.R.Register.keeps g.R.Register.kept c.args.self.now) c.args.statement (standing g.R.Register.keeps g.R.Register.kept c.end.new.self) c.end.result (reason_of c.args.why) (sym c.arrives.ensures ∙ c.if-arrives.true) (c.end.ensures.goes p) }

pub returns : goal.returns
returns g c = record { goes = λ p. left_early p (standing g.R.Register.keeps g.R.Register.kept c.args.self.now) c.args.statement _ c.in_ok-leave_by.ensures.calls (reason_of c.args.why) c.event_of.result (sym c.arrives.ensures ∙ c.if-arrives.false) c.event_of.ensures (c.in_ok-leave_by.ensures.step p) }
