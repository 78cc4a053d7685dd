use Rattle.std.proofs.Common.{refl}
use Rattle.wy_work.specs.Machines.{standing}
use Rattle.wy_work.proofs.Turns.{for_condition, for_ever_goes, turn_goes}
use Rattle.wy_work.proofs.machine.Machine.turn_for.Goals as goal

pub returns-in_ok-push_condition-in-Some : goal.returns-in_ok-push_condition-in-Some
returns-in_ok-push_condition-in-Some g c = record { goes = λ p k more is. turn_goes p (standing g.R.Register.keeps g.R.Register.kept c.args.self.now) (standing g.R.Register.keeps g.R.Register.kept c.push_condition.new.self) c.args.stmt _ k _ more (for_condition _ _ _ _ _ _ _ is.is c.in-Some.is refl) c.in_ok-push_condition-in-Some.ensures }

pub returns-in-None : goal.returns-in-None
returns-in-None g c = record { goes = λ p k more is. for_ever_goes p (standing g.R.Register.keeps g.R.Register.kept c.args.self.now) (standing g.R.Register.keeps g.R.Register.kept c.loop_on.new.self) c.args.stmt.now _ _ _ _ k _ c.loop_on.result is.is c.in-None.is more (c.loop_on.ensures.goes p) }
