use Rattle.std.proofs.Common.{◌≡◌, suc, ◌-◌, refl, arith}
use Rattle.wy_work.specs.Machines.{standing}
use Rattle.wy_work.proofs.Turns.{do_condition, no_turns, turn_goes, while_condition}
use Rattle.wy_work.proofs.machine.Machine.turn_loop.Goals as goal

pub returns-then-turns-eq0 : goal.returns-then-turns-eq0
returns-then-turns-eq0 g c = record { goes = λ p. no_turns p (standing g.R.Register.keeps g.R.Register.kept c.args.self.now) (standing g.R.Register.keeps g.R.Register.kept c.args.self.now) c.args.stmt.now _ c.if-turns-eq0.true }

pub returns-in_ok-push_condition-in-While : goal.returns-in_ok-push_condition-in-While
returns-in_ok-push_condition-in-While g c = record { goes = λ p. turn_goes p (standing g.R.Register.keeps g.R.Register.kept c.args.self.now) (standing g.R.Register.keeps g.R.Register.kept c.push_condition.new.self) c.args.stmt _ _ _ (let more : c.args.turns ≡ suc (c.args.turns - 1) = omega arith in more) (while_condition _ _ _ _ c.in-While.is refl) c.in_ok-push_condition-in-While.ensures }

pub returns-in-For : goal.returns-in-For
returns-in-For g c = record { goes = λ p. c.turn_for.ensures.goes p c.args.turns (let more : c.args.turns ≡ suc (c.args.turns - 1) = omega arith in more) (record { inits = _; updates = _; body = _; is = c.in-For.is }) }

pub returns-in_ok-push_condition-in-Do : goal.returns-in_ok-push_condition-in-Do
returns-in_ok-push_condition-in-Do g c = record { goes = λ p. turn_goes p (standing g.R.Register.keeps g.R.Register.kept c.args.self.now) (standing g.R.Register.keeps g.R.Register.kept c.push_condition-in-Do.new.self) c.args.stmt _ _ _ (let more : c.args.turns ≡ suc (c.args.turns - 1) = omega arith in more) (do_condition _ _ _ _ c.in-Do.is refl) c.in_ok-push_condition-in-Do.ensures }
