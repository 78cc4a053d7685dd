use Rattle.std.proofs.lemmas.Result.{err_from_is_err_and}
use Rattle.wy_work.specs.Machines.{standing}
use Rattle.wy_work.proofs.Turns.{turn_ended, turn_held, turn_refused}
use Rattle.wy_work.proofs.machine.Machine.decide_turn.Goals as goal

pub returns-in_err-test : goal.returns-in_err-test
returns-in_err-test g c = record {
  goes = λ p.
      let h = err_from_is_err_and c.from_residual.result c.from_residual.ensures.1 in
      rw (h.1, h.2) (turn_refused p (standing g.R.Register.keeps g.R.Register.kept c.args.self.now) (standing g.R.Register.keeps g.R.Register.kept c.test.new.self) c.args.stmt.now _ _ (λ next. c.in_err-test.ensures.goes p next));
}

pub returns-then-branch : goal.returns-then-branch
returns-then-branch g c = record { goes = λ p. turn_held p (standing g.R.Register.keeps g.R.Register.kept c.args.self.now) (standing g.R.Register.keeps g.R.Register.kept c.loop_on.new.self) c.args.stmt.now _ (standing g.R.Register.keeps g.R.Register.kept c.test.new.self) c.loop_on.result (λ next. rw c.if-branch.true at (c.in_ok-test.ensures.goes p next)) c.in_ok-test.ensures.depth (c.loop_on.ensures.goes p) }

pub returns : goal.returns
returns g c = record { goes = λ p. turn_ended p (standing g.R.Register.keeps g.R.Register.kept c.args.self.now) (standing g.R.Register.keeps g.R.Register.kept c.test.new.self) c.args.stmt.now _ (λ next. rw c.if-branch.false at (c.in_ok-test.ensures.goes p next)) c.in_ok-test.ensures.cleared }
