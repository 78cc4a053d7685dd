use Rattle.std.proofs.lemmas.Result.{err_from_is_err_and}
use Rattle.std.proofs.Common.{refl}
use Rattle.wy_work.specs.Machines.{standing}
use Rattle.wy_work.proofs.Tests.{if_no, if_none, if_refused, if_yes}
use Rattle.wy_work.proofs.machine.Machine.act_if.Goals as goal

pub returns-in_err-test : goal.returns-in_err-test
returns-in_err-test g c = record {
  goes = λ p is.
      let h = err_from_is_err_and c.from_residual.result c.from_residual.ensures.1 in
      rw (h.1, h.2) (if_refused p (standing g.R.Register.keeps g.R.Register.kept c.args.self.now) c.args.stmt.now _ _ is (standing g.R.Register.keeps g.R.Register.kept c.test.new.self) _ (λ next. c.in_err-test.ensures.goes p next));
}

pub returns-then-branch : goal.returns-then-branch
returns-then-branch g c = record { goes = λ p is. if_yes p (standing g.R.Register.keeps g.R.Register.kept c.args.self.now) c.args.stmt.now _ _ is (standing g.R.Register.keeps g.R.Register.kept c.test.new.self) _ (λ next. c.in_ok-test.ensures.goes p next) c.in_ok-test.ensures.depth (standing g.R.Register.keeps g.R.Register.kept c.push_stmt.new.self) c.args.yes refl c.if-branch.true c.in_ok-push_stmt.ensures }

pub returns-in-None : goal.returns-in-None
returns-in-None g c = record { goes = λ p is. if_none p (standing g.R.Register.keeps g.R.Register.kept c.args.self.now) c.args.stmt.now _ _ is (standing g.R.Register.keeps g.R.Register.kept c.test.new.self) _ (λ next. c.in_ok-test.ensures.goes p next) c.in_ok-test.ensures.depth c.in-None.is c.if-branch.false c.in_ok-test.ensures.cleared }

pub returns-in_ok-push_stmt-in-Some : goal.returns-in_ok-push_stmt-in-Some
returns-in_ok-push_stmt-in-Some g c = record { goes = λ p is. if_no p (standing g.R.Register.keeps g.R.Register.kept c.args.self.now) c.args.stmt.now _ _ is (standing g.R.Register.keeps g.R.Register.kept c.test.new.self) _ (λ next. c.in_ok-test.ensures.goes p next) c.in_ok-test.ensures.depth (standing g.R.Register.keeps g.R.Register.kept c.push_stmt-in-Some.new.self) c.deref.result _ c.in-Some.is c.deref.ensures c.if-branch.false c.in_ok-push_stmt-in-Some.ensures }
