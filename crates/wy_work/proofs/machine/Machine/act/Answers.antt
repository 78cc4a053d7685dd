use Rattle.std.proofs.Common.{refl}
use Rattle.wy_work.specs.Machines.{standing}
use Rattle.wy_work.proofs.Runs.{kept_after}
use Rattle.wy_work.proofs.Acts.{block_goes, declared_goes, eval_part_is, if_part_is, labelled_goes, throw_part_is, within_goes}
use Rattle.wy_work.proofs.machine.Machine.act.Goals as goal

pub returns-in_ok-push-in-Block : goal.returns-in_ok-push-in-Block
returns-in_ok-push-in-Block g c = record { goes = λ p. block_goes p (standing g.R.Register.keeps g.R.Register.kept c.args.self.now) (standing g.R.Register.keeps g.R.Register.kept c.push.new.self) c.args.stmt.now _ c.as_slice.result c.in-Block.is c.as_slice.ensures.value c.in_ok-push-in-Block.ensures }

pub returns-in_ok-within-in-Eval : goal.returns-in_ok-within-in-Eval
returns-in_ok-within-in-Eval g c = record { goes = λ p. within_goes p (standing g.R.Register.keeps g.R.Register.kept c.args.self.now) (standing g.R.Register.keeps g.R.Register.kept c.within.new.self) _ _ c.in_ok-within-in-Eval.ensures (eval_part_is _ _ _ c.in-Eval.is refl) }

pub returns-in_ok-within-in-If : goal.returns-in_ok-within-in-If
returns-in_ok-within-in-If g c = record { goes = λ p. within_goes p (standing g.R.Register.keeps g.R.Register.kept c.args.self.now) (standing g.R.Register.keeps g.R.Register.kept c.within-in-If.new.self) _ _ c.in_ok-within-in-If.ensures (if_part_is _ _ _ _ _ c.in-If.is refl) }

pub returns-in_ok-within-in-Throw : goal.returns-in_ok-within-in-Throw
returns-in_ok-within-in-Throw g c = record { goes = λ p. within_goes p (standing g.R.Register.keeps g.R.Register.kept c.args.self.now) (standing g.R.Register.keeps g.R.Register.kept c.within-in-Throw.new.self) _ _ c.in_ok-within-in-Throw.ensures (throw_part_is _ _ _ c.in-Throw.is refl) }

pub returns-in_ok-push_stmt-in-Labelled : goal.returns-in_ok-push_stmt-in-Labelled
returns-in_ok-push_stmt-in-Labelled g c = record { goes = λ p. labelled_goes p (standing g.R.Register.keeps g.R.Register.kept c.args.self.now) (standing g.R.Register.keeps g.R.Register.kept c.push_stmt.new.self) c.args.stmt.now _ c.deref.result c.in-Labelled.is c.deref.ensures c.in_ok-push_stmt-in-Labelled.ensures }

pub returns-in_ok-declare-in-Declare : goal.returns-in_ok-declare-in-Declare
returns-in_ok-declare-in-Declare g c = record {
  goes = λ p.
      let m = standing g.R.Register.keeps g.R.Register.kept c.args.self.now in
      let frames = c.in_ok-declare-in-Declare.ensures.frames in
      declared_goes p m (standing g.R.Register.keeps g.R.Register.kept (record c.args.self.now { state = c.declare.new.self; stack = c.clear.new.self })) c.args.stmt.now _ c.in-Declare.is (c.in_ok-declare-in-Declare.ensures.step p) (kept_after p m _ _ (record { frames = frames.frames; scopes = frames.scopes })) c.clear.ensures;
}
