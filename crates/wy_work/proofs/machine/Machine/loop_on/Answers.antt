use Rattle.std.proofs.Common.{◌∙◌, ap}
use Rattle.wy_work.specs.Tasks.{pushed}
use Rattle.wy_work.specs.Machines.{standing}
use Rattle.wy_work.proofs.Turns.{do_on, for_on, while_on}
use Rattle.wy_work.proofs.machine.Machine.loop_on.Goals as goal

pub returns-in_ok-push_stmt-in-While : goal.returns-in_ok-push_stmt-in-While
returns-in_ok-push_stmt-in-While g c = record { goes = λ p. while_on p (standing g.R.Register.keeps g.R.Register.kept c.args.self.now) (standing g.R.Register.keeps g.R.Register.kept c.push_stmt-in-While.new.self) c.args.stmt c.deref.result _ _ _ c.in-While.is c.deref.ensures (c.in_ok-push_stmt-in-While.ensures ∙ ap (pushed _) c.in_ok-push_stmt.ensures) }

pub returns-in_ok-push_stmt-in-Do : goal.returns-in_ok-push_stmt-in-Do
returns-in_ok-push_stmt-in-Do g c = record { goes = λ p. do_on p (standing g.R.Register.keeps g.R.Register.kept c.args.self.now) (standing g.R.Register.keeps g.R.Register.kept c.push_stmt-in-Do.new.self) c.args.stmt c.deref-in-Do.result _ _ _ c.in-Do.is c.deref-in-Do.ensures (c.in_ok-push_stmt-in-Do.ensures ∙ ap (pushed _) c.in_ok-push_stmt.ensures) }

pub returns-in_ok-push_stmt-in-For : goal.returns-in_ok-push_stmt-in-For
returns-in_ok-push_stmt-in-For g c = record { goes = λ p. for_on p (standing g.R.Register.keeps g.R.Register.kept c.args.self.now) (standing g.R.Register.keeps g.R.Register.kept c.push_stmt-in-For.new.self) c.args.stmt c.deref-in-For.result _ _ _ _ c.as_slice.result _ c.in-For.is c.deref-in-For.ensures c.as_slice.ensures.value (c.in_ok-push_stmt-in-For.ensures ∙ ap (pushed _) (c.in_ok-push-in-For.ensures ∙ ap (pushed _) c.in_ok-push_stmt.ensures)) }
