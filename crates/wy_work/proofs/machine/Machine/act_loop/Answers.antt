use Rattle.std.proofs.Common.{◌∙◌, ap}
use Rattle.wy_work.specs.Tasks.{pushed}
use Rattle.wy_work.specs.Machines.{standing}
use Rattle.wy_work.proofs.Turns.{for_goes, while_goes}
use Rattle.wy_work.proofs.machine.Machine.act_loop.Goals as goal

pub returns-in-While : goal.returns-in-While
returns-in-While g c = record { goes = λ p. while_goes p (standing g.R.Register.keeps g.R.Register.kept c.args.self.now) (standing g.R.Register.keeps g.R.Register.kept c.begin_turns.new.self) c.args.stmt.now _ _ c.begin_turns.result c.in-While.is (c.begin_turns.ensures.goes p) }

pub returns-in-Do : goal.returns-in-Do
returns-in-Do g c = record { goes = λ p. c.begin_do.ensures.goes p (record { body = _; test = _; is = c.in-Do.is; same = c.deref.ensures }) }

pub returns-in_ok-push-in-For : goal.returns-in_ok-push-in-For
returns-in_ok-push-in-For g c = record { goes = λ p. for_goes p (standing g.R.Register.keeps g.R.Register.kept c.args.self.now) (standing g.R.Register.keeps g.R.Register.kept c.push.new.self) c.args.stmt _ _ _ _ c.as_slice.result c.in-For.is c.as_slice.ensures.value (c.in_ok-push-in-For.ensures ∙ ap (pushed _) c.in_ok-push_stmt-in-For.ensures) }
