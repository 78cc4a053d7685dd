use Rattle.wy_work.specs.Machines.{standing}
use Rattle.wy_work.proofs.Turns.{turns_begin}
use Rattle.wy_work.proofs.machine.Machine.begin_turns.Goals as goal

pub returns : goal.returns
returns g c = record { goes = λ p. turns_begin p (standing g.R.Register.keeps g.R.Register.kept c.args.self.now) (standing g.R.Register.keeps g.R.Register.kept c.push_stmt.new.self) _ _ (λ next. c.in_ok-turns.ensures p next) c.in_ok-push_stmt.ensures }
