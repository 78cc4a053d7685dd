use Rattle.std.proofs.Common.{◌∙◌, ap}
use Rattle.wy_work.specs.Tasks.{pushed}
use Rattle.wy_work.specs.Machines.{standing}
use Rattle.wy_work.proofs.Turns.{do_goes}
use Rattle.wy_work.proofs.machine.Machine.begin_do.Goals as goal

pub returns : goal.returns
returns g c = record { goes = λ p is. do_goes p (standing g.R.Register.keeps g.R.Register.kept c.args.self.now) (standing g.R.Register.keeps g.R.Register.kept c.push_stmt-2.new.self) c.args.stmt c.args.body _ is (λ next. c.in_ok-turns.ensures p next) (c.in_ok-push_stmt-2.ensures ∙ ap (pushed _) c.in_ok-push_stmt.ensures) }
