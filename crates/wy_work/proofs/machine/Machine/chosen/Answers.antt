use Rattle.wy_kernel.specs.View.{expression}
use Rattle.wy_work.specs.Machines.{standing}
use Rattle.wy_work.proofs.Conds.{chosen_gave}
use Rattle.wy_work.proofs.machine.Machine.chosen.Goals as goal

pub returns : goal.returns
returns g c = record { goes = λ p. chosen_gave p (standing g.R.Register.keeps g.R.Register.kept c.args.self.now) _ (expression c.args.expr.now) _ c.top-value.ensures c.in_ok-join.ensures }
