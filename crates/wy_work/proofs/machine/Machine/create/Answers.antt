use Rattle.wy_work.specs.Machines.{standing}
use Rattle.wy_work.proofs.Created.{new_begins}
use Rattle.wy_work.proofs.machine.Machine.create.Goals as goal

pub returns : goal.returns
returns g c = record {
  goes = λ is_new. new_begins _ (standing g.R.Register.keeps g.R.Register.kept c.args.self.now) (standing g.R.Register.keeps g.R.Register.kept c.push_expr.new.self) c.initialize.result (standing g.R.Register.keeps g.R.Register.kept c.initialize.new.self) c.args.expr c.args.class c.args.site c.in_ok-push_expr.ensures is_new c.initialize.ensures.goes;
}
