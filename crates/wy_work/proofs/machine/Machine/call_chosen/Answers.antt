use Rattle.std.proofs.Common.{suc}
use Rattle.wy_kernel.specs.Parts.{program_of}
use Rattle.wy_operands.specs.Values.{at, last_many, under_many}
use Rattle.wy_work.specs.Machines.{standing}
use Rattle.wy_work.proofs.Runs.{turned_after}
use Rattle.wy_work.proofs.Choices.{chosen_first}
use Rattle.wy_work.proofs.machine.Machine.call_chosen.Goals as goal

pub returns : goal.returns
returns g c = record {
  goes =
      let p = program_of c.args.on.now.program.now in
      let m = standing g.R.Register.keeps g.R.Register.kept c.args.self.now in
      let q = standing g.R.Register.keeps g.R.Register.kept c.call_on.new.self in
      turned_after p m.state m q _ _ c.call_on.result _ (chosen_first p m (under_many (suc c.args.count) m.values) (last_many c.args.count m.values) c.args.site c.args.method (at c.args.count m.values) _ _ _ _ c.value_at.ensures (c.in_ok-type_of.ensures p) c.class_of_type-class.ensures c.dispatch-chosen.ensures) c.call_on.ensures.goes;
}
