use Rattle.std.proofs.Common.{add-one, ap, sym, ◌∙◌, Some}
use Rattle.wy_kernel.specs.Parts.{program_of}
use Rattle.wy_kernel.specs.Program as kernel
use Rattle.wy_operands.specs.Values.{at, last_many}
use Rattle.wy_work.specs.Machines.{standing}
use Rattle.wy_work.proofs.Bodies.{bound_receiver, called_on, constructed_on, one_under}
use Rattle.wy_work.proofs.machine.Machine.call_on.Goals as goal

pub returns-in-Constructor : goal.returns-in-Constructor
returns-in-Constructor g c = record {
  goes =
      let p = program_of c.args.on.now.program.now in
      let m = standing g.R.Register.keeps g.R.Register.kept c.args.self.now in
      let object = at c.args.count m.values in
      one_under p m (standing g.R.Register.keeps g.R.Register.kept c.call.new.self) c.call.result _ _ c.args.count (add-one c.args.count)
      (c.call.ensures.goes (Some object) (last_many c.args.count m.values) (bound_receiver _ c.args.count m.values (add-one c.args.count)) (constructed_on _ (Some object) (ap (λ (z : kernel.Method). z.form) (sym c.method.ensures) ∙ c.in-Constructor.is)));
}

pub returns-in_default : goal.returns-in_default
returns-in_default g c = record {
  goes =
      let p = program_of c.args.on.now.program.now in
      let m = standing g.R.Register.keeps g.R.Register.kept c.args.self.now in
      let object = at c.args.count m.values in
      one_under p m (standing g.R.Register.keeps g.R.Register.kept c.call-in_default.new.self) c.call-in_default.result _ _ c.args.count (add-one c.args.count)
      (c.call-in_default.ensures.goes (Some object) (last_many c.args.count m.values) (bound_receiver _ c.args.count m.values (add-one c.args.count)) (called_on _ object (λ is. c.in_default.not-Constructor (ap (λ (z : kernel.Method). z.form) c.method.ensures ∙ is))));
}
