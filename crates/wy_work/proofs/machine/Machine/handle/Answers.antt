use Rattle.std.proofs.Common.{◌∙◌, ap, option_map}
use Rattle.std.specs.Borrow.{Bor}
use Rattle.wy_kernel.specs.declared.form.Catch.{Catch}
use Rattle.wy_kernel.specs.Parts.{program_of}
use Rattle.wy_operation.specs.Clauses.{taking}
use Rattle.wy_work.specs.Machines.{standing}
use Rattle.wy_work.proofs.Handlers.{passes, thrown_caught, thrown_on}
use Rattle.wy_work.proofs.machine.Machine.handle.Goals as goal

pub returns-in_default-why : goal.returns-in_default-why
returns-in_default-why g c = record { goes = passes (program_of c.args.on.now.program.now) (standing g.R.Register.keeps g.R.Register.kept c.args.self.now) c.args.stmt _ _ _ c.in-Try.is c.args.why c.in_default-why.not-Threw }

pub returns-in-Some : goal.returns-in-Some
returns-in-Some g c = record {
  goes =
      let p = program_of c.args.on.now.program.now in
      let m = standing g.R.Register.keeps g.R.Register.kept c.args.self.now in
      thrown_caught p m c.args.stmt _ _ _ c.in-Try.is c.args.why _ _ c.in-Threw.is _ c.class_of_type-class.result _ (c.in_ok-type_of.ensures p) c.class_of_type-class.ensures
      (c.in_ok-clause.ensures ∙ ap (λ xs. taking p xs c.class_of_type-class.result) c.as_slice.ensures.value) c.in-Some.clause.now (standing g.R.Register.keeps g.R.Register.kept c.caught.new.self) c.caught.result (ap (option_map (λ (x : Bor Catch). x.now)) c.in-Some.is) (c.caught.ensures.goes p);
}

pub returns-in-None : goal.returns-in-None
returns-in-None g c = record {
  goes =
      let p = program_of c.args.on.now.program.now in
      let m = standing g.R.Register.keeps g.R.Register.kept c.args.self.now in
      thrown_on p m c.args.stmt _ _ _ c.in-Try.is c.args.why _ _ c.in-Threw.is _ c.class_of_type-class.result _ (c.in_ok-type_of.ensures p) c.class_of_type-class.ensures
      (c.in_ok-clause.ensures ∙ ap (λ xs. taking p xs c.class_of_type-class.result) c.as_slice.ensures.value) (ap (option_map (λ (x : Bor Catch). x.now)) c.in-None.is);
}
