use Rattle.std.proofs.Common.{ap}
use Rattle.wy_kernel.specs.Parts.{program_of}
use Rattle.wy_kernel.specs.Program as kernel
use Rattle.wy_kernel.specs.declared.form.CallForm.TheVariants as form
use Rattle.wy_work.specs.Machines.{standing}
use Rattle.wy_work.proofs.CallForms.{received_form, static_form}
use Rattle.wy_work.proofs.machine.Machine.call_form.Goals as goal

pub returns-in_ok-push_expr-in-Static-default : goal.returns-in_ok-push_expr-in-Static-default
returns-in_ok-push_expr-in-Static-default g c = record {
  goes = static_form (program_of c.args.on.now.program.now) (standing g.R.Register.keeps g.R.Register.kept c.args.self.now) (standing g.R.Register.keeps g.R.Register.kept c.initialize.new.self) c.initialize.result c.args.expr _ _ _ _ _ _ (standing g.R.Register.keeps g.R.Register.kept c.push_expr.new.self) _ c.in-Call.is c.in-Static-default.is-0 c.in_ok-push_expr-in-Static-default.ensures (ap (λ (z : kernel.Method). z.class) c.method.ensures) c.initialize.ensures.goes;
}

pub returns-in-Direct-Some : goal.returns-in-Direct-Some
returns-in-Direct-Some g c = record {
  goes = received_form (program_of c.args.on.now.program.now) (standing g.R.Register.keeps g.R.Register.kept c.args.self.now) (standing g.R.Register.keeps g.R.Register.kept c.call_direct.new.self) c.call_direct.result c.args.expr _ _ _ _ _ _ form.Direct _ _ c.in-Call.is c.in-Direct-Some.is-0 tt c.in-Direct-Some.is-1 c.len-in-Direct-Some.ensures c.call_direct.ensures.goes;
}

pub returns-in-Chosen-Some : goal.returns-in-Chosen-Some
returns-in-Chosen-Some g c = record {
  goes = received_form (program_of c.args.on.now.program.now) (standing g.R.Register.keeps g.R.Register.kept c.args.self.now) (standing g.R.Register.keeps g.R.Register.kept c.call_by_class.new.self) c.call_by_class.result c.args.expr _ _ _ _ _ _ form.Chosen _ _ c.in-Call.is c.in-Chosen-Some.is-0 tt c.in-Chosen-Some.is-1 c.len-in-Chosen-Some.ensures c.call_by_class.ensures.goes;
}
