use Rattle.std.proofs.Common.{◌∙◌, ap}
use Rattle.wy_kernel.specs.declared.form.StmtForm.TheVariants as form
use Rattle.wy_work.specs.Tasks.{pushed}
use Rattle.wy_work.specs.Machines.{standing}
use Rattle.wy_work.proofs.Acts.{try_goes, finally_goes}
use Rattle.wy_work.proofs.machine.Machine.act_try.Goals as goal

pub returns-in_ok-push_stmt-in-None-2 : goal.returns-in_ok-push_stmt-in-None-2
returns-in_ok-push_stmt-in-None-2 g c = record {
  goes = λ p is. try_goes p (standing g.R.Register.keeps g.R.Register.kept c.args.self.now) (standing g.R.Register.keeps g.R.Register.kept c.push_stmt-in-None.new.self) c.args.stmt is.main is.catches c.args.first is.same (is.is ∙ ap (form.Try is.main is.catches) c.in-None.is) (c.in_ok-push_stmt-in-None-2.ensures ∙ ap (pushed _) c.in_ok-push_stmt-in-None.ensures);
}

pub returns-in_ok-push_stmt-in-Some-3 : goal.returns-in_ok-push_stmt-in-Some-3
returns-in_ok-push_stmt-in-Some-3 g c = record {
  goes = λ p is. finally_goes p (standing g.R.Register.keeps g.R.Register.kept c.args.self.now) (standing g.R.Register.keeps g.R.Register.kept c.push_stmt-in-Some-3.new.self) c.args.stmt is.main is.catches c.args.first is.same _ (is.is ∙ ap (form.Try is.main is.catches) c.in-Some.is) (c.in_ok-push_stmt-in-Some-3.ensures ∙ ap (pushed _) (c.in_ok-push_stmt-in-Some-2.ensures ∙ ap (pushed _) c.in_ok-push_stmt-in-Some.ensures));
}
