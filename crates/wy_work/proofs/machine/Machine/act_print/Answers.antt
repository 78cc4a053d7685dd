use Rattle.std.proofs.Common.{refl, ◌∙◌, ap}
use Rattle.std.proofs.lemmas.Result.{err_from_is_err_and}
use Rattle.wy_kernel.specs.declared.form.StmtForm.TheVariants as form
use Rattle.wy_work.specs.Machines.{standing}
use Rattle.wy_work.proofs.Acts.{print_failed, print_went, print_part_is, within_goes}
use Rattle.wy_work.proofs.machine.Machine.act_print.Goals as goal

pub returns-in_ok-within-in-Some : goal.returns-in_ok-within-in-Some
returns-in_ok-within-in-Some g c = record { goes = λ p ty is. within_goes p (standing g.R.Register.keeps g.R.Register.kept c.args.self.now) (standing g.R.Register.keeps g.R.Register.kept c.within.new.self) _ _ c.in_ok-within-in-Some.ensures (print_part_is _ _ _ _ _ _ _ is c.in-Some.is refl) }

pub returns-in_err-print_nothing-in-None : goal.returns-in_err-print_nothing-in-None
returns-in_err-print_nothing-in-None g c = record {
  goes = λ p ty is.
      let h = err_from_is_err_and c.from_residual-in_err-print_nothing-in-None.result c.from_residual-in_err-print_nothing-in-None.ensures.1 in
      rw (h.1, h.2) (print_failed p (standing g.R.Register.keeps g.R.Register.kept c.args.self.now) _ c.args.stmt.now ty _ _ _ (is ∙ ap (λ o. form.Print o ty c.args.ends_line c.args.site) c.in-None.is) (c.in_err-print_nothing-in-None.ensures.step p) c.in_err-print_nothing-in-None.ensures.around);
}

pub returns-in_ok-print_nothing-in-None : goal.returns-in_ok-print_nothing-in-None
returns-in_ok-print_nothing-in-None g c = record {
  goes = λ p ty is. print_went p (standing g.R.Register.keeps g.R.Register.kept c.args.self.now) _ c.args.stmt.now ty _ _ _ (is ∙ ap (λ o. form.Print o ty c.args.ends_line c.args.site) c.in-None.is) (c.in_ok-print_nothing-in-None.ensures.step p) c.in_ok-print_nothing-in-None.ensures.around c.clear.ensures;
}
