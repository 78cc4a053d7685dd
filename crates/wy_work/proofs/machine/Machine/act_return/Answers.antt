use Rattle.std.proofs.Common.{refl, ◌∙◌, ap}
use Rattle.wy_kernel.specs.declared.form.StmtForm.TheVariants as form
use Rattle.wy_work.specs.Machines.{standing}
use Rattle.wy_work.proofs.Acts.{returned, return_part_is, within_goes}
use Rattle.wy_work.proofs.machine.Machine.act_return.Goals as goal

pub returns-in_ok-within-in-Some : goal.returns-in_ok-within-in-Some
returns-in_ok-within-in-Some g c = record { goes = λ p is. within_goes p (standing g.R.Register.keeps g.R.Register.kept c.args.self.now) (standing g.R.Register.keeps g.R.Register.kept c.within.new.self) _ _ c.in_ok-within-in-Some.ensures (return_part_is _ _ _ _ is c.in-Some.is refl) }

pub returns-in-None : goal.returns-in-None
returns-in-None g c = record { goes = λ p is. returned p (standing g.R.Register.keeps g.R.Register.kept c.args.self.now) _ c.args.stmt.now _ (is ∙ ap form.Return c.in-None.is) (c.return_value.ensures.step p) c.return_value.ensures.around }
