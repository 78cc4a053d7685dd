use Rattle.std.proofs.Common.{◌≡◌, ◌∙◌, ap, refl, subst, sym, Some}
use Rattle.std.specs.Prelude.{slice_get}
use Rattle.wy_kernel.specs.Program.{class_of_type}
use Rattle.wy_state.specs.Agrees.{shape}
use Rattle.wy_machine.specs.Ended.{last_thrown}
use Rattle.wy_machine.proofs.Throws.{none_thrown, thrown_is}
use Rattle.wy_machine.proofs.thrown.thrown.Goals as goal

pub returns : goal.returns
returns g c p s a =
    let found = c.in-Some-find.ensures {u = tt} in
    let at : slice_get c.args.state.now.throws.items found.1.0 ≡ Some c.in-Some-find.throw = subst (λ ts. slice_get ts found.1.0 ≡ Some c.in-Some-find.throw) c.as_slice.ensures.value found.1.1 in
    thrown_is p (shape g.R.Register.keeps g.R.Register.kept c.args.state.now) s a c.args.state.now.throws.items refl found.1.0 c.in-Some-find.throw at c.in-Object.number c.in-Some-type_code.code c.class_of_type-class.result c.in-Object.is
    (sym c.type_code.ensures ∙ c.in-Some-type_code.is) (c.class_of_type-class.ensures ∙ ap class_of_type c.type_of_code.ensures) c.if-class.false c.if-throw.false
    ∙ ap (last_thrown s) (ap Some found.0 ∙ sym c.in-Some.is)

pub returns-in_default : goal.returns-in_default
returns-in_default g c p s a = none_thrown s c.args.last c.in_default.is
