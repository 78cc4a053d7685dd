use Rattle.std.proofs.Common.{◌≡◌, ◌∙◌, IfOk, sym, ap, arith, subst}
use Rattle.wy_kernel.specs.Parts.{program_of}
use Rattle.wy_kernel.specs.Program.{base_below, is_below}
use Rattle.wy_kernel.specs.declared.types.Ty.TheVariants.{Of}
use Rattle.wy_state.proofs.Lying.{as_many_brackets, fewer_brackets, more_brackets}
use Rattle.wy_state.proofs.below.is_below.Goals as goal

pub returns-then-m-n : goal.returns-then-m-n
returns-then-m-n c = rw (c.in-Of.is, c.in-Of-ty.is) (c.is_object.ensures ∙ sym (more_brackets (program_of c.args.program.now) c.in-Of.a c.in-Of-ty.b c.in-Of.m c.in-Of-ty.n (omega arith)))

pub returns-then-m-n-2 : goal.returns-then-m-n-2
returns-then-m-n-2 c = rw (c.in-Of.is, c.in-Of-ty.is) (sym (fewer_brackets (program_of c.args.program.now) c.in-Of.a c.in-Of-ty.b c.in-Of.m c.in-Of-ty.n (omega arith)))

pub returns : goal.returns
returns c =
    let p = program_of c.args.program.now in
    let same : c.in-Of.m ≡ c.in-Of-ty.n = omega arith in
    let is : base_below (program_of c.args.program.now) c.in-Of.a c.in-Of-ty.b ≡ is_below (program_of c.args.program.now) (Of c.in-Of.a c.in-Of.m) (Of c.in-Of-ty.b c.in-Of-ty.n) =
    sym (as_many_brackets p c.in-Of.a c.in-Of-ty.b c.in-Of.m) ∙ ap (λ k. is_below (program_of c.args.program.now) (Of c.in-Of.a c.in-Of.m) (Of c.in-Of-ty.b k)) same in
    rw (c.in-Of.is, c.in-Of-ty.is) (subst (λ x. IfOk c.is_base_below.result (λ b. b ≡ x)) is c.is_base_below.ensures)
