use Rattle.std.proofs.Common.{◌≡◌, ◌-◌, ◌<◌, ◌/◌, ◌%◌, arith, sym, ap, ◌∙◌}
use Rattle.wy_kernel.specs.Program.{base_of, element_type, type_of_code}
use Rattle.wy_kernel.specs.declared.types.Ty.TheVariants.{Of}
use Rattle.wy_steps.specs.Steps.{default_value}
use Rattle.wy_heap.proofs.Firsts.{longer}
use Rattle.wy_heap.proofs.first.first_of_element.Goals as goal

pub returns-then-code-le1 : goal.returns-then-code-le1
unfolding element_type type_of_code
returns-then-code-le1 c =
    let none_left : c.args.code / 16777216 - 1 ≡ 0 = omega arith in
    c.first_of_base.ensures ∙ ap (λ b. default_value (Of b 0)) c.base_of.ensures ∙ ap (λ n. default_value (Of (base_of (c.args.code % 16777216)) n)) (sym none_left)

pub returns-else-code-le1 : goal.returns-else-code-le1
unfolding element_type type_of_code
returns-else-code-le1 c =
    let some_left : 0 < c.args.code / 16777216 - 1 = omega arith in
    sym (longer (base_of (c.args.code % 16777216)) (c.args.code / 16777216 - 1) some_left)
