use Rattle.std.proofs.Common.{◌∙◌, ap, sym}
use Rattle.wy_kernel.specs.Table.{constant_value}
use Rattle.wy_elab_expr.specs.Meaning.{Known}
use Rattle.wy_elab_expr.specs.Operators.{cast_known}
use Rattle.wy_elab_expr.specs.Views.{meaning_of}
use Rattle.wy_elab_expr.proofs.Primitives.{primitive_is}
use Rattle.wy_elab_expr.proofs.cast.cast_known.Goals as goal

pub returns-in-Some-Known : goal.returns-in-Some-Known
returns-in-Some-Known c =
    let w = c.in-Some-Known in
    c.number_of.ensures w.token-1
    ∙ ap (λ z. cast_known z (Known (constant_value w.value) w.token-1)) (sym (primitive_is c.args.ty w.p w.ensures))
    ∙ ap (λ z. cast_known c.args.ty (meaning_of z)) (sym w.is-1)
