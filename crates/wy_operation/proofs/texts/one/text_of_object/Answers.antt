use Rattle.std.proofs.Common.{◌∙◌, ◌++◌, ap₂, codes, sym}
use Rattle.wy_meaning.specs.Library.{hexadecimal, type_name}
use Rattle.wy_operation.proofs.Arguments.{object_named}
use Rattle.wy_operation.proofs.texts.one.text_of_object.Goals as goal

pub returns-clause-step : goal.returns-clause-step
returns-clause-step g c w own is =
    object_named _ w _ _ _ own _ _ c.made_text.result _ (c.in_ok-ty.ensures _) _
    (c.in_ok-units.ensures ∙ ap₂ (λ p n. type_name p c.in_ok-ty.ty ++ codes "@" ++ hexadecimal n) (sym is) c.number_of_object.ensures) (c.made_text.ensures.step _ _)
