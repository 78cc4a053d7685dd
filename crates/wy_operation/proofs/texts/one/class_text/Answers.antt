use Rattle.std.proofs.Common.{◌∙◌, ap, sym}
use Rattle.wy_meaning.specs.Library.{type_name}
use Rattle.wy_operation.proofs.Arguments.{class_named}
use Rattle.wy_operation.proofs.texts.one.class_text.Goals as goal

pub returns-clause-step : goal.returns-clause-step
returns-clause-step g c w own is =
    class_named _ w _ _ _ own _ _ c.made_text.result _ (c.in_ok-ty.ensures _) _ (c.in_ok-units.ensures ∙ ap (λ p. type_name p c.in_ok-ty.ty) (sym is)) (c.made_text.ensures.step _ _)
