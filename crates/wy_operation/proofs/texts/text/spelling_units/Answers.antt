use Rattle.std.proofs.Common.{◌∙◌, sym}
use Rattle.wy_operation.proofs.TextForms.{plain_spelled, text_spelled}
use Rattle.wy_operation.proofs.texts.text.spelling_units.Goals as goal

pub returns-then-not-is_text : goal.returns-then-not-is_text
returns-then-not-is_text g c w is = plain_spelled w _ _ _ _ (sym c.is_text.ensures ∙ c.if-not-is_text.true) c.in_ok-plain_text.ensures

pub returns : goal.returns
returns g c w is = text_spelled w _ _ _ _ _ (sym c.is_text.ensures ∙ c.if-not-is_text.false) c.in_ok-from_slice.ensures.items (c.in_ok-units.ensures w is)
