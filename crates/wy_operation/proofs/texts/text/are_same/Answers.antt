use Rattle.std.proofs.Common.{◌∙◌, sym}
use Rattle.wy_operation.proofs.TextForms.{same_goes, same_is}
use Rattle.wy_operation.proofs.texts.text.are_same.Goals as goal

pub returns-then-is_text : goal.returns-then-is_text
returns-then-is_text g c w is =
    let both = same_is c.in_ok-first.first.now c.in_ok-second.second.now c.same.result c.same.ensures in
    same_goes _ w _ _ _ _ _ _ (c.in_ok-first.ensures w is) (c.in_ok-second.ensures w is) (rw (sym c.is_text.ensures ∙ c.if-is_text.true) both)

pub returns-else-is_text : goal.returns-else-is_text
returns-else-is_text g c w is =
    same_goes _ w _ _ _ _ _ _ (c.in_ok-first.ensures w is) (c.in_ok-second.ensures w is) (rw (sym c.is_text.ensures ∙ c.if-is_text.false) c.if-is_text.false)
