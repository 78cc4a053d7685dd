use Rattle.std.proofs.Common.{◌∙◌, ap, sym}
use Rattle.wy_kernel.specs.Program.{fixed_text}
use Rattle.wy_state.proofs.Slots.{text_goes, fixed_goes, nothing_goes}
use Rattle.wy_state.proofs.state.State.units_of.Goals as goal

pub returns-in-Some : goal.returns-in-Some
returns-in-Some g c w same = rw c.in-Text.is (text_goes _ _ w _ _ c.in-Some.ensures)

pub returns-else-number-len : goal.returns-else-number-len
returns-else-number-len g c w same = rw c.in-Fixed.is (fixed_goes _ _ w _ _ (c.fixed_text.ensures ∙ ap (λ p. fixed_text p c.in-Fixed.number) (sym same)))

pub returns-in_default : goal.returns-in_default
returns-in_default g c w same = nothing_goes _ _ w _ c.in_default.not-Text c.in_default.not-Fixed
