use Rattle.wy_state.proofs.Slots.{type_goes, text_type_goes, fixed_type_goes, other_type_goes}
use Rattle.wy_state.proofs.state.State.type_of.Goals as goal

pub returns-in-Some : goal.returns-in-Some
returns-in-Some g c p = rw c.in-Object.is (type_goes p _ _ _ _ c.in-Some.ensures c.type_of_code.ensures)

pub returns-in-Text : goal.returns-in-Text
returns-in-Text g c p = rw c.in-Text.is (text_type_goes p _ _)

pub returns-in-Fixed : goal.returns-in-Fixed
returns-in-Fixed g c p = rw c.in-Fixed.is (fixed_type_goes p _ _)

pub returns-in_default : goal.returns-in_default
returns-in_default g c p = other_type_goes p _ _ c.in_default.not-Object c.in_default.not-Text c.in_default.not-Fixed
