use Rattle.std.proofs.Common.{sym}
use Rattle.wy_operation.proofs.Places.{element_goes, element_null, element_out}
use Rattle.wy_operation.proofs.place.element_slot.Goals as goal

pub returns-in_default-clause-step : goal.returns-in_default-clause-step
returns-in_default-clause-step g c p w o is = element_null p _ w _ _ _ _ o _ c.fail.result c.in_default.not-Object (c.fail.ensures.step p w _ is)

pub returns-in-Some-clause-step : goal.returns-in-Some-clause-step
returns-in-Some-clause-step g c p w o is = element_goes p _ w _ _ _ _ o _ _ c.in-Object.is (c.in_ok-length.ensures p) _ (sym c.in-Some.ensures)

pub returns-in-None-clause-step : goal.returns-in-None-clause-step
returns-in-None-clause-step g c p w o is = element_out p _ w _ _ _ _ o _ _ c.in-Object.is (c.in_ok-length.ensures p) _ c.fail-in-None.result (sym c.in-None.ensures) (c.fail-in-None.ensures.step p w _ is)
