use Rattle.wy_operation.proofs.Places.{field_fails, field_goes}
use Rattle.wy_operation.proofs.place.field_slot.Goals as goal

pub returns-in-Object-clause-step : goal.returns-in-Object-clause-step
returns-in-Object-clause-step g c p w is = field_goes p _ w _ _ _ _ _ c.in-Object.is

pub returns-in_default-clause-step : goal.returns-in_default-clause-step
returns-in_default-clause-step g c p w is = field_fails p _ w _ _ _ _ c.fail.result _ c.in_default.not-Object (c.fail.ensures.step p w _ is)
