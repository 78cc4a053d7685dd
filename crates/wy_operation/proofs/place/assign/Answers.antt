use Rattle.wy_operation.proofs.Places.{assign_goes}
use Rattle.wy_operation.proofs.Runs.{written_as}
use Rattle.wy_operation.proofs.place.assign.Goals as goal

pub returns-clause-step : goal.returns-clause-step
returns-clause-step g c p o =
    assign_goes p _ _ _ _ _ _ o c.note_write.result (written_as p c.note_write.result _ _ _ _ _ _ c.into_slot.ensures.draft c.into_slot.ensures.value (c.note_write.ensures.step p))
