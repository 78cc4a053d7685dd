use Rattle.wy_state.specs.Seen.{made_of}
use Rattle.wy_operation.proofs.Arrays.{element_is}
use Rattle.wy_operation.proofs.Runs.{answers_as, written_as}
use Rattle.wy_operation.proofs.array.set_element.Goals as goal

pub returns-clause-step : goal.returns-clause-step
returns-clause-step g c p v value uses =
    answers_as p made_of c.note_write.result _ _ _ _ (element_is _ _ _ v _ _ value uses)
    (written_as p c.note_write.result _ _ _ _ _ _ c.into_slot.ensures.draft c.into_slot.ensures.value (c.note_write.ensures.step p))
