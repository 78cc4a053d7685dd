use Rattle.wy_operation.proofs.Exceptions.{throw_goes, throw_halts}
use Rattle.wy_operation.proofs.Runs.{note_as, note_as_done}
use Rattle.wy_operation.proofs.exception.throwing.Goals as goal

pub returns-in-Ok-clause-step : goal.returns-in-Ok-clause-step
returns-in-Ok-clause-step g c p =
    throw_goes p _ _ _ _ _ _ (note_as_done p _ _ _ _ _ _ _ c.plain-draft.ensures.draft c.plain-draft.ensures.value (c.in-Ok.ensures.step p))

pub returns-in-Err-clause-step : goal.returns-in-Err-clause-step
returns-in-Err-clause-step g c p =
    throw_halts p _ _ _ _ _ _ (note_as p c.in-Err.why _ _ _ _ _ _ c.plain-draft.ensures.draft c.plain-draft.ensures.value (c.in-Err.ensures.step p))
