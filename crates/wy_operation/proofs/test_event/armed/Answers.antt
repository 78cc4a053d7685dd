use Rattle.std.proofs.lemmas.Result.{err_from_is_err_and}
use Rattle.wy_operation.proofs.Endings.{armed_goes, armed_halts}
use Rattle.wy_operation.proofs.Runs.{note_as, note_as_done}
use Rattle.wy_operation.proofs.test_event.armed.Goals as goal

pub returns-in_err-event-clause-step : goal.returns-in_err-event-clause-step
returns-in_err-event-clause-step g c p v =
    let e = err_from_is_err_and c.from_residual.result c.from_residual.ensures.1 in
    rw (e.1, e.2) (armed_halts _ _ _ v _ p _ _ c.in_err-event.field-0.0 (note_as p c.in_err-event.field-0.0 _ _ _ _ _ _ c.plain.ensures.draft c.plain.ensures.value (c.in_err-event.ensures.step p)))

pub returns-clause-step : goal.returns-clause-step
returns-clause-step g c p v =
    armed_goes _ _ _ v _ p _ _ _ _ (note_as_done p _ _ _ _ _ _ _ c.plain.ensures.draft c.plain.ensures.value (c.in_ok-event.ensures.step p)) (c.in_ok-activate_through.ensures.step p)
