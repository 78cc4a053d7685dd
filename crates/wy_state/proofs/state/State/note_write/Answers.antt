use Rattle.std.proofs.lemmas.Result.{err_from_is_err_and}
use Rattle.wy_steps.specs.State.{return, ◌>>=◌, go_on}
use Rattle.wy_state.specs.Seen.{made_of}
use Rattle.wy_state.proofs.Onward.{onward_as, onward_then, onward_bind, answers_after}
use Rattle.wy_state.proofs.Records.{note_write_is}
use Rattle.wy_state.proofs.state.State.note_write.Goals as goal

pub returns-in_err-number-clause-step : goal.returns-in_err-number-clause-step
returns-in_err-number-clause-step g c p =
    let e = err_from_is_err_and c.from_residual.result c.from_residual.ensures.1 in
    rw (e.1, e.2) (answers_after p _ _ _ made_of made_of _ _ c.in_err-number.field-0.0 (note_write_is _ _) ((c.in_err-number.ensures {u = tt}).step p))

pub returns-clause-step : goal.returns-clause-step
unfolding return ◌>>=◌ go_on
returns-clause-step g c p =
    onward_as (note_write_is _ _)
    (onward_then (onward_bind _ ((c.in_ok-number.ensures {u = tt}).step p)) (onward_bind (λ _. return (made_of c.in_ok-number.number)) ((c.in_ok-put.ensures {u = tt}).step p)))
