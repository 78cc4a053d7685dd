use Rattle.std.proofs.lemmas.Result.{err_from_is_err_and}
use Rattle.wy_state.specs.Seen.{made_of}
use Rattle.wy_state.proofs.Records.{plain_goes, plain_refused}
use Rattle.wy_state.proofs.state.State.note.Goals as goal

pub returns-in_err-number-clause-step : goal.returns-in_err-number-clause-step
returns-in_err-number-clause-step g c p =
    let e = err_from_is_err_and c.from_residual.result c.from_residual.ensures.1 in
    rw (e.1, e.2) (plain_refused p _ _ c.args.draft _ made_of c.in_err-number.field-0.0 (c.in_err-number.ensures {u = tt}).recorded)

pub returns-clause-step : goal.returns-clause-step
returns-clause-step g c p = plain_goes p _ _ c.args.draft _ _ c.new.ensures.items _ (c.in_ok-number.ensures {u = tt}).recorded (c.is_init.ensures c.if-is_init.false)
