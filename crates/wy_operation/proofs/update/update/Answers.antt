use Rattle.std.proofs.lemmas.Result.{err_from_is_err_and}
use Rattle.wy_operation.proofs.Updates.{stored, update_fails, update_goes, update_halts}
use Rattle.wy_operation.proofs.update.update.Goals as goal

pub returns-in-ByZero-clause-step : goal.returns-in-ByZero-clause-step
returns-in-ByZero-clause-step g c p w o is = update_fails p w _ _ _ _ _ _ _ _ _ o _ _ c.fail.result c.in-ByZero.ensures (c.fail.ensures.step p w _ is)

pub returns-in_err-event-clause-step : goal.returns-in_err-event-clause-step
returns-in_err-event-clause-step g c p w o is =
    let e = err_from_is_err_and c.from_residual.result c.from_residual.ensures.1 in
    let at = stored p w c.args.form.op c.args.form.ty c.args.form.wide c.args.form.site _ _ _ _ _ o _ _ c.in-Value.ensures c.in-Some.ensures in
    rw (e.1, e.2) (update_halts p w _ _ _ _ _ _ _ _ _ o _ _ c.in-Value.ensures c.in-Some.ensures _ _ c.in_err-event.field-0.0 (c.in_err-event.ensures.step p at))

pub returns-clause-step : goal.returns-clause-step
returns-clause-step g c p w o is =
    let at = stored p w c.args.form.op c.args.form.ty c.args.form.wide c.args.form.site _ _ _ _ _ o _ _ c.in-Value.ensures c.in-Some.ensures in
    update_goes p w _ _ _ _ _ _ _ _ _ o _ _ c.in-Value.ensures c.in-Some.ensures _ _ _ (c.in_ok-event.ensures.step p at)
