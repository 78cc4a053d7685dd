use Rattle.std.proofs.lemmas.Result.{err_from_is_err_and}
use Rattle.wy_operation.proofs.Places.{store_goes, store_halts}
use Rattle.wy_operation.proofs.place.store.Goals as goal

pub returns-in_err-check_store-clause-step : goal.returns-in_err-check_store-clause-step
returns-in_err-check_store-clause-step g c w o is =
    let e = err_from_is_err_and c.from_residual.result c.from_residual.ensures.1 in
    rw (e.1, e.2) (store_halts _ _ w is _ _ _ _ o _ c.in_err-check_store.field-0.0 (c.in_err-check_store.ensures.step w o is))

pub returns-clause-step : goal.returns-clause-step
returns-clause-step g c w o is = store_goes _ _ w is _ _ _ _ o _ _ c.assign.result (c.in_ok-check_store.ensures.step w o is) (c.assign.ensures.step _ o)
