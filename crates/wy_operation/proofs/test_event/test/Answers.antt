use Rattle.std.proofs.lemmas.Result.{err_from_is_err_and}
use Rattle.wy_operation.proofs.Endings.{tested_goes, tested_halts}
use Rattle.wy_operation.proofs.test_event.test.Goals as goal

pub returns-in_err-armed-clause-step : goal.returns-in_err-armed-clause-step
returns-in_err-armed-clause-step g c p =
    let e = err_from_is_err_and c.from_residual.result c.from_residual.ensures.1 in
    rw (e.1, e.2) (tested_halts _ _ _ _ p _ _ _ _ c.in_err-armed.field-0.0 c.is_true-holds.ensures c.arm_of_truth.ensures (c.in_err-armed.ensures.step p _))

pub returns-clause-step : goal.returns-clause-step
returns-clause-step g c p =
    tested_goes _ _ _ _ p _ _ _ _ c.is_true-holds.ensures c.arm_of_truth.ensures (c.in_ok-armed.ensures.step p _)
