use Rattle.std.proofs.lemmas.Result.{err_from_is_err_and}
use Rattle.wy_operation.proofs.Binds.{bind_done, bind_halts, bind_next}
use Rattle.wy_operation.proofs.Kept.{around_after}
use Rattle.wy_operation.proofs.binding.bind_all.Goals as goal

pub returns-in_err-bind-clause-step : goal.returns-in_err-bind-clause-step
returns-in_err-bind-clause-step g c p =
    let e = err_from_is_err_and c.from_residual.result c.from_residual.ensures.1 in
    rw (e.1, e.2) (bind_halts p _ _ _ _ _ _ _ (c.loop-index.invariant.step p) _ _ _ c.in-Ok.ensures.1 c.loop-index-test.true c.in_err-bind.field-0.0 (c.in_err-bind.ensures.step p))

pub loop-index-preserved : goal.loop-index-preserved
loop-index-preserved g c = record {
  step = λ p. bind_next p _ _ _ _ _ _ _ (c.loop-index.invariant.step p) _ _ _ c.in-Ok.ensures.1 c.loop-index-test.true _ (c.in_ok-bind.ensures.step p);
  around = around_after _ _ _ c.loop-index.invariant.around c.in_ok-bind.ensures.around;
}

pub returns-clause-step : goal.returns-clause-step
returns-clause-step g c p = bind_done p _ _ _ _ _ _ _ (c.loop-index.invariant.step p) c.loop-index-test.false
