use Rattle.std.proofs.Common.{Err}
use Rattle.std.proofs.lemmas.Result.{err_from_is_err_and}
use Rattle.wy_state.proofs.Onward.{onward_as}
use Rattle.wy_state.specs.Agrees.{itself}
use Rattle.wy_operation.proofs.Arrays.{array_halts, each_done, each_halts, each_next, each_of, none_of, subarray_goes, write_halts}
use Rattle.wy_operation.proofs.Kept.{around_after}
use Rattle.wy_operation.proofs.Runs.{answers_as, note_write_as, note_write_as_done}
use Rattle.wy_operation.proofs.array.+subarrays.Goals as goal

pub subarray-returns-in_err-array-clause-step : goal.subarray-returns-in_err-array-clause-step
subarray-returns-in_err-array-clause-step g t c p w is =
    let e = err_from_is_err_and c.from_residual.result c.from_residual.ensures.1 in
    rw (e.1, e.2) (array_halts p w _ _ _ _ _ _ _ c.natural_of-length.ensures _ _ c.in_err-array.field-0.0 (c.in_err-array.ensures.step p w _ is))

pub subarray-returns-in_err-note_write-clause-step : goal.subarray-returns-in_err-note_write-clause-step
subarray-returns-in_err-note_write-clause-step g t c p w is =
    let e = err_from_is_err_and c.from_residual-in_err-note_write.result c.from_residual-in_err-note_write.ensures.1 in
    rw (e.1, e.2) (write_halts p w _ _ _ _ _ _ _ c.natural_of-length.ensures _ _ _ (c.in_ok-array.ensures.step p w _ is) _ c.in_err-note_write.field-0.0
    (note_write_as p c.in_err-note_write.field-0.0 _ _ _ _ _ _ c.into_slot-draft.ensures.draft c.into_slot-draft.ensures.value (c.in_err-note_write.ensures.step p)))

pub subarray-returns-clause-step : goal.subarray-returns-clause-step
subarray-returns-clause-step g t c p w is =
    subarray_goes p w _ _ _ _ _ _ _ c.natural_of-length.ensures _ _ _ (c.in_ok-array.ensures.step p w _ is) _ _ _ _ c.subarrays.result c.element_type.ensures
    (note_write_as_done p _ _ _ _ _ _ _ c.into_slot-draft.ensures.draft c.into_slot-draft.ensures.value (c.in_ok-note_write.ensures.step p)) (c.subarrays.ensures.step p w is)

pub subarrays-returns-in_default-clause-step : goal.subarrays-returns-in_default-clause-step
subarrays-returns-in_default-clause-step g t c p w is = none_of p _ w _ _ _ _ _ c.in_default.ensures.cases

pub subarrays-returns-in_err-subarray-clause-step : goal.subarrays-returns-in_err-subarray-clause-step
subarrays-returns-in_err-subarray-clause-step g t c p w is =
    let e = err_from_is_err_and c.from_residual.result c.from_residual.ensures.1 in
    let same = each_of w c.args.site c.args.ty c.args.dims.now c.in-Some.rest.now c.in-Some.first.now c.args.parent c.args.count c.in-Some.ensures.cases.0 in
    rw (e.1, e.2) (answers_as p itself (Err c.in_err-subarray.field-0.0) _ _ _ _ same
    (each_halts p _ _ _ _ _ _ (c.loop-index.invariant.step p w is) _ c.in_err-subarray.field-0.0 c.loop-index-test.true (c.in_err-subarray.ensures.step p w is)))

pub subarrays-loop-index-preserved : goal.subarrays-loop-index-preserved
subarrays-loop-index-preserved g t c = record {
  step = λ p w is. each_next p _ _ _ _ _ _ (c.loop-index.invariant.step p w is) _ c.loop-index-test.true (c.in_ok-subarray.ensures.step p w is);
  around = around_after _ _ _ c.loop-index.invariant.around c.in_ok-subarray.ensures.around;
}

pub subarrays-returns-clause-step : goal.subarrays-returns-clause-step
subarrays-returns-clause-step g t c p w is =
    let same = each_of w c.args.site c.args.ty c.args.dims.now c.in-Some.rest.now c.in-Some.first.now c.args.parent c.args.count c.in-Some.ensures.cases.0 in
    onward_as same (each_done p _ _ _ _ _ _ (c.loop-index.invariant.step p w is) c.loop-index-test.false)
