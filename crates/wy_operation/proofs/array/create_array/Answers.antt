use Rattle.std.proofs.Common.{◌∙◌, sym, ap, map}
use Rattle.std.proofs.lemmas.Result.{err_from_is_err_and}
use Rattle.wy_operation.specs.Operands.{carried}
use Rattle.wy_operation.proofs.Arrays.{create_fails, create_goes, inner_halts, outer_halts}
use Rattle.wy_operation.proofs.array.create_array.Goals as goal

pub returns-then-any_negative-clause-step : goal.returns-then-any_negative-clause-step
returns-then-any_negative-clause-step g c p w all is = create_fails p w _ _ _ _ _ c.fail.result _ all (sym c.any_negative.ensures ∙ c.if-any_negative.true) (c.fail.ensures.step p w _ is)

pub returns-in_err-array-clause-step : goal.returns-in_err-array-clause-step
returns-in_err-array-clause-step g c p w all is =
    let e = err_from_is_err_and c.from_residual.result c.from_residual.ensures.1 in
    rw (e.1, e.2) (outer_halts p w _ _ _ _ _ _ (ap (map carried) c.in-Some.ensures.cases.0) (sym c.any_negative.ensures ∙ c.if-any_negative.false) c.natural_of-length.ensures _ _ c.in_err-array.field-0.0 (c.in_err-array.ensures.step p w _ is))

pub returns-in_err-subarrays-clause-step : goal.returns-in_err-subarrays-clause-step
returns-in_err-subarrays-clause-step g c p w all is =
    let e = err_from_is_err_and c.from_residual-in_err-subarrays.result c.from_residual-in_err-subarrays.ensures.1 in
    rw (e.1, e.2) (inner_halts p w _ _ _ _ _ _ (ap (map carried) c.in-Some.ensures.cases.0) (sym c.any_negative.ensures ∙ c.if-any_negative.false) c.natural_of-length.ensures _ _ _ _ _ c.element_type.ensures (c.in_ok-array.ensures.step p w _ is) c.in_err-subarrays.field-0.0 (c.in_err-subarrays.ensures.step p w is))

pub returns-clause-step : goal.returns-clause-step
returns-clause-step g c p w all is =
    create_goes p w _ _ _ _ _ _ (ap (map carried) c.in-Some.ensures.cases.0) (sym c.any_negative.ensures ∙ c.if-any_negative.false) c.natural_of-length.ensures _ _ _ _ _ c.element_type.ensures (c.in_ok-array.ensures.step p w _ is) (c.in_ok-subarrays.ensures.step p w is)
