use Rattle.std.proofs.Common.{◌∙◌, ◌++◌, ap}
use Rattle.std.proofs.lemmas.Result.{err_from_is_err_and}
use Rattle.wy_value.specs.declared.value.Value.TheVariants.{None as Nothing}
use Rattle.wy_operation.proofs.TextForms.{joins, left_halts, right_halts}
use Rattle.wy_operation.proofs.texts.text.join_texts.Goals as goal

pub returns-in_err-units-clause-step : goal.returns-in_err-units-clause-step
returns-in_err-units-clause-step g c w o is =
    let e = err_from_is_err_and c.from_residual.result c.from_residual.ensures.1 in
    rw (e.1, e.2) (left_halts _ w _ _ _ _ _ _ o c.in_err-units.field-0.0 (c.in_err-units.ensures w is))

pub returns-in_err-behind-clause-step : goal.returns-in_err-behind-clause-step
returns-in_err-behind-clause-step g c w o is =
    let e = err_from_is_err_and c.from_residual-in_err-behind.result c.from_residual-in_err-behind.ensures.1 in
    rw (e.1, e.2) (right_halts _ w _ _ _ _ _ _ o _ (c.in_ok-units.ensures w is) c.in_err-behind.field-0.0 (c.in_err-behind.ensures w is))

pub returns-clause-step : goal.returns-clause-step
returns-clause-step g c w o is =
    joins _ w _ _ _ _ _ _ o _ (c.in_ok-units.ensures w is) c.make_text.result _ _ (c.in_ok-behind.ensures w is) (c.in_ok-extend_from_slice.ensures.items ∙ ap (λ us. c.in_ok-units.units.items ++ us) c.as_slice.ensures.value) (c.make_text.ensures.step _ Nothing)
