use Rattle.std.proofs.Common.{◌∙◌, ◌++◌, ap}
use Rattle.std.proofs.lemmas.Result.{err_from_is_err_and}
use Rattle.wy_meaning.specs.Text.{line_end}
use Rattle.wy_value.specs.Encoding.{utf8_of}
use Rattle.wy_operation.proofs.TextRuns.{keeps_same}
use Rattle.wy_operation.proofs.TextForms.{prints, spelling_halts}
use Rattle.wy_operation.proofs.texts.printing.print_text.Goals as goal

pub returns-in_err-units-clause-step : goal.returns-in_err-units-clause-step
returns-in_err-units-clause-step g c w is =
    let e = err_from_is_err_and c.from_residual.result c.from_residual.ensures.1 in
    rw (e.1, e.2) (spelling_halts _ w _ _ _ _ _ _ c.in_err-units.field-0.0 (c.in_err-units.ensures w is))

pub returns-clause-step : goal.returns-clause-step
returns-clause-step g c w is =
    prints _ w _ _ _ _ _ _ c.print.result _ _ (c.in_ok-units.ensures w is)
    (c.as_slice-2.ensures.value ∙ c.in_ok-bytes.ensures ∙ ap (λ us. utf8_of us ++ line_end c.args.ends_line) c.as_slice.ensures.value) (c.print.ensures.step _)

pub returns-clause-around : goal.returns-clause-around
returns-clause-around g c = keeps_same c.print.result _ _ c.print.ensures.calls
