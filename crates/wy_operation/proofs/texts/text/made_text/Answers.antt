use Rattle.std.proofs.lemmas.Result.{err_from_is_err_and}
use Rattle.wy_value.specs.declared.value.Value.TheVariants.{None as Nothing}
use Rattle.wy_operation.specs.Found.{found_of}
use Rattle.wy_operation.specs.Words.{text_of_event}
use Rattle.wy_operation.proofs.TextRuns.{refused_as}
use Rattle.wy_operation.proofs.texts.text.made_text.Goals as goal

pub returns-in_err-event-clause-step : goal.returns-in_err-event-clause-step
returns-in_err-event-clause-step g c p us =
    let e = err_from_is_err_and c.from_residual.result c.from_residual.ensures.1 in
    rw (e.1, e.2) (refused_as p text_of_event (found_of us) c.in_err-event.field-0.0 _ _ _ (c.in_err-event.ensures.step p Nothing))

pub returns-clause-step : goal.returns-clause-step
returns-clause-step g c p us = c.in_ok-event.ensures.step p Nothing
