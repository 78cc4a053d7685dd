use Rattle.wy_operation.proofs.TextRuns.{keeps_same}
use Rattle.wy_operation.proofs.TextForms.{makes_text}
use Rattle.wy_operation.proofs.texts.text.make_text.Goals as goal

pub returns-clause-step : goal.returns-clause-step
returns-clause-step g c p v = makes_text _ _ v _ p _ _ c.note_text.result (c.note_text.ensures.step p)

pub returns-clause-around : goal.returns-clause-around
returns-clause-around g c = keeps_same c.note_text.result _ _ c.note_text.ensures.calls
