use Rattle.wy_meaning.specs.Text.{print_nothing}
use Rattle.wy_steps.specs.Steps.{constant}
use Rattle.wy_operation.proofs.TextRuns.{keeps_same}
use Rattle.wy_operation.proofs.texts.printing.print_nothing.Goals as goal

pub returns-clause-step : goal.returns-clause-step
unfolding print_nothing constant
returns-clause-step g c p = rw c.line_end.ensures at (c.print.ensures.step p)

pub returns-clause-around : goal.returns-clause-around
returns-clause-around g c = keeps_same c.print.result _ _ c.print.ensures.calls
