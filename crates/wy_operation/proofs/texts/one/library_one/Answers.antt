use Rattle.wy_meaning.specs.Library.{absolute, library_one}
use Rattle.wy_steps.specs.Steps.{with_value}
use Rattle.wy_operation.proofs.Arguments.{gives}
use Rattle.wy_operation.proofs.texts.one.library_one.Goals as goal

pub returns-in-Abs-clause-step : goal.returns-in-Abs-clause-step
unfolding library_one with_value
returns-in-Abs-clause-step g c w own is = rw c.in-Abs.is (gives _ _ c.args.uses.now _ (absolute c.args.value) c.absolute.ensures)

pub returns-in-ValueOf-clause-step : goal.returns-in-ValueOf-clause-step
unfolding library_one
returns-in-ValueOf-clause-step g c w own is = rw c.in-ValueOf.is (c.value_text.ensures.step _ c.args.uses.now)

pub returns-in-IntText-clause-step : goal.returns-in-IntText-clause-step
unfolding library_one
returns-in-IntText-clause-step g c w own is = rw c.in-IntText.is (c.value_text-in-IntText.ensures.step _ c.args.uses.now)
