use Rattle.wy_meaning.specs.Library.{greater, lesser, library_two}
use Rattle.wy_steps.specs.Steps.{with_value}
use Rattle.wy_operation.proofs.Arguments.{gives}
use Rattle.wy_operation.proofs.texts.two.library_two.Goals as goal

pub returns-in-Max-clause-step : goal.returns-in-Max-clause-step
unfolding library_two with_value
returns-in-Max-clause-step g c w a b is = rw c.in-Max.is (gives _ _ c.args.uses.now _ (greater c.args.left c.args.right) c.greater.ensures)

pub returns-in-Min-clause-step : goal.returns-in-Min-clause-step
unfolding library_two with_value
returns-in-Min-clause-step g c w a b is = rw c.in-Min.is (gives _ _ c.args.uses.now _ (lesser c.args.left c.args.right) c.lesser.ensures)
