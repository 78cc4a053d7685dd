use Rattle.wy_value.specs.declared.value.Value.TheVariants.{None as Nothing}
use Rattle.wy_meaning.specs.Library.{part_or_fail}
use Rattle.wy_state.specs.Seen.{given}
use Rattle.wy_operation.specs.Found.{found_of}
use Rattle.wy_operation.proofs.Arguments.{part_fails}
use Rattle.wy_operation.proofs.texts.three.part_or_fail.Goals as goal

pub returns-in-Some-clause-step : goal.returns-in-Some-clause-step
unfolding part_or_fail
returns-in-Some-clause-step g c p w is = rw c.in-Some.is (c.made_text.ensures.step p c.args.uses.now)

pub returns-in-None-clause-step : goal.returns-in-None-clause-step
returns-in-None-clause-step g c p w is = rw c.in-None.is (part_fails p w _ _ _ (given Nothing c.args.uses.now) (found_of c.args.uses.now) c.fail.result (c.fail.ensures.step p w Nothing is))
