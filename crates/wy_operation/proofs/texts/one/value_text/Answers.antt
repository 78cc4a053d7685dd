use Rattle.wy_state.specs.Seen.{given}
use Rattle.wy_value.specs.declared.value.Value.TheVariants.{None as Nothing}
use Rattle.wy_operation.specs.Found.{found_of}
use Rattle.wy_operation.proofs.TextForms.{made_as}
use Rattle.wy_operation.proofs.texts.one.value_text.Goals as goal

pub returns-clause-step : goal.returns-clause-step
returns-clause-step g c p us = made_as p (found_of us) c.made_text.result _ _ _ (given Nothing c.args.uses.now) _ _ c.in_ok-units.ensures (c.made_text.ensures.step p us)
