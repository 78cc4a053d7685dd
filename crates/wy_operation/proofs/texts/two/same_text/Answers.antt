use Rattle.std.proofs.Common.{◌∙◌, sym}
use Rattle.wy_value.specs.declared.value.Value.TheVariants.{None as Nothing}
use Rattle.wy_meaning.specs.Library.{library_two}
use Rattle.wy_state.specs.Seen.{given}
use Rattle.wy_operation.specs.Found.{found_of}
use Rattle.wy_operation.proofs.Arguments.{missing, same_text_goes}
use Rattle.wy_operation.proofs.texts.two.same_text.Goals as goal

pub returns-then-not-is_text-clause-step : goal.returns-then-not-is_text-clause-step
unfolding library_two
returns-then-not-is_text-clause-step g c w a b is =
    missing _ w _ _ _ (given Nothing c.args.uses.now) (found_of c.args.uses.now) c.fail.result _ _ (sym c.is_text.ensures ∙ c.if-not-is_text.true) (c.fail.ensures.step _ w Nothing is)

pub returns-clause-step : goal.returns-clause-step
returns-clause-step g c w a b is = same_text_goes _ w _ _ _ _ _ a b _ (sym c.is_text.ensures ∙ c.if-not-is_text.false) (c.in_ok-is_same.ensures w is)
