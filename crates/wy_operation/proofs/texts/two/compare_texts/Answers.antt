use Rattle.std.proofs.Common.{◌∙◌, sym}
use Rattle.wy_value.specs.declared.value.Value.TheVariants.{None as Nothing}
use Rattle.wy_meaning.specs.Library.{library_two}
use Rattle.wy_state.specs.Seen.{given}
use Rattle.wy_operation.specs.Found.{found_of}
use Rattle.std.proofs.Common.{FitsSigned, w32}
use Rattle.std.proofs.lemmas.Int.{to_z-of_z}
use Rattle.wy_operation.proofs.Arguments.{compare_fails, compare_goes, missing}
use Rattle.wy_operation.proofs.texts.two.compare_texts.Goals as goal

pub returns-then-not-is_text-clause-step : goal.returns-then-not-is_text-clause-step
unfolding library_two
returns-then-not-is_text-clause-step g c w a b is =
    missing _ w _ _ _ (given Nothing c.args.uses.now) (found_of c.args.uses.now) c.fail.result _ _ (sym c.is_text.ensures ∙ c.if-not-is_text.true) (c.fail.ensures.step _ w Nothing is)

pub returns-then-not-is_text-2-clause-step : goal.returns-then-not-is_text-2-clause-step
returns-then-not-is_text-2-clause-step g c w a b is =
    compare_fails _ w _ _ _ _ _ a b _ c.fail-then-not-is_text-2.result (sym c.is_text.ensures ∙ c.if-not-is_text.false) (sym c.is_text-2.ensures ∙ c.if-not-is_text-2.true) (c.fail-then-not-is_text-2.ensures.step _ w Nothing is)

pub returns-clause-step : goal.returns-clause-step
returns-clause-step g c w a b is =
    let fits : FitsSigned w32 c.compare.result = record { sfits = c.compare.type_inv } in
    compare_goes _ w _ _ _ _ _ a b _ _ _ (sym c.is_text.ensures ∙ c.if-not-is_text.false) (sym c.is_text-2.ensures ∙ c.if-not-is_text-2.false) (c.in_ok-first.ensures w is) (c.in_ok-second.ensures w is) (to_z-of_z w32 c.compare.result fits ∙ c.compare.ensures)
