use Rattle.std.proofs.Common.{◌∙◌, sym}
use Rattle.wy_value.specs.declared.value.Value.TheVariants.{None as Nothing}
use Rattle.wy_meaning.specs.Library.{library_two}
use Rattle.wy_state.specs.Seen.{given}
use Rattle.wy_operation.specs.Found.{found_of}
use Rattle.std.proofs.Common.{◌≡◌, ap, arith, Err, FitsSigned, of_z, to_z, w32}
use Rattle.std.proofs.lemmas.Int.{to_z-of_z}
use Rattle.wy_meaning.specs.Library.{int_in}
use Rattle.wy_value.specs.Text.{unit_of}
use Rattle.wy_operation.proofs.Arguments.{int_is, missing, there, there_gives, unit_fails, unit_goes}
use Rattle.wy_operation.proofs.texts.two.char_at.Goals as goal

pub returns-then-not-is_text-clause-step : goal.returns-then-not-is_text-clause-step
unfolding library_two
returns-then-not-is_text-clause-step g c w a b is =
    missing _ w _ _ _ (given Nothing c.args.uses.now) (found_of c.args.uses.now) c.fail.result _ _ (sym c.is_text.ensures ∙ c.if-not-is_text.true) (c.fail.ensures.step _ w Nothing is)

pub returns-in-Ok-clause-step : goal.returns-in-Ok-clause-step
unfolding library_two
returns-in-Ok-clause-step g c w a b is =
    let fits : FitsSigned w32 c.in-Int.place = record { sfits = omega arith } in
    let place : to_z w32 (of_z w32 c.in-Int.place) ≡ int_in c.args.index = to_z-of_z w32 c.in-Int.place fits ∙ int_is c.args.index _ c.in-Int.is in
    there_gives _ w _ _ (given Nothing c.args.uses.now) _ _ (sym c.is_text.ensures ∙ c.if-not-is_text.false) (c.in_ok-units_of.ensures w is) _ _
    (unit_goes _ w _ _ _ _ _ ((c.in-Ok.ensures {u = tt}).value ∙ ap (unit_of c.in_ok-units_of.field-0.now) place))

pub returns-in-Err-clause-step : goal.returns-in-Err-clause-step
unfolding library_two
returns-in-Err-clause-step g c w a b is =
    let fits : FitsSigned w32 c.in-Int.place = record { sfits = omega arith } in
    let place : to_z w32 (of_z w32 c.in-Int.place) ≡ int_in c.args.index = to_z-of_z w32 c.in-Int.place fits ∙ int_is c.args.index _ c.in-Int.is in
    there _ w _ _ _ (given Nothing c.args.uses.now) (found_of c.args.uses.now) (Err c.fail-in-Err.result) _ _ _ (sym c.is_text.ensures ∙ c.if-not-is_text.false) (c.in_ok-units_of.ensures w is)
    (unit_fails _ w _ _ _ _ c.fail-in-Err.result _ ((c.in-Err.ensures {u = tt}).value ∙ ap (unit_of c.in_ok-units_of.field-0.now) place) (c.fail-in-Err.ensures.step _ w Nothing is))
