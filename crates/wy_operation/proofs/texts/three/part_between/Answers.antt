use Rattle.std.proofs.Common.{◌∙◌, sym}
use Rattle.wy_value.specs.declared.value.Value.TheVariants.{None as Nothing}
use Rattle.wy_meaning.specs.Library.{library_three}
use Rattle.wy_state.specs.Seen.{given}
use Rattle.wy_operation.specs.Found.{found_of}
use Rattle.std.proofs.Common.{◌≡◌, ap₂, arith, FitsSigned, of_z, to_z, w32}
use Rattle.std.proofs.lemmas.Int.{to_z-of_z}
use Rattle.wy_meaning.specs.Library.{int_in}
use Rattle.wy_value.specs.Text.{part_of}
use Rattle.wy_operation.proofs.Arguments.{int_is, missing, part_as, there}
use Rattle.wy_operation.proofs.texts.three.part_between.Goals as goal

pub returns-then-not-is_text-clause-step : goal.returns-then-not-is_text-clause-step
unfolding library_three
returns-then-not-is_text-clause-step g c w a b d is =
    missing _ w _ _ _ (given Nothing c.args.uses.now) (found_of c.args.uses.now) c.fail.result _ _ (sym c.is_text.ensures ∙ c.if-not-is_text.true) (c.fail.ensures.step _ w Nothing is)

pub returns-clause-step : goal.returns-clause-step
unfolding library_three
returns-clause-step g c w a b d is =
    let begins : FitsSigned w32 c.in-Int.begin = record { sfits = omega arith } in
    let ends : FitsSigned w32 c.in-Int-to.end = record { sfits = omega arith } in
    let from : to_z w32 (of_z w32 c.in-Int.begin) ≡ int_in c.args.from = to_z-of_z w32 c.in-Int.begin begins ∙ int_is c.args.from _ c.in-Int.is in
    let to : to_z w32 (of_z w32 c.in-Int-to.end) ≡ int_in c.args.to = to_z-of_z w32 c.in-Int-to.end ends ∙ int_is c.args.to _ c.in-Int-to.is in
    there _ w _ _ _ (given Nothing c.args.uses.now) (found_of c.args.uses.now) c.part_or_fail.result _ _ _ (sym c.is_text.ensures ∙ c.if-not-is_text.false) (c.in_ok-units_of.ensures w is)
    (part_as _ w _ _ _ (given Nothing c.args.uses.now) (found_of c.args.uses.now) c.part_or_fail.result _ _
    (c.in_ok-found.ensures ∙ ap₂ (part_of c.in_ok-units_of.field-0.now) from to) (c.part_or_fail.ensures.step _ w is))
