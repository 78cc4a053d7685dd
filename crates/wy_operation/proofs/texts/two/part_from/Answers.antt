use Rattle.std.proofs.Common.{◌∙◌, sym}
use Rattle.wy_value.specs.declared.value.Value.TheVariants.{None as Nothing}
use Rattle.wy_meaning.specs.Library.{library_two}
use Rattle.wy_state.specs.Seen.{given}
use Rattle.wy_operation.specs.Found.{found_of}
use Rattle.std.proofs.Common.{◌≡◌, ap₂, arith, length, pos, FitsSigned, of_z, to_z, w32}
use Rattle.std.proofs.lemmas.Int.{to_z-of_z}
use Rattle.wy_meaning.specs.Library.{int_in}
use Rattle.wy_value.specs.Text.{part_of}
use Rattle.wy_operation.proofs.Arguments.{int_is, missing, part_as, there}
use Rattle.wy_operation.proofs.texts.two.part_from.Goals as goal

pub returns-then-not-is_text-clause-step : goal.returns-then-not-is_text-clause-step
unfolding library_two
returns-then-not-is_text-clause-step g c w a b is =
    missing _ w _ _ _ (given Nothing c.args.uses.now) (found_of c.args.uses.now) c.fail.result _ _ (sym c.is_text.ensures ∙ c.if-not-is_text.true) (c.fail.ensures.step _ w Nothing is)

pub returns-clause-step : goal.returns-clause-step
unfolding library_two
returns-clause-step g c w a b is =
    let begins : FitsSigned w32 c.in-Int.begin = record { sfits = omega arith } in
    let ends : FitsSigned w32 c.in-Ok.end = record { sfits = omega arith } in
    let from : to_z w32 (of_z w32 c.in-Int.begin) ≡ int_in c.args.from = to_z-of_z w32 c.in-Int.begin begins ∙ int_is c.args.from _ c.in-Int.is in
    let to : to_z w32 (of_z w32 c.in-Ok.end) ≡ pos (length c.in_ok-units.units.now) = to_z-of_z w32 c.in-Ok.end ends ∙ (c.in-Ok.ensures {u = tt}).1 in
    there _ w _ _ _ (given Nothing c.args.uses.now) (found_of c.args.uses.now) c.part_or_fail.result _ _ _ (sym c.is_text.ensures ∙ c.if-not-is_text.false) (c.in_ok-units.ensures w is)
    (part_as _ w _ _ _ (given Nothing c.args.uses.now) (found_of c.args.uses.now) c.part_or_fail.result _ _
    (c.in_ok-found.ensures ∙ ap₂ (part_of c.in_ok-units.units.now) from to) (c.part_or_fail.ensures.step _ w is))
