use Rattle.std.proofs.Common.{◌∙◌, sym}
use Rattle.wy_value.specs.declared.value.Value.TheVariants.{None as Nothing}
use Rattle.wy_meaning.specs.Library.{library_one}
use Rattle.wy_steps.specs.Steps.{with_value}
use Rattle.wy_state.specs.Seen.{given}
use Rattle.wy_operation.specs.Found.{found_of}
use Rattle.std.proofs.Common.{◌≡◌, ap, arith, length, pos, FitsSigned, of_z, to_z, w32}
use Rattle.std.proofs.lemmas.Int.{to_z-of_z}
use Rattle.wy_value.specs.declared.value.Value.TheVariants.{Int}
use Rattle.wy_operation.proofs.Arguments.{gives, missing, there_gives}
use Rattle.wy_operation.proofs.texts.one.text_length.Goals as goal

pub returns-then-not-is_text-clause-step : goal.returns-then-not-is_text-clause-step
unfolding library_one
returns-then-not-is_text-clause-step g c w own is =
    missing _ w _ _ _ (given Nothing c.args.uses.now) (found_of c.args.uses.now) c.fail.result _ _ (sym c.is_text.ensures ∙ c.if-not-is_text.true) (c.fail.ensures.step _ w Nothing is)

pub returns-clause-step : goal.returns-clause-step
unfolding library_one with_value
returns-clause-step g c w own is =
    let fits : FitsSigned w32 c.in-Ok.length = record { sfits = omega arith } in
    let size : to_z w32 (of_z w32 c.in-Ok.length) ≡ pos (length c.in_ok-units_of.field-0.now) = to_z-of_z w32 c.in-Ok.length fits ∙ (c.in-Ok.ensures {u = tt}).1 in
    there_gives _ w _ _ (given Nothing c.args.uses.now) _ _ (sym c.is_text.ensures ∙ c.if-not-is_text.false) (c.in_ok-units_of.ensures w is) _ _ (gives _ _ _ _ (Int (pos (length c.in_ok-units_of.field-0.now))) (ap Int size))
