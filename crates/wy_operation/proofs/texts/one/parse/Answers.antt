use Rattle.std.proofs.Common.{◌∙◌, sym, arith, Err, FitsSigned, w32}
use Rattle.std.proofs.lemmas.Int.{to_z-of_z}
use Rattle.wy_value.specs.declared.value.Value.TheVariants.{None as Nothing}
use Rattle.wy_meaning.specs.Library.{library_one}
use Rattle.wy_state.specs.Seen.{given}
use Rattle.wy_operation.specs.Found.{found_of}
use Rattle.wy_operation.proofs.Arguments.{int_fails, int_goes, parse_gives, parses, unparsed}
use Rattle.wy_operation.proofs.texts.one.parse.Goals as goal

pub returns-then-not-is_text-clause-step : goal.returns-then-not-is_text-clause-step
unfolding library_one
returns-then-not-is_text-clause-step g c w own is =
    unparsed _ w _ _ _ (given Nothing c.args.uses.now) (found_of c.args.uses.now) c.fail.result _ (sym c.is_text.ensures ∙ c.if-not-is_text.true) (c.fail.ensures.step _ w Nothing is)

pub returns-in-Ok-clause-step : goal.returns-in-Ok-clause-step
unfolding library_one
returns-in-Ok-clause-step g c w own is =
    let fits : FitsSigned w32 c.in-Ok.number = record { sfits = omega arith } in
    rw (to_z-of_z w32 c.in-Ok.number fits) (parse_gives _ w _ _ (given Nothing c.args.uses.now) _ _ (sym c.is_text.ensures ∙ c.if-not-is_text.false) (c.in_ok-units_of.ensures w is) _ (int_goes _ w _ _ _ _ _ (c.in-Ok.ensures {u = tt}).number))

pub returns-in-Err-clause-step : goal.returns-in-Err-clause-step
unfolding library_one
returns-in-Err-clause-step g c w own is =
    parses _ w _ _ _ (given Nothing c.args.uses.now) (found_of c.args.uses.now) (Err c.fail-in-Err.result) _ _ (sym c.is_text.ensures ∙ c.if-not-is_text.false) (c.in_ok-units_of.ensures w is)
    (int_fails _ w _ _ _ _ c.fail-in-Err.result _ (c.in-Err.ensures {u = tt}).number (c.fail-in-Err.ensures.step _ w Nothing is))
