use Rattle.std.proofs.Common.{◌∙◌, arith, FitsSigned, w32}
use Rattle.std.proofs.lemmas.Int.{to_z-of_z}
use Rattle.wy_value.specs.declared.value.Value.TheVariants.{None as Nothing}
use Rattle.wy_operation.proofs.Arguments.{array_fails, array_goes}
use Rattle.wy_operation.proofs.texts.one.array_length.Goals as goal

pub returns-in_default-clause-step : goal.returns-in_default-clause-step
returns-in_default-clause-step g c p w own is = array_fails p w _ _ _ own _ c.fail.result _ c.in_default.not-Object (c.fail.ensures.step p w Nothing is)

pub returns-clause-step : goal.returns-clause-step
returns-clause-step g c p w own is =
    let fits : FitsSigned w32 c.in-Ok.length = record { sfits = omega arith } in
    array_goes p w _ _ _ own _ _ _ _ c.in-Object.is (c.in_ok-length.ensures p) (to_z-of_z w32 c.in-Ok.length fits ∙ (c.in-Ok.ensures {u = tt}).1)
