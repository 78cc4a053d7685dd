use Rattle.std.proofs.Common.{◌∙◌, sym}
use Rattle.wy_operation.proofs.Operators.{cast_fails, cast_fits, cast_null}
use Rattle.wy_operation.proofs.types.cast.Goals as goal

pub returns-then-is_null-clause-step : goal.returns-then-is_null-clause-step
returns-then-is_null-clause-step g c w is = cast_null _ _ w is _ _ _ _ (c.in_ok-found.ensures _) _ (sym c.is_null.ensures ∙ c.if-is_null.true)

pub returns-then-branch-clause-step : goal.returns-then-branch-clause-step
returns-then-branch-clause-step g c w is =
    cast_fits _ _ w is _ _ _ _ (c.in_ok-found.ensures _) _ (sym c.is_null.ensures ∙ c.if-is_null.false) (sym c.in_ok-is_below.ensures ∙ c.if-branch.true)

pub returns-clause-step : goal.returns-clause-step
returns-clause-step g c w is =
    cast_fails _ _ w is _ _ _ _ (c.in_ok-found.ensures _) _ _ c.fail.result (sym c.is_null.ensures ∙ c.if-is_null.false) (sym c.in_ok-is_below.ensures ∙ c.if-branch.false) (c.fail.ensures.step _ w _ is)
