use Rattle.std.proofs.Common.{◌∙◌, sym}
use Rattle.wy_operation.proofs.Places.{check_fails, check_fits, check_other}
use Rattle.wy_operation.proofs.place.check_store.Goals as goal

pub returns-in_default-clause-step : goal.returns-in_default-clause-step
returns-in_default-clause-step g c w o is = check_other _ _ w is _ _ _ _ o c.in_default.not-Elem

pub returns-then-branch-clause-step : goal.returns-then-branch-clause-step
returns-then-branch-clause-step g c w o is =
    check_fits _ _ w is _ _ _ _ o _ _ c.in-Elem.is _ _ (c.in_ok-of_array.ensures _) (c.in_ok-of_value.ensures _) (rw (← c.element_type.ensures) (sym c.in_ok-may_store.ensures ∙ c.if-branch.true))

pub returns-clause-step : goal.returns-clause-step
returns-clause-step g c w o is =
    check_fails _ _ w is _ _ _ _ o _ _ c.in-Elem.is _ _ (c.in_ok-of_array.ensures _) (c.in_ok-of_value.ensures _) _ c.fail.result (rw (← c.element_type.ensures) (sym c.in_ok-may_store.ensures ∙ c.if-branch.false)) (c.fail.ensures.step _ w _ is)
