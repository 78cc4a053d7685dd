use Rattle.wy_operation.proofs.Operators.{divided_fails, divided_goes, pair_is}
use Rattle.wy_operation.proofs.operator.binary.Goals as goal

pub returns-in-Value-clause-step : goal.returns-in-Value-clause-step
returns-in-Value-clause-step g c p w o is = divided_goes p w _ _ _ (pair_is _ _ _ o) _ _ _ c.in-Value.ensures

pub returns-in-ByZero-clause-step : goal.returns-in-ByZero-clause-step
returns-in-ByZero-clause-step g c p w o is = divided_fails p w _ _ _ (pair_is _ _ _ o) _ _ _ c.fail.result c.in-ByZero.ensures (c.fail.ensures.step p w _ is)
