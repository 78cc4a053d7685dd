use Rattle.wy_operation.proofs.Exceptions.{fail_goes, fail_halts}
use Rattle.wy_operation.proofs.exception.fail.Goals as goal

pub returns-in-Ok-clause-step : goal.returns-in-Ok-clause-step
returns-in-Ok-clause-step g c p w v is = fail_goes p _ _ w is _ _ v _ _ _ _ (c.in-Ok.ensures.step p) (c.throwing.ensures.step p)

pub returns-in-Err-clause-step : goal.returns-in-Err-clause-step
returns-in-Err-clause-step g c p w v is = fail_halts p _ _ w is _ _ v _ _ (c.in-Err.ensures.step p)
