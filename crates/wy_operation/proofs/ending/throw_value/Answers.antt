use Rattle.std.proofs.Common.{◌∙◌, sym}
use Rattle.wy_operation.proofs.Endings.{throw_null, throw_object}
use Rattle.wy_operation.proofs.ending.throw_value.Goals as goal

pub returns-then-is_null-clause-step : goal.returns-then-is_null-clause-step
returns-then-is_null-clause-step g c p w is = throw_null p _ _ _ _ _ w c.fail.result (sym c.is_null.ensures ∙ c.if-is_null.true) (c.fail.ensures.step p w _ is)

pub returns-clause-step : goal.returns-clause-step
returns-clause-step g c p w is = throw_object p _ _ _ _ _ w c.throwing.result (sym c.is_null.ensures ∙ c.if-is_null.false) (c.throwing.ensures.step p)
