use Rattle.std.proofs.Common.{◌∙◌, sym}
use Rattle.wy_operation.proofs.Operators.{instance_is, instance_null}
use Rattle.wy_operation.proofs.types.instance_of.Goals as goal

pub returns-then-is_null : goal.returns-then-is_null
returns-then-is_null g c w us is = instance_null _ _ w is _ _ _ us (c.in_ok-found.ensures _) (sym c.is_null.ensures ∙ c.if-is_null.true)

pub returns : goal.returns
returns g c w us is = instance_is _ _ w is _ _ _ us (c.in_ok-found.ensures _) _ (sym c.is_null.ensures ∙ c.if-is_null.false) c.in_ok-below.ensures
