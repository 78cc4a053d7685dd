use Rattle.wy_operation.specs.Operands.{carried}
use Rattle.wy_operation.proofs.TextForms.{equals_goes}
use Rattle.wy_operation.proofs.texts.text.text_equals.Goals as goal

pub returns : goal.returns
returns g c w is = equals_goes _ w _ (carried c.args.left) (carried c.args.right) _ (c.in_ok-are_same.ensures w is)
