use Rattle.wy_operands.proofs.operands.Operands.top.Goals as goal

pub returns : goal.returns
returns c = c.value_at.ensures
