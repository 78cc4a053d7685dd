use Rattle.std.proofs.Common.{arith}
use Rattle.wy_operands.proofs.Stacks.{begins_is}
use Rattle.wy_operands.proofs.operands.Operands.beginning_of_last.Goals as goal

pub returns : goal.returns
returns c = begins_is c.args.self.now c.args.many c.beginning.result c.len-2.result c.saturating_sub-kept.result c.deref.result.now c.deref.ensures.value (omega arith) (omega arith) c.beginning.ensures
