use Rattle.std.proofs.Common.{arith}
use Rattle.wy_operands.proofs.Puts.{length-values_of}
use Rattle.wy_operands.proofs.operands.Operands.count.Goals as goal

pub returns : goal.returns
returns c = omega (arith, length-values_of c.args.self.now)
