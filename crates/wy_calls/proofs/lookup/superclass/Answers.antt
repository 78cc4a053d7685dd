use Rattle.std.proofs.Common.{arith}
use Rattle.wy_calls.proofs.Chain.{nothing_above}
use Rattle.wy_calls.proofs.lookup.superclass.Goals as goal

pub returns-then-class-len : goal.returns-then-class-len
returns-then-class-len c = nothing_above c.args.program.now c.args.class (omega arith)
