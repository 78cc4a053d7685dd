use Rattle.std.proofs.Common.{arith}
use Rattle.wy_travel.proofs.Bodies.{no_body}
use Rattle.wy_travel.proofs.locals.method_body.Goals as goal

pub returns-then-method-len : goal.returns-then-method-len
returns-then-method-len c = no_body c.args.program.now c.args.method (omega arith)
