use Rattle.std.proofs.Common.{arith}
use Rattle.wy_travel.proofs.Bodies.{no_init_body}
use Rattle.wy_travel.proofs.locals.class_body.Goals as goal

pub returns-then-class-len : goal.returns-then-class-len
returns-then-class-len c = no_init_body c.args.program.now c.args.class (omega arith)
