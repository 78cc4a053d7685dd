use Rattle.std.proofs.Common.{arith}
use Rattle.wy_text.proofs.MemberNames.{no_init_body}
use Rattle.wy_text.proofs.slot.init_body_of.Goals as goal

pub returns-then-number-len : goal.returns-then-number-len
returns-then-number-len c = no_init_body c.args.program.now c.args.number (omega arith)
