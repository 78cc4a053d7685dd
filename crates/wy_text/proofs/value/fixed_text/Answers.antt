use Rattle.std.proofs.Common.{arith}
use Rattle.wy_text.proofs.MemberNames.{no_text}
use Rattle.wy_text.proofs.value.fixed_text.Goals as goal

pub returns-then-number-len : goal.returns-then-number-len
returns-then-number-len c = no_text c.args.program.now c.args.number (omega arith)
