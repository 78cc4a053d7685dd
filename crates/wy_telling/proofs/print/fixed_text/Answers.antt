use Rattle.std.proofs.Common.{arith}
use Rattle.wy_telling.proofs.Values.{no_text}
use Rattle.wy_telling.proofs.print.fixed_text.Goals as goal

pub returns-then-number-len : goal.returns-then-number-len
returns-then-number-len c = no_text c.args.program.now c.args.number (omega arith)
