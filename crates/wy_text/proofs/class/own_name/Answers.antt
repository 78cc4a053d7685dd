use Rattle.std.proofs.Common.{arith}
use Rattle.wy_text.proofs.ClassNames.{nameless}
use Rattle.wy_text.proofs.class.own_name.Goals as goal

pub returns-then-number-len : goal.returns-then-number-len
returns-then-number-len c = nameless c.args.program.now c.args.number (omega arith)
