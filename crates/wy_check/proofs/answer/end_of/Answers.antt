use Rattle.std.proofs.Common.{sym}
use Rattle.wy_check.proofs.Ends.{last_rises}
use Rattle.wy_check.proofs.answer.end_of.Goals as goal

pub returns-in-Some-clause-rises : goal.returns-in-Some-clause-rises
returns-in-Some-clause-rises c = λ high up. last_rises 0 high c.args.lines.now c.in-Some.line.now up (sym c.in-Some.ensures.value)
