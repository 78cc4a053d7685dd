use Rattle.std.proofs.Common.{rules}
use Rattle.std.proofs.lemmas.Int.{wraps}
use Rattle.wy_value.proofs.word.long.signed.Goals as goal

pub returns-in-Minus : goal.returns-in-Minus
returns-in-Minus c = search (rules, wraps)
