use Rattle.std.proofs.lemmas.Int.{quot-rem}
use Rattle.wy_value.proofs.law.quotient_and_remainder_make_the_dividend.Goals as goal

pub returns-clause-dividend : goal.returns-clause-dividend
returns-clause-dividend c = quot-rem
