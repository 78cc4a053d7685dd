use Rattle.std.proofs.Common.{◌^◌, lit<}
use Rattle.std.proofs.lemmas.Int.{SFits-int_wrap}
use Rattle.wy_value.proofs.Laws.{int_wrap_congruent, remainder_congruent}
use Rattle.wy_value.proofs.law.wrapped_is_in_range_and_congruent.Goals as goal

pub returns-clause-in_range : goal.returns-clause-in_range
returns-clause-in_range c = SFits-int_wrap

pub returns-clause-congruent : goal.returns-clause-congruent
returns-clause-congruent c = int_wrap_congruent

pub returns-clause-char_congruent : goal.returns-clause-char_congruent
returns-clause-char_congruent c z = remainder_congruent z (2 ^ 16) (lit< tt)
