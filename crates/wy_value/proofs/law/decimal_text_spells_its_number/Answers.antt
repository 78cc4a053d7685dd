use Rattle.std.proofs.Common.{arith, lit<}
use Rattle.std.proofs.lemmas.Fmt.{decimal_digit, first_decimal}
use Rattle.wy_value.proofs.Numerals.{int_of_decimal}
use Rattle.wy_value.proofs.law.decimal_text_spells_its_number.Goals as goal

pub returns-clause-reads_back : goal.returns-clause-reads_back
returns-clause-reads_back c = int_of_decimal

pub returns-clause-zero : goal.returns-clause-zero
returns-clause-zero c = decimal_digit 0 (lit< tt)

pub returns-clause-no_leading_zero : goal.returns-clause-no_leading_zero
returns-clause-no_leading_zero c n some small e = let first = first_decimal n some small in omega arith
