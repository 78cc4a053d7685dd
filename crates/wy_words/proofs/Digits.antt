-- What a text of digits is read as.
use Rattle.std.proofs.Common.{◌≡◌, ℕ, ◌<◌, length, true, List, Ok, Result, ◌^◌, subst}
use Rattle.std.specs.Str.{all_ascii_digits}
use Rattle.std.specs.Str.Parse.{digits_value, ParsesUnsigned}
use Rattle.std.specs.Result.{OkIff}
use Rattle.std.proofs.lemmas.Str.Parse.{IsNumeralModel, numerals_by_value, tells_all_ascii_digits, parse_digits}

pub own : IsNumeralModel (λ ds. all_ascii_digits ds ≡ true) (digits_value 10)
own = numerals_by_value _ tells_all_ascii_digits

-- a text of digits that is read has its value
pub read_ok : {E : Type 0} (word : List ℕ) (r : Result ℕ E) (n : ℕ) → r ≡ Ok n → all_ascii_digits word ≡ true → ParsesUnsigned 32 10 word r → n ≡ digits_value 10 word
read_ok {E} word r n is digits parses =
    let Read : Result ℕ E → Type 0 = λ z. OkIff z ((0 < length word) × (digits_value 10 word < 2 ^ 32)) (digits_value 10 word) in
    (subst Read is (parse_digits own 32 word r parses digits)).1
