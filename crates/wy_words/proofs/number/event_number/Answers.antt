use Rattle.std.proofs.Common.{◌≡◌, ℕ, ◌<◌, ◌≤◌, length, true, false, List, Some, None, Result, Ok, Err, ◌^◌, subst, ⊎_elim, arith, rules}
use Rattle.std.specs.Str.{all_ascii_digits}
use Rattle.std.specs.Str.Parse.{digits_value, ParsesUnsigned}
use Rattle.std.specs.Result.{OkIff}
use Rattle.std.proofs.lemmas.Bool.{cases_lt}
use Rattle.std.proofs.lemmas.Str.Parse.{parse_digits}
use Rattle.wy_words.specs.Words.{event_number}
use Rattle.wy_words.proofs.Digits.{own, read_ok}
use Rattle.wy_words.proofs.number.event_number.Goals as goal
use Rattle.wy_words.proofs.number.event_number.Goals.{then-word-gt-MOST_EVENT_DIGITS-via-then-word-gt-MOST_EVENT_DIGITS, then-word-gt-MOST_EVENT_DIGITS-via-else-word-gt-MOST_EVENT_DIGITS+then-not-is_all_digits}

no_digits : (word : List ℕ) → all_ascii_digits word ≡ false → None ≡ event_number word
unfolding event_number
no_digits word none = grind (arith, none)

too_long : (word : List ℕ) → 10 < length word → None ≡ event_number word
unfolding event_number
too_long word long = grind (arith, long)

none_there : (word : List ℕ) → length word < 1 → None ≡ event_number word
unfolding event_number
none_there word short = grind (arith, short)

too_large : (word : List ℕ) → 4294967295 < digits_value 10 word → None ≡ event_number word
unfolding event_number
too_large word large = grind (arith, large)

within : (word : List ℕ) → all_ascii_digits word ≡ true → 1 ≤ length word → length word ≤ 10 → digits_value 10 word ≤ 4294967295 → Some (digits_value 10 word) ≡ event_number word
unfolding event_number
within word digits some short high = grind (arith, digits, some, short, high)

-- the value of what is read fits, and some digit is there
read_fits : {E : Type 0} (word : List ℕ) (r : Result ℕ E) (n : ℕ) → r ≡ Ok n → all_ascii_digits word ≡ true → ParsesUnsigned 32 10 word r → (0 < length word) × (digits_value 10 word < 2 ^ 32)
read_fits {E} word r n is digits parses =
    let Read : Result ℕ E → Type 0 = λ z. OkIff z ((0 < length word) × (digits_value 10 word < 2 ^ 32)) (digits_value 10 word) in
    (subst Read is (parse_digits own 32 word r parses digits)).0

-- what isn't read is empty or doesn't fit
read_no : {E : Type 0} (word : List ℕ) (r : Result ℕ E) (e : E) → r ≡ Err e → all_ascii_digits word ≡ true → ParsesUnsigned 32 10 word r → None ≡ event_number word
read_no {E} word r e is digits parses =
    let Read : Result ℕ E → Type 0 = λ z. OkIff z ((0 < length word) × (digits_value 10 word < 2 ^ 32)) (digits_value 10 word) in
    ⊎_elim (λ (none : length word < 1). none_there word none)
    (λ (some : 1 ≤ length word). ⊎_elim (λ (large : 4294967295 < digits_value 10 word). too_large word large)
    (λ (fits : digits_value 10 word ≤ 4294967295). absurd (subst Read is (parse_digits own 32 word r parses digits) (omega (arith, some), omega (arith, fits))))
    (cases_lt 4294967295 (digits_value 10 word)))
    (cases_lt (length word) 1)

pub returns-then-word-gt-MOST_EVENT_DIGITS : goal.returns-then-word-gt-MOST_EVENT_DIGITS
returns-then-word-gt-MOST_EVENT_DIGITS c = elim c.then-word-gt-MOST_EVENT_DIGITS.branch [
  | then-word-gt-MOST_EVENT_DIGITS-via-then-word-gt-MOST_EVENT_DIGITS w ↦ too_long _ (search rules)
  | then-word-gt-MOST_EVENT_DIGITS-via-else-word-gt-MOST_EVENT_DIGITS+then-not-is_all_digits w ↦ no_digits _ (search rules)
]

pub returns-in-Ok : goal.returns-in-Ok
returns-in-Ok c =
    let word = c.args.word.now in
    let digits : all_ascii_digits word ≡ true = search rules in
    let value : c.in-Ok.number ≡ digits_value 10 word = read_ok word _ _ c.in-Ok.is digits c.parse.ensures.value.0 in
    let fits = read_fits word _ _ c.in-Ok.is digits c.parse.ensures.value.0 in
    rw value (within word digits (omega (arith, fits.0)) (omega arith) (omega (arith, fits.1)))

pub returns-in-Err : goal.returns-in-Err
returns-in-Err c =
    let digits : all_ascii_digits c.args.word.now ≡ true = search rules in
    read_no c.args.word.now _ _ c.in-Err.is digits c.parse.ensures.value.0
