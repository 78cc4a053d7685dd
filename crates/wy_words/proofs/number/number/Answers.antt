use Rattle.std.proofs.Common.{◌≡◌, ℕ, ◌<◌, ◌≤◌, length, true, false, List, [], ◌∷◌, Some, None, Result, Ok, Err, ◌^◌, subst, arith, rules}
use Rattle.std.specs.Str.{all_ascii_digits}
use Rattle.std.specs.Str.Parse.{digits_value, ParsesUnsigned}
use Rattle.std.specs.Result.{OkIff}
use Rattle.std.proofs.lemmas.Str.Parse.{parse_digits, digits_value_short}
use Rattle.wy_words.specs.Words.{number_up_to}
use Rattle.wy_words.proofs.Digits.{own, read_ok}
use Rattle.wy_words.proofs.number.number.Goals as goal
use Rattle.wy_words.proofs.number.number.Goals.{then-word-gt-MOST_DIGITS-via-then-word-gt-MOST_DIGITS, then-word-gt-MOST_DIGITS-via-else-word-gt-MOST_DIGITS+then-not-is_all_digits}

no_digits : (most : ℕ) (word : List ℕ) → all_ascii_digits word ≡ false → None ≡ number_up_to most word
unfolding number_up_to
no_digits most word none = grind (arith, none)

too_long : (most : ℕ) (word : List ℕ) → 8 < length word → None ≡ number_up_to most word
unfolding number_up_to
too_long most word long = grind (arith, long)

too_small : (most : ℕ) (word : List ℕ) → digits_value 10 word < 1 → None ≡ number_up_to most word
unfolding number_up_to
too_small most word small = grind (arith, small)

too_large : (most : ℕ) (word : List ℕ) → most < digits_value 10 word → None ≡ number_up_to most word
unfolding number_up_to
too_large most word large = grind (arith, large)

within : (most : ℕ) (word : List ℕ) → all_ascii_digits word ≡ true → length word ≤ 8 → 1 ≤ digits_value 10 word → digits_value 10 word ≤ most → Some (digits_value 10 word) ≡ number_up_to most word
unfolding number_up_to
within most word digits short low high = grind (arith, digits, short, low, high)

-- a short text of digits that isn't read is empty
read_err : {E : Type 0} (most : ℕ) (word : List ℕ) (r : Result ℕ E) (e : E) → r ≡ Err e → all_ascii_digits word ≡ true → length word ≤ 8 → ParsesUnsigned 32 10 word r → None ≡ number_up_to most word
read_err most [] r e is digits short parses = too_small most [] (omega arith)
read_err {E} most (b ∷ bs) r e is digits short parses =
    let word : List ℕ = b ∷ bs in
    let Read : Result ℕ E → Type 0 = λ z. OkIff z ((0 < length word) × (digits_value 10 word < 2 ^ 32)) (digits_value 10 word) in
    absurd (subst Read is (parse_digits own 32 word r parses digits) (omega arith, omega (arith, digits_value_short own word 8 digits short)))

pub returns-then-word-gt-MOST_DIGITS : goal.returns-then-word-gt-MOST_DIGITS
returns-then-word-gt-MOST_DIGITS c = elim c.then-word-gt-MOST_DIGITS.branch [
  | then-word-gt-MOST_DIGITS-via-then-word-gt-MOST_DIGITS w ↦ too_long c.args.most _ (search rules)
  | then-word-gt-MOST_DIGITS-via-else-word-gt-MOST_DIGITS+then-not-is_all_digits w ↦ no_digits c.args.most _ (search rules)
]

pub returns-in-Ok : goal.returns-in-Ok
returns-in-Ok c =
    let digits : all_ascii_digits c.args.word.now ≡ true = search rules in
    let value : c.in-Ok.value ≡ digits_value 10 c.args.word.now = read_ok c.args.word.now _ _ c.in-Ok.is digits c.parse.ensures.value.0 in
    rw value (within c.args.most c.args.word.now digits (omega arith) (rw (← value) c.if-value-ge1.true) (rw (← value) c.if-value-most.true))

pub returns-in_default : goal.returns-in_default
returns-in_default c =
    let digits : all_ascii_digits c.args.word.now ≡ true = search rules in
    too_large c.args.most c.args.word.now (rw (← (read_ok c.args.word.now _ _ c.in-Ok.is digits c.parse.ensures.value.0)) c.if-value-most.false)

pub returns-in_default-2 : goal.returns-in_default-2
returns-in_default-2 c =
    let digits : all_ascii_digits c.args.word.now ≡ true = search rules in
    too_small c.args.most c.args.word.now (rw (← (read_ok c.args.word.now _ _ c.in-Ok.is digits c.parse.ensures.value.0)) c.if-value-ge1.false)

pub returns-in_default-3 : goal.returns-in_default-3
returns-in_default-3 c =
    let digits : all_ascii_digits c.args.word.now ≡ true = search rules in
    read_err c.args.most c.args.word.now _ _ c.in_default.is digits (omega arith) c.parse.ensures.value.0
