-- Decimal numbers: their digits, and where they end.
use Rattle.std.proofs.Common.{◌≡◌, ◌+◌, ◌-◌, ◌*◌, ◌<◌, ◌≤◌, ◌^◌, ℕ, zero, suc, Bool, true, false, ◌&&◌, List, [], ◌∷◌, ◌++◌, length, get_or, take, refl, sym, ap, ap₂, ◌∙◌, subst, ⊎_elim, arith}
use Rattle.std.specs.Fmt.{decimal}
use Rattle.std.specs.Char.{is_ascii_digit}
use Rattle.std.specs.Str.{all_ascii_digits}
use Rattle.std.specs.Str.Parse.{digits_value}
use Rattle.std.proofs.lemmas.Bool.{and_from, and_parts, cases_lt, false≢true, leb-true}
use Rattle.std.proofs.lemmas.Fmt.{decimal-digits_value, decimal_digit, decimal_nonempty, digits_decimal, digits_value-decimal, first_decimal, length-decimal-le}
use Rattle.std.proofs.lemmas.Int.Digits.{digits_value_more}
use Rattle.std.proofs.lemmas.List.{length-take, take_more}
use Rattle.std.proofs.lemmas.List.Recursion.{and_at, and_push}
use Rattle.std.proofs.lemmas.Str.{digit_value_digit}
use Rattle.std.proofs.lemmas.Str.Parse.{digits_value_short}
use Rattle.std.proofs.lemmas.Str.Parse.{IsNumeralModel, numerals_by_value, tells_all_ascii_digits}
use Rattle.wy_cert.specs.Reading.{EndsNumber}

pub own : IsNumeralModel (λ ds. all_ascii_digits ds ≡ true) (digits_value 10)
own = numerals_by_value (λ ds. all_ascii_digits ds ≡ true) tells_all_ascii_digits

-- ---- digits, one by one

pub digits_more : (ds : List ℕ) (i : ℕ) → all_ascii_digits (take i ds) ≡ true → i < length ds → is_ascii_digit (get_or ds i 0) ≡ true → all_ascii_digits (take (i + 1) ds) ≡ true
digits_more ds i before lt here =
    ap all_ascii_digits (take_more ds i 0 lt) ∙ and_push all_ascii_digits is_ascii_digit refl (λ _ _. refl) (take i ds) (get_or ds i 0)
    ∙ and_from (all_ascii_digits (take i ds)) (is_ascii_digit (get_or ds i 0)) before here

digits_take : (i : ℕ) (ds : List ℕ) → all_ascii_digits ds ≡ true → all_ascii_digits (take i ds) ≡ true
digits_take zero ds is = refl
digits_take (suc i) [] is = refl
digits_take (suc i) (d ∷ ds) is = let both = and_parts (is_ascii_digit d) (all_ascii_digits ds) is in and_from (is_ascii_digit d) (all_ascii_digits (take i ds)) both.0 (digits_take i ds both.1)

pub digit_range : (ds : List ℕ) (i : ℕ) → all_ascii_digits ds ≡ true → i < length ds → (48 ≤ get_or ds i 0) × (get_or ds i 0 ≤ 57)
digit_range ds i is lt =
    let here = and_at all_ascii_digits is_ascii_digit refl (λ _ _. refl) ds i 0 lt is in
    let both = and_parts _ _ here in
    (leb-true 48 (get_or ds i 0) both.0, leb-true (get_or ds i 0) 57 both.1)

-- one digit more
pub value_more : (ds : List ℕ) (i : ℕ) → all_ascii_digits ds ≡ true → i < length ds → digits_value 10 (take (i + 1) ds) ≡ digits_value 10 (take i ds) * 10 + (get_or ds i 0 - 48)
value_more ds i is lt =
    let range = digit_range ds i is lt in
    let digit = digit_value_digit (get_or ds i 0) range in
    omega (arith, digits_value_more 10 ds i lt, digit, range.0)

pub value_few : (ds : List ℕ) (i : ℕ) → all_ascii_digits ds ≡ true → i < length ds → length ds ≤ 10 → digits_value 10 (take i ds) < 10 ^ 9
value_few ds i is lt few = digits_value_short own (take i ds) 9 (digits_take i ds is) (omega (arith, length-take i ds))

-- ---- what is written as a number

number_found : (ds : List ℕ) → all_ascii_digits ds ≡ true → 0 < length ds → (get_or ds 0 0 ≡ 48 → length ds ≡ 1) → digits_value 10 ds < 2 ^ 32 → ds ≡ decimal (digits_value 10 ds)
number_found ds digits some first fits = sym (decimal-digits_value own ds digits some first (omega (arith, fits)))

pub number_is : (ds : List ℕ) (v : ℕ) → all_ascii_digits ds ≡ true → 0 < length ds → (get_or ds 0 0 ≡ 48 → length ds ≡ 1) → v ≡ digits_value 10 ds → v < 2 ^ 32 → (ds ≡ decimal v) × (v < 2 ^ 32)
number_is ds v digits some first is fits = (number_found ds digits some first (subst (λ n. n < 2 ^ 32) is fits) ∙ ap decimal (sym is), fits)

-- the digits of a number
pub record AreDigits (n : ℕ) (ds : List ℕ) : Type 0 where
  pub some : 0 < length ds
  pub few : length ds ≤ 10
  pub first : get_or ds 0 0 ≡ 48 → length ds ≡ 1
  pub value : digits_value 10 ds ≡ n

pub are_digits : (n : ℕ) (ds : List ℕ) → n < 2 ^ 32 → ds ≡ decimal n → AreDigits n ds
are_digits n ds fits is = record {
  some = omega (arith, ap length is, decimal_nonempty n (omega (arith, fits)));
  few = omega (arith, ap length is, length-decimal-le 10 n (omega arith) (omega (arith, fits)) (omega (arith, fits)));
  first = λ first. ⊎_elim
      (λ (some : 0 < n). absurd (omega (arith, first, ap (λ l. get_or l 0 0) is, first_decimal n some (omega (arith, fits)))))
      (λ (none : n ≤ 0).
      let zero_is : n ≡ 0 = omega (arith, none) in
      ap length (is ∙ ap decimal zero_is ∙ decimal_digit 0 (omega arith)))
      (cases_lt 0 n);
  value = ap (digits_value 10) is ∙ digits_value-decimal own n (omega (arith, fits));
}

pub number_digits : (n : ℕ) → n < 2 ^ 32 → all_ascii_digits (decimal n) ≡ true
number_digits n fits = digits_decimal own n (omega (arith, fits))

-- ---- where it ends

head_is : (a b : ℕ) (x y : List ℕ) → a ∷ x ≡ b ∷ y → a ≡ b
head_is a b x y e = cc

tail_is : (a b : ℕ) (x y : List ℕ) → a ∷ x ≡ b ∷ y → x ≡ y
tail_is a b x y e = cc

pub one_end : (a b x y : List ℕ) → all_ascii_digits a ≡ true → all_ascii_digits b ≡ true → EndsNumber x → EndsNumber y → a ++ x ≡ b ++ y → (a ≡ b) × (x ≡ y)
one_end [] [] x y da db ex ey is = (refl, is)
one_end [] (b ∷ bs) x y da db ex ey is =
    let no : is_ascii_digit b ≡ false = subst EndsNumber is ex in
    absurd (false≢true (sym no ∙ (and_parts (is_ascii_digit b) (all_ascii_digits bs) db).0))
one_end (a ∷ front) [] x y da db ex ey is =
    let no : is_ascii_digit a ≡ false = subst EndsNumber (sym is) ey in
    absurd (false≢true (sym no ∙ (and_parts (is_ascii_digit a) (all_ascii_digits front) da).0))
one_end (a ∷ front) (b ∷ bs) x y da db ex ey is =
    let rest = one_end front bs x y (and_parts (is_ascii_digit a) (all_ascii_digits front) da).1 (and_parts (is_ascii_digit b) (all_ascii_digits bs) db).1 ex ey (tail_is a b (front ++ x) (bs ++ y) is) in
    (ap₂ (λ c l. c ∷ l) (head_is a b (front ++ x) (bs ++ y) is) rest.0, rest.1)
