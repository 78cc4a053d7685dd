-- What is known of a numeral from its first digits.
use Rattle.std.proofs.Common.{◌≡◌, ℕ, ◌+◌, ◌-◌, ◌*◌, ◌^◌, ◌<◌, ◌≤◌, Bool, true, false, List, [], ◌∷◌, ◌++◌, length, get_or, take, drop, Some, None, cond, eqb, suc, ℤ, pos, negsuc, neg_ℤ, FitsSigned, refl, sym, ap, ◌∙◌, arith}
use Rattle.std.specs.Prelude.{◌&&◌, nat_le, option_and_then}
use Rattle.std.specs.List.{list_all}
use Rattle.std.specs.Option.{option_map}
use Rattle.std.specs.Char.{is_ascii_digit, digit_value}
use Rattle.std.specs.Str.Parse.{digits_value, digits_value_after, AllDigits}
use Rattle.std.specs.Fmt.{decimal, signed_decimal}
use Rattle.std.specs.Int.{w32}
use Rattle.std.proofs.lemmas.Fmt.{decimal_is_IsNumeral}
use Rattle.std.proofs.lemmas.List.{take-append-drop}
use Rattle.std.proofs.lemmas.List.Folds.{list_all_more}
use Rattle.std.proofs.lemmas.Int.Digits.{digits_value_more}
use Rattle.std.proofs.lemmas.Bool.Decides.{nat_tests}
use Rattle.wy_value.specs.Numeral.{natural_of, magnitude_of, signed_of, int_of, is_int}

-- the text is digits up to index i, and they spell n
pub record Spells (us : List ℕ) (i n : ℕ) : Type 0 where
  pub digits : list_all is_ascii_digit (take i us) ≡ true
  pub number : n ≡ digits_value 10 (take i us)

pub digit_value_is : (u : ℕ) → 48 ≤ u → u ≤ 57 → digit_value u ≡ u - 48
digit_value_is u low high = grind (arith, nat_tests)

pub is_ascii_digit_yes : (u : ℕ) → 48 ≤ u → u ≤ 57 → is_ascii_digit u ≡ true
is_ascii_digit_yes u low high = grind (arith, nat_tests)

pub spells_more : (us : List ℕ) (i n : ℕ) → Spells us i n → i < length us → 48 ≤ get_or us i 0 → get_or us i 0 ≤ 57 → Spells us (i + 1) (n * 10 + (get_or us i 0 - 48))
spells_more us i n h within low high = record {
  digits = list_all_more is_ascii_digit us i 0 within ∙ ap (λ t. t && is_ascii_digit (get_or us i 0)) h.digits ∙ is_ascii_digit_yes (get_or us i 0) low high;
  number = let e = digits_value_more 10 us i within in let d = digit_value_is (get_or us i 0) low high in let m = h.number in omega (arith, e);
}

-- more digits make no smaller number
grows : (us : List ℕ) (n : ℕ) → n ≤ digits_value_after 10 n us
grows [] n = omega arith
grows (u ∷ us) n = let more = grows us (n * 10 + digit_value u) in omega arith

value_append : (us vs : List ℕ) (n : ℕ) → digits_value_after 10 n (us ++ vs) ≡ digits_value_after 10 (digits_value_after 10 n us) vs
value_append [] vs n = refl
value_append (u ∷ us) vs n = value_append us vs (n * 10 + digit_value u)

front_at_most : (us : List ℕ) (i : ℕ) → digits_value 10 (take i us) ≤ digits_value 10 us
front_at_most us i =
    let e : digits_value 10 us ≡ digits_value_after 10 (digits_value 10 (take i us)) (drop i us) = ap (digits_value 10) (sym (take-append-drop i us)) ∙ value_append (take i us) (drop i us) 0 in
    let more = grows (drop i us) (digits_value 10 (take i us)) in omega (arith, e)

no_magnitude : (us : List ℕ) → 2 ^ 31 < digits_value 10 us → magnitude_of us ≡ None
no_magnitude [] big = refl
no_magnitude (u ∷ us) big = by (list_all is_ascii_digit (u ∷ us))
  where
    by : (t : Bool) → option_and_then (λ n. cond (nat_le n (2 ^ 31)) (Some n) None) (cond t (Some (digits_value 10 (u ∷ us))) None) ≡ None
    by true = grind (arith, nat_tests)
    by false = refl

-- a number past the least int's size stays past it
pub too_big : (us : List ℕ) (i n : ℕ) → Spells us i n → 2 ^ 31 < n → magnitude_of us ≡ None
too_big us i n h big = let front = front_at_most us i in let m = h.number in no_magnitude us (omega arith)

-- ---- the text of a number

digit_below_ten : (u : ℕ) → digit_value u < 10 → is_ascii_digit u ≡ true
digit_below_ten u h = grind (arith, nat_tests)

all_digits : (ds : List ℕ) → AllDigits 10 ds → list_all is_ascii_digit ds ≡ true
all_digits [] h = refl
all_digits (u ∷ us) h = let first : is_ascii_digit u ≡ true = digit_below_ten u h.0 in let rest = all_digits us h.1 in ap (λ t. t && list_all is_ascii_digit us) first ∙ rest

natural_at : (us : List ℕ) → 0 < length us → list_all is_ascii_digit us ≡ true → natural_of us ≡ Some (digits_value 10 us)
natural_at [] some h = absurd (omega arith)
natural_at (u ∷ us) some h = ap (λ t. cond t (Some (digits_value 10 (u ∷ us))) None) h

pub natural_of_decimal : (n : ℕ) → n < 2 ^ 64 → natural_of (decimal n) ≡ Some n
natural_of_decimal n small =
    let is = decimal_is_IsNumeral n small in
    natural_at (decimal n) is.0.0 (all_digits (decimal n) is.0.1) ∙ ap Some is.1

first_digit : (u : ℕ) (us : List ℕ) → list_all is_ascii_digit (u ∷ us) ≡ true → (48 ≤ u) × (u ≤ 57)
first_digit u us h = grind (arith, nat_tests)

unsigned_at : (us : List ℕ) (n : ℕ) → natural_of us ≡ Some n → list_all is_ascii_digit us ≡ true → signed_of us ≡ Some (pos n)
unsigned_at [] n h d = cc
unsigned_at (u ∷ us) n h d =
    let digit = first_digit u us d in
    let no_minus : eqb u 45 ≡ false = grind (arith, nat_tests) in
    let no_plus : eqb u 43 ≡ false = grind (arith, nat_tests) in
    let minus = option_map (λ m. neg_ℤ (pos m)) (natural_of us) in
    let plus = option_map (λ m. pos m) (natural_of us) in
    let none = option_map (λ m. pos m) (natural_of (u ∷ us)) in
    ap (λ t. cond t minus (cond (eqb u 43) plus none)) no_minus ∙ ap (λ t. cond t plus none) no_plus ∙ ap (option_map (λ m. pos m)) h

digits_of_decimal : (n : ℕ) → n < 2 ^ 64 → list_all is_ascii_digit (decimal n) ≡ true
digits_of_decimal n small = let is = decimal_is_IsNumeral n small in all_digits (decimal n) is.0.1

in_range : (z : ℤ) → FitsSigned w32 z → is_int z ≡ true
in_range (pos n) f = let small = f.sfits in grind (arith, nat_tests)
in_range (negsuc n) f = let small = f.sfits in grind (arith, nat_tests)

kept : (us : List ℕ) (z : ℤ) → FitsSigned w32 z → signed_of us ≡ Some z → int_of us ≡ Some z
kept us z f e = ap (option_and_then (λ y. cond (is_int y) (Some y) None)) e ∙ ap (λ t. cond t (Some z) None) (in_range z f)

pub int_of_decimal : (z : ℤ) → FitsSigned w32 z → int_of (signed_decimal z) ≡ Some z
int_of_decimal (pos n) f =
    let small = f.sfits in
    kept (decimal n) (pos n) f (unsigned_at (decimal n) n (natural_of_decimal n (omega arith)) (digits_of_decimal n (omega arith)))
int_of_decimal (negsuc n) f =
    let small = f.sfits in
    kept (45 ∷ decimal (suc n)) (negsuc n) f (ap (option_map (λ m. neg_ℤ (pos m))) (natural_of_decimal (suc n) (omega arith)))
