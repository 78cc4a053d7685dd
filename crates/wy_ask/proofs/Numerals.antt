-- The number of a word of digits, as `parse` reads it.
use Rattle.std.proofs.Common.{◌≡◌, ◌∙◌, ℕ, ◌<◌, ◌≤◌, ◌^◌, true, false, nat_lt, nat_le, List, length, Some, None, Result, Ok, Err, sym, ap, arith, rules}
use Rattle.std.specs.Prelude.{if◌then◌else◌}
use Rattle.std.specs.List.{list_all}
use Rattle.std.specs.Result.{OkIff, result_ok}
use Rattle.std.proofs.lemmas.Bool.{and_from, and_parts, le-leb, lt-ltb, ltb-true, leb-true, false_from_ne_true}
use Rattle.std.proofs.lemmas.Str.Parse.{IsNumeralModel, numerals_by_fold}
use Rattle.wy_tree.specs.Bytes.{is_digit}
use Rattle.wy_ask.specs.Words.{value_from, value_of, is_number, number_of}

pub own : IsNumeralModel (λ ds. list_all is_digit ds ≡ true) (value_from 0)
own = numerals_by_fold _ (search rules) value_from (search rules)

is_one : (word : List ℕ) → list_all is_digit word ≡ true → length word ≤ 10 → 0 < length word → value_of word < 2 ^ 32 → is_number word ≡ true
unfolding is_number
is_one word digits few some fits = and_from _ _ digits (and_from _ _ (lt-ltb 0 (length word) some) (and_from _ _ (le-leb (length word) 10 few) (le-leb (value_of word) 4294967295 (omega arith))))

pub has_digits : (word : List ℕ) → is_number word ≡ true → list_all is_digit word ≡ true
unfolding is_number
has_digits word e = (and_parts (list_all is_digit word) _ e).0

has_some : (word : List ℕ) → is_number word ≡ true → (0 < length word) × (length word ≤ 10) × (value_of word < 2 ^ 32)
unfolding is_number
has_some word e =
    let a = and_parts (list_all is_digit word) _ e in
    let b = and_parts (nat_lt 0 (length word)) _ a.1 in
    let d = and_parts (nat_le (length word) 10) _ b.1 in
    let v : value_of word ≤ 4294967295 = leb-true (value_of word) 4294967295 d.1 in
    (ltb-true 0 (length word) b.0, leb-true (length word) 10 d.0, omega arith)

pub parsed : {E : Type 0} (word : List ℕ) (r : Result ℕ E) → OkIff r ((0 < length word) × (value_of word < 2 ^ 32)) (value_of word)
    → list_all is_digit word ≡ true → length word ≤ 10 → result_ok r ≡ number_of word
parsed word (Ok x) h digits few = ap Some h.1 ∙ sym (ap (λ b. if b then Some (value_of word) else None) (is_one word digits few h.0.0 h.0.1))
parsed word (Err e) h digits few =
    sym (ap (λ b. if b then Some (value_of word) else None) (false_from_ne_true (is_number word) (λ is. let k = has_some word is in h (k.0, k.2))))

pub too_long : (word : List ℕ) → 10 < length word → None ≡ number_of word
too_long word long =
    sym (ap (λ b. if b then Some (value_of word) else None) (false_from_ne_true (is_number word) (λ is. let k = has_some word is in let l : length word ≤ 10 = k.1 in absurd (omega arith))))

pub no_digits : (word : List ℕ) → list_all is_digit word ≡ false → None ≡ number_of word
no_digits word e =
    sym (ap (λ b. if b then Some (value_of word) else None) (false_from_ne_true (is_number word) (λ is. let k : false ≡ true = sym e ∙ has_digits word is in absurd (cc))))
