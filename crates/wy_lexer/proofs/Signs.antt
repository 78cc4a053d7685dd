-- The longest sign at the front.
use Rattle.std.proofs.Common.{ℕ, ◌+◌, ◌<◌, ◌≤◌, ◌≡◌, nat_le, nat_eq, Bool, true, false, ◌&&◌, if◌then◌else◌, List, length, take, refl, sym, ◌∙◌, ap, subst, arith}
use Rattle.std.proofs.lemmas.Bool.{leb-true, le-leb}
use Rattle.std.proofs.lemmas.List.{length-take-le}
use Rattle.wy_tree.specs.Words.{is_sign}
use Rattle.wy_lexer.specs.Reading.{has_sign, sign_length}
use Rattle.wy_lexer.proofs.Ascii.{both_ok, sign_is_short, not_true}

-- no front that is longer is a sign
abbrev pub NoLonger : List ℕ → ℕ → Type 0
NoLonger text j = (m : ℕ) → j < m → m ≤ length text → is_sign (take m text) ≡ false

none_past_four : (text : List ℕ) → NoLonger text 4
none_past_four text m lt le =
    not_true (is_sign (take m text)) (λ e. let f = sign_is_short (take m text) e in let g = length-take-le m text le in omega (arith, f, g, lt))

absent : (text : List ℕ) (n : ℕ) → has_sign text n ≡ false → n ≤ length text → is_sign (take n text) ≡ false
absent text n e le = sym (ap (λ z. z && is_sign (take n text)) (le-leb n (length text) le)) ∙ e

one_less : (text : List ℕ) (j k : ℕ) → k ≡ j + 1 → has_sign text k ≡ false → NoLonger text k → NoLonger text j
one_less text j k p e free m lt le = by (nat_eq k m) refl
  where
    by : (v : Bool) → nat_eq k m ≡ v → is_sign (take m text) ≡ false
    by true f = let g : k ≡ m = search (arith, f) in subst (λ z. is_sign (take z text) ≡ false) g (absent text k e (omega (arith, g, le)))
    by false f = free m (search (arith, f)) le

pub record IsSigned (text : List ℕ) (n : ℕ) : Type 0 where
  pub within : n ≤ length text
  pub sign : 0 < n → is_sign (take n text) ≡ true
  pub no_longer : NoLonger text n

signed : (text : List ℕ) (n : ℕ) → has_sign text n ≡ true → NoLonger text n → IsSigned text n
signed text n e free = let f = both_ok (nat_le n (length text)) (is_sign (take n text)) e in record { within = leb-true n (length text) f.0; sign = λ lt. f.1; no_longer = free }

pub sign_length_right : (text : List ℕ) → IsSigned text (sign_length text)
unfolding sign_length
sign_length_right text = four (has_sign text 4) refl
  where
    one : (v : Bool) → has_sign text 1 ≡ v → NoLonger text 1 → IsSigned text (if v then 1 else 0)
    one true e free = signed text 1 e free
    one false e free = record { within = omega arith; sign = λ lt. absurd (omega arith); no_longer = one_less text 0 1 refl e free }

    two : (v : Bool) → has_sign text 2 ≡ v → NoLonger text 2 → IsSigned text (if v then 2 else (if has_sign text 1 then 1 else 0))
    two true e free = signed text 2 e free
    two false e free = one (has_sign text 1) refl (one_less text 1 2 refl e free)

    three : (v : Bool) → has_sign text 3 ≡ v → NoLonger text 3 → IsSigned text (if v then 3 else (if has_sign text 2 then 2 else (if has_sign text 1 then 1 else 0)))
    three true e free = signed text 3 e free
    three false e free = two (has_sign text 2) refl (one_less text 2 3 refl e free)

    four : (v : Bool) → has_sign text 4 ≡ v → IsSigned text (if v then 4 else (if has_sign text 3 then 3 else (if has_sign text 2 then 2 else (if has_sign text 1 then 1 else 0))))
    four true e = signed text 4 e (none_past_four text)
    four false e = three (has_sign text 3) refl (one_less text 3 4 refl e (none_past_four text))
