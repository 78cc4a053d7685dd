-- Bytes of words and signs are ASCII.
use Rattle.std.proofs.Common.{rules, nat_lt, length, ℕ, zero, suc, ◌≤◌, ◌<◌, ◌≡◌, nat_le, nat_eq, Bool, true, false, ◌&&◌, ◌||◌, List, [], ◌∷◌, refl, sym, ◌∙◌, ap, subst, arith}
use Rattle.std.proofs.lemmas.Bool.{eqb-true, leb-true, ltb-true}
use Rattle.std.specs.Cmp.Lexicographic.{same_text}
use Rattle.std.specs.List.{list_all}
use Rattle.std.specs.Str.{IsAscii, bytes_eq}
use Rattle.wy_tree.specs.Bytes.{is_within, goes_on_word, begins_word, is_digit, is_among}
use Rattle.wy_tree.specs.Words.{is_sign, signs}

pub both_ok : (a b : Bool) → a && b ≡ true → (a ≡ true) × (b ≡ true)
both_ok true b e = (refl, e)
both_ok false b e = absurd (cc)

pub both_true : (a b : Bool) → a ≡ true → b ≡ true → a && b ≡ true
both_true a b e f = ap (λ z. z && b) e ∙ f

pub either : (x y : Bool) (P : Type 0) → x || y ≡ true → (x ≡ true → P) → (y ≡ true → P) → P
either true y P e f g = f refl
either false y P e f g = g e

within_small : (low high b : ℕ) → high < 128 → is_within low high b ≡ true → b < 128
within_small low high b lt e = let le : b ≤ high = leb-true b high (both_ok (nat_le low b) (nat_le b high) e).1 in omega arith

equal_small : (b c : ℕ) → c < 128 → nat_eq b c ≡ true → b < 128
equal_small b c lt e = let p : b ≡ c = eqb-true b c e in omega arith

pub word_byte_small : (b : ℕ) → goes_on_word b ≡ true → b < 128
word_byte_small b e =
    either (begins_word b) (is_digit b) (b < 128) e
    (λ e. either (is_within 97 122 b) _ (b < 128) e (λ f. within_small 97 122 b (omega arith) f)
    (λ e. either (is_within 65 90 b) _ (b < 128) e (λ f. within_small 65 90 b (omega arith) f)
    (λ e. either (nat_eq b 95) (nat_eq b 36) (b < 128) e (λ f. equal_small b 95 (omega arith) f) (λ f. equal_small b 36 (omega arith) f))))
    (λ f. within_small 48 57 b (omega arith) f)

pub run_is_ascii : (bytes : List ℕ) → list_all goes_on_word bytes ≡ true → IsAscii bytes
run_is_ascii [] e i = search (rules)
run_is_ascii (b ∷ bytes) e zero = word_byte_small b (both_ok (goes_on_word b) (list_all goes_on_word bytes) e).0
run_is_ascii (b ∷ bytes) e (suc i) = run_is_ascii bytes (both_ok (goes_on_word b) (list_all goes_on_word bytes) e).1 i

pub bytes_are_ascii : (bytes : List ℕ) → list_all (λ b. nat_lt b 128) bytes ≡ true → IsAscii bytes
bytes_are_ascii [] e i = search (rules)
bytes_are_ascii (b ∷ bytes) e zero = ltb-true b 128 (both_ok (nat_lt b 128) (list_all (λ b. nat_lt b 128) bytes) e).0
bytes_are_ascii (b ∷ bytes) e (suc i) = bytes_are_ascii bytes (both_ok (nat_lt b 128) (list_all (λ b. nat_lt b 128) bytes) e).1 i

-- what holds of each of some words holds of one among them
pub among : (p : List ℕ → Bool) (words : List (List ℕ)) (w : List ℕ) → list_all p words ≡ true → is_among words w ≡ true → p w ≡ true
among p [] w e f = absurd (cc)
among p (x ∷ words) w e f =
    let g = both_ok (p x) (list_all p words) e in
    either (bytes_eq x w) (is_among words w) (p w ≡ true) f (λ h. subst (λ z. p z ≡ true) (same_text x w (sym h)) g.0) (λ h. among p words w g.1 h)

pub sign_is_ascii : (bytes : List ℕ) → is_sign bytes ≡ true → IsAscii bytes
unfolding is_sign signs
sign_is_ascii bytes e = bytes_are_ascii bytes (among (λ s. list_all (λ b. nat_lt b 128) s) signs bytes refl e)

pub sign_is_short : (bytes : List ℕ) → is_sign bytes ≡ true → length bytes ≤ 4
unfolding is_sign signs
sign_is_short bytes e = leb-true (length bytes) 4 (among (λ s. nat_le (length s) 4) signs bytes refl e)

pub empty_no_sign : is_sign [] ≡ false
unfolding is_sign signs
empty_no_sign = refl

pub not_true : (b : Bool) → (b ≡ true → ⊥) → b ≡ false
not_true true f = absurd (f refl)
not_true false f = refl

pub different : (b c : ℕ) → (b ≡ c → ⊥) → nat_eq b c ≡ false
different b c f = not_true (nat_eq b c) (λ e. f (eqb-true b c e))
