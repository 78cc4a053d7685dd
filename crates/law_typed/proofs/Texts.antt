-- A text is among the texts once it is listed, and no text is lost.
use Rattle.std.proofs.Common.{◌≡◌, ℕ, ◌+◌, ◌<◌, ◌≤◌, Bool, true, false, refl, ap, List, [], ◌∷◌, length, arith, cond, not, if◌then◌else◌, min}
use Rattle.std.specs.Prelude.{bytes_eq}
use Rattle.std.specs.List.{position_or_len}
use Rattle.std.proofs.lemmas.Slice.Eq.{bytes_eq-Decides}
use Rattle.wy_constant.specs.Scope.{FixedText}
use Rattle.wy_elab_expr.specs.Meaning.{has_units, listed, text_number}

same_bytes : (xs : List ℕ) → bytes_eq xs xs ≡ true
same_bytes xs = (bytes_eq-Decides xs xs).1 refl

step : (p : FixedText → Bool) (x : FixedText) (xs : List FixedText) (b : Bool) → p x ≡ b → position_or_len p (x ∷ xs) ≡ cond b 0 (1 + position_or_len p xs)
step p x xs true e = ap (λ b. cond (not b) (1 + position_or_len p xs) 0) e
step p x xs false e = ap (λ b. cond (not b) (1 + position_or_len p xs) 0) e

-- it has a place, and there are no fewer texts
abbrev IsListed : List FixedText → List FixedText → List ℕ → Type 0
IsListed texts all units = (length texts ≤ length all) × (text_number all units < length all)

listed_by : (t : FixedText) (rest : List FixedText) (units : List ℕ) (token : ℕ) (b : Bool) → has_units units t ≡ b → IsListed rest (listed rest units token) units →
    IsListed (t ∷ rest) (if b then record t { token = min t.token token } ∷ rest else t ∷ listed rest units token) units
listed_by t rest units token true e h =
    let f = step (has_units units) (record t { token = min t.token token }) rest true e in (omega arith, omega (arith, f))
listed_by t rest units token false e h =
    let f = step (has_units units) t (listed rest units token) false e in (omega (arith, h.0), omega (arith, f, h.1))

listed_same : (t : FixedText) (rest : List FixedText) (units : List ℕ) (token : ℕ) → IsListed (t ∷ rest) (if has_units units t then record t { token = min t.token token } ∷ rest else t ∷ listed rest units token) units → IsListed (t ∷ rest) (listed (t ∷ rest) units token) units
listed_same t rest units token h = h

pub is_listed : (texts : List FixedText) (units : List ℕ) (token : ℕ) → IsListed texts (listed texts units token) units
is_listed [] units token =
    let f = step (has_units units) (record { units = units; token = token }) [] true (same_bytes units) in (omega arith, omega (arith, f))
is_listed (t ∷ rest) units token = listed_same t rest units token (listed_by t rest units token (has_units units t) refl (is_listed rest units token))
