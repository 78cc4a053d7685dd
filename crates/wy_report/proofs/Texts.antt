-- What is shown is text.
use Rattle.std.proofs.Common.{◌≡◌, ◌≢◌, ◌∙◌, ◌⊎◌, inl, inr, ⊎_elim, arith, ℕ, Bool, true, false, List, [], ◌∷◌, ◌++◌, Option, Some, refl, sym, eq-eqb}
use Rattle.std.specs.Prelude.{None as Absent}
use Rattle.std.specs.Prelude.{◌==◌, ◌&&◌, not, nat_lt, codes, if◌then◌else◌}
use Rattle.std.proofs.lemmas.Bool.{false≢true}
use Rattle.wy_report.specs.Escapes.{IsText, ampersand, byte, entity, entity_or, escaped, escaped_byte, greater, less, nothing, quote, shown_byte}
use Rattle.wy_report.specs.Laws.{ShownIsText}

apart : (b n : ℕ) → (b == n) ≡ false → b ≢ n
apart b n other same = false≢true (sym other ∙ eq-eqb b n same)

one_of : (c : Bool) (b : ℕ) → ((if c then 32 else b) ≡ 32) ⊎ ((if c then 32 else b) ≡ b)
one_of true b = inl refl
one_of false b = inr refl

-- what is shown is a space or the byte
not_shown : (b n : ℕ) → b ≢ n → 32 ≢ n → shown_byte b ≢ n
not_shown b n other space same = ⊎_elim (λ (is : shown_byte b ≡ 32). space (sym is ∙ same)) (λ (is : shown_byte b ≡ b). other (sym is ∙ same)) (one_of (nat_lt b 32 && not (b == 9)) b)

-- a byte that no entity stands for means itself, or is shown as a space
plain : (b : ℕ) (rest : List ℕ) → b ≢ 38 → b ≢ 60 → b ≢ 62 → b ≢ 34 → IsText rest → IsText (entity_or b Absent ++ rest)
plain b rest na nl ng nq is =
    byte (shown_byte b) rest (not_shown b 38 na (λ e. omega (arith, e))) (not_shown b 60 nl (λ e. omega (arith, e))) (not_shown b 62 ng (λ e. omega (arith, e))) (not_shown b 34 nq (λ e. omega (arith, e))) is

-- the entity, by what a byte is
abbrev picked : Bool → Bool → Bool → Bool → Option (List ℕ)
picked a l g q =
    if a then Some (codes "&amp;") else (if l then Some (codes "&lt;") else (if g then Some (codes "&gt;") else (if q then Some (codes "&quot;") else Absent)))

one_byte : (b : ℕ) (rest : List ℕ) → IsText rest → IsText (escaped_byte b ++ rest)
one_byte b rest is = go (b == 38) (b == 60) (b == 62) (b == 34) refl refl refl refl
  where
    go : (a l g q : Bool) → (b == 38) ≡ a → (b == 60) ≡ l → (b == 62) ≡ g → (b == 34) ≡ q → IsText (entity_or b (picked a l g q) ++ rest)
    go true l g q ea el eg eq = entity (codes "&amp;") rest ampersand is
    go false true g q ea el eg eq = entity (codes "&lt;") rest less is
    go false false true q ea el eg eq = entity (codes "&gt;") rest greater is
    go false false false true ea el eg eq = entity (codes "&quot;") rest quote is
    go false false false false ea el eg eq = plain b rest (apart b 38 ea) (apart b 60 el) (apart b 62 eg) (apart b 34 eq) is

pub shown_is_text : ShownIsText
unfolding escaped
shown_is_text [] = nothing
shown_is_text (b ∷ text) = one_byte b (escaped text) (shown_is_text text)
