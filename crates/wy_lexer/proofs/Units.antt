-- The units of a string literal, read element by element.
use Rattle.std.proofs.Common.{ℕ, zero, suc, ◌≡◌, nat_eq, Bool, if◌then◌else◌, List, [], ◌∷◌, ◌++◌, length, Option, Some, None, refl, sym, ◌∙◌, ap, append_assoc, append-nil, arith}
use Rattle.wy_lexer.proofs.Ascii.{different}
use Rattle.wy_tree.specs.Literals.{Element, element, with_units, followed_by, text_from}

abbrev pub IsFrom : Option Element → List ℕ → ℕ → List ℕ → Type 0
IsFrom all us k rest = all ≡ with_units us (text_from k rest)

abbrev step : ℕ → Bool → List ℕ → Option Element → Option Element
step k quote behind found = if quote then Some ([], behind) else followed_by (text_from k) found

pub text_end : (all : Option Element) (us : List ℕ) (k : ℕ) (rest : List ℕ) → IsFrom all us k rest → length rest ≡ 0 → None ≡ all
unfolding text_from
text_end all us zero rest e f = sym e
text_end all us (suc k) [] e f = sym e
text_end all us (suc k) (b ∷ rest) e f = absurd (omega arith)

pub text_out : (all : Option Element) (us : List ℕ) (k : ℕ) (rest : List ℕ) → IsFrom all us k rest → k ≡ 0 → None ≡ all
unfolding text_from
text_out all us zero rest e f = sym e
text_out all us (suc k) rest e f = absurd (omega arith)

begun : (all : Option Element) (us : List ℕ) (k j : ℕ) (b : ℕ) (rest behind : List ℕ) → IsFrom all us k rest → k ≡ suc j → rest ≡ b ∷ behind → all ≡ with_units us (step j (nat_eq b 34) behind (element b behind))
unfolding text_from
begun all us k j b rest behind e f g = e ∙ ap (λ z. with_units us (text_from z rest)) f ∙ ap (λ z. with_units us (text_from (suc j) z)) g

pub text_close : (all : Option Element) (us : List ℕ) (k j : ℕ) (b : ℕ) (rest behind : List ℕ) → IsFrom all us k rest → k ≡ suc j → rest ≡ b ∷ behind → b ≡ 34 → Some (us, behind) ≡ all
text_close all us k j b rest behind e f g h =
    sym (begun all us k j b rest behind e f g ∙ ap (λ z. with_units us (step j (nat_eq z 34) behind (element b behind))) h ∙ ap (λ z. Some (z, behind)) (append-nil us))

pub text_stop : (all : Option Element) (us : List ℕ) (k j : ℕ) (b : ℕ) (rest behind : List ℕ) → IsFrom all us k rest → k ≡ suc j → rest ≡ b ∷ behind → (b ≡ 34 → ⊥) → element b behind ≡ None → None ≡ all
text_stop all us k j b rest behind e f g h i =
    sym (begun all us k j b rest behind e f g ∙ ap (λ z. with_units us (step j z behind (element b behind))) (different b 34 h) ∙ ap (λ z. with_units us (followed_by (text_from j) z)) i)

twice : (us vs : List ℕ) (o : Option Element) → with_units us (with_units vs o) ≡ with_units (us ++ vs) o
twice us vs None = refl
twice us vs (Some x) = ap (λ z. Some (z, x.1)) (sym (append_assoc us vs x.0))

pub text_more : (all : Option Element) (us vs more : List ℕ) (k j : ℕ) (b : ℕ) (rest behind after : List ℕ) → IsFrom all us k rest → k ≡ suc j → rest ≡ b ∷ behind → (b ≡ 34 → ⊥)
    → element b behind ≡ Some (vs, after) → more ≡ us ++ vs → IsFrom all more j after
text_more all us vs more k j b rest behind after e f g h i p =
    begun all us k j b rest behind e f g ∙ ap (λ z. with_units us (step j z behind (element b behind))) (different b 34 h) ∙ ap (λ z. with_units us (followed_by (text_from j) z)) i
    ∙ twice us vs (text_from j after) ∙ ap (λ z. with_units z (text_from j after)) (sym p)
