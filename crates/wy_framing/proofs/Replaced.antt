-- The first bytes of a file tell whether a trace may take its place.
use Rattle.std.proofs.Common.{◌≡◌, ℕ, List, [], ◌∷◌, take, inl, inr, ⊎_elim, ◌↔◌, refl, sym, ◌∙◌, ap, le_refl, take-take}
use mathlib.Core.List.{cons≢nil}
use Rattle.wy_framing.specs.Replaced.{IsReplaceable}

empty_front : (held : List ℕ) → take 8 held ≡ [] → held ≡ []
empty_front [] _ = refl
empty_front (x ∷ xs) is = absurd (cons≢nil is)

pub front_tells : (held : List ℕ) → IsReplaceable (take 8 held) ↔ IsReplaceable held
front_tells held =
    let twice : take 8 (take 8 held) ≡ take 8 held = take-take 8 8 held (le_refl 8) in (
      ⊎_elim (λ none. inl (empty_front held none)) (λ begins. inr (⊎_elim (λ one. inl (sym twice ∙ one)) (λ two. inr (sym twice ∙ two)) begins)),
      ⊎_elim (λ none. inl (ap (take 8) none)) (λ begins. inr (⊎_elim (λ one. inl (twice ∙ one)) (λ two. inr (twice ∙ two)) begins)),
    )
