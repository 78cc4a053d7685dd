-- Whether a class is above another is decided.
use Rattle.std.proofs.Common.{◌≡◌, refl, subst, arith, ℕ, zero, suc, ◌<◌, ◌⊎◌, inl, inr, List, [], ◌∷◌, length}
use Rattle.std.specs.List.{Contains}
use Rattle.std.proofs.lemmas.Bool.Decides.{eqb_tells}
use Rattle.wy_kernel.specs.Program.{Class}
use Rattle.wy_kernel.specs.Subtyping.{direct_supertypes, Supertype, itself, further, IsAcyclic}
use Rattle.wy_kernel.proofs.Climbing.{climb, first_or_later, none_contained, one_way}
use Rattle.law_judgement.proofs.Decided.{Decided}

-- one of the list has the property, or none
abbrev SomeOrNone : (ℕ → Type 0) → List ℕ → Type 0
SomeOrNone P xs = ((x : ℕ) × Contains xs x × P x) ⊎ ((x : ℕ) → Contains xs x → P x → ⊥)

some_or_none : (P : ℕ → Type 0) (xs : List ℕ) → ((x : ℕ) → Contains xs x → Decided (P x)) → SomeOrNone P xs
some_or_none P [] test = inr (λ x h. none_contained x h)
some_or_none P (y ∷ ys) test =
    elim (test y (0, omega arith, refl)) [
      | inl p ↦ inl (y, (0, omega arith, refl), p)
      | inr none ↦ elim (some_or_none P ys (λ x h. test x (suc h.0, (let lt : h.0 < length ys = h.1 in omega arith), h.2))) [
        | inl found ↦ inl (found.0, (suc found.1.0, (let lt : found.1.0 < length ys = found.1.1 in omega arith), found.1.2), found.2)
        | inr rest ↦ inr (λ x h. first_or_later (λ e. P e → ⊥) y ys none rest x h)
      ]
    ]

-- class d is above class c, or is not
pub above_or_not : (classes : List Class) → IsAcyclic classes → (c d : ℕ) → Decided (Supertype classes c d)
above_or_not classes acyclic c d = climb classes acyclic (λ f e. Decided (Supertype classes e d)) step c
  where
    up : (e : ℕ) → (e ≡ d → ⊥) → SomeOrNone (λ x. Supertype classes x d) (direct_supertypes classes e) → Decided (Supertype classes e d)
    up e other (inl (x, h, s)) = inl (further h s)
    up e other (inr none) = inr (λ s. elim (one_way classes s) [ inl is ↦ other is | inr w ↦ none w.0 w.1 w.2 ])

    step : (f e : ℕ) → ((x : ℕ) → Contains (direct_supertypes classes e) x → Decided (Supertype classes x d)) → Decided (Supertype classes e d)
    step f e test =
        elim (eqb_tells e d) [
          | inl same ↦ inl (subst (λ x. Supertype classes e x) same.1 itself)
          | inr other ↦ up e other.1 (some_or_none (λ x. Supertype classes x d) (direct_supertypes classes e) test)
        ]
