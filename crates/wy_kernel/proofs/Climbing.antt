-- No class is above itself. So what holds of a class where it holds of all that the class extends and implements holds of each class:
-- no chain of classes is longer than there are classes.
use Rattle.std.proofs.Common.{◌≡◌, refl, sym, subst, arith, rules, ℕ, zero, suc, ◌+◌, ◌<◌, ◌⊎◌, inl, inr, List, [], ◌∷◌, length, nat_eq, false}
use Rattle.std.specs.List.{Contains, IsDistinct, AllByRecursion}
use Rattle.std.proofs.lemmas.Map.Steps.{length-le_from_distinct_below}
use Rattle.wy_kernel.specs.Program.{Class}
use Rattle.wy_kernel.specs.Subtyping.{direct_supertypes, Supertype, itself, further, IsAcyclic}
use Rattle.wy_kernel.proofs.Supertypes.{contained, distinct_with, in_range}
use Rattle.wy_kernel.proofs.Closing.{one_more}

-- class e extends or implements one that class c is above
abbrev IsUnder : List Class → ℕ → ℕ → Type 0
IsUnder classes e c = (d : ℕ) × Contains (direct_supertypes classes e) d × Supertype classes d c

-- the classes on the way to class c, each once
record HasPassed (classes : List Class) (seen : List ℕ) (c : ℕ) : Type 0 where
  pub once : IsDistinct nat_eq seen
  pub among : (e : ℕ) → Contains seen e → e < length classes
  pub under : (e : ℕ) → Contains seen e → IsUnder classes e c

pub none_contained : {A : Type 0} (c : ℕ) → Contains [] c → A
none_contained c (k, lt, e) = absurd (omega arith)

pub first_or_later : (P : ℕ → Type 0) (x : ℕ) (xs : List ℕ) → P x → ((e : ℕ) → Contains xs e → P e) → (e : ℕ) → Contains (x ∷ xs) e → P e
first_or_later P x xs here later e (zero, lt, is) = subst P is here
first_or_later P x xs here later e (suc k, lt, is) = later e (k, omega arith, is)

one_step : (classes : List Class) (seen : List ℕ) (c d : ℕ) → IsAcyclic classes → Contains (direct_supertypes classes c) d → HasPassed classes seen c → HasPassed classes (c ∷ seen) d
unfolding IsDistinct
one_step classes seen c d acyclic h passed = record {
  once = (distinct_with c seen (λ y within is. again (subst (λ x. IsUnder classes x c) (sym is) (passed.under y within))), passed.once);
  among = first_or_later (λ e. e < length classes) c seen (in_range classes c d h) passed.among;
  under = first_or_later (λ e. IsUnder classes e d) c seen (d, h, itself) (λ e within. further_under e (passed.under e within));
}
  where
    again : IsUnder classes c c → ⊥
    again (e, g, s) = acyclic c e g s

    further_under : (e : ℕ) → IsUnder classes e c → IsUnder classes e d
    further_under e (x, g, s) = (x, g, one_more classes s h)

enough : (classes : List Class) (seen : List ℕ) (c : ℕ) → HasPassed classes seen c → length classes < length seen + 0 → ⊥
enough classes seen c passed lt =
    let le = length-le_from_distinct_below seen (length classes) passed.once (λ q within. passed.among q (contained q seen within)) in
    omega (arith, le, lt)

-- what holds within f steps of all that a class extends and implements holds within one more of the class
abbrev pub GoesUp : List Class → (ℕ → ℕ → Type 0) → Type 0
GoesUp classes P = (f c : ℕ) → ((d : ℕ) → Contains (direct_supertypes classes c) d → P f d) → P (suc f) c

climb_from : (classes : List Class) → IsAcyclic classes → (P : ℕ → ℕ → Type 0) → GoesUp classes P →
    (f : ℕ) (seen : List ℕ) (c : ℕ) → HasPassed classes seen c → length classes < length seen + f → P f c
climb_from classes acyclic P step zero seen c passed lt = absurd (enough classes seen c passed lt)
climb_from classes acyclic P step (suc f) seen c passed lt =
    step f c (λ d h. climb_from classes acyclic P step f (c ∷ seen) d (one_step classes seen c d acyclic h passed) (omega (arith, lt)))

-- so it holds of each class within one step more than there are classes
pub climb : (classes : List Class) → IsAcyclic classes → (P : ℕ → ℕ → Type 0) → GoesUp classes P → (c : ℕ) → P (suc (length classes)) c
unfolding IsDistinct
climb classes acyclic P step c =
    climb_from classes acyclic P step (suc (length classes)) [] c (record { once = tt; among = λ e h. none_contained e h; under = λ e h. none_contained e h }) (omega arith)

-- a class that is above another is it, or above one that it extends or implements
pub one_way : (classes : List Class) {c d : ℕ} → Supertype classes c d → (c ≡ d) ⊎ ((e : ℕ) × Contains (direct_supertypes classes c) e × Supertype classes e d)
one_way classes itself = inl refl
one_way classes (further {c} {d} {e} h s) = inr (d, h, s)
