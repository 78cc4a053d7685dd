-- What lists have that are made of others.
use Rattle.std.proofs.Common.{◌≡◌, ℕ, zero, suc, Bool, true, false, List, [], ◌∷◌, map, refl, sym, ap, subst, inl, inr, ⊎_elim, ◌⊎◌, ◌↔◌, arith, eqb-true, eq-eqb}
use Rattle.std.specs.Prelude.{nat_eq}
use Rattle.std.specs.List.{Contains, flat_map}
use Rattle.std.proofs.lemmas.List.Elements.{Contains-append_left, Contains-append_right, Contains-append_cases}
use Rattle.wy_static.specs.Rows.{one_if}

pub none : {X : Type 0} (y : X) → Contains [] y → ⊥
none y (k, lt, is) = omega (arith, lt)

pub alone : {X : Type 0} (x y : X) → Contains (x ∷ []) y → y ≡ x
alone x y (zero, lt, is) = sym is
alone x y (suc k, lt, is) = absurd (omega (arith, lt))

pub first_in : {X : Type 0} (x : X) (xs : List X) → Contains (x ∷ xs) x
first_in x xs = (0, omega arith, refl)

pub same_in : {X : Type 0} (xs : List X) (x y : X) → x ≡ y → Contains xs x → Contains xs y
same_in xs x y e h = subst (λ z. Contains xs z) e h

pub later_in : {X : Type 0} (x : X) (xs : List X) (y : X) → Contains xs y → Contains (x ∷ xs) y
later_in x xs y h = Contains-append_right (x ∷ []) xs y h

pub cases_in : {X : Type 0} (x : X) (xs : List X) (y : X) → Contains (x ∷ xs) y → (y ≡ x) ⊎ Contains xs y
cases_in x xs y h = ⊎_elim (λ a. inl (alone x y a)) (λ b. inr b) (Contains-append_cases (x ∷ []) xs y h)

pub in_map : {X Y : Type 0} (f : X → Y) (xs : List X) (x : X) → Contains xs x → Contains (map f xs) (f x)
in_map f [] x h = absurd (none x h)
in_map f (z ∷ zs) x h = ⊎_elim
    (λ e. same_in (map f (z ∷ zs)) (f z) (f x) (ap f (sym e)) (first_in (f z) (map f zs)))
    (λ g. later_in (f z) (map f zs) (f x) (in_map f zs x g))
    (cases_in z zs x h)

pub of_map : {X Y : Type 0} (f : X → Y) (xs : List X) (y : Y) → Contains (map f xs) y → (x : X) × Contains xs x × (y ≡ f x)
of_map f [] y h = absurd (none y h)
of_map f (z ∷ zs) y h = ⊎_elim
    (λ e. (z, first_in z zs, e))
    (λ g. let r = of_map f zs y g in (r.0, later_in z zs r.0 r.1, r.2))
    (cases_in (f z) (map f zs) y h)

-- ---- one number under each of some keys

in_one_if : (d q x y : ℕ) (b : Bool) → nat_eq d q ≡ b → Contains (one_if b x) y → (y ≡ x) × (q ≡ d)
in_one_if d q x y true e h = (alone x y h, sym (eqb-true d q e))
in_one_if d q x y false e h = absurd (none y h)

of_one_if : (d q x : ℕ) → q ≡ d → Contains (one_if (nat_eq d q) x) x
of_one_if d q x e = rw (eq-eqb d q (sym e)) (first_in x [])

pub kept_each : (x q y : ℕ) (ds : List ℕ) → Contains (flat_map (λ d. one_if (nat_eq d q) x) ds) y ↔ ((y ≡ x) × Contains ds q)
kept_each x q y [] = (λ h. absurd (none y h), λ h. absurd (none q h.1))
kept_each x q y (d ∷ ds) =
    let rest = kept_each x q y ds in (
      λ h. ⊎_elim
          (λ a. let is = in_one_if d q x y (nat_eq d q) refl a in (is.0, same_in (d ∷ ds) d q (sym is.1) (first_in d ds)))
          (λ b. let is = rest.0 b in (is.0, later_in d ds q is.1))
          (Contains-append_cases (one_if (nat_eq d q) x) (flat_map (λ d. one_if (nat_eq d q) x) ds) y h),
      λ h. ⊎_elim
          (λ e. Contains-append_left (one_if (nat_eq d q) x) (flat_map (λ d. one_if (nat_eq d q) x) ds) y (same_in (one_if (nat_eq d q) x) x y (sym h.0) (of_one_if d q x e)))
          (λ g. Contains-append_right (one_if (nat_eq d q) x) (flat_map (λ d. one_if (nat_eq d q) x) ds) y (rest.1 (h.0, g)))
          (cases_in d ds q h.1),
    )
