-- What a list contains, and at which place.
use Rattle.std.proofs.Common.{◌≡◌, ℕ, zero, suc, ◌<◌, ◌+◌, List, [], ◌∷◌, length, Some, refl, sym, ◌∙◌, ap, subst, arith, inl, inr, map}
use Rattle.std.specs.Prelude.{slice_get, option_map, flat_map}
use Rattle.std.specs.List.{Contains, enumerate_from}
use Rattle.std.proofs.lemmas.Option.{slice_get-map, slice_get-get_or, slice_get_within, get_or_from_slice_get}
use Rattle.std.proofs.lemmas.List.FromFn.{length-enumerate_from, get_or-enumerate_from}
use Rattle.std.proofs.lemmas.List.Elements.{Contains-append_left, Contains-append_right, Contains-append_cases}

-- an element at a place
pub contained : {X : Type 0} (xs : List X) (i : ℕ) (x : X) → slice_get xs i ≡ Some x → Contains xs x
contained xs i x e = (i, slice_get_within xs i x e, get_or_from_slice_get xs i x x e)

pub placed : {X : Type 0} (xs : List X) (x : X) → Contains xs x → (i : ℕ) × (slice_get xs i ≡ Some x)
placed xs x (i, lt, e) = (i, slice_get-get_or xs i x lt ∙ ap Some e)

-- an element of what f makes of an element
pub in_flat : {X Y : Type 0} (f : X → List Y) (xs : List X) (i : ℕ) (x : X) (y : Y) → slice_get xs i ≡ Some x → Contains (f x) y → Contains (flat_map f xs) y
in_flat f [] i x y e h = absurd (cc)
in_flat {X} {Y} f (z ∷ xs) zero x y e h = let same : z ≡ x = cc in Contains-append_left (f z) (flat_map f xs) y (subst (λ (w : X). Contains (f w) y) (sym same) h)
in_flat f (z ∷ xs) (suc i) x y e h = Contains-append_right (f z) (flat_map f xs) y (in_flat f xs i x y e h)

pub of_flat : {X Y : Type 0} (f : X → List Y) (xs : List X) (y : Y) → Contains (flat_map f xs) y → (i : ℕ) × (x : X) × (slice_get xs i ≡ Some x) × Contains (f x) y
of_flat f [] y (k, lt, e) = absurd (omega arith)
of_flat f (z ∷ xs) y h =
    elim (Contains-append_cases (f z) (flat_map f xs) y h) [
      | inl here ↦ (0, z, refl, here)
      | inr later ↦ (let w = of_flat f xs y later in (suc w.0, w.1, w.2, w.3))
    ]

pub in_mapped : {X Y : Type 0} (f : X → Y) (xs : List X) (i : ℕ) (x : X) → slice_get xs i ≡ Some x → Contains (map f xs) (f x)
in_mapped f xs i x e = contained (map f xs) i (f x) (slice_get-map f xs i ∙ ap (option_map f) e)

pub of_mapped : {X Y : Type 0} (f : X → Y) (xs : List X) (y : Y) → Contains (map f xs) y → (i : ℕ) × (x : X) × (slice_get xs i ≡ Some x) × (f x ≡ y)
of_mapped f [] y (k, lt, e) = absurd (omega arith)
of_mapped f (x ∷ xs) y (zero, lt, e) = (0, x, refl, e)
of_mapped f (x ∷ xs) y (suc k, lt, e) = let w = of_mapped f xs y (k, omega arith, e) in (suc w.0, w.1, w.2, w.3)

-- numbered from n
pub in_numbered : {X : Type 0} (n : ℕ) (xs : List X) (i : ℕ) (x : X) → slice_get xs i ≡ Some x → Contains (enumerate_from n xs) (n + i, x)
in_numbered n xs i x e =
    let lt : i < length xs = slice_get_within xs i x e in
    let many = length-enumerate_from n xs in
    (i, omega arith, get_or-enumerate_from n xs i (n + i, x) lt ∙ ap (λ y. (n + i, y)) (get_or_from_slice_get xs i x x e))

pub of_numbered : {X : Type 0} (n : ℕ) (xs : List X) (c : ℕ) (x : X) → Contains (enumerate_from n xs) (c, x) → (i : ℕ) × (slice_get xs i ≡ Some x) × (n + i ≡ c)
of_numbered {X} n xs c x (i, within, e) =
    let many = length-enumerate_from n xs in
    let lt : i < length xs = omega arith in
    let is = sym (get_or-enumerate_from n xs i (c, x) lt) ∙ e in
    (i, slice_get-get_or xs i x lt ∙ ap Some (ap (λ (p : ℕ × X). p.1) is), ap (λ (p : ℕ × X). p.0) is)
