-- What lists contain.
use Rattle.std.proofs.Common.{◌≡◌, ◌⊎◌, ◌++◌, ◌∷◌, [], inl, inr, ⊎_elim, ℕ, zero, suc, List, sym, subst, ◌<◌, ◌+◌, arith}
use Rattle.std.specs.List.{Contains, flat_map, range_with_len}
use Rattle.std.proofs.lemmas.List.Elements.{Contains-append_cases, Contains-append_left, Contains-append_right, Contains-push}

pub nothing_in : {X A : Type 0} (x : X) → Contains [] x → A
nothing_in x h = absurd (let l = h.1 in omega (arith, l))

pub in_head : {X : Type 0} (x : X) (xs : List X) → Contains (x ∷ xs) x
in_head x xs = Contains-append_left (x ∷ []) xs x (Contains-push [] x)

pub in_tail : {X : Type 0} (x y : X) (xs : List X) → Contains xs y → Contains (x ∷ xs) y
in_tail x y xs h = Contains-append_right (x ∷ []) xs y h

only_in : {X : Type 0} (x y : X) → Contains (x ∷ []) y → x ≡ y
only_in x y (zero, l, e) = e
only_in x y (suc k, l, e) = absurd (omega (arith, l))

pub in_cases : {X : Type 0} (x y : X) (xs : List X) → Contains (x ∷ xs) y → (x ≡ y) ⊎ Contains xs y
in_cases x y xs h = ⊎_elim (λ (i : Contains (x ∷ []) y). inl (only_in x y i)) (λ (i : Contains xs y). inr i) (Contains-append_cases (x ∷ []) xs y h)

pub in_left : {X : Type 0} (xs ys : List X) (x : X) → Contains xs x → Contains (xs ++ ys) x
in_left xs ys x h = Contains-append_left xs ys x h

pub in_right : {X : Type 0} (xs ys : List X) (x : X) → Contains ys x → Contains (xs ++ ys) x
in_right xs ys x h = Contains-append_right xs ys x h

pub in_either : {X : Type 0} (xs ys : List X) (x : X) → Contains (xs ++ ys) x → Contains xs x ⊎ Contains ys x
in_either xs ys x h = Contains-append_cases xs ys x h

pub in_flat : {X Y : Type 0} (f : X → List Y) (xs : List X) (x : X) (y : Y) → Contains xs x → Contains (f x) y → Contains (flat_map f xs) y
in_flat f [] x y i j = nothing_in x i
in_flat f (z ∷ xs) x y i j = ⊎_elim
    (λ (e : z ≡ x). in_left (f z) (flat_map f xs) y (subst (λ u. Contains (f u) y) (sym e) j))
    (λ (k : Contains xs x). in_right (f z) (flat_map f xs) y (in_flat f xs x y k j))
    (in_cases z x xs i)

pub of_flat : {X Y : Type 0} (f : X → List Y) (xs : List X) (y : Y) → Contains (flat_map f xs) y → (x : X) × Contains xs x × Contains (f x) y
of_flat f [] y h = nothing_in y h
of_flat f (x ∷ xs) y h = ⊎_elim
    (λ (i : Contains (f x) y). (x, in_head x xs, i))
    (λ (i : Contains (flat_map f xs) y). let r = of_flat f xs y i in (r.0, in_tail x r.0 xs r.1, r.2))
    (in_either (f x) (flat_map f xs) y h)

pub in_range : (low n k : ℕ) → k < n → Contains (range_with_len low n) (low + k)
in_range low zero k l = absurd (omega (arith, l))
in_range low (suc n) zero l = subst (λ j. Contains (range_with_len low (suc n)) j) (let e : low ≡ low + 0 = omega arith in e) (in_head low (range_with_len (low + 1) n))
in_range low (suc n) (suc k) l = subst (λ j. Contains (range_with_len low (suc n)) j) (let e : (low + 1) + k ≡ low + suc k = omega arith in e) (in_tail low ((low + 1) + k) (range_with_len (low + 1) n) (in_range (low + 1) n k (omega (arith, l))))

pub in_numbers : (n k : ℕ) → k < n → Contains (range_with_len 0 n) k
in_numbers n k l = subst (λ j. Contains (range_with_len 0 n) j) (let e : 0 + k ≡ k = omega arith in e) (in_range 0 n k l)
