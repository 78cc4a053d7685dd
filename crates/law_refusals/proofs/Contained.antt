-- What stands in a list.
use Rattle.std.proofs.Common.{◌≡◌, refl, arith, zero, suc, ◌<◌, List, [], ◌∷◌, length, ◌⊎◌, inl, inr}
use Rattle.std.specs.List.{Contains}

pub contains_here : {X : Type 0} {x y : X} (xs : List X) → x ≡ y → Contains (x ∷ xs) y
contains_here xs e = (0, omega arith, e)

pub contains_later : {X : Type 0} (x y : X) (xs : List X) → Contains xs y → Contains (x ∷ xs) y
contains_later x y xs h = (suc h.0, (let lt : h.0 < length xs = h.1 in omega arith), h.2)

pub contains_none : {X : Type 0} {y : X} → Contains [] y → ⊥
contains_none (k, lt, e) = omega arith

pub contains_cases : {X : Type 0} (x y : X) (xs : List X) → Contains (x ∷ xs) y → (x ≡ y) ⊎ Contains xs y
contains_cases x y xs (zero, lt, e) = inl e
contains_cases x y xs (suc k, lt, e) = inr (k, omega arith, e)

pub only_one : {X : Type 0} (x : X) → Contains (x ∷ []) x
only_one x = contains_here [] refl

pub first_of_two : {X : Type 0} (x y : X) → Contains (x ∷ y ∷ []) x
first_of_two x y = contains_here (y ∷ []) refl

pub second_of_two : {X : Type 0} (x y : X) → Contains (x ∷ y ∷ []) y
second_of_two x y = contains_later x y (y ∷ []) (only_one y)

pub first_of_three : {X : Type 0} (x y z : X) → Contains (x ∷ y ∷ z ∷ []) x
first_of_three x y z = contains_here (y ∷ z ∷ []) refl

pub second_of_three : {X : Type 0} (x y z : X) → Contains (x ∷ y ∷ z ∷ []) y
second_of_three x y z = contains_later x y (y ∷ z ∷ []) (first_of_two y z)

pub third_of_three : {X : Type 0} (x y z : X) → Contains (x ∷ y ∷ z ∷ []) z
third_of_three x y z = contains_later x z (y ∷ z ∷ []) (second_of_two y z)
