-- The least of the numbers that have a property.
use Rattle.std.specs.Prelude.{◌≡◌, ℕ, ◌<◌, ◌≤◌, min, List, Option, Some, None, slice_get, ◌⊎◌}

pub data IsLeast (P : ℕ → Type 0) : Option ℕ → Type 0 where
  nowhere : ((n : ℕ) → P n → ⊥) → IsLeast P None
  least : {n : ℕ} → P n → ((m : ℕ) → P m → n ≤ m) → IsLeast P (Some n)

-- the lesser of two numbers of which each may be absent
abbrev pub lesser : Option ℕ → Option ℕ → Option ℕ
lesser None b = b
lesser (Some a) None = Some a
lesser (Some a) (Some b) = Some (min a b)

-- one property or another
abbrev pub Either : (ℕ → Type 0) → (ℕ → Type 0) → ℕ → Type 0
Either P Q n = P n ⊎ Q n

-- a fact that is found at this token
abbrev pub Here : Type 0 → ℕ → ℕ → Type 0
Here Q token n = Q × (token ≡ n)

-- what holds of an element of the list, with its place
abbrev pub Among : {X : Type 0} → List X → (ℕ → X → ℕ → Type 0) → ℕ → Type 0
Among {X} xs P n = (i : ℕ) × (x : X) × (slice_get xs i ≡ Some x) × P i x n

-- an element is the same as one before it, and stands here
abbrev pub IsAgain : {X : Type 0} → (X → X → Type 0) → (X → ℕ) → List X → ℕ → Type 0
IsAgain {X} same place xs n = (i : ℕ) × (j : ℕ) × (a : X) × (b : X) × (i < j) × (slice_get xs i ≡ Some a) × (slice_get xs j ≡ Some b) × same a b × (place b ≡ n)

-- the element at j is the same as one before it
abbrev pub RepeatsEarlier : {X : Type 0} → (X → X → Type 0) → List X → ℕ → X → Type 0
RepeatsEarlier {X} same xs j b = (i : ℕ) × (a : X) × (i < j) × (slice_get xs i ≡ Some a) × same a b
