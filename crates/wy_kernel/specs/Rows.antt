-- Lists that grow by the elements which they lack.
use Rattle.std.specs.Prelude.{◌≡◌, ℕ, List, ◌++◌, ◌⊎◌, nat_eq}
use Rattle.std.specs.List.{Contains, IsDistinct}

-- the list after it took each element of another that it lacked, behind its own
pub record TakesEach (old others new : List ℕ) : Type 0 where
  pub front : (rest : List ℕ) × (new ≡ old ++ rest)
  pub only : (x : ℕ) → Contains new x → Contains old x ⊎ Contains others x
  pub each : (x : ℕ) → Contains others x → Contains new x
  pub once : IsDistinct nat_eq old → IsDistinct nat_eq new
