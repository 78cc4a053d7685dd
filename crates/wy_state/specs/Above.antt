-- A search for a class above another.
use Rattle.std.specs.Prelude.{◌≡◌, ◌⊎◌, ℕ, suc, ◌+◌, ◌<◌, ◌≤◌, Bool, true, false, List, [], ◌∷◌, ◌++◌, length, slice_index_or}
use Rattle.std.specs.Option.{option_to_list}
use Rattle.std.specs.List.{Contains}
use Rattle.wy_kernel.specs.Program.{Class}
use Rattle.wy_state.specs.declared.above.Climb.{Climb}

-- what a class extends and implements
abbrev pub right_above : Class → List ℕ
right_above k = option_to_list k.above ++ k.interfaces

abbrev pub IsMarked : List Bool → ℕ → Type 0
IsMarked marks a = slice_index_or marks a false ≡ true

-- how many are not marked
abbrev pub unmarked : List Bool → ℕ
unmarked [] = 0
unmarked (true ∷ marks) = unmarked marks
unmarked (false ∷ marks) = suc (unmarked marks)

-- how many classes are to be looked at, at most
abbrev pub left_of : Climb → ℕ
left_of s = unmarked s.found.items + length s.waiting.items

-- some classes were met: each that the program has is found, and one that is found anew is one of them and waits
pub record HasVisited (classes : List ℕ) (old new : Climb) : Type 0 where
  pub goal : new.goal ≡ old.goal
  pub sized : length new.found.items ≡ length old.found.items
  pub left : left_of new ≡ left_of old
  pub fewer : unmarked new.found.items ≤ unmarked old.found.items
  pub stay : (a : ℕ) → IsMarked old.found.items a → IsMarked new.found.items a
  pub found : (a : ℕ) → Contains classes a → a < length old.found.items → IsMarked new.found.items a
  pub news : (a : ℕ) → IsMarked new.found.items a
      → IsMarked old.found.items a
      ⊎ (Contains classes a × Contains new.waiting.items a × (unmarked new.found.items < unmarked old.found.items))
  pub still : (a : ℕ) → Contains old.waiting.items a → Contains new.waiting.items a
  pub waits : (a : ℕ) → Contains new.waiting.items a
      → Contains old.waiting.items a ⊎ IsMarked new.found.items a
  pub met_still : old.met ≡ true → new.met ≡ true
  pub meets : Contains classes old.goal → new.met ≡ true
  pub met_by : new.met ≡ true → (old.met ≡ true) ⊎ Contains classes old.goal
