-- Marks of events, by their numbers.
use Rattle.std.specs.Prelude.{◌≡◌, ℕ, Bool, false, List, slice_index_or}

-- the mark of an event
abbrev pub mark_of : List Bool → ℕ → Bool
mark_of marks j = slice_index_or marks j false

abbrev pub AreUnmarked : List Bool → Type 0
AreUnmarked marks = (j : ℕ) → mark_of marks j ≡ false
