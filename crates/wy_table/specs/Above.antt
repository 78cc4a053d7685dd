-- Rows over the numbers of the classes at or above each class.
use Rattle.std.specs.Prelude.{◌≡◌, ℕ, ◌<◌, ◌↔◌, ◌⊎◌, Bool, false, IsTrue, List, [], length, nat_eq, slice_index, slice_index_or}
use Rattle.std.specs.List.{list_any}
use Rattle.wy_kernel.specs.Program.{Class}
use Rattle.wy_kernel.specs.Subtyping.{Supertype}
use Rattle.wy_table.specs.Spans.{is_covered}
use Rattle.wy_table.specs.declared.spans.Span.{Span}

-- the row covers the numbers of the classes at or above class c, and of no other class
abbrev pub IsRow : List Class → List ℕ → ℕ → List Span → Type 0
IsRow classes numbers c row = (d : ℕ) → d < length classes → IsTrue (is_covered (slice_index numbers d) row) ↔ Supertype classes c d

-- a row for each class, empty or of the class
pub record AreBegun (classes : List Class) (numbers : List ℕ) (rows : List (List Span)) : Type 0 where
  pub long : length rows ≡ length classes
  pub each : (c : ℕ) → (slice_index_or rows c [] ≡ []) ⊎ IsRow classes numbers c (slice_index_or rows c [])

-- a row for each class, of the class
pub record AreRows (classes : List Class) (numbers : List ℕ) (rows : List (List Span)) : Type 0 where
  pub long : length rows ≡ length classes
  pub each : (c : ℕ) → c < length classes → IsRow classes numbers c (slice_index_or rows c [])

-- the row of class c is there after, and every other that was there before
pub record MakesRow (classes : List Class) (numbers : List ℕ) (c : ℕ) (old new : List (List Span)) : Type 0 where
  pub begun : AreBegun classes numbers new
  pub here : IsRow classes numbers c (slice_index_or new c [])
  pub stays : (d : ℕ) → IsRow classes numbers d (slice_index_or old d []) → IsRow classes numbers d (slice_index_or new d [])

-- a mark stands at the number of each class that was found, and of no other class
pub record AreMarked (numbers : List ℕ) (found : List ℕ) (marks : List Bool) : Type 0 where
  pub long : length marks ≡ length numbers
  pub each : (d : ℕ) → d < length numbers → slice_index_or marks (slice_index numbers d) false ≡ list_any (nat_eq d) found
