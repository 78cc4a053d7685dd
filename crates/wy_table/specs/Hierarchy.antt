-- The classes at or above each class, as a hierarchy has them by spans of numbers (JLS 4.10).
use Rattle.std.specs.Prelude.{◌≡◌, ℕ, List, map, length, slice_index, slice_get, Some}
use Rattle.std.specs.List.{Contains, filter, range_with_len}
use Rattle.wy_table.specs.Spans.{is_covered}
use Rattle.wy_table.specs.declared.hierarchy.Hierarchy.{Hierarchy}
use Rattle.wy_table.specs.declared.spans.Span.{Span}

-- the classes whose numbers a row covers
abbrev pub row_of : List ℕ → List Span → List ℕ
row_of numbers row = filter (λ d. is_covered (slice_index numbers d) row) (range_with_len 0 (length numbers))

-- for each class, the classes at or above it
unfoldable pub rows_of : Hierarchy → List (List ℕ)
rows_of h = map (λ row. row_of h.numbers.items row.items) h.rows.items

-- the row of class c has class d
abbrev pub IsListed : List (List ℕ) → ℕ → ℕ → Type 0
IsListed rows c d = (row : List ℕ) × (slice_get rows c ≡ Some row) × Contains row d
