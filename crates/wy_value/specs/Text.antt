-- Texts as lists of 16-bit units (JLS 4.3.3), and what `charAt`, `substring` and `compareTo` of java.lang.String give.
use Rattle.std.specs.Prelude.{ℕ, ℤ, pos, negsuc, ◌-ℤ◌, List, ◌∷◌, length, slice_get, slice_range, nat_le, ◌&&◌, ◌==◌, if◌then◌else◌, Option, Some}
use Rattle.std.specs.Prelude.{None as Nothing}

-- the unit at index i, where i is an index of the text
abbrev pub unit_of : List ℕ → ℤ → Option ℕ
unit_of units (pos i) = slice_get units i
unit_of units (negsuc i) = Nothing

-- the units from index i up to index j, where 0 <= i <= j <= length
abbrev pub part_of : List ℕ → ℤ → ℤ → Option (List ℕ)
part_of units (pos i) (pos j) = if nat_le i j && nat_le j (length units) then Some (slice_range units i j) else Nothing
part_of units _ _ = Nothing

-- the difference of the units at the first index where both texts have one and the two differ, else that of the lengths
abbrev pub difference : List ℕ → List ℕ → ℤ
difference (x ∷ xs) (y ∷ ys) = if x == y then difference xs ys else pos x -ℤ pos y
difference xs ys = pos (length xs) -ℤ pos (length ys)
