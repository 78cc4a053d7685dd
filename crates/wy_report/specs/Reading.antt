-- How a page is read: what stands in its bytes between one sign and another.
use Rattle.std.specs.Prelude.{ℕ, ◌==◌, Bool, true, not, if◌then◌else◌, List, [], ◌∷◌, ◌++◌, Option, Some}
use Rattle.std.specs.Prelude.{None as Absent}

-- what stands between a first sign and the next last one, from here on: Absent outside, and inside what was read so far
abbrev pub enclosed_from : ℕ → ℕ → Option (List ℕ) → List ℕ → List (List ℕ)
enclosed_from first last inside [] = []
enclosed_from first last Absent (b ∷ bytes) = enclosed_from first last (if b == first then Some [] else Absent) bytes
enclosed_from first last (Some text) (b ∷ bytes) = if b == last then text ∷ enclosed_from first last Absent bytes else enclosed_from first last (Some (text ++ b ∷ [])) bytes

-- the tags of a page, which stand between < and >
abbrev pub tags : List ℕ → List (List ℕ)
tags page = enclosed_from 60 62 Absent page

-- the values of its attributes that stand between quotation marks
abbrev pub values : List ℕ → List (List ℕ)
values page = enclosed_from 34 34 Absent page

-- a value that begins with # leads to a place, and another is the name of one
abbrev pub is_name : List ℕ → Bool
is_name [] = true
is_name (b ∷ value) = not (b == 35)
