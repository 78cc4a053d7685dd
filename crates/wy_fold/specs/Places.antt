-- The lines on which events stand, and those of a list that stand on one.
use Rattle.std.specs.Prelude.{ℕ, ◌==◌, Bool, false, List, [], ◌∷◌, filter, slice_get, unwrap_or, Option, Some}
use Rattle.std.specs.Prelude.{None as Absent}
use Rattle.std.specs.List.{list_any}
use Rattle.wy_event.specs.Record.{Recorded}

-- the line of the token with this number; no token of the source is a site of the library, for which it is 0
abbrev pub line_of_site : List ℕ → ℕ → ℕ
line_of_site lines site = unwrap_or (slice_get lines site) 0

abbrev pub line_of_record : List ℕ → Option Recorded → ℕ
line_of_record lines Absent = 0
line_of_record lines (Some e) = line_of_site lines e.site

-- the line of each event by its number, from 1; 0 in the library
unfoldable pub line_at : List ℕ → List Recorded → ℕ → ℕ
line_at lines rs n = line_of_record lines (slice_get rs n)

-- where events stand
abbrev pub Places : Type 0
Places = ℕ → ℕ

-- those of a list that stand on a line
abbrev pub on_line : Places → ℕ → List ℕ → List ℕ
on_line at k events = filter (λ n. at n == k) events

-- one of them does
abbrev pub stands_on : Places → ℕ → List ℕ → Bool
stands_on at k events = list_any (λ n. at n == k) events

abbrev pub is_last : List ℕ → ℕ → Bool
is_last [] n = false
is_last (x ∷ []) n = x == n
is_last (x ∷ y ∷ rest) n = is_last (y ∷ rest) n

-- those that are the last on their lines
abbrev pub last_ones : Places → List ℕ → List ℕ
last_ones at events = filter (λ n. is_last (on_line at (at n) events) n) events
