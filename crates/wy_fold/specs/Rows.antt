-- The rows of what is shown. Each ends with a line feed.
use Rattle.std.specs.Prelude.{ℕ, ◌-◌, ◌==◌, Bool, true, false, List, [], ◌∷◌, ◌++◌, codes, if◌then◌else◌, length, replicate, take}
use Rattle.std.specs.Fmt.{decimal}
use Rattle.wy_kernel.specs.Program.{Program}
use Rattle.wy_event.specs.Record.{Recorded}
use Rattle.wy_text.specs.EndLines.{line_of}
use Rattle.wy_text.specs.EventLines.{event_line}
use Rattle.wy_fold.specs.declared.fold.Showing.{Showing}
use Rattle.wy_fold.specs.declared.group.Group.{Group}
use Rattle.wy_fold.specs.SourceLines.{line_text, trimmed}

abbrev pub blanks : ℕ → List ℕ
blanks n = replicate n 32

-- a text at the right of a column, and one at its left; a longer one takes more
abbrev pub right : ℕ → List ℕ → List ℕ
right width text = blanks (width - length text) ++ text

abbrev pub left : ℕ → List ℕ → List ℕ
left width text = text ++ blanks (width - length text)

abbrev pub without_end : List ℕ → List ℕ
without_end line = take (length line - 1) line

-- what the source has there, behind the text of an event; the library has nothing
abbrev pub beside : List ℕ → List ℕ → List ℕ
beside text [] = text
beside text (b ∷ source) = left 40 text ++ (codes " " ++ b ∷ source)

-- how many events stand on a line, the last of them, with a star where one is of the data, and the line's text
unfoldable pub row_text : Program → List ℕ → List (List ℕ) → List Recorded → Group → List ℕ
row_text p lines source rs g =
    line_of (right 6 (decimal g.count) ++ (codes "x  " ++ beside (without_end (event_line p lines rs g.last g.of_data)) (trimmed (line_text source g.line))))

abbrev pub of_the_data : Bool → List ℕ
of_the_data true = codes " of the data"
of_the_data false = []

-- how many events were folded away
abbrev pub folded_away : ℕ → List ℕ
folded_away n = if n == 0 then [] else codes ", " ++ (decimal n ++ codes " not shown: --all lists them")

abbrev pub hidden : Showing → ℕ → ℕ → ℕ
hidden showing events groups = if showing.is_open then 0 else events - groups

-- how many events there are, in how many groups
unfoldable pub count_line : Showing → ℕ → ℕ → List ℕ
count_line showing events groups =
    line_of (codes "-- " ++ (decimal events ++ (codes " events" ++ (of_the_data showing.by_data ++ (codes " in " ++ (decimal groups ++ (codes " lines"
    ++ folded_away (hidden showing events groups))))))))

abbrev pub star_column : Bool → List ℕ
star_column true = codes " * "
star_column false = codes "   "

-- a line of the source with its number, and a star where one of the data stands on it
unfoldable pub numbered_text : ℕ → Bool → List ℕ → List ℕ
numbered_text k of_data text = line_of (right 6 (decimal k) ++ (star_column of_data ++ text))
