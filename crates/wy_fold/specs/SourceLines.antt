-- The lines of a source by their numbers.
use Rattle.std.specs.Prelude.{ℕ, zero, suc, Bool, ◌==◌, ◌&&◌, if◌then◌else◌, List, [], ◌∷◌, ◌++◌, drop, slice_index_or}
use Rattle.std.specs.Char.{is_ascii_whitespace}
use Rattle.std.specs.List.{prefix_len}
use Rattle.wy_tree.specs.Bytes.{is_line_end}

-- LF goes with the CR before it as one end of a line
abbrev pub goes_with : ℕ → ℕ → Bool
goes_with before b = b == 10 && before == 13

-- the lines from here on, by the byte before and by what was read of the first of them; CR LF, CR and LF end a line and are no part of it
abbrev pub lines_on : ℕ → List ℕ → List ℕ → List (List ℕ)
lines_on before line [] = line ∷ []
lines_on before line (b ∷ bytes) =
    if goes_with before b then lines_on b [] bytes
    else (if is_line_end b then line ∷ lines_on b [] bytes else lines_on b (line ++ b ∷ []) bytes)

unfoldable pub source_lines : List ℕ → List (List ℕ)
source_lines bytes = lines_on 0 [] bytes

-- the line of this number, from 1
abbrev pub line_text : List (List ℕ) → ℕ → List ℕ
line_text lines zero = []
line_text lines (suc k) = slice_index_or lines k []

-- without the blanks that it begins with
abbrev pub trimmed : List ℕ → List ℕ
trimmed line = drop (prefix_len is_ascii_whitespace line) line
