-- The line at which what is expected and what was found part.
use Rattle.std.specs.Prelude.{◌+◌, ◌-◌, ◌==◌, ℕ, Bool, not, List, [], ◌++◌, codes, drop, length, take}
use Rattle.std.specs.Fmt.{decimal}
use Rattle.std.specs.List.{common_prefix_len, count_by, prefix_len, suffix_len}
use Rattle.wy_text.specs.EndLines.{line_of}

abbrev pub is_feed : ℕ → Bool
is_feed b = b == 10

-- how much stands before the first line feed
abbrev pub line_len : List ℕ → ℕ
line_len text = prefix_len (λ b. not (is_feed b)) text

abbrev pub line_rest : List ℕ → List ℕ
line_rest text = take (line_len text) text

-- what stands behind the last line feed
abbrev pub line_front : List ℕ → List ℕ
line_front text = drop (length text - suffix_len (λ b. not (is_feed b)) text) text

-- a line by what it has before a place and what stands from there on; nothing where the text ends and no line has begun
abbrev pub told_line : List ℕ → List ℕ → List ℕ
told_line [] [] = codes "nothing"
told_line front rest = codes "\"" ++ (front ++ (line_rest rest ++ codes "\""))

-- the line of a text in which so many bytes end
abbrev pub line_at : ℕ → List ℕ → List ℕ
line_at n text = told_line (line_front (take n text)) (drop n text)

-- how far two texts are the same
abbrev pub same_len : List ℕ → List ℕ → ℕ
same_len expected found = common_prefix_len (λ a b. a == b) expected found

-- the number of that line, from 1, and what stands there in both
abbrev pub parting_text : List ℕ → List ℕ → ℕ → List ℕ
parting_text expected found n =
    line_of (codes "line " ++ (decimal (1 + count_by is_feed (take n expected)) ++ codes " of the output is not as expected"))
    ++ (line_of (codes "expected: " ++ line_at n expected) ++ line_of (codes "found:    " ++ line_at n found))

unfoldable pub beside_text : List ℕ → List ℕ → List ℕ
beside_text expected found = parting_text expected found (same_len expected found)
