-- Where a place of a text is, by what stands before it.
use Rattle.std.specs.Prelude.{ℕ, ◌+◌, ◌==◌, Bool, List, [], ◌∷◌, ◌++◌, codes, fold, if◌then◌else◌}
use Rattle.wy_tree.specs.Bytes.{is_line_end, is_within, line_ends}

-- the line that these bytes end in
unfoldable pub line_number : List ℕ → ℕ
line_number before = 1 + line_ends before

-- what stands behind the last line end
abbrev pub with_byte : List ℕ → ℕ → List ℕ
with_byte line b = if is_line_end b then [] else line ++ b ∷ []

unfoldable pub last_line : List ℕ → List ℕ
last_line before = fold with_byte [] before

-- a byte that goes on a character of UTF-8
abbrev pub is_inner : ℕ → Bool
is_inner b = is_within 128 191 b

-- a blank for each character, and a tab for each tab
abbrev pub with_blank : List ℕ → ℕ → List ℕ
with_blank blanks b = if is_inner b then blanks else (if b == 9 then blanks ++ 9 ∷ [] else blanks ++ 32 ∷ [])

unfoldable pub indent : List ℕ → List ℕ
indent line = fold with_blank [] line

-- the line below, with a caret behind what stands before the place; the column is its length, so it counts characters from 1
unfoldable pub caret_line : List ℕ → List ℕ
caret_line before = indent (last_line before) ++ codes "^"
