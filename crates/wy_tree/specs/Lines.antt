-- The line of a token by its number.
use Rattle.std.specs.Prelude.{ℕ, ◌-◌, List, length, map, min, get_or}
use Rattle.wy_tree.specs.Tokens.{SpannedToken}

-- Past the last token it is the last one's line; where there is no token, it is 1.
abbrev pub line_of : List SpannedToken → ℕ → ℕ
line_of tokens number = get_or (map (λ t. t.line) tokens) (min number (length tokens - 1)) 1
