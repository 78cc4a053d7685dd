-- Which bytes are which (JLS 3.4, 3.6, 3.8).
use Rattle.std.specs.Prelude.{ℕ, nat_le, ◌==◌, Bool, false, not, ◌&&◌, ◌||◌, ◌+◌, ◌-◌, List, [], ◌∷◌, length, drop, if◌then◌else◌}
use Rattle.std.specs.List.{list_any}
use Rattle.std.specs.Str.{bytes_eq}

abbrev pub is_within : ℕ → ℕ → ℕ → Bool
is_within low high b = nat_le low b && nat_le b high

-- LF or CR
abbrev pub is_line_end : ℕ → Bool
is_line_end b = b == 10 || b == 13

-- space, tab, form feed, LF, CR
abbrev pub is_blank : ℕ → Bool
is_blank b = b == 32 || (b == 9 || (b == 12 || is_line_end b))

abbrev pub is_digit : ℕ → Bool
is_digit b = is_within 48 57 b

-- an ASCII letter, "_" or "$"
abbrev pub begins_word : ℕ → Bool
begins_word b = is_within 97 122 b || (is_within 65 90 b || (b == 95 || b == 36))

abbrev pub goes_on_word : ℕ → Bool
goes_on_word b = begins_word b || is_digit b

-- a letter, a digit, "_", "$" or "."
abbrev pub goes_on_number : ℕ → Bool
goes_on_number b = goes_on_word b || b == 46

abbrev pub is_octal_digit : ℕ → Bool
is_octal_digit b = is_within 48 55 b

abbrev pub begins_with : (ℕ → Bool) → List ℕ → Bool
begins_with p [] = false
begins_with p (b ∷ bytes) = p b

-- the last byte alone
abbrev pub last_of : List ℕ → List ℕ
last_of bytes = drop (length bytes - 1) bytes

-- one of these words
abbrev pub is_among : List (List ℕ) → List ℕ → Bool
is_among words w = list_any (λ x. bytes_eq x w) words

abbrev pub line_ends_after : ℕ → List ℕ → ℕ
line_ends_after before [] = 0
line_ends_after before (b ∷ bytes) = (if b == 13 || (b == 10 && not (before == 13)) then 1 else 0) + line_ends_after b bytes

-- how many lines end in these bytes: at each CR, and at each LF that isn't behind a CR
unfoldable pub line_ends : List ℕ → ℕ
line_ends bytes = line_ends_after 0 bytes
