-- What begins at a byte at which no token does, by a sample of its kind.
use Rattle.std.specs.Prelude.{ℕ, ◌-◌, ◌==◌, List, Bool, not, ◌&&◌, ◌||◌, codes, length, nat_le, slice_index, if◌then◌else◌}
use Rattle.std.specs.List.{before_first, list_any}
use Rattle.wy_tree.specs.Bytes.{goes_on_number, is_digit, is_within}
use Rattle.wy_explain.specs.Rows.{Text}

-- one of . e E f F d D
abbrev pub is_fraction : ℕ → Bool
is_fraction b = b == 46 || (is_within 100 102 b || is_within 68 70 b)

-- neither a letter, a digit, "_", "$" nor "."
abbrev pub ends_number : ℕ → Bool
ends_number b = not (goes_on_number b)

-- neither a digit, nor "_", nor the L of a long number
abbrev pub is_odd : ℕ → Bool
is_odd b = not (is_digit b || (b == 95 || (b == 76 || b == 108)))

abbrev pub is_large_digit : ℕ → Bool
is_large_digit b = is_within 56 57 b

-- a run of letters, digits, "_", "$" and "." that begins with a digit or "."
unfoldable pub number_sample : List ℕ → Text
number_sample run =
    if slice_index run 0 == 48 && (slice_index run 1 == 120 || slice_index run 1 == 88) then codes "0x"
    else (if list_any is_fraction run then codes "1.5"
    else (if list_any is_odd run || slice_index run (length run - 1) == 95 then codes "3px"
    else (if slice_index run 0 == 48 && list_any is_large_digit run then codes "08" else codes "99999999999")))

-- a byte outside ASCII
unfoldable pub wide_sample : List ℕ → List ℕ → Text
wide_sample before rest =
    if length before == 0 && (slice_index rest 0 == 239 && (slice_index rest 1 == 187 && slice_index rest 2 == 191)) then codes "mark"
    else (if slice_index rest 0 == 226 && (slice_index rest 1 == 128 && is_within 152 159 (slice_index rest 2)) then codes "quotes"
    else codes "letter")

-- two quotation marks stand before it
abbrev pub is_quoted : List ℕ → Bool
is_quoted before = slice_index before (length before - 1) == 34 && slice_index before (length before - 2) == 34

unfoldable pub sample : List ℕ → List ℕ → Text
sample before rest = let first = slice_index rest 0 in
    if first == 34 then (if is_quoted before then codes "\"\"\"" else codes "\"")
    else (if first == 39 then (if slice_index rest 1 == 39 then codes "''" else codes "'")
    else (if first == 47 then codes "/*" else (if first == 35 then codes "#"
    else (if nat_le 128 first then wide_sample before rest
    else (if is_digit first || first == 46 then number_sample (before_first ends_number rest)
    else codes "")))))
