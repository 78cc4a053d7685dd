-- Texts of 16-bit units as UTF-8 (the Unicode Standard, 3.9; JLS 3.1).
use Rattle.std.specs.Prelude.{ℕ, List, map, ◌&&◌, if◌then◌else◌, unwrap_or, encode_utf8_all, Option, Some, None}
use Rattle.std.specs.Char.Utf16.{utf16_chars, is_high_surrogate, is_low_surrogate, surrogate_pair_char}

-- the character that two units spell as a surrogate pair
abbrev pub pair_of : ℕ → ℕ → Option ℕ
pair_of high low = if is_high_surrogate high && is_low_surrogate low then Some (surrogate_pair_char high low) else None

-- the characters that the units spell, a surrogate that is in no pair as `?`
abbrev pub code_points : List ℕ → List ℕ
code_points units = map (λ found. unwrap_or found 63) (utf16_chars units)

-- the bytes of these characters
abbrev pub utf8_of : List ℕ → List ℕ
utf8_of units = encode_utf8_all (code_points units)
