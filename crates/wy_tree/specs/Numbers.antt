-- Integer literals (JLS 3.10.1).
use Rattle.std.specs.Prelude.{ℕ, ◌+◌, ◌*◌, ◌-◌, nat_le, nat_lt, ◌==◌, Bool, true, false, ◌&&◌, ◌||◌, List, [], ◌∷◌, length, take, Option, Some, None, if◌then◌else◌}
use Rattle.std.specs.Char.{digit_value}
use Rattle.std.specs.List.{list_all}
use Rattle.wy_tree.specs.Bytes.{begins_with, last_of}
use Rattle.wy_tree.specs.Seen.{Tok, Int, Long}

abbrev pub is_digit_in : ℕ → ℕ → Bool
is_digit_in radix b = nat_lt (digit_value b) radix

-- digits, with underscores only between them
unfoldable pub are_digits : ℕ → List ℕ → Bool
are_digits radix bytes = begins_with (is_digit_in radix) bytes && (begins_with (is_digit_in radix) (last_of bytes) && list_all (λ b. is_digit_in radix b || b == 95) bytes)

-- the number that has first been read, with these digits behind it
abbrev pub value_from : ℕ → ℕ → List ℕ → ℕ
value_from radix first [] = first
value_from radix first (b ∷ bytes) = value_from radix (if b == 95 then first else radix * first + digit_value b) bytes

-- "L" or "l"
abbrev pub is_long_suffix : ℕ → Bool
is_long_suffix b = b == 76 || b == 108

abbrev pub is_long : List ℕ → Bool
is_long run = begins_with is_long_suffix (last_of run)

-- without a suffix
abbrev pub unsuffixed : List ℕ → List ℕ
unsuffixed run = if is_long run then take (length run - 1) run else run

-- the radix that the second byte behind a "0" gives, and the digits: "0x" and "0X" for 16, "0b" and "0B" for 2, else 8 for all of them
abbrev pub behind_zero : ℕ → List ℕ → ℕ × List ℕ
behind_zero c bytes =
    if c == 120 || c == 88 then (16, bytes) else (if c == 98 || c == 66 then (2, bytes) else (8, 48 ∷ (c ∷ bytes)))

-- the radix, and the digits: "0" alone, and what begins otherwise, are decimal
unfoldable pub in_radix : List ℕ → ℕ × List ℕ
in_radix [] = (10, [])
in_radix (b ∷ []) = (10, b ∷ [])
in_radix (b ∷ c ∷ bytes) = if b == 48 then behind_zero c bytes else (10, b ∷ (c ∷ bytes))

-- the largest value: 2 ^ 31 and 2 ^ 63 in decimal, as the operand of a minus; else what 32 and 64 bits hold
abbrev pub largest : Bool → Bool → ℕ
largest true true = 9223372036854775808
largest true false = 18446744073709551615
largest false true = 2147483648
largest false false = 4294967295

abbrev pub literal_of : Bool → ℕ → Bool → Tok
literal_of true value decimal = Long value decimal
literal_of false value decimal = Int value decimal

-- a run of letters, digits, "_", "$" and "." as an integer literal, if it is one
unfoldable pub number_of : List ℕ → Option Tok
number_of run =
    let wide = is_long run in
    let digits = in_radix (unsuffixed run) in
    let value = value_from digits.0 0 digits.1 in
    if are_digits digits.0 digits.1 && nat_le value (largest wide (digits.0 == 10)) then Some (literal_of wide value (digits.0 == 10)) else None
