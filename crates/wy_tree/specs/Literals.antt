-- Character and string literals (JLS 3.3, 3.10.4, 3.10.5, 3.10.6).
use Rattle.std.specs.Prelude.{ℕ, zero, suc, ◌+◌, ◌*◌, ◌-◌, nat_le, nat_lt, ◌/◌, ◌%◌, ◌==◌, Bool, true, false, ◌&&◌, ◌||◌, List, [], ◌∷◌, ◌++◌, length, drop, Option, Some, None, if◌then◌else◌}
use Rattle.std.specs.Char.{digit_value}
use Rattle.std.specs.List.{prefix_len}
use Rattle.std.specs.Str.{continuation_len, lead_bits}
use Rattle.wy_tree.specs.Bytes.{is_octal_digit, is_line_end}
use Rattle.wy_tree.specs.Numbers.{is_digit_in}

-- the unit of a backslash and this byte: \b \t \n \f \r \" \' \\
unfoldable pub simple_escape : ℕ → Option ℕ
simple_escape b =
    if b == 98 then Some 8 else (if b == 116 then Some 9 else (if b == 110 then Some 10 else (if b == 102 then Some 12
    else (if b == 114 then Some 13 else (if b == 34 || (b == 39 || b == 92) then Some b else None)))))

-- a number with one more octal digit, and the bytes behind it, if there is one
unfoldable pub octal_digit : ℕ → List ℕ → Option (ℕ × List ℕ)
octal_digit n [] = None
octal_digit n (b ∷ bytes) = if is_octal_digit b then Some (8 * n + (b - 48), bytes) else None

abbrev pub or_else : Option (ℕ × List ℕ) → ℕ × List ℕ → ℕ × List ℕ
or_else None y = y
or_else (Some x) y = x

abbrev pub third_digit : Bool → ℕ × List ℕ → ℕ × List ℕ
third_digit true x = or_else (octal_digit x.0 x.1) x
third_digit false x = x

abbrev pub second_digit : Bool → Option (ℕ × List ℕ) → ℕ × List ℕ → ℕ × List ℕ
second_digit room None y = y
second_digit room (Some x) y = third_digit room x

-- an octal escape is as long as it can be: up to three digits behind a first digit of 0 to 3, else up to two
unfoldable pub octal_escape : ℕ → List ℕ → ℕ × List ℕ
octal_escape first bytes = second_digit (nat_le first 51) (octal_digit (first - 48) bytes) (first - 48, bytes)

abbrev pub are_hexadecimal : ℕ → ℕ → ℕ → ℕ → Bool
are_hexadecimal a b c d = is_digit_in 16 a && (is_digit_in 16 b && (is_digit_in 16 c && is_digit_in 16 d))

-- a quote, a backslash, CR or LF
abbrev pub is_special : ℕ → Bool
is_special u = u == 34 || (u == 39 || (u == 92 || is_line_end u))

abbrev pub unit_of_hexadecimal : ℕ → List ℕ → Option (ℕ × List ℕ)
unit_of_hexadecimal u bytes = if is_special u then None else Some (u, bytes)

-- the unit of four hexadecimal digits, which denote no quote, backslash or line end
unfoldable pub four_digits : List ℕ → Option (ℕ × List ℕ)
four_digits [] = None
four_digits (a ∷ []) = None
four_digits (a ∷ b ∷ []) = None
four_digits (a ∷ b ∷ c ∷ []) = None
four_digits (a ∷ b ∷ c ∷ d ∷ bytes) =
    if are_hexadecimal a b c d then unit_of_hexadecimal (16 * (16 * (16 * digit_value a + digit_value b) + digit_value c) + digit_value d) bytes else None

-- behind the first "u" of an escape: any more of them, and four digits
unfoldable pub unicode_escape : List ℕ → Option (ℕ × List ℕ)
unicode_escape bytes = four_digits (drop (prefix_len (λ b. b == 117) bytes) bytes)

abbrev pub other_escape : ℕ → List ℕ → Option (ℕ × List ℕ)
other_escape b bytes = if is_octal_digit b then Some (octal_escape b bytes) else (if b == 117 then unicode_escape bytes else None)

abbrev pub escape_of : Option ℕ → ℕ → List ℕ → Option (ℕ × List ℕ)
escape_of (Some u) b bytes = Some (u, bytes)
escape_of None b bytes = other_escape b bytes

-- the unit of an escape, and the bytes behind it; the text begins behind the backslash
unfoldable pub escape : List ℕ → Option (ℕ × List ℕ)
escape [] = None
escape (b ∷ bytes) = escape_of (simple_escape b) b bytes

abbrev pub continued : ℕ → ℕ → List ℕ → Option (ℕ × List ℕ)
continued zero c bytes = Some (c, bytes)
continued (suc n) c [] = None
continued (suc n) c (b ∷ bytes) = continued n (c * 64 + (b - 128)) bytes

-- the first character of a text in UTF-8, and the bytes behind it
unfoldable pub first_char : ℕ → List ℕ → Option (ℕ × List ℕ)
first_char b bytes = continued (continuation_len b) (lead_bits b) bytes

-- a character as 16-bit units: two if it is past the basic plane
unfoldable pub units : ℕ → List ℕ
units c = if nat_lt c 65536 then c ∷ [] else (55296 + (c - 65536) / 1024) ∷ ((56320 + (c - 65536) % 1024) ∷ [])

-- the units of what stands at the front, and the bytes behind it
abbrev pub Element : Type 0
Element = List ℕ × List ℕ

abbrev pub one_unit : Option (ℕ × List ℕ) → Option Element
one_unit None = None
one_unit (Some x) = Some (x.0 ∷ [], x.1)

abbrev pub one_char : Option (ℕ × List ℕ) → Option Element
one_char None = None
one_char (Some x) = Some (units x.0, x.1)

-- an escape, or a character that is no backslash and no line end
unfoldable pub element : ℕ → List ℕ → Option Element
element b bytes = if b == 92 then one_unit (escape bytes) else (if is_line_end b then None else one_char (first_char b bytes))

abbrev pub with_units : List ℕ → Option Element → Option Element
with_units us None = None
with_units us (Some x) = Some (us ++ x.0, x.1)

abbrev pub followed_by : (List ℕ → Option Element) → Option Element → Option Element
followed_by rest None = None
followed_by rest (Some x) = with_units x.0 (rest x.1)

-- the units of a string literal's elements up to the closing quote, at most so many elements, and the bytes behind it
unfoldable pub text_from : ℕ → List ℕ → Option Element
text_from zero bytes = None
text_from (suc k) [] = None
text_from (suc k) (b ∷ bytes) = if b == 34 then Some ([], bytes) else followed_by (text_from k) (element b bytes)

-- a string literal behind its opening quote; an element takes a byte or more
abbrev pub text_literal : List ℕ → Option Element
text_literal bytes = text_from (length bytes) bytes

abbrev pub closed_by : List ℕ → List ℕ → Option (ℕ × List ℕ)
closed_by [] bytes = None
closed_by (u ∷ []) [] = None
closed_by (u ∷ []) (q ∷ bytes) = if q == 39 then Some (u, bytes) else None
closed_by (u ∷ v ∷ us) bytes = None

abbrev pub closed : Option Element → Option (ℕ × List ℕ)
closed None = None
closed (Some x) = closed_by x.0 x.1

-- a character literal behind its opening quote: one element of one unit, and the closing quote
unfoldable pub char_literal : List ℕ → Option (ℕ × List ℕ)
char_literal [] = None
char_literal (b ∷ bytes) = if b == 39 then None else closed (element b bytes)
