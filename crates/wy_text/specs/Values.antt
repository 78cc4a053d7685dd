-- Values as a line shows them.
use Rattle.std.specs.Prelude.{ℕ, ◌+◌, ◌/◌, ◌%◌, Bool, true, false, not, ◌&&◌, ◌==◌, nat_le, nat_lt, if◌then◌else◌, List, [], ◌∷◌, ◌++◌, Option, Some, slice_get, codes}
use Rattle.std.specs.Prelude.{None as Absent}
use Rattle.std.specs.Fmt.{signed_decimal}
use Rattle.std.specs.List.{flat_map}
use Rattle.wy_kernel.specs.Program.{Program, fixed_text}
use Rattle.wy_value.specs.declared.value.Value.{Value}
use Rattle.wy_value.specs.declared.value.Value.TheVariants.{Bool as Boolean, Byte, Short, Char, Int, Long, Null, Object, Text, Fixed, Arm}
use Rattle.wy_event.specs.Record.{Recorded}
use Rattle.wy_text.specs.Names.{made_name, numbered}

-- ---- texts

-- a unit from 20 to 7e in hexadecimal that is no quote and no backslash
unfoldable pub is_plain : ℕ → Bool
is_plain u = nat_le 32 u && nat_le u 126 && not (u == 34) && not (u == 39) && not (u == 92)

-- a hexadecimal digit in lower case
unfoldable pub hex_digit : ℕ → ℕ
hex_digit d = if nat_lt d 10 then 48 + d else 87 + d

-- `\u` and four digits
unfoldable pub escaped : ℕ → List ℕ
escaped u =
    92 ∷ 117 ∷ hex_digit (u / 4096) ∷ hex_digit (u / 256 % 16) ∷ hex_digit (u / 16 % 16) ∷ hex_digit (u % 16) ∷ []

unfoldable pub shown : ℕ → List ℕ
shown u = if is_plain u then u ∷ [] else escaped u

-- a text between its quotes
unfoldable pub quoted : List ℕ → List ℕ
quoted units = 34 ∷ (flat_map shown units ++ 34 ∷ [])

-- a char between its quotes
unfoldable pub letter : ℕ → List ℕ
letter u = 39 ∷ (shown u ++ 39 ∷ [])

-- ---- values

unfoldable pub units_of : Option Recorded → List ℕ
units_of Absent = []
units_of (Some e) = e.units

unfoldable pub entity_of : Option Recorded → Option ℕ
entity_of Absent = Absent
entity_of (Some e) = e.entity

unfoldable pub truth_text : Bool → List ℕ
truth_text true = codes "true"
truth_text false = codes "false"

-- a number, a boolean or null as its text, what a test gave as the truth that gives it, and nothing
-- where there is no value
unfoldable pub plain_text : Value → List ℕ
plain_text (Boolean b) = truth_text b
plain_text (Arm n) = truth_text (not (n == 0))
plain_text Null = codes "null"
plain_text (Byte z) = signed_decimal z
plain_text (Short z) = signed_decimal z
plain_text (Int z) = signed_decimal z
plain_text (Long z) = signed_decimal z
plain_text _ = []

unfoldable pub own_text : Program → Value → List ℕ
own_text p (Char u) = letter u
own_text p (Fixed n) = quoted (fixed_text p n)
own_text p v = plain_text v

-- a text by the record that made it;
-- an object by its type, which stands in the record of its New, and its number
unfoldable pub value_text : Program → List Recorded → Value → List ℕ
value_text p records (Text n) = quoted (units_of (slice_get records n))
value_text p records (Object n) = made_name p (entity_of (slice_get records n)) ++ numbered n
value_text p records v = own_text p v
