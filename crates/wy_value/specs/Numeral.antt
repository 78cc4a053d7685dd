-- Numbers as decimal texts: `Integer.parseInt` of java.lang, and string conversion of primitive values and null (JLS 5.1.11, 15.18.1).
use Rattle.std.specs.Prelude.{ℕ, ℤ, pos, negsuc, neg_ℤ, ◌^◌, List, [], ◌∷◌, Bool, true, false, nat_lt, nat_le, ◌==◌, codes, if◌then◌else◌, Option, Some, option_and_then}
use Rattle.std.specs.Prelude.{None as Nothing}
use Rattle.std.specs.Option.{option_map}
use Rattle.std.specs.Fmt.{signed_decimal}
use Rattle.std.specs.List.{list_all}
use Rattle.std.specs.Char.{is_ascii_digit}
use Rattle.std.specs.Str.Parse.{digits_value}
use Rattle.wy_value.specs.declared.value.Value.{Value}
use Rattle.wy_value.specs.declared.value.Value.TheVariants.{Bool as Boolean, Byte, Short, Char, Int, Long, Null}

-- the number that one or more ASCII digits spell
abbrev pub natural_of : List ℕ → Option ℕ
natural_of [] = Nothing
natural_of (u ∷ us) = if list_all is_ascii_digit (u ∷ us) then Some (digits_value 10 (u ∷ us)) else Nothing

-- the number that digits spell, where it is at most the size of the least int
abbrev pub magnitude_of : List ℕ → Option ℕ
magnitude_of units = option_and_then (λ n. if nat_le n (2 ^ 31) then Some n else Nothing) (natural_of units)

-- the number that such digits spell behind one `+`, one `-` or no sign
abbrev pub signed_of : List ℕ → Option ℤ
signed_of [] = Nothing
signed_of (u ∷ us) = if u == 45 then option_map (λ n. neg_ℤ (pos n)) (natural_of us)
    else (if u == 43 then option_map (λ n. pos n) (natural_of us) else option_map (λ n. pos n) (natural_of (u ∷ us)))

-- a number is in the range of int
abbrev pub is_int : ℤ → Bool
is_int (pos n) = nat_lt n (2 ^ 31)
is_int (negsuc n) = nat_lt n (2 ^ 31)

-- the int that a text spells
abbrev pub int_of : List ℕ → Option ℤ
int_of units = option_and_then (λ z. if is_int z then Some z else Nothing) (signed_of units)

-- the value is primitive or null
abbrev pub has_text : Value → Bool
has_text (Boolean p) = true
has_text (Byte z) = true
has_text (Short z) = true
has_text (Char u) = true
has_text (Int z) = true
has_text (Long z) = true
has_text Null = true
has_text _ = false

-- string conversion: a number as its decimal digits, behind `-` where it is negative, and a char as itself
abbrev pub text_of : Value → List ℕ
text_of (Boolean true) = codes "true"
text_of (Boolean false) = codes "false"
text_of (Byte z) = signed_decimal z
text_of (Short z) = signed_decimal z
text_of (Char u) = u ∷ []
text_of (Int z) = signed_decimal z
text_of (Long z) = signed_decimal z
text_of Null = codes "null"
text_of _ = []
