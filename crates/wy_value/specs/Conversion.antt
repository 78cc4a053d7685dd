-- Conversions between primitive types (JLS 5.1.1 to 5.1.4): widening, narrowing, and both one after the other from byte to char.
use Rattle.std.specs.Prelude.{ℤ, pos, Bool, true, false, Option, Some, is_some}
use Rattle.std.specs.Option.{option_map_or}
use Rattle.std.specs.Prelude.{None as Nothing}
use Rattle.std.specs.Int.{w8, w16, w32, w64}
use Rattle.wy_kernel.specs.declared.operator.Primitive.{Primitive}
use Rattle.wy_kernel.specs.declared.operator.Primitive.TheVariants.{Bool as ToBool, Byte as ToByte, Short as ToShort, Char as ToChar, Int as ToInt, Long as ToLong}
use Rattle.wy_value.specs.declared.value.Value.{Value}
use Rattle.wy_value.specs.declared.value.Value.TheVariants.{Bool as Boolean, Byte, Short, Char, Int, Long}
use Rattle.wy_value.specs.Number.{wrapped, wrapped_char}

-- the whole number that a value of a numeric type is
abbrev pub number_of : Value → Option ℤ
number_of (Byte z) = Some z
number_of (Short z) = Some z
number_of (Char n) = Some (pos n)
number_of (Int z) = Some z
number_of (Long z) = Some z
number_of _ = Nothing

-- the value of a numeric type whose number differs from z by a multiple of 2 ^ n, for a type of n bits: z itself where the type has z (boolean is no numeric type)
abbrev pub value_in : Primitive → ℤ → Value
value_in ToByte z = Byte (wrapped w8 z)
value_in ToShort z = Short (wrapped w16 z)
value_in ToChar z = Char (wrapped_char z)
value_in ToInt z = Int (wrapped w32 z)
value_in ToLong z = Long (wrapped w64 z)
value_in ToBool z = Boolean false

-- a numeric type is converted to a numeric type, and boolean to boolean
abbrev pub can_convert : Primitive → Value → Bool
can_convert ToBool (Boolean p) = true
can_convert ToBool _ = false
can_convert to (Boolean p) = false
can_convert to v = is_some (number_of v)

-- the value of `(to) v`
abbrev pub converted : Primitive → Value → Value
converted to v = option_map_or (value_in to) (number_of v) v
