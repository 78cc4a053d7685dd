-- The values that the machine has.
use Rattle.std.specs.Prelude.{◌<◌, ◌^◌, FitsSigned, ⊤}
use Rattle.std.specs.Int.{w8, w16, w32, w64}
use Rattle.wy_value.specs.declared.value.Value.{Value}
use Rattle.wy_value.specs.declared.value.Value.TheVariants.{Byte, Short, Char, Int, Long}

-- a number is in the range of its type (JLS 4.2.1)
abbrev pub IsInRange : Value → Type 0
IsInRange (Byte z) = FitsSigned w8 z
IsInRange (Short z) = FitsSigned w16 z
IsInRange (Char n) = n < 2 ^ 16
IsInRange (Int z) = FitsSigned w32 z
IsInRange (Long z) = FitsSigned w64 z
IsInRange _ = ⊤
