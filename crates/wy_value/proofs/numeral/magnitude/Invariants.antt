-- The units that were read are digits, and they spell the value.
use Rattle.std.proofs.Common.{◌≤◌, ◌^◌}
use Rattle.wy_value.proofs.Numerals.{Spells}
use Rattle.wy_value.proofs.numeral.magnitude.Given as goal

abbrev pub invariant-loop-digit : goal.invariant-loop-digit
invariant-loop-digit l = Spells l.digits l.digit-index l.value × (l.value ≤ 2 ^ 31)
