-- What was written, with the bytes of the units that are left, is the bytes of all the units.
use Rattle.std.proofs.Common.{◌≡◌, ◌++◌, length}
use Rattle.wy_value.specs.Encoding.{utf8_of}
use Rattle.wy_value.proofs.encoding.to_utf8.Given as goal

abbrev pub invariant-loop-unit : goal.invariant-loop-unit
invariant-loop-unit l = l.text.bytes.items ++ utf8_of l.rest ≡ utf8_of l.units

abbrev pub decreases-loop-unit : goal.decreases-loop-unit
decreases-loop-unit l = length l.rest
