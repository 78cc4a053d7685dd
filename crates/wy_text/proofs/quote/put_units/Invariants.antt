use Rattle.std.proofs.Common.{◌≡◌, ◌++◌, take}
use Rattle.std.specs.List.{flat_map}
use Rattle.wy_text.specs.Values.{shown}
use Rattle.wy_text.proofs.quote.put_units.Given as goal

abbrev pub invariant-loop-unit : goal.invariant-loop-unit
invariant-loop-unit l = l.text.items ≡ l.fn.text.items ++ flat_map shown (take l.unit-index l.units)
