-- How values lie in memory: each with where its uses begin, on one stack of the uses of all.
use Rattle.std.specs.Prelude.{◌≡◌, ℕ, ◌≤◌, ◌-◌, min, List, [], ◌∷◌, reverse, length, take, drop}
use Rattle.wy_event.specs.declared.record.Use.{Use}
use Rattle.wy_operands.specs.declared.operands.Operand.{Operand}
use Rattle.wy_operands.specs.declared.operands.Operands.{Operands}
use Rattle.wy_operands.specs.Values.{Values, given, under_many, uses_of_last}

-- the newest first: each uses what lies above where its uses begin, and leaves the rest to those before it
abbrev pub carried : List Operand → List Use → Values
carried [] us = []
carried (o ∷ os) us = given o.value (drop o.from us) ∷ carried os (take o.from us)

unfoldable pub values_of : Operands → Values
values_of s = carried (reverse s.values.items) s.uses.items

-- where the uses of these begin, if those of all end here
abbrev pub beginning : ℕ → List Operand → ℕ
beginning end [] = end
beginning end (o ∷ os) = beginning (min o.from end) os

abbrev pub rest_of : Operands → ℕ → ℕ → Values
rest_of s many from = carried (reverse (take (length s.values.items - many) s.values.items)) (take from s.uses.items)

-- where the uses of so many of the newest begin: they lie above, and the values under them with their uses below
pub record Begins (s : Operands) (many from : ℕ) : Type 0 where
  pub within : from ≤ length s.uses.items
  pub uses : drop from s.uses.items ≡ uses_of_last many (values_of s)
  pub rest : rest_of s many from ≡ under_many many (values_of s)
