use Rattle.std.proofs.Common.{◌≡◌, ◌≤◌, drop}
use Rattle.wy_tree.specs.Numbers.{value_from}
use Rattle.wy_lexer.proofs.number.value_within.Given as goal

abbrev pub invariant-loop-digit : goal.invariant-loop-digit
invariant-loop-digit l = record { same : value_from l.radix 0 l.digits ≡ value_from l.radix l.value (drop l.digit-index l.digits); within : l.value ≤ l.largest }
