use Rattle.wy_table.specs.Numbering.{AreInverse}
use Rattle.wy_table.proofs.numbering.numbers.Given as goal

abbrev pub invariant-loop-place : goal.invariant-loop-place
invariant-loop-place l = AreInverse l.many l.numbers.items l.holders.items
