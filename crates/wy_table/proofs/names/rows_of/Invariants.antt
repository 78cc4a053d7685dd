use Rattle.std.proofs.Common.{◌≡◌, ◌+◌, ℕ, List, None, length}
use Rattle.wy_table.specs.Names.{number_in}
use Rattle.wy_table.proofs.names.rows_of.Given as goal

abbrev pub invariant-loop-left : goal.invariant-loop-left
invariant-loop-left l =
    (length l.rows.items + length l.left ≡ length l.classes)
    × ((class : ℕ) (q : List ℕ) → number_in l.rows.items class q ≡ None)

abbrev pub decreases-loop-left : goal.decreases-loop-left
decreases-loop-left l = length l.left
