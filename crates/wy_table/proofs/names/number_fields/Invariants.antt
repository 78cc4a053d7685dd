use Rattle.std.proofs.Common.{◌≡◌, ◌+◌, ◌<◌, ℕ, List, length, map}
use Rattle.std.specs.List.{position_from}
use Rattle.wy_kernel.specs.View.{field_of}
use Rattle.wy_table.specs.Names.{is_field_named, number_in}
use Rattle.wy_table.proofs.FirstNumbers.{first_of}
use Rattle.wy_table.proofs.names.number_fields.Given as goal

abbrev pub invariant-loop-left : goal.invariant-loop-left
invariant-loop-left l =
    (l.next + length l.left ≡ length l.fields)
    × (length l.rows.items ≡ length l.initial.rows.items)
    × ((class : ℕ) (q : List ℕ) → class < length l.initial.rows.items →
    first_of (number_in l.rows.items class q) (position_from (is_field_named class q) l.next (map field_of l.left)) ≡ position_from (is_field_named class q) 0 (map field_of l.fields))

abbrev pub decreases-loop-left : goal.decreases-loop-left
decreases-loop-left l = length l.left
