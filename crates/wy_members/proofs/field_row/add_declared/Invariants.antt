use Rattle.std.proofs.Common.{◌≡◌, ◌++◌, length, map}
use Rattle.wy_kernel.specs.View.{field_of}
use Rattle.wy_syntax.specs.View.{declarator_of, placed_of, type_seen}
use Rattle.wy_members.specs.Declarations.{field_rows}
use Rattle.wy_members.specs.Names.{unit_of}
use Rattle.wy_members.proofs.field_row.add_declared.Given as goal

abbrev pub invariant-loop-left : goal.invariant-loop-left
invariant-loop-left l =
    map field_of l.rows.items ++ field_rows (unit_of l.names) l.number (map placed_of l.modifiers) (type_seen l.ty) (map declarator_of l.left)
    ≡ map field_of l.initial.rows.items ++ field_rows (unit_of l.names) l.number (map placed_of l.modifiers) (type_seen l.ty) (map declarator_of l.initial.left)

abbrev pub decreases-loop-left : goal.decreases-loop-left
decreases-loop-left l = length l.left
