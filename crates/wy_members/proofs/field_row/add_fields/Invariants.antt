use Rattle.std.proofs.Common.{◌≡◌, ◌++◌, length, map}
use Rattle.wy_kernel.specs.View.{field_of}
use Rattle.wy_syntax.specs.View.{declaration_of}
use Rattle.wy_members.specs.Declarations.{class_by_class_from, fields_of}
use Rattle.wy_members.specs.Names.{unit_of}
use Rattle.wy_members.proofs.field_row.add_fields.Given as goal

abbrev pub invariant-loop-left : goal.invariant-loop-left
invariant-loop-left l =
    map field_of l.rows.items ++ class_by_class_from (fields_of (unit_of l.names)) l.number (map declaration_of l.left)
    ≡ map field_of l.initial.rows.items ++ class_by_class_from (fields_of (unit_of l.names)) l.initial.number (map declaration_of l.initial.left)

abbrev pub decreases-loop-left : goal.decreases-loop-left
decreases-loop-left l = length l.left
