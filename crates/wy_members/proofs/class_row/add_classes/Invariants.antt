use Rattle.std.proofs.Common.{◌≡◌, ◌++◌, length, map}
use Rattle.wy_kernel.specs.View.{class_of}
use Rattle.wy_syntax.specs.View.{declaration_of}
use Rattle.wy_members.specs.Declarations.{class_rows}
use Rattle.wy_members.specs.Names.{unit_of}
use Rattle.wy_members.proofs.class_row.add_classes.Given as goal

abbrev pub invariant-loop-left : goal.invariant-loop-left
invariant-loop-left l =
    map class_of l.rows.items ++ class_rows (unit_of l.names) (map declaration_of l.left)
    ≡ map class_of l.initial.rows.items ++ class_rows (unit_of l.names) (map declaration_of l.initial.left)

abbrev pub decreases-loop-left : goal.decreases-loop-left
decreases-loop-left l = length l.left
