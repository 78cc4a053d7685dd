use Rattle.std.proofs.Common.{◌≡◌, ◌++◌, length, map}
use Rattle.wy_table.specs.ClassTable.{table_of}
use Rattle.wy_syntax.specs.View.{declaration_of}
use Rattle.wy_members.specs.Declarations.{class_by_class_from}
use Rattle.wy_elab_body.specs.Places.{class_places}
use Rattle.wy_elab_body.proofs.class_places.places_of.Given as goal

abbrev pub invariant-loop-left : goal.invariant-loop-left
invariant-loop-left l =
    l.all.items ++ class_by_class_from (class_places (table_of l.table)) l.number (map declaration_of l.left)
    ≡ l.initial.all.items ++ class_by_class_from (class_places (table_of l.table)) l.initial.number (map declaration_of l.initial.left)

abbrev pub decreases-loop-left : goal.decreases-loop-left
decreases-loop-left l = length l.left
