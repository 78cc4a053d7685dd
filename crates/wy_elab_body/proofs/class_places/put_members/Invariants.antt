use Rattle.std.proofs.Common.{◌≡◌, ◌++◌, length, map}
use Rattle.std.specs.Prelude.{flat_map}
use Rattle.wy_table.specs.ClassTable.{table_of}
use Rattle.wy_syntax.specs.View.{class_of, member_of}
use Rattle.wy_elab_body.specs.Places.{member_places}
use Rattle.wy_elab_body.proofs.class_places.put_members.Given as goal

abbrev pub invariant-loop-left : goal.invariant-loop-left
invariant-loop-left l =
    l.all.items ++ flat_map (member_places (table_of l.table) l.number (class_of l.class)) (map member_of l.left)
    ≡ l.initial.all.items ++ flat_map (member_places (table_of l.table) l.number (class_of l.class)) (map member_of l.initial.left)

abbrev pub decreases-loop-left : goal.decreases-loop-left
decreases-loop-left l = length l.left
