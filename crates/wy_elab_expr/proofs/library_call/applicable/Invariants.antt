use Rattle.std.proofs.Common.{◌≡◌, map, length}
use Rattle.wy_table.specs.ClassTable.{table_of}
use Rattle.wy_elab_expr.specs.Members.{applicable}
use Rattle.wy_elab_expr.specs.Views.{Judged, library_method}
use Rattle.wy_elab_expr.proofs.library_call.applicable.Given as goal

abbrev pub invariant-loop-left : goal.invariant-loop-left
invariant-loop-left l =
    Judged (table_of l.table) (λ j. applicable j (map library_method l.left) l.name l.types ≡ applicable j (map library_method l.methods) l.name l.types)

abbrev pub decreases-loop-left : goal.decreases-loop-left
decreases-loop-left l = length l.left
