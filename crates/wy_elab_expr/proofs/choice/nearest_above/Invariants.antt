use Rattle.std.proofs.Common.{◌≡◌, Some, length}
use Rattle.wy_table.specs.ClassTable.{table_of}
use Rattle.wy_elab_expr.specs.Operators.{nearest_above}
use Rattle.wy_elab_expr.specs.Views.{Judged}
use Rattle.wy_elab_expr.proofs.choice.nearest_above.Given as goal

abbrev pub invariant-upward : goal.invariant-upward
invariant-upward l =
    Judged (table_of l.table) (λ j. nearest_above j (table_of l.table) (length (table_of l.table).classes) (Some l.first) l.other ≡ nearest_above j (table_of l.table) l.left (Some l.at) l.other)

abbrev pub decreases-upward : goal.decreases-upward
decreases-upward l = l.left
