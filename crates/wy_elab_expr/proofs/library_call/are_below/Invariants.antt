use Rattle.std.proofs.Common.{◌≡◌, length}
use Rattle.wy_table.specs.ClassTable.{table_of}
use Rattle.wy_elab_expr.specs.Members.{are_below}
use Rattle.wy_elab_expr.specs.Views.{Judged}
use Rattle.wy_elab_expr.proofs.library_call.are_below.Given as goal

abbrev pub invariant-loop-lower : goal.invariant-loop-lower
invariant-loop-lower l = Judged (table_of l.table) (λ j. are_below j l.lower l.upper ≡ are_below j l.types l.params)

abbrev pub decreases-loop-lower : goal.decreases-loop-lower
decreases-loop-lower l = length l.lower
