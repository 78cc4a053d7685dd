use Rattle.std.proofs.Common.{◌≡◌, drop}
use Rattle.std.specs.List.{position_from}
use Rattle.wy_table.specs.ClassTable.{table_of}
use Rattle.wy_elab_stmt.specs.Program.{stands_at}
use Rattle.wy_elab_stmt.proofs.main_method.method_at.Given as goal

abbrev pub invariant-loop-k : goal.invariant-loop-k
invariant-loop-k l = position_from (stands_at l.token) 0 (table_of l.table).methods ≡ position_from (stands_at l.token) l.k (drop l.k (table_of l.table).methods)
