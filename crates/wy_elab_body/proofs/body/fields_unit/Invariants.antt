use Rattle.std.proofs.Common.{◌≡◌, drop}
use Rattle.std.specs.List.{position_from}
use Rattle.wy_table.specs.ClassTable.{table_of}
use Rattle.wy_elab_body.specs.Bodies.{is_fields_unit}
use Rattle.wy_elab_body.proofs.body.fields_unit.Given as goal

abbrev pub invariant-loop-k : goal.invariant-loop-k
invariant-loop-k l = position_from (is_fields_unit l.class) 0 (table_of l.table).methods ≡ position_from (is_fields_unit l.class) l.k (drop l.k (table_of l.table).methods)
