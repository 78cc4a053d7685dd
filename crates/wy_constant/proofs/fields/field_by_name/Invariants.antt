use Rattle.std.proofs.Common.{◌≡◌}
use Rattle.wy_table.specs.ClassTable.{table_of}
use Rattle.wy_constant.specs.Fields.{field_of, field_within}
use Rattle.wy_constant.proofs.fields.field_by_name.Given as goal

abbrev pub invariant-upward : goal.invariant-upward
invariant-upward l = field_of (table_of l.table) l.class l.name ≡ field_within l.left (table_of l.table) l.at l.name

abbrev pub decreases-upward : goal.decreases-upward
decreases-upward l = l.left
