use Rattle.wy_table.specs.ClassTable.{table_of}
use Rattle.wy_members.specs.Initializers.{initializers_seen}
use Rattle.wy_members.proofs.Sweeps.{Swept}
use Rattle.wy_members.proofs.constant_field.sweep.Given as goal

abbrev pub invariant-loop-field : goal.invariant-loop-field
invariant-loop-field l = Swept (initializers_seen l.all) (table_of l.initial.table) (table_of l.table) l.found l.field
