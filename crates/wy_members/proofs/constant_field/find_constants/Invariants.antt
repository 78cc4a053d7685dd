use Rattle.wy_table.specs.ClassTable.{table_of}
use Rattle.wy_members.specs.Sweep.{GoesOn, unknown}
use Rattle.wy_members.specs.Initializers.{initializers_seen}
use Rattle.wy_members.proofs.constant_field.find_constants.Given as goal

abbrev pub decreases-loop : goal.decreases-loop
decreases-loop l = unknown (table_of l.table).constants

abbrev pub invariant-loop : goal.invariant-loop
invariant-loop l = GoesOn (initializers_seen l.all) (table_of l.initial.table) (table_of l.table)
