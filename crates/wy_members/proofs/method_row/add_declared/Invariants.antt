use Rattle.std.proofs.Common.{◌≡◌, ◌++◌, length, map}
use Rattle.wy_kernel.specs.View.{method_of}
use Rattle.wy_syntax.specs.View.{class_of as class_syntax}
use Rattle.wy_members.specs.Known.{members_seen}
use Rattle.wy_members.specs.Declarations.{methods_in}
use Rattle.wy_members.specs.Names.{unit_of}
use Rattle.wy_members.proofs.method_row.add_declared.Given as goal

abbrev pub invariant-loop-left : goal.invariant-loop-left
invariant-loop-left l =
    map method_of l.rows.items ++ methods_in (unit_of l.names) l.number (class_syntax l.class) (members_seen l.left)
    ≡ map method_of l.initial.rows.items ++ methods_in (unit_of l.names) l.number (class_syntax l.class) (members_seen l.initial.left)

abbrev pub decreases-loop-left : goal.decreases-loop-left
decreases-loop-left l = length l.left
