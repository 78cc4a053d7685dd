use Rattle.std.proofs.Common.{◌≡◌, ◌++◌, length, map}
use Rattle.wy_syntax.specs.View.{named_of}
use Rattle.wy_members.specs.Declarations.{interfaces_of}
use Rattle.wy_members.specs.Names.{unit_of}
use Rattle.wy_members.proofs.class_row.interfaces.Given as goal

abbrev pub invariant-loop-left : goal.invariant-loop-left
invariant-loop-left l = l.found.items ++ interfaces_of (unit_of l.names) (map named_of l.left) ≡ interfaces_of (unit_of l.names) (map named_of l.initial.left)

abbrev pub decreases-loop-left : goal.decreases-loop-left
decreases-loop-left l = length l.left
