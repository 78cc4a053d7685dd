use Rattle.std.proofs.Common.{◌≡◌, ◌++◌, length, map}
use Rattle.wy_syntax.specs.View.{parameter_of}
use Rattle.wy_members.specs.Declarations.{types_of}
use Rattle.wy_members.specs.Names.{unit_of}
use Rattle.wy_members.proofs.written_type.parameter_types.Given as goal

abbrev pub invariant-loop-left : goal.invariant-loop-left
invariant-loop-left l = l.types.items ++ types_of (unit_of l.names) (map parameter_of l.left) ≡ types_of (unit_of l.names) (map parameter_of l.initial.left)

abbrev pub decreases-loop-left : goal.decreases-loop-left
decreases-loop-left l = length l.left
