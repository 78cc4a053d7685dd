use Rattle.std.proofs.Common.{◌≡◌, length, map}
use Rattle.wy_syntax.specs.View.{placed_of}
use Rattle.wy_members.specs.Declarations.{has}
use Rattle.wy_members.proofs.written_type.has.Given as goal

abbrev pub invariant-loop-left : goal.invariant-loop-left
invariant-loop-left l = has l.modifier (map placed_of l.left) ≡ has l.modifier (map placed_of l.initial.left)

abbrev pub decreases-loop-left : goal.decreases-loop-left
decreases-loop-left l = length l.left
