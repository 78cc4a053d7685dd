use Rattle.std.proofs.Common.{◌≡◌, ◌++◌, length, map}
use Rattle.wy_syntax.specs.View.{declaration_of}
use Rattle.wy_members.specs.Constants.{library_initializers, written_initializers}
use Rattle.wy_members.specs.Initializers.{initializers_seen}
use Rattle.wy_members.proofs.initializer.initializers.Given as goal

abbrev pub invariant-loop-left : goal.invariant-loop-left
invariant-loop-left l =
    initializers_seen l.found.items ++ written_initializers (map declaration_of l.left)
    ≡ library_initializers ++ written_initializers (map declaration_of l.initial.left)

abbrev pub decreases-loop-left : goal.decreases-loop-left
decreases-loop-left l = length l.left
