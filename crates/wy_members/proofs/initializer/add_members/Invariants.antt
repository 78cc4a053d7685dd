use Rattle.std.proofs.Common.{◌≡◌, ◌++◌, length, map}
use Rattle.wy_syntax.specs.View.{member_of}
use Rattle.wy_members.specs.Constants.{initializers_among}
use Rattle.wy_members.specs.Initializers.{initializers_seen}
use Rattle.wy_members.proofs.initializer.add_members.Given as goal

abbrev pub invariant-loop-left : goal.invariant-loop-left
invariant-loop-left l =
    initializers_seen l.found.items ++ initializers_among (map member_of l.left)
    ≡ initializers_seen l.initial.found.items ++ initializers_among (map member_of l.initial.left)

abbrev pub decreases-loop-left : goal.decreases-loop-left
decreases-loop-left l = length l.left
