use Rattle.std.proofs.Common.{◌≡◌, ◌++◌, length, map}
use Rattle.wy_syntax.specs.View.{declarator_of, placed_of}
use Rattle.wy_members.specs.Constants.{initializer_rows}
use Rattle.wy_members.specs.Initializers.{initializers_seen}
use Rattle.wy_members.proofs.initializer.add_declared.Given as goal

abbrev pub invariant-loop-left : goal.invariant-loop-left
invariant-loop-left l =
    initializers_seen l.found.items ++ initializer_rows (map placed_of l.modifiers) (map declarator_of l.left)
    ≡ initializers_seen l.initial.found.items ++ initializer_rows (map placed_of l.modifiers) (map declarator_of l.initial.left)

abbrev pub decreases-loop-left : goal.decreases-loop-left
decreases-loop-left l = length l.left
