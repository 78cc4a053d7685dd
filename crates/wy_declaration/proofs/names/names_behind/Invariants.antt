use Rattle.std.proofs.Common.{◌≡◌, ◌++◌, map, length}
use Rattle.wy_syntax.specs.Declarations.{names_behind}
use Rattle.wy_syntax.specs.View.{named_of}
use Rattle.wy_declaration.specs.Parts.{parts_of}
use Rattle.wy_declaration.proofs.names.names_behind.Given as goal

abbrev pub invariant-loop-mark : goal.invariant-loop-mark
invariant-loop-mark l = map named_of l.found.items ++ names_behind (parts_of l.left) ≡ names_behind (parts_of l.initial.left)

abbrev pub decreases-loop-mark : goal.decreases-loop-mark
decreases-loop-mark l = length l.left.trees.now
