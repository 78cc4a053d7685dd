use Rattle.std.proofs.Common.{◌≡◌, ◌++◌, map, length}
use Rattle.wy_syntax.specs.Declarations.{modifiers_of}
use Rattle.wy_syntax.specs.View.{placed_of}
use Rattle.wy_declaration.specs.Parts.{parts_of}
use Rattle.wy_declaration.proofs.modifier.modifiers.Given as goal

abbrev pub invariant-loop-part : goal.invariant-loop-part
invariant-loop-part l = map placed_of l.found.items ++ modifiers_of (parts_of l.left) ≡ modifiers_of (parts_of l.initial.left)

abbrev pub decreases-loop-part : goal.decreases-loop-part
decreases-loop-part l = length l.left.trees.now
