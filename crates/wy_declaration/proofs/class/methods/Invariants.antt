use Rattle.std.proofs.Common.{◌≡◌, [], ◌++◌, map, length}
use Rattle.wy_syntax.specs.Declarations.{methods_in}
use Rattle.wy_syntax.specs.View.{member_of}
use Rattle.wy_declaration.specs.Parts.{parts_of}
use Rattle.wy_declaration.proofs.class.methods.Given as goal

abbrev pub invariant-loop-method : goal.invariant-loop-method
invariant-loop-method l = map member_of l.found.items ++ methods_in [] (parts_of l.left) ≡ methods_in [] (parts_of l.initial.left)

abbrev pub decreases-loop-method : goal.decreases-loop-method
decreases-loop-method l = length l.left.trees.now
