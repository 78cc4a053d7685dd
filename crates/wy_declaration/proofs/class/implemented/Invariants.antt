use Rattle.std.proofs.Common.{◌≡◌, length}
use Rattle.wy_syntax.specs.Declarations.{implemented_in}
use Rattle.wy_declaration.specs.Parts.{parts_of}
use Rattle.wy_declaration.proofs.class.implemented.Given as goal

abbrev pub invariant-loop-part : goal.invariant-loop-part
invariant-loop-part l = implemented_in (parts_of l.left) ≡ implemented_in (parts_of l.initial.left)

abbrev pub decreases-loop-part : goal.decreases-loop-part
decreases-loop-part l = length l.left.trees.now
