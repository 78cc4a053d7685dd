use Rattle.std.proofs.Common.{length}
use Rattle.wy_declaration.specs.Parts.{parts_of}
use Rattle.wy_declaration.proofs.Classes.{Seen}
use Rattle.wy_declaration.proofs.class.front_method.Given as goal

abbrev pub invariant-loop-part : goal.invariant-loop-part
invariant-loop-part l = Seen (parts_of l.initial.left) (parts_of l.left) (length l.left.trees.now)

abbrev pub decreases-loop-part : goal.decreases-loop-part
decreases-loop-part l = length l.left.trees.now
