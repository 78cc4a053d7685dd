use Rattle.std.proofs.Common.{◌≡◌, length}
use Rattle.wy_syntax.specs.Declarations.{behind_modifiers}
use Rattle.wy_declaration.specs.Parts.{parts_of}
use Rattle.wy_declaration.proofs.modifier.behind_modifiers.Given as goal

abbrev pub invariant-loop-part : goal.invariant-loop-part
invariant-loop-part l = behind_modifiers (parts_of l.left) ≡ behind_modifiers (parts_of l.initial.left)

abbrev pub decreases-loop-part : goal.decreases-loop-part
decreases-loop-part l = length l.left.trees.now
