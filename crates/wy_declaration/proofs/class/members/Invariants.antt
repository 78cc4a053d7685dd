use Rattle.std.proofs.Common.{◌≡◌, ◌++◌, map, length}
use Rattle.wy_syntax.specs.Declarations.{members_in}
use Rattle.wy_syntax.specs.View.{member_of}
use Rattle.wy_declaration.specs.Parts.{parts_of}
use Rattle.wy_declaration.proofs.class.members.Given as goal

abbrev pub invariant-loop-part : goal.invariant-loop-part
invariant-loop-part l = map member_of l.found.items ++ members_in (parts_of l.left) ≡ members_in (parts_of l.initial.left)

abbrev pub decreases-loop-part : goal.decreases-loop-part
decreases-loop-part l = length l.left.trees.now
