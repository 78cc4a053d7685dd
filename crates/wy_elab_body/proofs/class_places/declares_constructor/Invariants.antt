use Rattle.std.proofs.Common.{◌≡◌, length, map}
use Rattle.std.specs.List.{list_any}
use Rattle.wy_syntax.specs.View.{member_of}
use Rattle.wy_members.specs.Declarations.{is_constructor}
use Rattle.wy_elab_body.proofs.class_places.declares_constructor.Given as goal

abbrev pub invariant-loop-left : goal.invariant-loop-left
invariant-loop-left l = list_any is_constructor (map member_of l.left) ≡ list_any is_constructor (map member_of l.initial.left)

abbrev pub decreases-loop-left : goal.decreases-loop-left
decreases-loop-left l = length l.left
