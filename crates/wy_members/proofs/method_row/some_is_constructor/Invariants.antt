use Rattle.std.proofs.Common.{◌≡◌, length}
use Rattle.std.specs.List.{list_any}
use Rattle.wy_members.specs.Known.{members_seen}
use Rattle.wy_members.specs.Declarations.{is_constructor}
use Rattle.wy_members.proofs.method_row.some_is_constructor.Given as goal

abbrev pub invariant-loop-left : goal.invariant-loop-left
invariant-loop-left l = list_any is_constructor (members_seen l.left) ≡ list_any is_constructor (members_seen l.initial.left)

abbrev pub decreases-loop-left : goal.decreases-loop-left
decreases-loop-left l = length l.left
