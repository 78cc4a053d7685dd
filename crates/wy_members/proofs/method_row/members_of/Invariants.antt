use Rattle.std.proofs.Common.{◌≡◌, ◌++◌, length, map}
use Rattle.wy_syntax.specs.View.{member_of}
use Rattle.wy_members.specs.Known.{members_seen}
use Rattle.wy_members.proofs.method_row.members_of.Given as goal

abbrev pub invariant-loop-left : goal.invariant-loop-left
invariant-loop-left l = members_seen l.members.items ++ map member_of l.left ≡ map member_of l.initial.left

abbrev pub decreases-loop-left : goal.decreases-loop-left
decreases-loop-left l = length l.left
