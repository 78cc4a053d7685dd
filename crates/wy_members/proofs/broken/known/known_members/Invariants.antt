use Rattle.std.proofs.Common.{◌≡◌, ◌++◌, length, map}
use Rattle.std.specs.Prelude.{filter}
use Rattle.wy_syntax.specs.View.{member_of}
use Rattle.wy_members.specs.Broken.{is_known}
use Rattle.wy_members.specs.Known.{members_seen}
use Rattle.wy_members.specs.Names.{unit_of}
use Rattle.wy_members.proofs.broken.known.known_members.Given as goal

abbrev pub invariant-loop-left : goal.invariant-loop-left
invariant-loop-left l = members_seen l.members.items ++ filter (is_known (unit_of l.names)) (map member_of l.left) ≡ filter (is_known (unit_of l.names)) (map member_of l.initial.left)

abbrev pub decreases-loop-left : goal.decreases-loop-left
decreases-loop-left l = length l.left
