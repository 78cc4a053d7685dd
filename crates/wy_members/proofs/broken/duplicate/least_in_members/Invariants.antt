use Rattle.std.proofs.Common.{map}
use Rattle.wy_syntax.specs.View.{member_of}
use Rattle.wy_members.specs.Within.{RepeatsInMember}
use Rattle.wy_members.specs.Least.{IsLeast}
use Rattle.wy_members.proofs.Leasts.{Before}
use Rattle.wy_members.proofs.broken.duplicate.least_in_members.Given as goal

abbrev pub invariant-loop-member : goal.invariant-loop-member
invariant-loop-member l = IsLeast (Before (map member_of l.members) (λ i m. RepeatsInMember m) l.member-index) l.least
