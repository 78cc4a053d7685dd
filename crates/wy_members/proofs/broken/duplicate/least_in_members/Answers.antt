use Rattle.std.proofs.Common.{map}
use Rattle.wy_syntax.specs.View.{member_of}
use Rattle.wy_members.specs.Within.{RepeatsInMember}
use Rattle.wy_members.proofs.Leasts.{none_yet, more_seen, gone_seen}
use Rattle.wy_members.proofs.broken.duplicate.least_in_members.Goals as goal

pub loop-member-init : goal.loop-member-init
loop-member-init c = none_yet (λ i m. RepeatsInMember m) (map member_of c.args.members.now)

pub loop-member-preserved : goal.loop-member-preserved
loop-member-preserved c =
    more_seen member_of (λ i m. RepeatsInMember m) c.args.members.now c.loop-member.member-index c.member-item.result _ _ _ c.loop-member-test.true c.member-item.is c.loop-member.invariant c.in_ok-in_member.ensures c.lesser-least.ensures

pub returns : goal.returns
returns c = gone_seen member_of (λ i m. RepeatsInMember m) c.args.members.now c.loop-member.member-index _ c.loop-member-test.false c.loop-member.invariant
