use Rattle.std.proofs.Common.{map}
use Rattle.wy_syntax.specs.View.{member_of}
use Rattle.wy_syntax.proofs.Heads.{row_ends as ended}
use Rattle.wy_declaration.proofs.Classes.{members_go, members_alone, members_end}
use Rattle.wy_declaration.proofs.class.members.Goals as goal

pub returns-in_default-split : goal.returns-in_default-split
returns-in_default-split c = ended (map member_of c.loop-part.found.items) _ _ (members_alone _ _ _ c.in-Some.ensures.parts c.in_default-split.ensures.parts) c.loop-part.invariant

pub loop-part-preserved : goal.loop-part-preserved
loop-part-preserved c = members_go _ _ _ _ _ _ _ _ _ c.in_ok-push.ensures.items c.in-Some.ensures.parts c.in-Some-split.ensures.parts c.in_ok-member.ensures c.loop-part.invariant

pub returns : goal.returns
returns c = ended (map member_of c.loop-part.found.items) _ _ (members_end _ c.in_default.ensures.parts) c.loop-part.invariant
