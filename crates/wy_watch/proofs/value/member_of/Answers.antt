use Rattle.std.proofs.Common.{◌∙◌, ap, sym}
use Rattle.wy_watch.specs.Sight.{sight_seen}
use Rattle.wy_watch.specs.Value.{member_of}
use Rattle.wy_watch.proofs.Looking.{look_as}
use Rattle.wy_watch.proofs.Members.{of_object}
use Rattle.wy_watch.proofs.value.member_of.Goals as goal

pub returns-else-is_array-clause-looks : goal.returns-else-is_array-clause-looks
returns-else-is_array-clause-looks g c =
    look_as _ _ _ _ _
    (λ rs told. of_object (sight_seen rs c.args.sight.now) c.args.name.now c.args.object c.in-Some.made (sym c.is_array.ensures ∙ c.if-is_array.false)
    ∙ sym (ap (member_of (sight_seen rs c.args.sight.now) c.args.name.now c.args.object) c.in-Some.is))
    c.object_member.ensures.looks
