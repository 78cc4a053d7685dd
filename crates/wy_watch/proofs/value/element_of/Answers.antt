use Rattle.std.proofs.Common.{◌∙◌, Some, ap, sym}
use Rattle.wy_watch.specs.Sight.{sight_seen}
use Rattle.wy_watch.specs.Value.{element_of}
use Rattle.wy_watch.proofs.Looking.{look_as}
use Rattle.wy_watch.proofs.Members.{of_element}
use Rattle.wy_watch.proofs.value.element_of.Goals as goal

pub returns-then-index-made-clause-looks : goal.returns-then-index-made-clause-looks
returns-then-index-made-clause-looks g c =
    look_as _ _ _ _ _
    (λ rs told. of_element (sight_seen rs c.args.sight.now) c.args.array c.in-Some.made c.in-Some-index.index (sym c.is_array.ensures ∙ c.if-is_array.true) c.if-index-made.true
    ∙ sym (ap (λ m. element_of (sight_seen rs c.args.sight.now) c.args.array m c.args.index) c.in-Some.is ∙ ap (element_of (sight_seen rs c.args.sight.now) c.args.array (Some c.in-Some.made)) c.in-Some-index.is))
    c.stored_at.ensures.looks
