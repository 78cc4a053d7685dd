-- The uses, and then the control parent.
use Rattle.std.proofs.Common.{◌<◌, ◌||◌, ◌&&◌, length, sym, subst, ap, ap₂, ◌∙◌, arith}
use Rattle.wy_event.specs.Record.{recorded}
use Rattle.wy_view.specs.References.{OptionBelow, UsesBelow}
use Rattle.wy_index.proofs.Numbers.{absent_number, present_number}
use Rattle.wy_index.specs.Index.{owners_of}
use Rattle.wy_affects.proofs.Giving.{with_parent, without_parent}
use Rattle.wy_affects.proofs.given.given_to.Goals as goal

pub given_by_uses-by_uses-requires-clause-refers : goal.given_by_uses-by_uses-requires-clause-refers
unfolding recorded
given_by_uses-by_uses-requires-clause-refers g c = subst (UsesBelow (length c.args.marks.now)) (sym c.as_slice.ensures) c.requires.refers.uses

pub mark_of-requires : goal.mark_of-requires
unfolding recorded
mark_of-requires g c =
    let below : c.args.event.now.control < length c.args.marks.now = subst (OptionBelow (length c.args.marks.now)) (present_number c.args.event.now.control c.if-event.false) c.requires.refers.control in
    omega (arith, below)

pub returns-then-event-clause-mark : goal.returns-then-event-clause-mark
unfolding recorded
returns-then-event-clause-mark g c = λ rs is all.
    c.given_by_uses-by_uses.ensures.mark rs is all
    ∙ without_parent (owners_of c.args.index.now) rs c.args.marks.now all (recorded c.args.event.now) c.as_slice.result.now c.as_slice.ensures (absent_number c.args.event.now.control c.if-event.true)

pub returns-clause-mark : goal.returns-clause-mark
unfolding recorded
returns-clause-mark g c = λ rs is all.
    c.greater.ensures all ∙ ap₂ (λ a b. a || b) (c.given_by_uses-by_uses.ensures.mark rs is all) (c.without_data.ensures all ∙ ap (λ b. all && b) (c.mark_of.ensures all))
    ∙ with_parent (owners_of c.args.index.now) rs c.args.marks.now all (recorded c.args.event.now) c.as_slice.result.now c.as_slice.ensures c.args.event.now.control (present_number c.args.event.now.control c.if-event.false)
