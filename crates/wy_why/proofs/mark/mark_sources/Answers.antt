-- The uses, and then the control parent.
use Rattle.std.proofs.Common.{◌<◌, length, sym, subst, arith}
use Rattle.wy_event.specs.Record.{recorded}
use Rattle.wy_view.specs.References.{OptionBelow, UsesBelow}
use Rattle.wy_index.proofs.Numbers.{absent_number, present_number}
use Rattle.wy_index.specs.Index.{owners_of}
use Rattle.wy_why.specs.Marks.{marked}
use Rattle.wy_why.proofs.Marking.{with_parent, without_parent}
use Rattle.wy_why.proofs.mark.mark_sources.Goals as goal

pub mark_uses-requires-clause-refers : goal.mark_uses-requires-clause-refers
unfolding recorded
mark_uses-requires-clause-refers g c = subst (UsesBelow (length c.args.marks.now)) (sym c.as_slice.ensures) c.requires.refers.uses

pub mark_event-requires : goal.mark_event-requires
unfolding recorded
mark_event-requires g c =
    let below : c.args.event.now.control < length c.args.marks.now = subst (OptionBelow (length c.args.marks.now)) (present_number c.args.event.now.control c.if-event.true) c.requires.refers.control in
    omega (arith, below)

pub returns-then-event-clause-marks : goal.returns-then-event-clause-marks
unfolding recorded
returns-then-event-clause-marks g c = λ rs is all j.
    with_parent (owners_of c.args.index.now) rs all c.args.flow (recorded c.args.event.now) j c.as_slice.result.now c.args.event.now.control (marked all c.args.marks.now j) (marked all c.mark_uses.new.marks j) (marked all c.mark_event.new.marks j)
    c.as_slice.ensures (present_number c.args.event.now.control c.if-event.true) (c.mark_uses.ensures.marks rs is all j) (c.mark_event.ensures all j)

pub returns-else-event-clause-marks : goal.returns-else-event-clause-marks
unfolding recorded
returns-else-event-clause-marks g c = λ rs is all j.
    without_parent (owners_of c.args.index.now) rs all c.args.flow (recorded c.args.event.now) j c.as_slice.result.now (marked all c.args.marks.now j) (marked all c.mark_uses.new.marks j)
    c.as_slice.ensures (absent_number c.args.event.now.control c.if-event.false) (c.mark_uses.ensures.marks rs is all j)
