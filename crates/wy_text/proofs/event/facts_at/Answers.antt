use Rattle.std.proofs.Common.{ap, subst, sym, ◌∙◌}
use Rattle.wy_event.specs.Record.{recorded}
use Rattle.wy_kernel.specs.View.{present}
use Rattle.wy_view.specs.References.{ValueBelow}
use Rattle.wy_text.specs.EventLines.{deed, line_with}
use Rattle.wy_text.specs.Places.{slot_text}
use Rattle.wy_text.specs.Values.{value_text}
use Rattle.wy_text.proofs.Looks.{line_read, slot_within, told_record, value_within}
use Rattle.wy_text.proofs.event.facts_at.Goals as goal

pub returns-clause-line : goal.returns-clause-line
unfolding recorded
returns-clause-line g c = λ rs is p lines marked.
    let e = c.in_ok-event.event.now in
    let at = told_record (g.V.EventView.tells c.args.view.now).records rs c.args.n (recorded e) is c.in_ok-event.ensures.record in
    ap (λ v. line_with lines c.args.n e.site (deed p e.kind (present e.entity) (slot_text p rs e.slot) (value_text p rs v)) marked) c.given.ensures ∙ line_read p lines rs c.args.n marked (recorded e) at

pub returns-clause-slot : goal.returns-clause-slot
unfolding recorded
returns-clause-slot g c = slot_within c.args.n (g.V.EventView.tells c.args.view.now).count (recorded c.in_ok-event.event.now) c.requires.there c.in_ok-event.ensures.refers

pub returns-clause-value : goal.returns-clause-value
unfolding recorded
returns-clause-value g c =
    let count = (g.V.EventView.tells c.args.view.now).count in
    subst (ValueBelow count) (sym c.given.ensures) (value_within c.args.n count (recorded c.in_ok-event.event.now) c.requires.there c.in_ok-event.ensures.refers)
