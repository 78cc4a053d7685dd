-- The event is read, given its mark by its sources, and taken.
use Rattle.std.proofs.Common.{length, sym, subst, ap, ◌∙◌, arith}
use Rattle.wy_event.specs.Record.{recorded}
use Rattle.wy_event.specs.Sources.{event_sources}
use Rattle.wy_view.specs.References.{RefersBelow}
use Rattle.wy_index.specs.Index.{IsIndexOf, owners_of}
use Rattle.wy_why.proofs.Closures.{refers_up}
use Rattle.wy_why.proofs.Walking.{told_one, told_record}
use Rattle.wy_affects.specs.Given.{is_given}
use Rattle.wy_affects.proofs.Upward.{up_taken}
use Rattle.wy_affects.proofs.pass.step.Goals as goal

pub given_to-mark-requires-clause-refers : goal.given_to-mark-requires-clause-refers
given_to-mark-requires-clause-refers g c = subst (λ n. RefersBelow n (recorded c.in_ok-event.event.now)) (sym (ap length c.deref.ensures.value)) (refers_up c.args.k (length c.args.pass.now.marks.items) (recorded c.in_ok-event.event.now) (omega (arith, c.requires.room)) c.in_ok-event.ensures.refers)

pub returns-clause-up : goal.returns-clause-up
returns-clause-up g c = λ start e lt up.
    let now = g.V.EventView.tells c.args.view.now in
    let index = c.args.index.now in
    let whole = c.requires.index in
    let r = recorded c.in_ok-event.event.now in
    let after = c.event.follows.holds-at-none in
    up_taken index start now (g.V.EventView.tells c.event.follows.lender-at-none) e c.args.k c.args.pass.now c.take.new.self c.given_to-mark.result r up lt
    c.in_ok-take.ensures.all c.in_ok-take.ensures.flow c.in_ok-take.ensures.marks
    (λ rs is. told_record now.records rs c.args.k r is c.in_ok-event.ensures.record) c.in_ok-event.ensures.refers
    (λ rs is all.
    let same = told_one now.records rs whole.records is whole.as_told in
    c.given_to-mark.ensures.mark rs (subst (IsIndexOf index) (sym same) whole.is_index) all ∙ ap (λ ms. is_given all ms (event_sources (owners_of index) rs r)) c.deref.ensures.value)
    after.0 after.1 (rw c.in_ok-event.was at after.2)
