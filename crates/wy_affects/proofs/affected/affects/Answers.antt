-- The pass begins behind the event, goes up to the last, and has then found what comes from the event.
use Rattle.std.proofs.Common.{◌≡◌, ◌+◌, length, true, false, sym, ap, ◌∙◌, subst, arith}
use Rattle.wy_index.specs.Index.{owners_of}
use Rattle.wy_why.specs.Answer.{Rises}
use Rattle.wy_why.proofs.Walking.{told_one}
use Rattle.wy_affects.specs.Pass.{marked_above}
use Rattle.wy_affects.proofs.Upward.{begins_up, ends_all, ends_flow, ends_rising}
use Rattle.wy_affects.proofs.affected.affects.Goals as goal

pub loop-next-init : goal.loop-next-init
loop-next-init g c = record {
  up = begins_up c.args.index.now (g.V.EventView.tells c.args.view.now) c.args.event _ c.in_ok-first_marks.ensures.room c.in_ok-first_marks.ensures.alone c.new.ensures.items c.new-2.ensures.items;
  recent = c.in_ok-new.ensures c.args.index.now.postings;
  forward = omega arith;
}

pub returns-clause-all : goal.returns-clause-all
returns-clause-all g c = λ rs is.
    let told = g.V.EventView.tells c.args.view.now in
    let whole = c.requires.index in
    let marks = c.loop-next.pass.marks.items in
    let up = c.loop-next.invariant.up in
    let last : c.loop-next.next ≡ told.count = omega arith in
    let long : length rs ≡ told.count = ap length (told_one told.records rs whole.records is whole.as_told) ∙ whole.all in
    up.all ∙ ap (marked_above true marks c.args.event) last
    ∙ ends_all (owners_of c.args.index.now) rs c.args.event told.count marks long c.requires.there (λ j below. up.marks rs is true j (omega (arith, below, last)))

pub returns-clause-flow : goal.returns-clause-flow
returns-clause-flow g c = λ rs is.
    let told = g.V.EventView.tells c.args.view.now in
    let whole = c.requires.index in
    let marks = c.loop-next.pass.marks.items in
    let up = c.loop-next.invariant.up in
    let last : c.loop-next.next ≡ told.count = omega arith in
    let long : length rs ≡ told.count = ap length (told_one told.records rs whole.records is whole.as_told) ∙ whole.all in
    up.flow ∙ ap (marked_above false marks c.args.event) last
    ∙ ends_flow (owners_of c.args.index.now) rs c.args.event told.count marks long c.requires.there (λ j below. up.marks rs is false j (omega (arith, below, last)))

pub returns-clause-rises : goal.returns-clause-rises
returns-clause-rises g c =
    let count = (g.V.EventView.tells c.args.view.now).count in
    let marks = c.loop-next.pass.marks.items in
    let up = c.loop-next.invariant.up in
    let last : c.loop-next.next ≡ count = omega arith in (
      subst (Rises (c.args.event + 1) count) (sym (up.all ∙ ap (marked_above true marks c.args.event) last)) (ends_rising true marks c.args.event count c.requires.there),
      subst (Rises (c.args.event + 1) count) (sym (up.flow ∙ ap (marked_above false marks c.args.event) last)) (ends_rising false marks c.args.event count c.requires.there),
    )
