-- The walk begins at the event, goes down to the first, and has then found what the event comes from.
use Rattle.std.proofs.Common.{◌≡◌, ◌+◌, ◌-◌, ◌*◌, ◌≤◌, suc, length, true, false, sym, ap, ◌∙◌, subst, arith}
use Rattle.std.proofs.lemmas.List.{length-reverse}
use Rattle.wy_index.specs.Index.{owners_of}
use Rattle.wy_why.specs.Answer.{Rises}
use Rattle.wy_why.specs.Uses.{places_in}
use Rattle.wy_why.specs.Walk.{IsDown}
use Rattle.wy_why.proofs.Ends.{begins_at, ends_all, ends_flow, ends_rising, same_places}
use Rattle.wy_why.proofs.answer.why.Goals as goal

pub loop-next-init : goal.loop-next-init
loop-next-init g c = record {
  down = begins_at c.args.index.now (g.V.EventView.tells c.args.view.now) c.args.steps.now c.args.event _ c.in_ok-first_marks.ensures.room c.in_ok-first_marks.ensures.alone c.new.ensures.items c.new-2.ensures.items;
  within = omega arith;
  recent = c.in_ok-new.ensures c.args.index.now.postings;
}

pub loop-next-preserved : goal.loop-next-preserved
loop-next-preserved g c =
    let told = g.V.EventView.tells in
    let first = told c.args.view.now in
    let next : c.loop-next.next ≡ suc (c.loop-next.next - 1) = omega arith in
    record {
      down = c.in_ok-step.ensures.down first c.args.steps.now c.args.event (subst (λ k. IsDown c.args.index.now first (told c.loop-next.view) c.args.steps.now c.loop-next.steps c.args.event k c.loop-next.walk) next c.loop-next.invariant.down);
      within = omega (arith, c.loop-next.invariant.within);
      recent = c.step.ensures.recent;
    }

pub returns-clause-all : goal.returns-clause-all
returns-clause-all g c = λ rs is.
    let told = g.V.EventView.tells in
    let none : c.loop-next.next ≡ 0 = omega arith in
    let down = subst (λ k. IsDown c.args.index.now (told c.args.view.now) (told c.loop-next.view) c.args.steps.now c.loop-next.steps c.args.event k c.loop-next.walk) none c.loop-next.invariant.down in
    c.reversed.ensures ∙ down.all ∙ ends_all (owners_of c.args.index.now) rs c.args.event c.loop-next.walk.marks.items (down.through rs is true)

pub returns-clause-flow : goal.returns-clause-flow
returns-clause-flow g c = λ rs is.
    let told = g.V.EventView.tells in
    let none : c.loop-next.next ≡ 0 = omega arith in
    let down = subst (λ k. IsDown c.args.index.now (told c.args.view.now) (told c.loop-next.view) c.args.steps.now c.loop-next.steps c.args.event k c.loop-next.walk) none c.loop-next.invariant.down in
    c.reversed-2.ensures ∙ down.flow ∙ ends_flow (owners_of c.args.index.now) rs c.args.event c.loop-next.walk.marks.items (down.through rs is false)

pub returns-clause-rises : goal.returns-clause-rises
returns-clause-rises g c =
    let told = g.V.EventView.tells in
    let none : c.loop-next.next ≡ 0 = omega arith in
    let down = subst (λ k. IsDown c.args.index.now (told c.args.view.now) (told c.loop-next.view) c.args.steps.now c.loop-next.steps c.args.event k c.loop-next.walk) none c.loop-next.invariant.down in (
      subst (Rises 0 (c.args.event + 1)) (sym (c.reversed.ensures ∙ down.all)) (ends_rising true c.loop-next.walk.marks.items c.args.event),
      subst (Rises 0 (c.args.event + 1)) (sym (c.reversed-2.ensures ∙ down.flow)) (ends_rising false c.loop-next.walk.marks.items c.args.event),
    )

pub returns-clause-steps : goal.returns-clause-steps
returns-clause-steps g c = λ rs is l halvings.
    let places : places_in rs c.reversed.result.items ≡ places_in rs c.loop-next.walk.all.items = ap (places_in rs) c.reversed.ensures ∙ same_places rs c.loop-next.walk.all.items in
    let long : length c.reversed.result.items ≡ length c.loop-next.walk.all.items = ap length c.reversed.ensures ∙ length-reverse c.loop-next.walk.all.items in
    let bound = c.loop-next.invariant.down.steps rs is l halvings in
    subst (λ m. c.loop-next.steps ≤ c.args.steps.now + (2 * c.reversed.result.len + 2 * m * (l + 1))) (sym places)
    (omega (arith, bound, long, c.reversed.result.ok.0))
