-- One use more marks what it comes from.
use Rattle.std.proofs.Common.{◌+◌, ◌*◌, ◌≤◌, ◌||◌, length, take, get_or, sym, ap, ◌∙◌, subst, arith}
use Rattle.wy_event.specs.declared.record.Use.TheVariants.{Place}
use Rattle.wy_event.specs.declared.record.Slot.TheVariants.{None}
use Rattle.wy_view.specs.References.{UseBelow}
use Rattle.wy_event.specs.Numbers.{only, union_of}
use Rattle.wy_event.specs.Sources.{use_source, use_sources}
use Rattle.wy_index.specs.Index.{owners_of}
use Rattle.wy_why.specs.Marks.{marked, taken}
use Rattle.wy_why.specs.Uses.{places, is_place}
use Rattle.wy_why.proofs.Marking.{or_no, or_more, nothing_taken, more_taken, one_more_use, one_more_place, use_below, more_steps}
use Rattle.wy_why.proofs.mark.mark_uses.Goals as goal

pub loop-used-init : goal.loop-used-init
unfolding use_sources
loop-used-init g c = record {
  recent = c.requires.recent;
  marks = λ rs is all j. sym (ap (λ b. marked all c.args.marks.now j || b) (nothing_taken all c.args.flow j) ∙ or_no (marked all c.args.marks.now j));
  forward = omega arith;
  steps = λ k is. omega arith;
}

pub mark_use-requires-clause-refers : goal.mark_use-requires-clause-refers
mark_use-requires-clause-refers g c = let d = Place None 0 in subst (λ n. UseBelow n (get_or c.args.uses.now c.loop-used.used-index d)) (sym c.loop-used.auto.marks) (use_below (length c.args.marks.now) c.args.uses.now c.loop-used.used-index d c.requires.refers c.loop-used-test.true)

pub loop-used-preserved : goal.loop-used-preserved
loop-used-preserved g c =
    let v = c.loop-used.invariant in
    let us = c.args.uses.now in
    let i = c.loop-used.used-index in
    let d = Place None 0 in
    record {
      recent = c.mark_use.ensures.recent;
      marks = λ rs is all j.
          let owner = owners_of c.args.index.now in
          let flow = c.args.flow in
          let front = union_of only (taken all flow (use_sources owner rs (take i us))) j in
          let next = union_of only (taken all flow (use_source owner rs (get_or us i d))) j in
          c.mark_use.ensures.marks rs is all j
          ∙ ap (λ b. b || next) (v.marks rs is all j)
          ∙ or_more (marked all c.args.marks.now j) front next
          ∙ ap (λ b. marked all c.args.marks.now j || b) (sym (ap (λ l. union_of only (taken all flow l) j) (one_more_use owner rs us i d c.loop-used-test.true) ∙ more_taken all flow (use_sources owner rs (take i us)) (use_source owner rs (get_or us i d)) j));
      forward = omega (arith, v.forward, c.mark_use.ensures.forward);
      steps = λ k is. subst (λ n. c.mark_use.new.steps ≤ c.args.steps.now + n * (k + 1)) (sym (one_more_place us i d c.loop-used-test.true))
          (more_steps c.args.steps.now c.loop-used.steps c.mark_use.new.steps (places (take i us)) (is_place (get_or us i d)) k (v.steps k is) (c.mark_use.ensures.steps k is));
    }
