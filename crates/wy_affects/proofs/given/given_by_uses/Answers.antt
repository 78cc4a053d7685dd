-- One use more gives its mark.
use Rattle.std.proofs.Common.{◌||◌, take, get_or, length, sym, ap₂, ◌∙◌, arith}
use Rattle.wy_event.specs.declared.record.Use.TheVariants.{Place}
use Rattle.wy_event.specs.declared.record.Slot.TheVariants.{None}
use Rattle.wy_event.specs.Sources.{use_sources}
use Rattle.wy_index.specs.Index.{owners_of}
use Rattle.wy_why.proofs.Marking.{use_below}
use Rattle.wy_affects.proofs.Giving.{nothing_given, one_use_more}
use Rattle.wy_affects.proofs.given.given_by_uses.Goals as goal

pub loop-used-init : goal.loop-used-init
unfolding use_sources
loop-used-init g c = record { recent = c.requires.recent; mark = λ rs is all. sym (nothing_given c.args.marks.now all); forward = omega arith }

pub given_by_use-more-requires-clause-refers : goal.given_by_use-more-requires-clause-refers
given_by_use-more-requires-clause-refers g c = use_below (length c.args.marks.now) c.args.uses.now c.loop-used.used-index (Place None 0) c.requires.refers c.loop-used-test.true

pub loop-used-preserved : goal.loop-used-preserved
loop-used-preserved g c = record {
  recent = c.given_by_use-more.ensures.recent;
  mark = λ rs is all.
      c.greater-mark.ensures all ∙ ap₂ (λ a b. a || b) (c.loop-used.invariant.mark rs is all) (c.given_by_use-more.ensures.mark rs is all)
      ∙ sym (one_use_more (owners_of c.args.index.now) rs c.args.marks.now all c.args.uses.now c.loop-used.used-index (Place None 0) c.loop-used-test.true);
  forward = omega (arith, c.loop-used.invariant.forward, c.given_by_use-more.ensures.forward);
}
