use Rattle.std.proofs.Common.{map, take, get_or, sym, ap, ◌∙◌, arith}
use Rattle.wy_event.specs.declared.record.Use.TheVariants.{Place}
use Rattle.wy_event.specs.declared.record.Slot.TheVariants.{None}
use Rattle.wy_event.specs.Sources.{use_source, use_sources}
use Rattle.wy_index.specs.Index.{owners_of}
use Rattle.wy_why.specs.Sources.{source_of}
use Rattle.wy_why.proofs.Listing.{one_listed}
use Rattle.wy_why.proofs.Marking.{one_more_use}
use Rattle.wy_why.proofs.source.of_uses.Goals as goal

pub loop-used-init : goal.loop-used-init
unfolding use_sources
loop-used-init g c = record { sources = λ rs is. ap (map source_of) c.new-found.ensures.items; forward = omega arith }

pub loop-used-preserved : goal.loop-used-preserved
loop-used-preserved g c =
    let us = c.args.uses.now in
    let i = c.loop-used.used-index in
    let d = Place None 0 in
    let owner = owners_of c.args.index.now in
    record {
      sources = λ rs is. ap (map source_of) c.in_ok-keep.ensures
          ∙ one_listed source_of c.loop-used.found.items c.source_by.result (use_sources owner rs (take i us)) (use_source owner rs (get_or us i d)) (c.loop-used.invariant.sources rs is) (c.source_by.ensures.source rs is)
          ∙ sym (one_more_use owner rs us i d c.loop-used-test.true);
      forward = omega (arith, c.loop-used.invariant.forward, c.source_by.ensures.forward);
    }
