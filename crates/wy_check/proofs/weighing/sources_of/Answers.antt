-- The sources of each use, and then the control parent, in order.
use Rattle.std.proofs.Common.{◌≡◌, length, map, take, get_or, sym, ap, ap₂, ◌∙◌, subst, arith}
use Rattle.std.specs.Prelude.{Contains}
use Rattle.std.proofs.Math.Seq.{take-length}
use Rattle.wy_kernel.specs.Parts.{program_of}
use Rattle.wy_event.specs.declared.record.Use.TheVariants.{Place}
use Rattle.wy_event.specs.declared.record.Slot.TheVariants.{None}
use Rattle.wy_event.specs.Record.{recorded}
use Rattle.wy_event.specs.Sources.{Control, event_sources, use_source, use_sources, with_role}
use Rattle.wy_why.specs.Sources.{source_of}
use Rattle.wy_why.proofs.Listing.{one_listed, same_members}
use Rattle.wy_why.proofs.Marking.{one_more_use}
use Rattle.wy_check.specs.Asking.{AreAsked}
use Rattle.wy_check.specs.Writes.{owners}
use Rattle.wy_check.proofs.Askings.{asked_at}
use Rattle.wy_check.proofs.weighing.sources_of.Goals as goal

pub loop-used-init : goal.loop-used-init
unfolding use_sources
loop-used-init c = λ rs seen asked. ap (map source_of) c.new-found.ensures.items

pub loop-used-preserved : goal.loop-used-preserved
loop-used-preserved c = λ rs seen asked.
    let us = c.as_slice-uses.result.now in
    let i = c.loop-used.used-index in
    let d = Place None 0 in
    let owner = owners (program_of c.args.program.now) in
    ap (map source_of) c.in_ok-keep.ensures
    ∙ one_listed source_of c.loop-used.found.items c.source_by.result (use_sources owner rs (take i us)) (use_source owner rs (get_or us i d)) (c.loop-used.invariant rs seen asked) (c.source_by.ensures rs seen (asked_at c.args.history.now us i d asked c.loop-used-test.true))
    ∙ sym (one_more_use owner rs us i d c.loop-used-test.true)

pub returns-clause-exact : goal.returns-clause-exact
unfolding recorded event_sources
returns-clause-exact c = λ rs seen asked s.
    let owner = owners (program_of c.args.program.now) in
    let us = c.as_slice-uses.result.now in
    let e = recorded c.args.event.now in
    let all : take c.loop-used.used-index us ≡ us = ap (λ n. take n us) (let end : c.loop-used.used-index ≡ length us = omega arith in end) ∙ take-length us in
    let uses = c.loop-used.invariant rs seen (subst (AreAsked c.args.history.now) (sym c.as_slice-uses.ensures) asked) ∙ ap (use_sources owner rs) (all ∙ c.as_slice-uses.ensures) in
    let listed = ap (map source_of) c.in_ok-keep-2.ensures ∙ one_listed source_of c.loop-used.found.items c.parent.result (use_sources owner rs e.uses) (with_role Control e.control) uses c.parent.ensures in (
      λ has. subst (λ l. Contains l s) listed (same_members source_of c.put_in_order.result.items c.keep-2.new.found.items c.put_in_order.ensures.adds_none s has),
      λ has. same_members source_of c.keep-2.new.found.items c.put_in_order.result.items c.put_in_order.ensures.keeps s (subst (λ l. Contains l s) (sym listed) has),
    )
