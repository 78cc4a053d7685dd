-- What was found, in order.
use Rattle.std.proofs.Common.{sym, ◌∙◌, subst}
use Rattle.std.specs.Prelude.{Contains}
use Rattle.wy_event.specs.Record.{recorded}
use Rattle.wy_event.specs.Sources.{event_sources}
use Rattle.wy_index.specs.Index.{IsIndexOf, owners_of}
use Rattle.wy_why.specs.Sources.{source_of}
use Rattle.wy_why.proofs.Closures.{sources_below}
use Rattle.wy_why.proofs.Listing.{same_members, member_listed, contains_below}
use Rattle.wy_why.proofs.Walking.{told_one, told_record, sources_at}
use Rattle.wy_why.proofs.source.sources.Goals as goal

pub returns-clause-sources : goal.returns-clause-sources
returns-clause-sources g c = λ rs is s.
    let told = g.V.EventView.tells c.args.view.now in
    let index = c.args.index.now in
    let whole = c.requires.index in
    let e = recorded c.in_ok-record.record.now in
    let found = c.in_ok-found.found.items in
    let same = told_one told.records rs whole.records is whole.as_told in
    let at = told_record told.records rs c.args.event e is c.in_ok-record.ensures.record in
    let listed = c.in_ok-found.ensures.sources rs (subst (IsIndexOf index) (sym same) whole.is_index) ∙ sym (sources_at (owners_of index) rs c.args.event e at) in (
      λ has. subst (λ l. Contains l s) listed (same_members source_of c.put_in_order.result.items found c.put_in_order.ensures.adds_none s has),
      λ has. same_members source_of found c.put_in_order.result.items c.put_in_order.ensures.keeps s (subst (λ l. Contains l s) (sym listed) has),
    )

pub returns-clause-below : goal.returns-clause-below
returns-clause-below g c = λ s has.
    let whole = c.requires.index in
    let e = recorded c.in_ok-record.record.now in
    let owner = owners_of c.args.index.now in
    contains_below c.args.event (event_sources owner whole.records e) (source_of s) (sources_below owner whole.records c.args.event e c.in_ok-record.ensures.refers)
    (member_listed source_of c.in_ok-found.found.items (event_sources owner whole.records e) s (c.in_ok-found.ensures.sources whole.records whole.is_index) (c.put_in_order.ensures.adds_none s has))
