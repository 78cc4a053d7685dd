use Rattle.std.proofs.Common.{map, ap, ◌∙◌}
use Rattle.wy_event.specs.Record.{recorded}
use Rattle.wy_event.specs.Sources.{Control, event_sources, use_sources, with_role}
use Rattle.wy_index.specs.Index.{owners_of}
use Rattle.wy_why.specs.Sources.{source_of}
use Rattle.wy_why.proofs.Listing.{one_listed}
use Rattle.wy_why.proofs.source.of_event.Goals as goal

pub returns-clause-sources : goal.returns-clause-sources
unfolding recorded event_sources
returns-clause-sources g c = λ rs is.
    let owner = owners_of c.args.index.now in
    let e = recorded c.args.event.now in
    ap (map source_of) c.in_ok-keep.ensures
    ∙ one_listed source_of c.in_ok-found.found.items c.parent.result (use_sources owner rs e.uses) (with_role Control e.control) (c.in_ok-found.ensures.sources rs is ∙ ap (use_sources owner rs) c.as_slice.ensures) c.parent.ensures
