use Rattle.std.proofs.Common.{refl}
use Rattle.wy_top.specs.Openings.{memory, refused, session}
use Rattle.wy_top.proofs.Scenes.{counts_of_pages, paged_scene}
use Rattle.wy_top.proofs.exploring.explore_trace.Goals as goal

pub returns-in-Ok-Open-clause-explores : goal.returns-in-Ok-Open-clause-explores
returns-in-Ok-Open-clause-explores g c =
    let held = g.S.Shelf.held c.args.shelf.now in
    let opens = rw (c.in-Ok-Open.field-0-is) at c.in-Ok-Open.ensures.opens in
    session _ c.explore_pages-ending.result _ _
    (paged_scene held _ c.args.name.now c.in-Ok-Open.typed.program c.in-Ok-Open.pages c.in-Ok-Open.tail _ c.open_pages.ensures.files_stay c.as_slice-covers.ensures opens.2)
    c.explore_pages-ending.ensures.closed c.explore_pages-ending.ensures.read_out c.explore_pages-ending.ensures.taken
    (counts_of_pages c.in-Ok-Open.pages held _ c.explore_pages-ending.result _ _ _ c.open_pages.ensures.files_stay opens.0 c.explore_pages-ending.ensures.counts) c.end.ensures

pub returns-in-Ok-Refused-clause-explores : goal.returns-in-Ok-Refused-clause-explores
returns-in-Ok-Refused-clause-explores g c =
    let opens = rw (c.in-Ok-Refused.field-0-is) at c.in-Ok-Refused.ensures.opens in
    refused c.in-Ok-Refused.answer c.deliver.result opens.0 opens.1 opens.2 refl c.deliver.ensures

pub returns-in-Err-clause-explores : goal.returns-in-Err-clause-explores
returns-in-Err-clause-explores g c = memory refl refl
