-- What a view of the pages tells is told, and the shelf comes back from the view as it is.
use Rattle.std.proofs.Common.{rules, ◌≡◌, ◌∙◌, refl}
use Rattle.wy_page.specs.Paged.{records_told, told_by}
use Rattle.wy_view.specs.View.{KeepsCounts, Told}
use Rattle.wy_top.proofs.Paging.{found_in_view, looked_up, view_of}
use Rattle.wy_top.proofs.paged.look_up.Goals as goal

pub returns-clause-due : goal.returns-clause-due
returns-clause-due g c = λ t files told are.
    let held = g.S.Shelf.held c.args.shelf.now in
    let shown : records_told c.over-view.result.pages (g.S.Shelf.held c.over-view.result.shelf.now) ≡ records_told c.args.pages held = rw (c.over-view.ensures.shelf, c.over-view.ensures.pages) refl in
    let is = view_of t c.args.pages c.args.tail.now files held _ told shown are in
    rw (c.unwrap.ensures, c.seal.ensures) at (c.answer_to_view-view.ensures.due t is are.tail_is)

pub returns-clause-looks : goal.returns-clause-looks
returns-clause-looks g c =
    let lent = c.over-view.result in
    let back = c.answer_to_view-view.result in
    let old : Told = told_by lent.pages (g.S.Shelf.held lent.shelf.now) (g.S.Shelf.faults lent.shelf.now) (g.S.Shelf.misses lent.shelf.now) lent.shelf.ghost_name in
    let new : Told = told_by back.pages (g.S.Shelf.held back.shelf.now) (g.S.Shelf.faults back.shelf.now) (g.S.Shelf.misses back.shelf.now) back.shelf.ghost_name in
    let counted : KeepsCounts c.unwrap.result old new = rw (c.unwrap.ensures) at c.answer_to_view-view.ensures.answers in
    rw (← c.over-view.ensures.shelf, ← c.over-view.ensures.pages) (looked_up c.unwrap.result old new _ (g.S.Shelf.fulls lent.shelf.now) (search rules) (search rules) counted)

pub answer_to_view-view-requires : goal.answer_to_view-view-requires
answer_to_view-view-requires g c =
    let lent = c.over-view.result in
    let told : Told = told_by lent.pages (g.S.Shelf.held lent.shelf.now) (g.S.Shelf.faults lent.shelf.now) (g.S.Shelf.misses lent.shelf.now) lent.shelf.ghost_name in
    record {
      fields = c.requires.fields;
      found = found_in_view c.args.found lent.pages (g.S.Shelf.held lent.shelf.now) told refl refl (rw (c.over-view.ensures.shelf, c.over-view.ensures.pages) c.requires.found);
    }
