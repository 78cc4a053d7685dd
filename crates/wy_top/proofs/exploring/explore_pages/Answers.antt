-- What a view of the pages tells is the scene, and the shelf comes back from the view as it is.
use Rattle.std.proofs.Common.{◌≡◌, refl}
use Rattle.wy_page.specs.Paged.{records_told, told_by}
use Rattle.wy_view.specs.View.{Told}
use Rattle.wy_session.proofs.Fewer.{closed_over, reads_out_over}
use Rattle.wy_top.proofs.Paging.{found_in_view}
use Rattle.wy_top.proofs.Scenes.{scene_is}
use Rattle.wy_top.proofs.exploring.explore_pages.Goals as goal

pub returns-clause-closed : goal.returns-clause-closed
returns-clause-closed g c =
    let held = g.S.Shelf.held c.args.shelf.now in
    let lent = c.over-view.result in
    let told : Told = told_by lent.pages (g.S.Shelf.held lent.shelf.now) (g.S.Shelf.faults lent.shelf.now) (g.S.Shelf.misses lent.shelf.now) lent.shelf.ghost_name in
    let shown : records_told lent.pages (g.S.Shelf.held lent.shelf.now) ≡ records_told c.args.pages held = rw (c.over-view.ensures.shelf, c.over-view.ensures.pages) refl in
    closed_over _ _ _ _ _ _ c.unwrap.result (λ x is. scene_is c.args.program.now c.args.covers.now told (records_told c.args.pages held) shown x is) (rw (c.unwrap.ensures) at c.explore-view.ensures.closed)

pub returns-clause-read_out : goal.returns-clause-read_out
returns-clause-read_out g c =
    let held = g.S.Shelf.held c.args.shelf.now in
    let lent = c.over-view.result in
    let told : Told = told_by lent.pages (g.S.Shelf.held lent.shelf.now) (g.S.Shelf.faults lent.shelf.now) (g.S.Shelf.misses lent.shelf.now) lent.shelf.ghost_name in
    let shown : records_told lent.pages (g.S.Shelf.held lent.shelf.now) ≡ records_told c.args.pages held = rw (c.over-view.ensures.shelf, c.over-view.ensures.pages) refl in
    reads_out_over _ _ _ _ c.unwrap.result (λ x is. scene_is c.args.program.now c.args.covers.now told (records_told c.args.pages held) shown x is) (rw (c.unwrap.ensures) at c.explore-view.ensures.read_out)

pub explore-view-requires : goal.explore-view-requires
explore-view-requires g c =
    let lent = c.over-view.result in
    let told : Told = told_by lent.pages (g.S.Shelf.held lent.shelf.now) (g.S.Shelf.faults lent.shelf.now) (g.S.Shelf.misses lent.shelf.now) lent.shelf.ghost_name in
    record {
      fields = c.requires.fields;
      found = found_in_view c.args.found lent.pages (g.S.Shelf.held lent.shelf.now) told refl refl (rw (c.over-view.ensures.shelf, c.over-view.ensures.pages) c.requires.found);
    }
