-- The block of the event is asked for, and the event is its record.
use Rattle.std.proofs.Common.{◌≡◌, ◌≤◌, List, Option, Some, refl, ap, ◌∙◌, subst, arith}
use Rattle.std.specs.Prelude.{IfSome, slice_get}
use Rattle.wy_event.specs.Record.{Recorded, recorded}
use Rattle.wy_page.specs.Blocks.{asked_order}
use Rattle.wy_page.specs.Paged.{order_of, records_told}
use Rattle.wy_page.proofs.Asked.{order_kept}
use Rattle.wy_page.proofs.Fits.{fits_same, records_kept}
use Rattle.wy_page.proofs.Looked.{block, looked}
use Rattle.wy_page.proofs.view.PagedViewPagesEventView.event.Goals as goal

pub invariant_of-self : goal.invariant_of-self
invariant_of-self g c =
    let old = c.args.self.now in
    record { fits = fits_same old.pages c.note_read.new.self (g.S.Shelf.held old.shelf.now) c.note_read.ensures.file c.note_read.ensures.held old.fits }

pub returns-in-Ok : goal.returns-in-Ok
returns-in-Ok g c =
    let old = c.args.self.now in
    let noted = c.note_read.new.self in
    let new = c.ask.new.self in
    let held = g.S.Shelf.held old.shelf.now in
    let records : records_told new.pages (g.S.Shelf.held new.shelf.now) ≡ records_told old.pages held = ap (records_told new.pages) c.ask.ensures.held ∙ records_kept noted new.pages held c.ask.ensures.file ∙ records_kept old.pages noted held c.note_read.ensures.file in
    let found = looked c.args.n new.pages (g.S.Shelf.held new.shelf.now) c.at.result.now new.fits c.in-Ok.ensures.there c.at.ensures in
    let gets = g.S.Shelf.gets old.shelf.now in
    let order : order_of noted gets ≡ order_of old.pages gets = order_kept old.pages noted gets c.note_read.ensures.held c.note_read.ensures.loads in
    let changes : old.pages.changes ≤ new.pages.changes = omega (arith, c.ask.ensures.changes, c.note_read.ensures.changes) in (
      (
        refl,
        λ _. tt,
        (
          record {
            records = records;
            count = c.ask.ensures.file.count ∙ c.note_read.ensures.file.count;
            faults = c.ask.ensures.faults_kept;
            misses = c.ask.ensures.misses_kept;
            changes = changes;
            lender = λ i. Some (record { name = c.ask.ensures.same_reference i; holds = c.ask.ensures.held i });
          },
          ap Some (c.ask.ensures.reads ∙ c.note_read.ensures.reads),
          c.in-Ok.ensures.counts,
          c.in-Ok.ensures.asked ∙ ap (asked_order (block c.args.n)) order,
        ),
      ),
      record {
        step = c.tick.ensures;
        refers = found.refers;
        «record» = subst (λ (o : Option (List Recorded)). IfSome o (λ rs. slice_get rs c.args.n ≡ Some (recorded c.at.result.now))) records found.record_is;
        after = tt;
      },
    )
