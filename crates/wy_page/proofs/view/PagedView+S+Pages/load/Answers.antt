-- The bytes of a block are read, and they are those of the file that is told.
use Rattle.std.proofs.Common.{◌+◌, ◌-◌, ◌*◌, ℕ, List, Option, Err, refl, sym, subst}
use Rattle.std.specs.Prelude.{IfOk, Vec, slice_index}
use Rattle.std.specs.declared.alloc.Global.{Global}
use Rattle.wy_event.specs.declared.record.Event.{Event}
use Rattle.wy_outside.specs.Shelf.{Files}
use Rattle.wy_view.specs.View.{KeepsCounts, RefusedFor}
use Rattle.wy_view.specs.declared.view.ViewError.{ViewError}
use Rattle.wy_page.specs.Blocks.{block_length, size_of_block}
use Rattle.wy_page.specs.Frames.{ReadAs}
use Rattle.wy_page.specs.Refusals.{refused}
use Rattle.wy_page.specs.Paged.{IsOfShelf, told_by}
use Rattle.wy_page.proofs.Fits.{fits_same}
use Rattle.wy_page.proofs.Told.{counts_if, has_digest, refused_counts, told_if}
use Rattle.wy_page.proofs.view.PagedView+S+Pages.load.Goals as goal

pub invariant_of-self : goal.invariant_of-self
invariant_of-self g c =
    let old = c.args.self.now in
    let file = c.events_of.ensures.file in
    record { fits = subst (λ (h : Option Files). ∥ IsOfShelf c.events_of.new.self h ∥₁) (sym c.read.ensures.held) (fits_same old.pages c.events_of.new.self (g.S.Shelf.held old.shelf.now) (record { name = file.name; version = file.version; starts = file.starts; digests = file.digests; seal = file.seal; count = file.count }) c.events_of.ensures.held old.fits) }

pub invariant_of-self-in-Err-1 : goal.invariant_of-self-in-Err-1
invariant_of-self-in-Err-1 g c =
    let old = c.args.self.now in
    record { fits = subst (λ (h : Option Files). ∥ IsOfShelf old.pages h ∥₁) (sym c.read.ensures.held) old.fits }

pub returns-in-Ok-clause-told : goal.returns-in-Ok-clause-told
returns-in-Ok-clause-told g c =
    let p = c.args.self.now.pages in
    told_if p (g.S.Shelf.held c.args.self.now.shelf.now) c.args.block c.in-Ok.bytes c.args.self.now.fits c.requires c.in-Ok.ensures.content c.events_of.result
    (subst (λ (l : List ℕ). IfOk c.events_of.result (λ events. ReadAs p.version (block_length * c.args.block) (size_of_block p.count c.args.block) l events.items)) c.as_slice.ensures.value c.events_of.ensures.read)

pub returns-in-Ok-clause-counts : goal.returns-in-Ok-clause-counts
returns-in-Ok-clause-counts g c =
    let p = c.args.self.now.pages in
    let shelf = c.args.self.now.shelf.now in
    let held = g.S.Shelf.held shelf in
    let now = c.read.new.shelf in
    let new = c.events_of.new.self in
    let lender = c.args.self.now.shelf.ghost_name in
    subst (λ (h : Option Files). KeepsCounts c.events_of.result (told_by p held (g.S.Shelf.faults shelf) (g.S.Shelf.misses shelf) lender) (told_by new h (g.S.Shelf.faults now) (g.S.Shelf.misses now) lender)) (sym c.read.ensures.held)
    (counts_if p held c.args.block c.in-Ok.bytes c.args.self.now.fits c.requires c.in-Ok.ensures.content _ new c.as_slice.result.now (g.S.Shelf.faults shelf) (g.S.Shelf.misses shelf) (g.S.Shelf.faults now) (g.S.Shelf.misses now) lender c.events_of.result refl refl c.as_slice.ensures.value c.events_of.ensures.refused c.in-Ok.ensures.failed)

pub returns-in-Err-clause-counts : goal.returns-in-Err-clause-counts
returns-in-Err-clause-counts g c =
    let p = c.args.self.now.pages in
    let b = c.args.block in
    let shelf = c.args.self.now.shelf.now in
    let held = g.S.Shelf.held shelf in
    let now = c.read.new.shelf in
    let lender = c.args.self.now.shelf.ghost_name in
    let told = told_by p held (g.S.Shelf.faults shelf) (g.S.Shelf.misses shelf) lender in
    subst (λ (e : ViewError). RefusedFor e told (told_by p (g.S.Shelf.held now) (g.S.Shelf.faults now) (g.S.Shelf.misses now) lender)) (sym c.refusal.ensures)
    (subst (λ (h : Option Files). KeepsCounts {X = Vec Event Global} (Err (refused c.in-Err.error)) told (told_by p h (g.S.Shelf.faults now) (g.S.Shelf.misses now) lender)) (sym c.read.ensures.held)
    (refused_counts p p held (slice_index p.starts.items b) (slice_index p.starts.items (b + 1) - slice_index p.starts.items b) (g.S.Shelf.faults shelf) (g.S.Shelf.misses shelf) (g.S.Shelf.faults now) (g.S.Shelf.misses now) lender c.in-Err.error c.args.self.now.fits c.in-Err.ensures.content c.in-Err.ensures.failed c.in-Err.ensures.absent))

pub returns-in-Ok-clause-kept : goal.returns-in-Ok-clause-kept
returns-in-Ok-clause-kept g c = has_digest c.args.self.now.pages c.args.block c.as_slice.result.now c.events_of.result c.events_of.ensures.kept c.events_of.ensures.read
