-- The block is held and comes first, or is read and put before the others.
use Rattle.std.proofs.Common.{sym, ap, ◌∙◌}
use Rattle.std.specs.Prelude.{is_some}
use Rattle.wy_page.specs.Blocks.{held_blocks}
use Rattle.wy_page.proofs.Asked.{asked_held, asked_put, asked_refused, held_there, lookup_stays, put_there}
use Rattle.wy_page.proofs.Fits.{fits_held, fits_promoted, told_kept}
use Rattle.wy_page.proofs.view.PagedView+S+Pages.ask.Goals as goal

pub invariant_of-self : goal.invariant_of-self
invariant_of-self g c =
    let old = c.args.self.now in
    record { fits = fits_promoted old.pages c.brings_first.new.self (g.S.Shelf.held old.shelf.now) c.args.block held_blocks c.brings_first.ensures.file c.brings_first.ensures.first old.fits }

pub returns-then-brings_first-clause-there : goal.returns-then-brings_first-clause-there
returns-then-brings_first-clause-there g c = held_there c.args.block held_blocks c.args.self.now.pages c.brings_first.new.self (sym c.brings_first.ensures.there ∙ c.if-brings_first.true) c.brings_first.ensures.first

pub returns-then-brings_first-clause-asked : goal.returns-then-brings_first-clause-asked
returns-then-brings_first-clause-asked g c = asked_held c.args.block c.args.self.now.pages c.brings_first.new.self (g.S.Shelf.gets c.args.self.now.shelf.now) (sym c.brings_first.ensures.there ∙ c.if-brings_first.true) c.brings_first.ensures.first c.brings_first.ensures.loads

pub hold-requires-clause-lacks : goal.hold-requires-clause-lacks
hold-requires-clause-lacks g c = ap is_some (lookup_stays c.args.block held_blocks c.args.self.now.pages c.load.new.self.pages (c.load.ensures.held_stay ∙ c.brings_first.ensures.first)) ∙ sym c.brings_first.ensures.there ∙ c.if-brings_first.false

pub invariant_of-self-in-Ok : goal.invariant_of-self-in-Ok
invariant_of-self-in-Ok g c =
    let first = c.brings_first.new.self in
    let now = c.load.new.self in
    let held = g.S.Shelf.held now.shelf.now in
    record { fits = fits_held now.pages c.hold.new.self held c.args.block c.in-Ok.events c.hold.result c.hold.ensures.file c.hold.ensures.held c.hold.ensures.err (told_kept first now.pages (g.S.Shelf.held c.args.self.now.shelf.now) held c.args.block c.in-Ok.events.items c.load.ensures.file c.load.ensures.held c.in-Ok.ensures.told) now.fits }

pub returns-in-Ok-clause-there : goal.returns-in-Ok-clause-there
returns-in-Ok-clause-there g c = put_there c.args.block held_blocks c.load.new.self.pages c.hold.new.self c.in-Ok.events c.hold.result c.hold.ensures.held

pub returns-in-Ok-clause-asked : goal.returns-in-Ok-clause-asked
returns-in-Ok-clause-asked g c =
    let old = c.args.self.now in
    let now = c.load.new.self in
    asked_put c.args.block old.pages now.pages c.hold.new.self (g.S.Shelf.gets old.shelf.now) (g.S.Shelf.gets now.shelf.now) c.in-Ok.events c.hold.result (sym c.brings_first.ensures.there ∙ c.if-brings_first.false) old.pages.room (c.load.ensures.held_stay ∙ c.brings_first.ensures.first) (c.load.ensures.loads_stay ∙ c.brings_first.ensures.loads) c.hold.ensures.held c.hold.ensures.loads c.hold.ensures.err c.load.ensures.got

pub returns-in-Err-clause-asked : goal.returns-in-Err-clause-asked
returns-in-Err-clause-asked g c =
    let old = c.args.self.now in
    let now = c.load.new.self in
    asked_refused c.args.block old.pages c.brings_first.new.self now.pages (g.S.Shelf.gets old.shelf.now) (g.S.Shelf.gets now.shelf.now) (sym c.brings_first.ensures.there ∙ c.if-brings_first.false) old.pages.room c.brings_first.ensures.first c.brings_first.ensures.loads c.load.ensures.held_stay c.load.ensures.loads_stay c.load.ensures.got
