-- The block that is found has the event.
use Rattle.std.proofs.Common.{arith, ap, subst, sym, ◌∙◌, Option}
use Rattle.std.specs.Prelude.{IfSome, slice_get, Some, Vec, ◌≡◌, ◌%◌}
use Rattle.std.specs.declared.alloc.Global.{Global}
use Rattle.std.proofs.lemmas.Option.{slice_get-get_or}
use Rattle.wy_event.specs.declared.record.Event.{Event}
use Rattle.wy_page.specs.Blocks.{block_length}
use Rattle.wy_page.proofs.Held.{found_within}
use Rattle.wy_page.proofs.pages.Pages.at.Goals as goal

pub index-requires : goal.index-requires
index-requires c = omega (arith, found_within c.args.self.now.count c.args.n c.args.self.now.held.entries c.in-Some.events.now c.args.self.now.blocks c.requires.within (sym c.in-Some.ensures), c.in-Some.events.now.ok.0)

pub returns : goal.returns
returns c =
    let p = c.args.self.now in
    let events = c.in-Some.events.now in
    let within = found_within p.count c.args.n p.held.entries events p.blocks c.requires.within (sym c.in-Some.ensures) in
    subst (λ (o : Option (Vec Event Global)). IfSome o (λ found. slice_get found.items (c.args.n % block_length) ≡ Some c.index.result.now)) c.in-Some.ensures (slice_get-get_or events.items (c.args.n % block_length) c.index.result.now within ∙ ap Some (sym c.index.ensures))
