-- The cache stays as large, and has the block and no others.
use Rattle.std.proofs.Common.{ℕ, ap, subst, sym, ◌∙◌}
use Rattle.std.specs.Prelude.{Vec}
use Rattle.std.specs.declared.alloc.Global.{Global}
use Rattle.lru.specs.LruCache.{LruCache}
use Rattle.wy_event.specs.declared.record.Event.{Event}
use Rattle.wy_page.specs.Blocks.{AreBlocks}
use Rattle.wy_page.proofs.Held.{put_blocks}
use Rattle.wy_page.proofs.pages.Pages.hold.Goals as goal

pub invariant_of-self : goal.invariant_of-self
invariant_of-self c =
    let p = c.args.self.now in
    let entries = c.in-Ok.ensures.entries in
    record {
      places = p.places;
      room = ap (λ (x : LruCache ℕ (Vec Event Global)). x.cap) entries ∙ p.room;
      blocks = subst (λ (x : LruCache ℕ (Vec Event Global)). AreBlocks p.count x.entries) (sym entries) (put_blocks p.count p.held c.args.block c.args.events c.requires.block p.blocks);
    }
