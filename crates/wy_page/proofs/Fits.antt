-- What is kept stays that of the file, whatever is asked for.
use Rattle.std.proofs.Common.{◌≡◌, ℕ, List, [], map, Option, Some, None, Result, Ok, Err, OnOk, OnErr, sym, ap, ◌∙◌, subst}
use Rattle.std.specs.Prelude.{Contains, IfSome, option_map, nat_eq, string_bytes, Vec}
use Rattle.std.specs.declared.alloc.Global.{Global}
use Rattle.std.specs.Option.{unwrap_or}
use Rattle.std.proofs.Math.Logic.{∥∥₁_elim}
use Rattle.std.proofs.Props.{props}
use Rattle.lru.specs.LruCache.{LruCache, lru_cache, promoted, put_entries}
use Rattle.lru.proofs.CallerLemmas.{Contains-promoted}
use Rattle.wy_event.specs.declared.record.Version.{Version}
use Rattle.wy_event.specs.declared.record.Event.{Event}
use Rattle.wy_event.specs.Record.{Recorded, recorded}
use Rattle.wy_outside.specs.Shelf.{Files}
use Rattle.wy_page.specs.declared.pages.Pages.{Pages}
use Rattle.wy_view.specs.declared.view.ViewError.{ViewError}
use Rattle.wy_page.specs.Blocks.{block_of, held_blocks}
use Rattle.wy_page.specs.Paged.{IsBlockTold, IsOf, IsOfShelf, KeepsFile, records_of, records_told}
use Rattle.wy_page.proofs.Held.{put_has}

abbrev Held : Type 0
Held = List (ℕ × Vec Event Global)

-- each block that is held is of these records
abbrev HeldOf : Pages → List ℕ → Held → Type 0
HeldOf p bytes held = (h : ℕ × Vec Event Global) → Contains held h → map recorded h.1.items ≡ block_of h.0 (records_of p.version p.starts p.count bytes)

kept_of : (old new : Pages) → KeepsFile old new → (held : Held) (bytes : List ℕ) → IsOf old.version old.starts old.digests old.count held bytes → IsOf new.version new.starts new.digests new.count held bytes
kept_of old new k held bytes is =
    subst (λ (v : Version). IsOf v new.starts new.digests new.count held bytes) (sym k.version)
    (subst (λ (s : Vec ℕ Global). IsOf old.version s new.digests new.count held bytes) (sym k.starts) (subst (λ (d : Vec (List ℕ) Global). IsOf old.version old.starts d new.count held bytes) (sym k.digests) (subst (λ (c : ℕ). IsOf old.version old.starts old.digests c held bytes) (sym k.count) is)))

with_held : (p : Pages) (held new : Held) (bytes : List ℕ) → IsOf p.version p.starts p.digests p.count held bytes → HeldOf p bytes new → IsOf p.version p.starts p.digests p.count new bytes
with_held p held new bytes is are = record { digests = is.digests; frames = is.frames; held = are }

-- once what is held changes to blocks of the same records
abbrev Changes : Pages → Pages → Option Files → Type 0
Changes old new held = IfSome held (λ files. (bytes : List ℕ) → files (string_bytes old.name) ≡ Some bytes → HeldOf old bytes old.held.entries → HeldOf old bytes new.held.entries)

fits_now : (old new : Pages) (held : Option Files) → KeepsFile old new → Changes old new held → IsOfShelf old held → IsOfShelf new held
fits_now old new None k changes is = tt
fits_now old new (Some files) k changes (bytes, named, is) = (
  bytes,
  ap (λ name. files (string_bytes name)) k.name ∙ named,
  kept_of old new k new.held.entries bytes (with_held old old.held.entries new.held.entries bytes is (changes bytes named is.held)),
)

fits : (old new : Pages) (held : Option Files) → KeepsFile old new → Changes old new held → ∥ IsOfShelf old held ∥₁ → ∥ IsOfShelf new held ∥₁
fits old new held k changes is = ∥∥₁_elim is (hlevel props) (λ was. ∣ fits_now old new held k changes was ∣₁)

pub fits_same : (old new : Pages) (held : Option Files) → KeepsFile old new → new.held ≡ old.held → ∥ IsOfShelf old held ∥₁ → ∥ IsOfShelf new held ∥₁
fits_same old new held k same is = fits old new held k (changes held) is where
  changes : (held : Option Files) → Changes old new held
  changes None = tt
  changes (Some files) = λ bytes named are. subst (λ (c : LruCache ℕ (Vec Event Global)). HeldOf old bytes c.entries) (sym same) are

pub fits_promoted : (old new : Pages) (held : Option Files) (b cap : ℕ) → KeepsFile old new → new.held ≡ lru_cache (promoted (nat_eq b) old.held.entries) cap → ∥ IsOfShelf old held ∥₁ → ∥ IsOfShelf new held ∥₁
fits_promoted old new held b cap k now is = fits old new held k (changes held) is where
  changes : (held : Option Files) → Changes old new held
  changes None = tt
  changes (Some files) = λ bytes named are. subst (λ (c : LruCache ℕ (Vec Event Global)). HeldOf old bytes c.entries) (sym now) (λ h among. are h (Contains-promoted (nat_eq b) old.held.entries h among))

pub fits_put : (old new : Pages) (held : Option Files) (b cap : ℕ) (events : Vec Event Global) → KeepsFile old new → new.held ≡ lru_cache (put_entries nat_eq old.held b events) cap → IsBlockTold old held b events.items → ∥ IsOfShelf old held ∥₁ → ∥ IsOfShelf new held ∥₁
fits_put old new held b cap events k now told is = fits old new held k (changes held told) is where
  changes : (held : Option Files) → IsBlockTold old held b events.items → Changes old new held
  changes None told = tt
  changes (Some files) told = λ bytes named are.
      let here : map recorded events.items ≡ block_of b (records_of old.version old.starts old.count bytes) = told ∙ ap (λ o. block_of b (records_of old.version old.starts old.count (unwrap_or o []))) named in
      subst (λ (c : LruCache ℕ (Vec Event Global)). HeldOf old bytes c.entries) (sym now) (put_has (λ h. map recorded h.1.items ≡ block_of h.0 (records_of old.version old.starts old.count bytes)) old.held b events here are)

-- the records stay with the file
pub records_kept : (old new : Pages) (held : Option Files) → KeepsFile old new → records_told new held ≡ records_told old held
records_kept old new held k = λ i. option_map (λ files. records_of (k.version i) (k.starts i) (k.count i) (unwrap_or (files (string_bytes (k.name i))) [])) held

pub told_kept : (old new : Pages) (was held : Option Files) (b : ℕ) (events : List Event) → KeepsFile old new → held ≡ was → IsBlockTold old was b events → IsBlockTold new held b events
told_kept old new was held b events k same told = subst (λ (o : Option (List Recorded)). IfSome o (λ rs. map recorded events ≡ block_of b rs)) (sym (ap (records_told new) same ∙ records_kept old new was k)) told

-- a block was put, or there was no memory
pub fits_held : (old new : Pages) (held : Option Files) (b : ℕ) (events : Vec Event Global) (r : Result Unit ViewError) → KeepsFile old new → OnOk r (new.held ≡ lru_cache (put_entries nat_eq old.held b events) held_blocks) → OnErr r (new ≡ old) → IsBlockTold old held b events.items → ∥ IsOfShelf old held ∥₁ → ∥ IsOfShelf new held ∥₁
fits_held old new held b events (Ok u) k put stays told is = fits_put old new held b held_blocks events k put told is
fits_held old new held b events (Err e) k put stays told is = subst (λ (p : Pages). ∥ IsOfShelf p held ∥₁) (sym stays) is
