-- What a read of the shelf says of the file that is told.
use Rattle.std.proofs.Common.{◌≡◌, ℕ, ◌+◌, ◌-◌, ◌*◌, ◌<◌, List, [], length, drop, map, Option, Some, None, Result, Ok, Err, refl, sym, ap, ◌∙◌, subst, arith}
use Rattle.std.specs.Prelude.{◌≢◌, IfErr, IfOk, IfSome, option_map, slice_get, slice_index, string_bytes, Vec}
use Rattle.std.specs.Option.{unwrap_or}
use Rattle.std.specs.declared.alloc.Global.{Global}
use Rattle.std.proofs.Math.Logic.{∥∥₁_elim}
use Rattle.std.proofs.Props.{props}
use Rattle.std.proofs.lemmas.List.{length-drop, length-take}
use Rattle.sha2.specs.Sha256.{sha256}
use Rattle.wy_event.specs.declared.record.Event.{Event}
use Rattle.wy_event.specs.Record.{Recorded, recorded}
use Rattle.std.specs.Borrow.{GName}
use Rattle.wy_outside.specs.Counts.{RoseAt}
use Rattle.wy_outside.specs.Shelf.{Files, ReadsPart, is_absent, is_failed}
use Rattle.wy_outside.specs.declared.shelf.ShelfError.{ShelfError}
use Rattle.wy_outside.specs.declared.shelf.ShelfError.TheVariants as shelf
use Rattle.wy_view.specs.Counts.{Rose}
use Rattle.wy_view.specs.View.{KeepsCounts}
use Rattle.wy_view.specs.declared.view.ViewError.{ViewError}
use Rattle.wy_view.specs.declared.view.ViewError.TheVariants as view
use Rattle.wy_page.specs.Refusals.{refused}
use Rattle.wy_page.specs.declared.pages.Pages.{Pages}
use Rattle.wy_page.specs.Blocks.{block_length, block_of, size_of_block}
use Rattle.wy_page.specs.Frames.{AreFrames, ReadAs}
use Rattle.wy_page.specs.Paged.{HasDigest, IsBlockTold, IsNoBlock, IsOfShelf, block_bytes, records_of, records_told, told_by}
use Rattle.wy_page.proofs.Frames.{length_from}

-- the bytes that were read of a block, and its records, where the file is told
record BlockRead (p : Pages) (files : Files) (b : ℕ) (bytes : List ℕ) : Type 0 where
  pub digest : slice_get p.digests.items b ≡ Some (sha256 bytes)
  pub records : List Recorded
  pub told : records_told p (Some files) ≡ Some records
  pub frames : AreFrames p.version (block_length * b) (block_of b records) bytes
  pub size : length (block_of b records) ≡ size_of_block p.count b

size_of : (b count : ℕ) (records : List Recorded) → length records ≡ count → length (block_of b records) ≡ size_of_block count b
size_of b count records is = omega (arith, length-take block_length (drop (block_length * b) records), length-drop (block_length * b) records, is)

pub records_named : (p : Pages) (files : Files) (bytes : List ℕ) → files (string_bytes p.name) ≡ Some bytes → records_told p (Some files) ≡ Some (records_of p.version p.starts p.count bytes)
records_named p files bytes named = ap (λ o. Some (records_of p.version p.starts p.count (unwrap_or o []))) named

block_read : (p : Pages) (files : Files) (b : ℕ) (bytes : Vec ℕ Global) → IsOfShelf p (Some files) → b < length p.digests.items → ReadsPart (Some files) (string_bytes p.name) (slice_index p.starts.items b) (slice_index p.starts.items (b + 1) - slice_index p.starts.items b) (Ok bytes) → BlockRead p files b bytes.items
block_read p files b bytes (file, named, of) within read =
    let part : block_bytes p.starts b file ≡ bytes.items = some_is (ap (option_map (block_bytes p.starts b)) (sym named) ∙ read) in
    record {
      digest = of.digests b within ∙ ap (λ l. Some (sha256 l)) part;
      records = records_of p.version p.starts p.count file;
      told = records_named p files file named;
      frames = subst (AreFrames p.version (block_length * b) (block_of b (records_of p.version p.starts p.count file))) part (of.frames b within);
      size = size_of b p.count (records_of p.version p.starts p.count file) (length_from p.version 0 p.count (drop (slice_index p.starts.items 0) file));
    }
  where
    some_is : {x y : List ℕ} → Some x ≡ Some y → x ≡ y
    some_is e = cc

-- the events that its bytes are read as are its records
abbrev AsItsRecords : Pages → ℕ → List ℕ → List Event → Type 0
AsItsRecords p b bytes events = ReadAs p.version (block_length * b) (size_of_block p.count b) bytes events

told_some : (p : Pages) (files : Files) (b : ℕ) (bytes : List ℕ) (events : List Event) → BlockRead p files b bytes → AsItsRecords p b bytes events → IsBlockTold p (Some files) b events
told_some p files b bytes events r read = subst (λ (o : Option (List Recorded)). IfSome o (λ rs. map recorded events ≡ block_of b rs)) (sym r.told) (read (block_of b r.records) r.frames r.size)

pub block_told : (p : Pages) (held : Option Files) (b : ℕ) (bytes : Vec ℕ Global) (events : List Event) → ∥ IsOfShelf p held ∥₁ → b < length p.digests.items → ReadsPart held (string_bytes p.name) (slice_index p.starts.items b) (slice_index p.starts.items (b + 1) - slice_index p.starts.items b) (Ok bytes) → AsItsRecords p b bytes.items events → IsBlockTold p held b events
block_told p None b bytes events of within read as_these = tt
block_told p (Some files) b bytes events of within read as_these = ∥∥₁_elim of (hlevel props) (λ is. told_some p files b bytes.items events (block_read p files b bytes is within read) as_these)

-- a told file is what it was, and there
pub never_changed : (p : Pages) (held : Option Files) (b : ℕ) (bytes : Vec ℕ Global) (kept found : List ℕ) → ∥ IsOfShelf p held ∥₁ → b < length p.digests.items → ReadsPart held (string_bytes p.name) (slice_index p.starts.items b) (slice_index p.starts.items (b + 1) - slice_index p.starts.items b) (Ok bytes) → slice_get p.digests.items b ≡ Some kept → found ≡ sha256 bytes.items → kept ≢ found → records_told p held ≡ None
never_changed p None b bytes kept found of within read is_kept is_found differ = refl
never_changed p (Some files) b bytes kept found of within read is_kept is_found differ = ∥∥₁_elim of (hlevel props) (λ is.
    let digest = (block_read p files b bytes is within read).digest in
    let same : Some kept ≡ Some found = sym is_kept ∙ digest ∙ ap Some (sym is_found) in absurd (differ cc))

pub never_gone : (p : Pages) (held : Option Files) (from len : ℕ) → ∥ IsOfShelf p held ∥₁ → ReadsPart held (string_bytes p.name) from len (Err shelf.Absent) → records_told p held ≡ None
never_gone p None from len of gone = refl
never_gone p (Some files) from len of gone = ∥∥₁_elim of (hlevel props) (λ is. let both : Some is.0 ≡ None = sym is.1 ∙ gone in absurd cc)

-- ---- the answers of a read

pub told_long : (p : Pages) (held : Option Files) → IfSome (records_told p held) (λ rs. length rs ≡ p.count)
told_long p None = tt
told_long p (Some files) = length_from p.version 0 p.count (drop (slice_index p.starts.items 0) (unwrap_or (files (string_bytes p.name)) []))

module _ (p : Pages) (held : Option Files) (b : ℕ) (bytes : Vec ℕ Global) (of : ∥ IsOfShelf p held ∥₁) (within : b < length p.digests.items) (read : ReadsPart held (string_bytes p.name) (slice_index p.starts.items b) (slice_index p.starts.items (b + 1) - slice_index p.starts.items b) (Ok bytes)) where
  pub told_if : (r : Result (Vec Event Global) ViewError) → IfOk r (λ events. AsItsRecords p b bytes.items events.items) → IfOk r (λ events. IsBlockTold p held b events.items)
  told_if (Ok events) as_these = block_told p held b bytes events.items of within read as_these
  told_if (Err e) h = tt

  -- by what the pages were when the bytes were looked at
  pub counts_if : (was new : Pages) (looked : List ℕ) (faults misses after later : ℕ) (lender : GName) (r : Result (Vec Event Global) ViewError) → was.changes ≡ p.changes → was.digests ≡ p.digests → looked ≡ bytes.items → IfErr r (IsNoBlock was new b looked) → after ≡ faults → KeepsCounts r (told_by p held faults misses lender) (told_by new held after later lender)
  counts_if was new looked faults misses after later lender (Ok events) changes digests same h stays = stays
  counts_if was new looked faults misses after later lender (Err view.ReadFault) changes digests same h stays = absurd h
  counts_if was new looked faults misses after later lender (Err view.Gone) changes digests same h stays = absurd h
  counts_if was new looked faults misses after later lender (Err (view.Changed k kept found)) changes digests same h stays = (
    subst (λ (n : ℕ). Rose n new.changes) changes h.changes,
    h.differ,
    stays,
    never_changed p held b bytes kept found of within read (subst (λ (v : Vec (List ℕ) Global). slice_get v.items b ≡ Some kept) digests h.kept_is) (h.found_is ∙ ap sha256 same) h.differ,
  )
  counts_if was new looked faults misses after later lender (Err view.NoMemory) changes digests same h stays = stays

-- what a refusal of the shelf counts
pub refused_counts : (p new : Pages) (held : Option Files) (from len faults misses after later : ℕ) (lender : GName) (e : ShelfError) → ∥ IsOfShelf p held ∥₁ → ReadsPart held (string_bytes p.name) from len (Err e) → RoseAt {T = Vec ℕ Global} is_failed (Err e) faults after → RoseAt {T = Vec ℕ Global} is_absent (Err e) misses later → KeepsCounts {X = Vec Event Global} (Err (refused e)) (told_by p held faults misses lender) (told_by new held after later lender)
refused_counts p new held from len faults misses after later lender shelf.Failed of read failed absent = failed
refused_counts p new held from len faults misses after later lender shelf.Absent of read failed absent = (absent, failed, never_gone p held from len of read)
refused_counts p new held from len faults misses after later lender shelf.NoMemory of read failed absent = failed

-- ---- told or not

pub has_digest : (p : Pages) (b : ℕ) (bytes : List ℕ) (r : Result (Vec Event Global) ViewError) → IfOk r (λ _. slice_get p.digests.items b ≡ Some (sha256 bytes)) → IfOk r (λ events. AsItsRecords p b bytes events.items) → IfOk r (λ events. HasDigest p b events.items)
has_digest p b bytes (Ok events) kept read = (bytes, kept, read)
has_digest p b bytes (Err e) kept read = tt
