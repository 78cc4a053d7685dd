-- What is kept of a trace on a shelf, and when it is that of a file.
use Rattle.std.specs.Prelude.{◌≡◌, ◌≢◌, ℕ, ◌+◌, ◌-◌, ◌*◌, ◌<◌, List, [], Contains, length, map, take, drop, slice_get, slice_index, Option, Some, IfSome, option_map, string_bytes, String, Vec}
use Rattle.std.specs.Option.{unwrap_or}
use Rattle.std.specs.Map.{keys_of}
use Rattle.sha2.specs.Sha256.{sha256}
use Rattle.wy_event.specs.Record.{Recorded, recorded}
use Rattle.wy_outside.specs.Shelf.{Files}
use Rattle.wy_view.specs.Counts.{Rose}
use Rattle.wy_view.specs.View.{Told}
use Rattle.wy_event.specs.declared.record.Event.{Event}
use Rattle.wy_event.specs.declared.record.Version.{Version}
use Rattle.std.specs.Borrow.{GName}
use Rattle.std.specs.declared.alloc.Global.{Global}
use Rattle.wy_view.specs.declared.view.ViewError.{ViewError}
use Rattle.wy_view.specs.declared.view.ViewError.TheVariants.{Changed, NoMemory}
use Rattle.wy_page.specs.Blocks.{Order, block_length, block_of, size_of_block}
use Rattle.wy_page.specs.Frames.{AreFrames, ReadAs, records_from}
use Rattle.wy_page.specs.declared.pages.Pages.{Pages}

-- the bytes of block b of a file, by where blocks begin
abbrev pub block_bytes : Vec ℕ Global → ℕ → List ℕ → List ℕ
block_bytes starts b bytes = take (slice_index starts.items (b + 1) - slice_index starts.items b) (drop (slice_index starts.items b) bytes)

-- the records of so many frames, from where the first block begins
abbrev pub records_of : Version → Vec ℕ Global → ℕ → List ℕ → List Recorded
records_of v starts count bytes = records_from v 0 count (drop (slice_index starts.items 0) bytes)

-- those of the named file, where the files are told
abbrev pub records_told : Pages → Option Files → Option (List Recorded)
records_told p held = option_map (λ files. records_of p.version p.starts p.count (unwrap_or (files (string_bytes p.name)) [])) held

-- what is kept is of these bytes: the digest of each block, whose frames are those of its records; and each block that is held
pub record IsOf (v : Version) (starts : Vec ℕ Global) (sums : Vec (List ℕ) Global) (count : ℕ) (blocks : List (ℕ × Vec Event Global)) (bytes : List ℕ) : Type 0 where
  pub digests : (b : ℕ) → b < length sums.items → slice_get sums.items b ≡ Some (sha256 (block_bytes starts b bytes))
  pub frames : (b : ℕ) → b < length sums.items → AreFrames v (block_length * b) (block_of b (records_of v starts count bytes)) (block_bytes starts b bytes)
  pub held : (h : ℕ × Vec Event Global) → Contains blocks h → map recorded h.1.items ≡ block_of h.0 (records_of v starts count bytes)

-- and they are those of the named file, where the files are told
abbrev pub IsOfShelf : Pages → Option Files → Type 0
IsOfShelf p held = IfSome held (λ files. (bytes : List ℕ) × (files (string_bytes p.name) ≡ Some bytes) × IsOf p.version p.starts p.digests p.count p.held.entries bytes)

-- the blocks that are held, and what was counted
abbrev pub order_of : Pages → ℕ → Order
order_of p gets = record { held = keys_of p.held.entries; loads = p.loads; gets = gets }

-- nothing is held yet, and nothing was counted
pub record IsFresh (p : Pages) (name : String Global) : Type 0 where
  pub name_is : p.name ≡ name
  pub nothing_held : p.held.entries ≡ []
  pub reads : p.reads ≡ 0
  pub loads : p.loads ≡ 0
  pub changes : p.changes ≡ 0

-- the file that it is of stays
pub record KeepsFile (old new : Pages) : Type 0 where
  pub name : new.name ≡ old.name
  pub version : new.version ≡ old.version
  pub starts : new.starts ≡ old.starts
  pub digests : new.digests ≡ old.digests
  pub seal : new.seal ≡ old.seal
  pub count : new.count ≡ old.count

-- a block was found changed, which is counted: its digest isn't the one that was kept; and nothing else changes
pub record FoundChanged (old new : Pages) (block : ℕ) (bytes kept found : List ℕ) : Type 0 where
  pub file : KeepsFile old new
  pub held : new.held ≡ old.held
  pub loads : new.loads ≡ old.loads
  pub reads : new.reads ≡ old.reads
  pub changes : Rose old.changes new.changes
  pub kept_is : slice_get old.digests.items block ≡ Some kept
  pub found_is : found ≡ sha256 bytes
  pub differ : kept ≢ found

abbrev pub IsChange : Pages → Pages → ℕ → List ℕ → ViewError → Type 0
IsChange old new block bytes (Changed b kept found) = FoundChanged old new block bytes kept found
IsChange old new block bytes _ = ⊥

-- or memory ran out, and all stayed
abbrev pub IsNoBlock : Pages → Pages → ℕ → List ℕ → ViewError → Type 0
IsNoBlock old new block bytes NoMemory = new ≡ old
IsNoBlock old new block bytes e = IsChange old new block bytes e

-- they are read from bytes that have the digest which was kept of the block
abbrev pub HasDigest : Pages → ℕ → List Event → Type 0
HasDigest p b events = (bytes : List ℕ) × (slice_get p.digests.items b ≡ Some (sha256 bytes)) × ReadAs p.version (block_length * b) (size_of_block p.count b) bytes events

-- these are the records of the block, where the files are told
abbrev pub IsBlockTold : Pages → Option Files → ℕ → List Event → Type 0
IsBlockTold p held b events = IfSome (records_told p held) (λ rs. map recorded events ≡ block_of b rs)

-- what a view of it tells, over a shelf of these files that failed and missed so often, and that was borrowed so
abbrev pub told_by : Pages → Option Files → ℕ → ℕ → GName → Told
told_by p held faults misses lender = record { records = records_told p held; reads = Some p.reads; count = p.count; faults = faults; misses = misses; changes = p.changes; lender = Some (record { name = lender; holds = held }) }
