-- How far a trace is read while it is opened.
use Rattle.std.specs.Prelude.{◌≡◌, ℕ, List, ◌∷◌, ◌++◌, length, map, take, drop, Option, Some, IfSome, Result, Ok, Err}
use Rattle.wy_kernel.specs.declared.program.Program.{Program}
use Rattle.wy_event.specs.declared.record.Head.{Head}
use Rattle.wy_event.specs.declared.record.Tail.{Tail}
use Rattle.wy_event.specs.declared.record.Version.{Version}
use Rattle.wy_event.specs.Record.{recorded}
use Rattle.wy_fitting.specs.Fits.{AllFit}
use Rattle.wy_spelling.specs.Spelling.{opening}
use Rattle.wy_payload.specs.Ranges.{ranges_of}
use Rattle.wy_frames.specs.declared.error.TraceError.{TraceError}
use Rattle.wy_frames.specs.declared.stage.Stage.TheVariants as stages
use Rattle.wy_frames.specs.Progress.{Progress, event_in, start}
use Rattle.wy_frames.specs.Scan.{Refused}
use Rattle.wy_frames.specs.Scanning.{Finishes, Scans}
use Rattle.law_reading.specs.Spelled.{AreBytes}
use Rattle.wy_outside.specs.Shelf.{Files}
use Rattle.wy_page.specs.declared.opening.Reading.{Reading}
use Rattle.wy_page.specs.declared.pages.Pages.{Pages}
use Rattle.wy_page.specs.Places.{AreAllMarked, AreMarked, ends_of}

-- where the first event begins, and each ends
abbrev pub places : Version → Head → Progress → List ℕ
places v head t = length (opening v head) ∷ ends_of t.placed

-- of the bytes behind the head so much stands, and the blocks of its events are marked; the bytes of the last block are there, as far as they were read
pub record Reads (r : Reading) (v : Version) (p : Program) (head : Head) (fed : List ℕ) (t : Progress) : Type 0 where
  pub version : r.version ≡ v
  pub scans : Scans r.scanner v p head fed t
  pub fit : AllFit (map recorded (map event_in t.placed))
  pub marked : AreMarked r.marks (places v head t) (opening v head ++ fed)
  pub left : r.bytes.items ≡ drop r.marks.from (opening v head ++ fed)
  pub at : r.at ≡ length (opening v head ++ fed)
  pub are : AreBytes fed

-- some bytes were read so
pub record IsReading (r : Reading) : Type 0 where
  pub version : Version
  pub program : Program
  pub head : Head
  pub fed : List ℕ
  pub standing : Progress
  pub reads : Reads r version program head fed standing

-- with a piece more it is read on, of which this is true, or the bytes are refused
abbrev pub ReadsOn : (Progress → Type 0) → Result Unit TraceError → Reading → Version → Program → Head → List ℕ → Type 0
ReadsOn also (Ok u) r v p head fed = (t : Progress) × Reads r v p head fed t × also t
ReadsOn also (Err e) r v p head fed = Refused (ranges_of v p) head.steps (start v head) fed e

-- all was read, up to the seal, and this is kept of it
pub record IsWhole (pages : Pages) (tail : Tail) (v : Version) (head : Head) (fed : List ℕ) (t : Progress) : Type 0 where
  pub version_is : pages.version ≡ v
  pub sealed : t.stage ≡ stages.Sealed tail pages.seal
  pub marked : AreAllMarked pages.starts.items pages.digests.items pages.count (places v head t) (opening v head ++ fed)

-- all was read, or it ends before the seal
abbrev pub ReadsAll : Result (Pages × Tail) TraceError → Version → Head → List ℕ → Progress → Type 0
ReadsAll (Ok x) v head fed t = IsWhole x.0 x.1 v head fed t
ReadsAll (Err e) v head fed t = Finishes (Err e) v head fed t

-- ---- over a shelf that tells its files

-- these bytes are the next of the named file, from a place on
abbrev pub AreNext : Option Files → List ℕ → ℕ → List ℕ → Type 0
AreNext held name from fed = IfSome held (λ files. (bytes : List ℕ) → files name ≡ Some bytes → fed ≡ take (length fed) (drop from bytes))

-- they are all that follow
abbrev pub AreOthers : Option Files → List ℕ → ℕ → List ℕ → Type 0
AreOthers held name from fed = IfSome held (λ files. (bytes : List ℕ) × (files name ≡ Some bytes) × (fed ≡ drop from bytes))
