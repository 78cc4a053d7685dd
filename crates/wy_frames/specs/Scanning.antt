-- What a scanner has read of the bytes that it was fed.
use Rattle.std.specs.Prelude.{◌≡◌, ℕ, List, ◌++◌, length, Some, Result, Ok, Err, IfSome}
use Rattle.std.specs.Prelude.{None as Absent}
use Rattle.std.specs.Global.{Vec}
use Rattle.wy_kernel.specs.declared.program.Program.{Program}
use Rattle.wy_event.specs.declared.record.Head.{Head}
use Rattle.wy_payload.specs.Ranges.{ranges_of}
use Rattle.wy_event.specs.declared.record.Tail.{Tail}
use Rattle.wy_event.specs.declared.record.Version.{Version}
use Rattle.wy_spelling.specs.Spelling.{opening}
use Rattle.wy_frames.specs.declared.error.TraceError.{TraceError}
use Rattle.wy_frames.specs.declared.error.TraceError.TheVariants.{Cut, NoMemory}
use Rattle.wy_frames.specs.declared.stage.Stage.TheVariants as stages
use Rattle.wy_frames.specs.declared.stage.ReadEvent.{ReadEvent}
use Rattle.wy_frames.specs.declared.scanner.Scanner.{Scanner}
use Rattle.wy_frames.specs.Ends.{IsUnsealed}
use Rattle.wy_frames.specs.Progress.{Progress, start}
use Rattle.wy_frames.specs.Holds.{Holds}
use Rattle.wy_frames.specs.Scan.{Waits, turn, Leaves, Refused}

-- what was read of the program is what it says
abbrev pub KnowsRanges : Scanner → Type 0
KnowsRanges s = IfSome s.ranges (λ r. r ≡ ranges_of s.version s.program.now)

-- of the bytes behind the head, so much stands, and no frame more is whole
pub record Scans (s : Scanner) (v : Version) (p : Program) (head : Head) (fed : List ℕ) (t : Progress) : Type 0 where
  pub version : s.version ≡ v
  pub program : s.program.now ≡ p
  pub steps : s.steps ≡ head.steps
  pub knows : KnowsRanges s
  pub sound : s.failure ≡ Absent
  pub holds : Holds s.past t
  pub leaves : Leaves (ranges_of v p) head.steps (start v head) fed t s.rest.items
  pub waits : turn (ranges_of v p) head.steps t s.rest.items ≡ Waits

-- what was refused stays so
pub record Stays (s : Scanner) (v : Version) (p : Program) (head : Head) (fed : List ℕ) (e : TraceError) : Type 0 where
  pub failure : s.failure ≡ Some e
  pub refused : Refused (ranges_of v p) head.steps (start v head) fed e

-- with a piece more, these events more stand, or the bytes are refused
abbrev pub Scanned : Result Unit TraceError → List ReadEvent → List ReadEvent → Scanner → Version → Program → Head → List ℕ → Progress → Type 0
Scanned (Ok u) old new s v p head fed before = (t : Progress) × (more : List ReadEvent) × Scans s v p head fed t × (t.placed ≡ before.placed ++ more) × (new ≡ old ++ more)
Scanned (Err e) old new s v p head fed before = Refused (ranges_of v p) head.steps (start v head) fed e

abbrev pub Fed : Result Unit TraceError → List ReadEvent → List ReadEvent → Scanner → Version → Program → Head → List ℕ → Progress → Type 0
Fed (Ok u) old new s v p head fed before = (t : Progress) × (more : List ReadEvent) × Scans s v p head fed t × (t.placed ≡ before.placed ++ more) × (new ≡ old ++ more)
Fed (Err e) old new s v p head fed before = Stays s v p head fed e

abbrev pub Feeds : Result (Vec ReadEvent) TraceError → Scanner → Version → Program → Head → List ℕ → Progress → Type 0
Feeds (Ok placed) s v p head fed before = (t : Progress) × Scans s v p head fed t × (t.placed ≡ before.placed ++ placed.items)
Feeds (Err e) s v p head fed before = Stays s v p head fed e

-- the frames end with the seal, and else the bytes are cut
abbrev pub Finishes : Result (Tail × List ℕ) TraceError → Version → Head → List ℕ → Progress → Type 0
Finishes (Ok x) v head fed t = t.stage ≡ stages.Sealed x.0 x.1
Finishes (Err (Cut byte)) v head fed t = (byte ≡ length (opening v head ++ fed)) × IsUnsealed t.stage
Finishes (Err NoMemory) v head fed t = Unit {0}
Finishes (Err e) v head fed t = ⊥
