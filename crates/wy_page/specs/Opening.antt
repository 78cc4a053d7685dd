-- What the opening of a trace answers.
use Rattle.std.specs.Prelude.{◌≡◌, ℕ, ◌≤◌, List, ◌++◌, length, map, Option, Some, IfSome, Result, Ok, Err}
use Rattle.std.specs.Prelude.{None as Absent}
use Rattle.wy_kernel.specs.Limits.{trace_limit}
use Rattle.wy_kernel.specs.declared.program.Program.{Program}
use Rattle.wy_event.specs.declared.record.Head.{Head}
use Rattle.wy_event.specs.declared.record.Tail.{Tail}
use Rattle.wy_event.specs.declared.record.Trace.{Trace}
use Rattle.wy_event.specs.declared.record.Version.{Version}
use Rattle.wy_event.specs.Record.{recorded}
use Rattle.wy_spelling.specs.Spelling.{opening}
use Rattle.wy_payload.specs.Ranges.{ranges_of}
use Rattle.wy_frames.specs.declared.error.TraceError.TheVariants as trace
use Rattle.wy_frames.specs.Heads.{head_of, version_of}
use Rattle.wy_frames.specs.Progress.{start}
use Rattle.wy_frames.specs.Scan.{Refused}
use Rattle.wy_frames.specs.Traces.{IsReadAs, ReadsAs}
use Rattle.law_placing.specs.Ended.{EndsWithSeal}
use Rattle.law_reading.specs.Spelled.{AreBytes}
use Rattle.wy_outside.specs.Counts.{Rose}
use Rattle.wy_outside.specs.Shelf.{Files}
use Rattle.wy_view.specs.declared.view.ViewError.TheVariants as view
use Rattle.wy_page.specs.declared.error.PageError.{PageError}
use Rattle.wy_page.specs.declared.error.PageError.TheVariants.{View, Trace as Refusal}
use Rattle.wy_page.specs.declared.pages.Pages.{Pages}
use Rattle.wy_page.specs.Paged.{records_of}
use Rattle.wy_page.specs.Reads.{AreNext}

-- the named file, where it is told and there, begins with the magic of a version and the frame of this head, as it is spelled and read, and is short enough for a trace
pub record BeginsWith (v : Version) (head : Head) (bytes : List ℕ) : Type 0 where
  pub rest : List ℕ
  pub spelled : bytes ≡ opening v head ++ rest
  pub read : head_of bytes ≡ Ok (head, length (opening v head), v)
  pub short : length bytes ≤ trace_limit

abbrev pub MayBeOpened : Option Files → List ℕ → Version → Head → Type 0
MayBeOpened held name v head = IfSome held (λ files. (bytes : List ℕ) → files name ≡ Some bytes → BeginsWith v head bytes)

-- these are the version, the records, the end and the seal of the trace that bytes are read as
pub record IsOpened (pages : Pages) (tail : Tail) (p : Program) (bytes : List ℕ) : Type 0 where
  pub trace : Trace
  pub read : IsReadAs p bytes (Ok trace)
  pub version_is : pages.version ≡ version_of bytes
  pub tail_is : tail ≡ trace.tail
  pub records_are : records_of pages.version pages.starts pages.count bytes ≡ map recorded trace.events
  pub are_bytes : AreBytes bytes
  pub seal_is : EndsWithSeal bytes pages.seal

-- the answer of a reader of these bytes, unless the shelf failed or memory ran out
abbrev pub OpensAs : Result (Pages × Tail) PageError → Program → List ℕ → Type 0
OpensAs (Ok x) p bytes = IsOpened x.0 x.1 p bytes
OpensAs (Err (Refusal e)) p bytes = ReadsAs (Err e) p bytes
OpensAs (Err (View view.ReadFault)) p bytes = Unit {0}
OpensAs (Err (View view.NoMemory)) p bytes = Unit {0}
OpensAs (Err (View e)) p bytes = ⊥

-- of the named file, where it is told and there
abbrev pub Opens : Option Files → List ℕ → Program → Result (Pages × Tail) PageError → Type 0
Opens held name p r = IfSome held (λ files. (bytes : List ℕ) → files name ≡ Some bytes → OpensAs r p bytes)

-- ---- what is refused, and for what

-- behind the head, of a file that is told, these bytes come first, and something is wrong with them; or there is no file
abbrev pub IsUnread : Option Files → List ℕ → Version → Program → Head → PageError → Type 0
IsUnread held name v p head (Refusal trace.NoMemory) = Unit {0}
IsUnread held name v p head (Refusal e) = (fed : List ℕ) × AreNext held name (length (opening v head)) fed × Refused (ranges_of v p) head.steps (start v head) fed e
IsUnread held name v p head (View view.ReadFault) = Unit {0}
IsUnread held name v p head (View view.NoMemory) = Unit {0}
IsUnread held name v p head (View view.Gone) = IfSome held (λ files. files name ≡ Absent)
IsUnread held name v p head (View (view.Changed block kept found)) = ⊥

-- what the shelf counted: each of its refusals has its cause, only ReadFault is a fault, and only Gone a miss
abbrev pub OpenCounts : {X : Type 0} → Result X PageError → ℕ → ℕ → ℕ → ℕ → Type 0
OpenCounts (Err (View view.ReadFault)) faults now misses later = Rose faults now
OpenCounts (Err (View view.Gone)) faults now misses later = Rose misses later × (now ≡ faults)
OpenCounts (Err (View (view.Changed block kept found))) faults now misses later = ⊥
OpenCounts r faults now misses later = (now ≡ faults) × (later ≡ misses)

-- ---- a front of a file

-- a front from which the head is read says that the file begins so
abbrev pub FrontsBeginTraces : Type 0
FrontsBeginTraces = (front others : List ℕ) (head : Head) (end : ℕ) (v : Version) → AreBytes front → head_of front ≡ Ok (head, end, v) → length (front ++ others) ≤ trace_limit → BeginsWith v head (front ++ others) × (end ≡ length (opening v head))
