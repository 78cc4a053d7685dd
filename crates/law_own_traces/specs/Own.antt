-- The trace of a run is its own: its events and its end are those of the run.
use Rattle.std.specs.Prelude.{◌≡◌, ◌==◌, ◌≤◌, ℕ, List, length, Err}
use Rattle.std.specs.List.{AllByRecursion, list_any}
use Rattle.wy_kernel.specs.declared.program.Program.{Program}
use Rattle.wy_kernel.specs.Parts.{program_of}
use Rattle.wy_kernel.specs.Statements.{statements_of}
use Rattle.wy_event.specs.declared.record.Head.{Head}
use Rattle.wy_event.specs.declared.record.Tail.{Tail}
use Rattle.wy_event.specs.declared.record.Version.{Version}
use Rattle.wy_event.specs.Record.{Recorded}
use Rattle.wy_steps.specs.Sets.{nothing}
use Rattle.wy_meaning.specs.Run.{events, tail}
use Rattle.wy_meaning.specs.Kept.{kept_tail}
use Rattle.wy_typing.specs.Programs.{IsProgram}
use Rattle.law_typed_states.specs.Typed.{KeepsLibrary}
use Rattle.wy_fitting.specs.Fits.{AllFit, AllTold, EndFits}
use Rattle.wy_payload.specs.Bodies.{newlines_of}
use Rattle.wy_kernel.specs.Limits.{trace_limit}
use Rattle.wy_frames.specs.declared.error.TraceError.{TraceError}
use Rattle.wy_frames.specs.declared.error.TraceError.TheVariants.{NoMemory}
use Rattle.wy_frames.specs.Traces.{ReadsAs}
use Rattle.law_reading.specs.Readable.{HeadMayStand, IsReadable}
use Rattle.wy_spelling.specs.Spelling.{run_bytes}
use Rattle.law_reading.specs.Spelled.{AreBytes}
use Rattle.law_reading.specs.WithinRules.{IsRead}
use Rattle.law_in_range.specs.InRange.{Text, FitsText, IsByteOf}
use Rattle.law_own_traces.specs.Statements.{statement_limit}

-- how many tokens its text has, and where a `println` stands in it
abbrev pub text_of : Program → Text
text_of p = record { tokens = length p.lines.items; ends_line = λ site. list_any (λ s. s == site) (newlines_of (statements_of (program_of p))) }

-- these are the records and the end of the run of the program with the input and the steps of the head, and fit in memory
pub record IsOwn (p : Program) (head : Head) (rs : List Recorded) (end : Tail) : Type 0 where
  pub head_stands : HeadMayStand head
  pub bytes : AllByRecursion IsByteOf head.input
  pub events_are : rs ≡ events nothing (program_of p) head.input head.steps
  pub end_is : kept_tail end ≡ tail nothing (program_of p) head.input head.steps
  pub fit : AllFit rs
  pub end_fits : EndFits end

-- so it keeps every rule of a reader of either version
abbrev pub OwnTracesKeepRules : Program → Type 0
OwnTracesKeepRules p = (v : Version) (head : Head) (rs : List Recorded) (end : Tail) → IsOwn p head rs end → IsReadable v p head rs end

-- where it has no more statements than a text can have, the bytes of each run of the program in either version are within the limit of a trace
abbrev pub OwnTracesAreShort : Program → Type 0
OwnTracesAreShort p = p.statements ≤ statement_limit
    → (v : Version) (head : Head) (rs : List Recorded) (end : Tail) → IsOwn p head rs end → length (run_bytes v head rs end) ≤ trace_limit

-- what holds of the bytes of each run of the program in either version, where they are within the limit of a trace
abbrev pub OfOwnBytes : (Version → Program → Head → List Recorded → Tail → List ℕ → Type 0) → Program → Type 0
OfOwnBytes Q p = (v : Version) (head : Head) (rs : List Recorded) (end : Tail) (bytes : List ℕ) → IsOwn p head rs end → length bytes ≤ trace_limit → bytes ≡ run_bytes v head rs end → Q v p head rs end bytes

abbrev pub OwnTracesAreRead : Program → Type 0
OwnTracesAreRead = OfOwnBytes IsRead

-- an answer that is no trace says that memory ran out
abbrev pub OwnTracesAreNotRefused : Program → Type 0
OwnTracesAreNotRefused = OfOwnBytes (λ v p head rs end bytes. (e : TraceError) → ReadsAs (Err e) p bytes → e ≡ NoMemory)

-- the bytes of either version tell all events of each run
abbrev pub OwnEventsAreTold : Program → Type 0
OwnEventsAreTold p = (v : Version) (input : List ℕ) (steps : ℕ) → AllByRecursion IsByteOf input → AllTold v (events nothing (program_of p) input steps)

-- so they do where they are the trace of a run, whatever its input is
abbrev pub OwnBytesTellEvents : Program → Type 0
OwnBytesTellEvents p = (v : Version) (head : Head) (end : Tail) (bytes : List ℕ) → AreBytes bytes → let rs = events nothing (program_of p) head.input head.steps in bytes ≡ run_bytes v head rs end → AllTold v rs

-- it holds of each program that fits its types, keeps the library and fits its text
abbrev pub OfFittingPrograms : (Program → Type 0) → Type 0
OfFittingPrograms Q = (p : Program) → IsProgram (program_of p) → KeepsLibrary (program_of p) → FitsText (text_of p) (program_of p) → Q p
