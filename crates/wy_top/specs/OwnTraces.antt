-- The trace of a run of the program of a text is short enough, tells its events, is read, and is not refused; and what it tells of the
-- run's output is what the run wrote.
use Rattle.std.specs.Prelude.{◌≡◌, ◌≤◌, ℕ, List, length, map, Ok, Err}
use Rattle.std.specs.List.{AllByRecursion}
use Rattle.wy_kernel.specs.declared.program.Program.{Program}
use Rattle.wy_kernel.specs.Parts.{program_of}
use Rattle.wy_event.specs.Record.{recorded}
use Rattle.wy_event.specs.declared.record.Trace.{Trace}
use Rattle.wy_event.specs.declared.record.Version.{Version}
use Rattle.wy_steps.specs.Sets.{nothing}
use Rattle.wy_meaning.specs.Run.{events, tail}
use Rattle.wy_meaning.specs.Kept.{kept_tail}
use Rattle.wy_kernel.specs.Limits.{steps_limit}
use Rattle.wy_frames.specs.declared.error.TraceError.{TraceError}
use Rattle.wy_frames.specs.declared.error.TraceError.TheVariants.{NoMemory}
use Rattle.wy_frames.specs.Traces.{IsReadAs, ReadsAs}
use Rattle.law_in_range.specs.InRange.{IsByteOf}
use Rattle.law_reading.specs.Spelled.{AreBytes}
use Rattle.wy_fitting.specs.Fits.{AllTold}
use Rattle.wy_reply.specs.Recordings.{IsTraceOf, trace_spelling}
use Rattle.wy_reply.specs.Report.{report}
use Rattle.wy_telling.specs.Output.{output_text}
use Rattle.wy_kernel.specs.Limits.{input_limit, source_limit, trace_limit}
use Rattle.wy_program.specs.Programs.{IsProgramOf}

-- the bytes are the trace of the run of a text's program with this input and so many steps, each within its limit
pub record IsRecorded (v : Version) (source input : List ℕ) (steps : ℕ) (p : Program) (bytes : List ℕ) : Type 0 where
  pub is_program : IsProgramOf source p
  pub source_within : length source ≤ source_limit
  pub input_within : length input ≤ input_limit
  pub input_bytes : AllByRecursion IsByteOf input
  pub some_steps : 1 ≤ steps
  pub steps_within : steps ≤ steps_limit
  pub is_trace : IsTraceOf (trace_spelling v) (program_of p) source input steps bytes

-- the bytes of the trace of a run tell all its events, in either version
abbrev pub RecordedTracesTellEvents : Type 0
RecordedTracesTellEvents = (v : Version) (source input : List ℕ) (steps : ℕ) (p : Program) (bytes : List ℕ) → length source ≤ source_limit → IsProgramOf source p → AreBytes bytes → IsTraceOf (trace_spelling v) (program_of p) source input steps bytes
    → AllTold v (events nothing (program_of p) input steps)

-- the bytes are read as a trace: with the head, the events and the end of the run
pub record IsReadAsRun (source input : List ℕ) (steps : ℕ) (p : Program) (bytes : List ℕ) : Type 0 where
  pub trace : Trace
  pub read : IsReadAs p bytes (Ok trace)
  pub steps_are : trace.head.steps ≡ steps
  pub input_is : trace.head.input ≡ input
  pub source_is : trace.head.source ≡ source
  pub events_are : map recorded trace.events ≡ events nothing (program_of p) input steps
  pub end_is : kept_tail trace.tail ≡ tail nothing (program_of p) input steps

-- they are within the limit of a trace, so no command says that they are too long
abbrev pub RecordedTracesAreShort : Type 0
RecordedTracesAreShort = (v : Version) (source input : List ℕ) (steps : ℕ) (p : Program) (bytes : List ℕ) → IsRecorded v source input steps p bytes → length bytes ≤ trace_limit

abbrev pub RecordedTracesAreRead : Type 0
RecordedTracesAreRead = (v : Version) (source input : List ℕ) (steps : ℕ) (p : Program) (bytes : List ℕ) → IsRecorded v source input steps p bytes → IsReadAsRun source input steps p bytes

-- a reader that answers no trace says that memory ran out
abbrev pub RecordedTracesAreNotRefused : Type 0
RecordedTracesAreNotRefused = (v : Version) (source input : List ℕ) (steps : ℕ) (p : Program) (bytes : List ℕ) → IsRecorded v source input steps p bytes → (e : TraceError) → ReadsAs (Err e) p bytes → e ≡ NoMemory

-- what `output` writes of the trace as which they are read is what `run` writes of the source, with the input and so many steps
abbrev pub RecordedOutputsAreReports : Type 0
RecordedOutputsAreReports =
    (v : Version) (source input : List ℕ) (steps : ℕ) (p : Program) (bytes : List ℕ) → IsRecorded v source input steps p bytes
    → (t : Trace) → IsReadAs p bytes (Ok t) → output_text (program_of p) p.lines.items (map recorded t.events) t.tail ≡ report (program_of p) p.lines.items input steps
