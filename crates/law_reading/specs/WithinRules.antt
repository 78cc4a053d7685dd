-- A trace that keeps the rules is read, and not refused.
use Rattle.std.specs.Prelude.{◌≡◌, ◌≤◌, List, ℕ, length, map, Ok, Err}
use Rattle.wy_kernel.specs.declared.program.Program.{Program}
use Rattle.wy_event.specs.declared.record.Head.{Head}
use Rattle.wy_event.specs.declared.record.Tail.{Tail}
use Rattle.wy_event.specs.declared.record.Trace.{Trace}
use Rattle.wy_event.specs.declared.record.Version.{Version}
use Rattle.wy_event.specs.Record.{Recorded, recorded}
use Rattle.wy_fitting.specs.Fits.{told}
use Rattle.wy_kernel.specs.Limits.{trace_limit}
use Rattle.wy_spelling.specs.Spelling.{run_bytes}
use Rattle.wy_frames.specs.declared.error.TraceError.{TraceError}
use Rattle.wy_frames.specs.declared.error.TraceError.TheVariants.{NoMemory}
use Rattle.wy_frames.specs.Traces.{IsReadAs, ReadsAs}
use Rattle.law_reading.specs.Readable.{IsReadable}

-- bytes are read as a trace, with this head, this end, and these events so far as bytes tell them
pub record IsRead (v : Version) (p : Program) (head : Head) (rs : List Recorded) (end : Tail) (bytes : List ℕ) : Type 0 where
  pub trace : Trace
  pub read : IsReadAs p bytes (Ok trace)
  pub head_is : trace.head ≡ head
  pub events_are : map recorded trace.events ≡ map (told v) rs
  pub tail_is : trace.tail ≡ end

-- what holds of each trace that keeps the rules, and of its bytes in either version
abbrev pub OfTracesWithinRules : (Version → Program → Head → List Recorded → Tail → List ℕ → Type 0) → Type 0
OfTracesWithinRules Q = (v : Version) (p : Program) (head : Head) (rs : List Recorded) (end : Tail) (bytes : List ℕ) → length bytes ≤ trace_limit → bytes ≡ run_bytes v head rs end → IsReadable v p head rs end → Q v p head rs end bytes

abbrev pub TracesWithinRulesAreRead : Type 0
TracesWithinRulesAreRead = OfTracesWithinRules IsRead

-- an answer that is no trace says that memory ran out
abbrev pub TracesWithinRulesAreNotRefused : Type 0
TracesWithinRulesAreNotRefused = OfTracesWithinRules (λ v p head rs end bytes. (e : TraceError) → ReadsAs (Err e) p bytes → e ≡ NoMemory)
