-- What bytes are read as keeps the rules of a reader; so its bytes of version 2 are read as it too.
use Rattle.std.specs.Prelude.{◌≡◌, ◌≤◌, ℕ, List, length, map, Ok}
use Rattle.wy_kernel.specs.declared.program.Program.{Program}
use Rattle.wy_kernel.specs.Limits.{trace_limit}
use Rattle.wy_event.specs.declared.record.Trace.{Trace}
use Rattle.wy_event.specs.declared.record.Version.TheVariants as version
use Rattle.wy_event.specs.Record.{recorded}
use Rattle.wy_fitting.specs.Fits.{AllFit, EndFits}
use Rattle.wy_spelling.specs.Spelling.{run_bytes}
use Rattle.wy_frames.specs.Heads.{version_of}
use Rattle.wy_frames.specs.Traces.{IsReadAs}
use Rattle.law_reading.specs.Readable.{IsReadable}
use Rattle.law_reading.specs.Spelled.{AreBytes}

-- of a trace that is read, whose numbers fit in memory
abbrev pub OfReadTraces : (Program → List ℕ → Trace → Type 0) → Type 0
OfReadTraces Q = (p : Program) (bytes : List ℕ) (x : Trace) → AllFit (map recorded x.events) → EndFits x.tail → IsReadAs p bytes (Ok x) → Q p bytes x

-- its head, events and end keep the rules of the version that the bytes begin with
abbrev pub ReadTracesKeepRules : Type 0
ReadTracesKeepRules = OfReadTraces (λ p bytes x. IsReadable (version_of bytes) p x.head (map recorded x.events) x.tail)

-- bytes are read as a trace with the head, the records and the end of another
pub record IsReadSo (p : Program) (bytes : List ℕ) (x : Trace) : Type 0 where
  pub trace : Trace
  pub read : IsReadAs p bytes (Ok trace)
  pub head_is : trace.head ≡ x.head
  pub events_are : map recorded trace.events ≡ map recorded x.events
  pub tail_is : trace.tail ≡ x.tail

-- its bytes of version 2, within the limit of a trace, are read as it is
abbrev pub MigratedTracesAreRead : Type 0
MigratedTracesAreRead = OfReadTraces (λ p bytes x. AreBytes bytes → length bytes ≤ trace_limit
    → (migrated : List ℕ) → length migrated ≤ trace_limit → migrated ≡ run_bytes version.Two x.head (map recorded x.events) x.tail → IsReadSo p migrated x)
