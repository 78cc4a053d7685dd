-- What the opening of a trace gives: the program of its head and what it records, or why there is none.
use Rattle.std.specs.Prelude.{◌≡◌, ◌⊎◌, ℕ, List, Ok, Err}
use Rattle.wy_event.specs.declared.record.Head.{Head}
use Rattle.wy_event.specs.declared.record.Version.{Version}
use Rattle.wy_kernel.specs.declared.program.Program.{Program}
use Rattle.wy_frames.specs.Heads.{head_of}
use Rattle.wy_frames.specs.Traces.{IsReadAs}
use Rattle.wy_frames.specs.declared.error.TraceError.{TraceError}
use Rattle.wy_frames.specs.declared.error.TraceError.TheVariants as fault
use Rattle.wy_program.specs.Programs.{IsProgramOf}
use Rattle.wy_program.specs.Sources.{IsCauseOf}
use Rattle.wy_program.specs.declared.opening.OpenTrace.{OpenTrace}
use Rattle.wy_program.specs.declared.opening.OpeningError.{OpeningError}
use Rattle.wy_program.specs.declared.opening.OpeningError.TheVariants.{Trace, Source}

-- ---- under a source

-- the program of a source, and the trace as which the bytes are read under it
abbrev pub OpensUnder : List ℕ → List ℕ → OpenTrace → Type 0
OpensUnder source bytes o = IsProgramOf source o.typed.program × IsReadAs o.typed.program bytes (Ok o.trace)

-- the bytes are no trace under the program of the source; memory can run out at any bytes
abbrev pub IsNoTraceUnder : List ℕ → List ℕ → TraceError → Type 0
IsNoTraceUnder source bytes fault.NoMemory = Unit {0}
IsNoTraceUnder source bytes e = (p : Program) × IsProgramOf source p × IsReadAs p bytes (Err e)

abbrev pub IsUnopenedUnder : List ℕ → List ℕ → OpeningError → Type 0
IsUnopenedUnder source bytes (Source e) = IsCauseOf source e
IsUnopenedUnder source bytes (Trace e) = IsNoTraceUnder source bytes e

-- ---- by a head

-- the bytes begin with a head, of whose source this holds
abbrev pub ByHead : List ℕ → (List ℕ → Type 0) → Type 0
ByHead bytes holds = (head : Head) × (end : ℕ) × (v : Version) × (head_of bytes ≡ Ok (head, end, v)) × holds head.source

abbrev pub Opens : List ℕ → OpenTrace → Type 0
Opens bytes o = ByHead bytes (λ source. OpensUnder source bytes o)

-- the bytes have no head, or are no trace under the program of its source
abbrev pub IsNoTrace : List ℕ → TraceError → Type 0
IsNoTrace bytes fault.NoMemory = Unit {0}
IsNoTrace bytes e = (head_of bytes ≡ Err e) ⊎ ByHead bytes (λ source. IsNoTraceUnder source bytes e)

-- why bytes can't be opened
abbrev pub IsUnopenedFor : List ℕ → OpeningError → Type 0
IsUnopenedFor bytes (Source e) = ByHead bytes (λ source. IsCauseOf source e)
IsUnopenedFor bytes (Trace e) = IsNoTrace bytes e
