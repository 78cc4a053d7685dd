-- What bytes are read as, or refused for, is one answer.
use Rattle.std.specs.Prelude.{◌≡◌, ℕ, List, Result, Err}
use Rattle.wy_kernel.specs.declared.program.Program.{Program}
use Rattle.wy_event.specs.declared.record.Trace.{Trace}
use Rattle.wy_frames.specs.declared.error.TraceError.{TraceError}
use Rattle.wy_frames.specs.declared.error.TraceError.TheVariants.{NoMemory}
use Rattle.wy_frames.specs.Traces.{IsReadAs}

-- want of memory says nothing of the bytes
abbrev pub SaysOfBytes : Result Trace TraceError → Type 0
SaysOfBytes (Err NoMemory) = ⊥
SaysOfBytes _ = Unit {0}

abbrev pub ReadsInOneWay : Type 0
ReadsInOneWay = (p : Program) (bytes : List ℕ) (a b : Result Trace TraceError) → SaysOfBytes a → SaysOfBytes b → IsReadAs p bytes a → IsReadAs p bytes b → a ≡ b
