-- The trace of a run in the mirrors of a recorder.
use Rattle.std.specs.Prelude.{◌≡◌, ℕ, List, ◌++◌, ◌⊎◌, map, option_map}
use Rattle.wy_event.specs.declared.record.Tail.{Tail}
use Rattle.wy_record.specs.declared.recorder.Phase.{Phase}
use Rattle.wy_record.specs.declared.recorder.Phase.TheVariants.{Failed, Recording}
use Rattle.wy_record.specs.declared.recorder.RecordError.{RecordError}
use Rattle.wy_record.specs.declared.recorder.RecordError.TheVariants.{NoMemory}
use Rattle.wy_record.specs.Recorders.{HavePrefix, Mirrors, opened}

-- each mirror that tells its bytes has these, and what closes them
abbrev pub closed : (List ℕ → List ℕ) → List ℕ → Mirrors → Mirrors
closed closing bytes mirrors = map (option_map (λ _. bytes ++ closing bytes)) mirrors

-- each mirror that tells its bytes has a prefix of these, or of these and what closes them by such an end
abbrev pub BeginTrace : (Tail → List ℕ → List ℕ) → (Tail → Type 0) → List ℕ → Mirrors → Mirrors → Type 0
BeginTrace closing IsEnd bytes old new = HavePrefix bytes (opened old) new ⊎ ((end : Tail) × IsEnd end × HavePrefix (bytes ++ closing end bytes) (opened old) new)

-- the recorder refused a call, or memory was wanting for the run and it goes on recording
abbrev pub IsLeft : RecordError → Phase → Type 0
IsLeft e phase = (phase ≡ Failed) ⊎ ((e ≡ NoMemory) × (phase ≡ Recording))
