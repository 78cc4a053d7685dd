-- What a trace that is written anew leaves in the mirrors of its recorder.
use Rattle.std.specs.Prelude.{◌≡◌, ◌<◌, ◌⊎◌, ℕ, List, ◌++◌, length, map, option_map}
use Rattle.std.specs.List.{concat}
use Rattle.wy_event.specs.Record.{recorded}
use Rattle.wy_event.specs.declared.record.Trace.{Trace}
use Rattle.wy_fitting.specs.Fits.{AllFit, EndFits}
use Rattle.wy_record.specs.declared.recorder.Phase.{Phase}
use Rattle.wy_record.specs.declared.recorder.Phase.TheVariants.{Done as Finished, Ready}
use Rattle.wy_record.specs.Recorders.{Mirrors}
use Rattle.wy_machine.specs.Traces.{BeginTrace}
use Rattle.wy_reply.specs.declared.answer.Answer.{Answer}
use Rattle.wy_reply.specs.declared.status.Status.TheVariants.{Done, Fault}
use Rattle.wy_reply.specs.Lines.{migrated_line, recorder_fault_line}
use Rattle.wy_reply.specs.Recordings.{Spelling}

-- the head of a trace and its records in order, as they are spelled so
abbrev pub front_of : Spelling → Trace → List ℕ
front_of s t = s.opening t.head ++ concat (map s.frame (map recorded t.events))

-- the bytes of a trace, as it is spelled so: these, and what closes them by its end
abbrev pub bytes_of : Spelling → Trace → List ℕ
bytes_of s t = front_of s t ++ s.closing t.tail (front_of s t)

-- each mirror that tells its bytes holds those of the trace, each number of which fits the bytes that it is spelled in
pub record HoldAnew (s : Spelling) (t : Trace) (old new : Mirrors) : Type 0 where
  pub events_fit : AllFit (map recorded t.events)
  pub end_fits : EndFits t.tail
  pub held : new ≡ map (option_map (λ before. bytes_of s t)) old

-- each mirror that tells its bytes holds a prefix of them
abbrev pub HoldPartAnew : Spelling → Trace → Mirrors → Mirrors → Type 0
HoldPartAnew s t old new = BeginTrace s.closing (λ end. end ≡ t.tail) (front_of s t) old new

-- what they held where the recorder was not started, the trace where it is done, and else a prefix of it
abbrev pub HoldAnewByPhase : Spelling → Trace → Phase → Mirrors → Mirrors → Type 0
HoldAnewByPhase s t Ready old new = new ≡ old
HoldAnewByPhase s t Finished old new = HoldAnew s t old new
HoldAnewByPhase s t _ old new = HoldPartAnew s t old new

-- the trace is written anew, and its events are counted, or the recorder failed and its count of faults rose
abbrev pub MigratesAs : Spelling → Trace → Mirrors → Mirrors → ℕ → ℕ → Answer → Type 0
MigratesAs s t old new before after answer =
    ((answer.status ≡ Fault) × (answer.text.items ≡ recorder_fault_line) × (before < after))
    ⊎ ((answer.status ≡ Done) × (answer.text.items ≡ migrated_line (length (map recorded t.events)))
    × HoldAnew s t old new × (after ≡ before))
