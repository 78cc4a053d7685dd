-- What a recording leaves in the mirrors of its recorder.
use Rattle.std.specs.Prelude.{◌≡◌, ◌<◌, ◌^◌, ◌⊎◌, ℕ, List, ◌++◌, map, option_map}
use Rattle.std.specs.List.{concat}
use Rattle.wy_kernel.specs.Program.{Program}
use Rattle.wy_kernel.specs.declared.program.Program as memory
use Rattle.wy_kernel.specs.Parts.{program_of}
use Rattle.wy_event.specs.Record.{Recorded}
use Rattle.wy_event.specs.declared.record.Head.{Head}
use Rattle.wy_event.specs.declared.record.Tail.{Tail}
use Rattle.wy_event.specs.declared.record.Version.{Version}
use Rattle.wy_fitting.specs.Fits.{AllFit, EndFits}
use Rattle.wy_spelling.specs.Spelling as bytes_of
use Rattle.wy_steps.specs.Sets.{nothing}
use Rattle.wy_meaning.specs.Run as meaning
use Rattle.wy_meaning.specs.Kept.{kept_tail}
use Rattle.wy_record.specs.declared.recorder.Phase.{Phase}
use Rattle.wy_record.specs.declared.recorder.Phase.TheVariants.{Done as Finished, Ready}
use Rattle.wy_record.specs.Recorders.{Mirrors}
use Rattle.wy_machine.specs.Ended.{IsTailOf}
use Rattle.wy_machine.specs.Traces.{BeginTrace}
use Rattle.wy_reply.specs.declared.answer.Answer.{Answer}
use Rattle.wy_reply.specs.declared.status.Status.TheVariants.{Done, Fault}
use Rattle.wy_reply.specs.Lines.{recorder_fault_line}
use Rattle.wy_reply.specs.Report.{recorded_report}

-- how a trace is spelled: its opening, an event, and what closes the bytes before it
pub record Spelling : Type 0 where
  pub opening : Head → List ℕ
  pub frame : Recorded → List ℕ
  pub closing : Tail → List ℕ → List ℕ

abbrev pub spelling : (Head → List ℕ) → (Recorded → List ℕ) → (Tail → List ℕ → List ℕ) → Spelling
spelling opening frame closing = record { opening = opening; frame = frame; closing = closing }

-- the spelling of a trace in bytes, in a version
abbrev pub trace_spelling : Version → Spelling
trace_spelling v = spelling (bytes_of.opening v) (bytes_of.event_frame v) bytes_of.closing

-- these bytes are the trace of the run of a program, as it is spelled so: the run's head, its events in order, and its end; each number of them fits the bytes that it is spelled in
pub record IsTraceOf (s : Spelling) (p : Program) (source input : List ℕ) (steps : ℕ) (bytes : List ℕ) : Type 0 where
  pub head : Head
  pub steps_are : head.steps ≡ steps
  pub input_is : head.input ≡ input
  pub source_is : head.source ≡ source
  pub end : Tail
  pub end_is : kept_tail end ≡ meaning.tail nothing p input steps
  pub steps_fit : steps < 2 ^ 32
  pub events_fit : AllFit (meaning.events nothing p input steps)
  pub end_fits : EndFits end
  pub spelled : bytes ≡ (let front = s.opening head ++ concat (map s.frame (meaning.events nothing p input steps)) in front ++ s.closing end front)

-- each mirror that tells its bytes holds the trace
pub record HoldTrace (s : Spelling) (p : Program) (source input : List ℕ) (steps : ℕ) (old new : Mirrors) : Type 0 where
  pub bytes : List ℕ
  pub is_trace : IsTraceOf s p source input steps bytes
  pub held : new ≡ map (option_map (λ before. bytes)) old

-- each mirror that tells its bytes holds a prefix of the trace: of the run's head and its events in order, or of these and what closes them by the run's end
pub record HoldPrefix (s : Spelling) (p : Program) (source input : List ℕ) (steps : ℕ) (old new : Mirrors) : Type 0 where
  pub head : Head
  pub steps_are : head.steps ≡ steps
  pub input_is : head.input ≡ input
  pub source_is : head.source ≡ source
  pub begun : BeginTrace s.closing (IsTailOf p input steps) (s.opening head ++ concat (map s.frame (meaning.events nothing p input steps))) old new

-- what they held where the recorder was not started, the trace where it is done, and else a prefix of it
abbrev pub HoldByPhase : Spelling → Program → List ℕ → List ℕ → ℕ → Phase → Mirrors → Mirrors → Type 0
HoldByPhase s p source input steps Ready old new = new ≡ old
HoldByPhase s p source input steps Finished old new = HoldTrace s p source input steps old new
HoldByPhase s p source input steps _ old new = HoldPrefix s p source input steps old new

-- the run of a head is recorded and reported, or the recorder failed and its count of faults rose
abbrev pub RecordsAs : Spelling → memory.Program → Head → Mirrors → Mirrors → ℕ → ℕ → Answer → Type 0
RecordsAs s p head old new before after answer =
    ((answer.status ≡ Fault) × (answer.text.items ≡ recorder_fault_line) × (before < after))
    ⊎ ((answer.status ≡ Done) × (answer.text.items ≡ recorded_report (program_of p) p.lines.items head.input head.steps)
    × HoldTrace s (program_of p) head.source head.input head.steps old new × (after ≡ before))
