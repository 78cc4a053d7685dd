-- What is answered over the bytes of a run's trace, by the run itself.
use Rattle.std.specs.Prelude.{◌≡◌, ℕ, List, Ok}
use Rattle.wy_kernel.specs.Program.{Program}
use Rattle.wy_kernel.specs.declared.program.Program as memory
use Rattle.wy_kernel.specs.Parts.{program_of}
use Rattle.wy_event.specs.declared.record.Head.{Head}
use Rattle.wy_event.specs.declared.record.Trace.{Trace}
use Rattle.wy_event.specs.declared.record.Version.{Version}
use Rattle.wy_event.specs.declared.record.Version.TheVariants as version
use Rattle.wy_event.specs.Record.{Recorded}
use Rattle.wy_fitting.specs.Fits.{AllTold, EndFits}
use Rattle.wy_steps.specs.Sets.{nothing}
use Rattle.wy_meaning.specs.Run.{events}
use Rattle.wy_frames.specs.Heads.{head_of}
use Rattle.wy_reply.specs.Blocked.{BlockedAnswer}
use Rattle.wy_reply.specs.Carried.{AffectedAnswer, CarriedAnswer}
use Rattle.wy_reply.specs.Opening.{IsDecoded}
use Rattle.wy_reply.specs.Recordings.{IsTraceOf, trace_spelling}
use Rattle.wy_reply.specs.Tellings.{Tells, Wanted, Why, Affects, WhyNot}

-- a why tells what the run carried, an affects to what it carried the event, and a whynot what it reached and did not cross
abbrev pub AnswersByRun : Program → List ℕ → List ℕ → ℕ → Wanted → List ℕ → Type 0
AnswersByRun p lines input steps (Why asks) text = CarriedAnswer p lines input steps asks text
AnswersByRun p lines input steps (Affects asks) text = AffectedAnswer p lines input steps asks text
AnswersByRun p lines input steps (WhyNot word) text = BlockedAnswer p lines input steps word text
AnswersByRun p lines input steps _ text = Unit {0}

-- a version tells all of these events: version 2 those of each run, and version 1 where no test has more than two arms
abbrev pub CanTell : Version → List Recorded → Type 0
CanTell version.One rs = AllTold version.One rs
CanTell version.Two rs = Unit {0}

-- so it is where the bytes are the trace of a run of the program, in a version that tells its events
abbrev pub TellsRun : memory.Program → List ℕ → Wanted → List ℕ → Type 0
TellsRun p bytes w text = (v : Version) (source input : List ℕ) (steps : ℕ) → CanTell v (events nothing (program_of p) input steps)
    → IsTraceOf (trace_spelling v) (program_of p) source input steps bytes → AnswersByRun (program_of p) p.lines.items input steps w text

-- the head that the bytes of a run's trace are read to begin with has the source of the run
abbrev pub HasSource : List ℕ → Type 0
HasSource bytes = (v : Version) (p : Program) (source input : List ℕ) (steps : ℕ) → IsTraceOf (trace_spelling v) p source input steps bytes
    → (head : Head) (end : ℕ) (u : Version) → head_of bytes ≡ Ok (head, end, u) → head.source ≡ source

-- what a trace tells that bytes are read as is so by each run whose trace they are, and their head has its source
abbrev pub TellingsAreByRuns : Type 0
TellingsAreByRuns = (p : memory.Program) (bytes : List ℕ) (t : Trace) → IsDecoded p bytes t → EndFits t.tail
    → HasSource bytes × ((seal : List ℕ) (w : Wanted) (text : List ℕ) → Tells p seal t w 0 text → TellsRun p bytes w text)
