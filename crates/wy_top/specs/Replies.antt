-- What is answered for a source, for the bytes of a trace, and for the files that words name.
use Rattle.std.specs.Prelude.{◌≡◌, ◌<◌, ◌⊎◌, ℕ, List, false, Option, Some}
use Rattle.wy_kernel.specs.declared.program.Program.{Program}
use Rattle.wy_kernel.specs.Parts.{program_of}
use Rattle.wy_outside.specs.Counts.{Rose}
use Rattle.wy_outside.specs.Shelf.{Files}
use Rattle.wy_record.specs.Recorders.{Mirrors}
use Rattle.wy_reply.specs.declared.answer.Answer.{Answer}
use Rattle.wy_reply.specs.declared.status.Status.TheVariants as status
use Rattle.wy_reply.specs.Lines.{of_trace, recorder_fault_line}
use Rattle.wy_reply.specs.Recordings.{HoldTrace, Spelling}
use Rattle.wy_reply.specs.Report.{recorded_report}
use Rattle.wy_reply.specs.Statuses.{code_of, is_of_files}
use Rattle.wy_program.specs.declared.source.SourceError.{SourceError}
use Rattle.wy_top.specs.Answers.{Counts, IsFault}
use Rattle.wy_top.specs.Causes.{IsNoProgram}
use Rattle.wy_top.specs.Due.{DueFor}
use Rattle.wy_program.specs.Sources.{IsCauseOf}
use Rattle.wy_program.specs.Programs.{IsProgramOf}

-- ---- a source

-- a refusal of each source that the error has its cause in
abbrev pub RefusesSource : SourceError → Answer → Type 0
RefusesSource error answer = (answer.status ≡ status.Program) × ((source : List ℕ) → IsCauseOf source error → IsNoProgram source answer.text.items)

-- the trace of the run of a source's program is held
abbrev pub TracesSource : Spelling → List ℕ → List ℕ → ℕ → Mirrors → Mirrors → Type 0
TracesSource s source input steps old new = (p : Program) × IsProgramOf source p × HoldTrace s (program_of p) source input steps old new

-- the recorder failed, or what is due is answered, and where that is a report, the run is traced
abbrev pub RecordsSource : Spelling → List ℕ → List ℕ → ℕ → Mirrors → Mirrors → ℕ → ℕ → Answer → Type 0
RecordsSource s source input steps old new before after answer =
    ((answer.status ≡ status.Fault) × (answer.text.items ≡ recorder_fault_line) × (before < after))
    ⊎ ((after ≡ before) × (is_of_files answer.status ≡ false)
    × DueFor source (λ p lines. recorded_report p lines input steps) (code_of answer.status) answer.text.items
    × (answer.status ≡ status.Done → TracesSource s source input steps old new))

-- ---- a trace

-- a refusal of each trace whose source the error has its cause in
abbrev pub RefusesTrace : SourceError → Answer → Type 0
RefusesTrace error answer = (answer.status ≡ status.Trace)
    × ((source : List ℕ) → IsCauseOf source error → (line : List ℕ) × IsNoProgram source line × (answer.text.items ≡ of_trace line))

-- ---- files

-- how often a shelf failed, had no such file, and had one of more bytes
pub record ShelfCounts : Type 0 where
  pub faults : ℕ
  pub misses : ℕ
  pub fulls : ℕ

abbrev pub at_shelf : ℕ → ℕ → ℕ → ShelfCounts
at_shelf faults misses fulls = record { faults = faults; misses = misses; fulls = fulls }

-- each status that speaks of a file has its cause
pub record HasCause (before after : ShelfCounts) (answer : Answer) : Type 0 where
  pub absent : answer.status ≡ status.Absent → Rose before.misses after.misses
  pub too_long : answer.status ≡ status.TooLong → Rose before.fulls after.fulls
  pub command : answer.status ≡ status.Usage → ⊥

-- one of the two failed, or, where none did, what is due by the files that the shelf tells
abbrev pub AnswersBy : (Files → ℕ → List ℕ → Type 0) → Option Files → Counts → Counts → Answer → Type 0
AnswersBy due held before after answer =
    IsFault before after answer
    ⊎ ((after ≡ before) × (answer.status ≡ status.Fault → ⊥) × ((files : Files) → held ≡ Some files → due files (code_of answer.status) answer.text.items))
