-- What a call leaves in the mirrors of its recorder, whatever it answers, and when it starts and finishes it.
use Rattle.std.specs.Prelude.{◌≡◌, ◌⊎◌, ℕ, List, Option, Some}
use Rattle.wy_kernel.specs.declared.program.Program.{Program}
use Rattle.wy_kernel.specs.Parts.{program_of}
use Rattle.wy_event.specs.declared.record.Trace.{Trace}
use Rattle.wy_outside.specs.Shelf.{Files}
use Rattle.wy_record.specs.declared.recorder.Phase.{Phase}
use Rattle.wy_record.specs.declared.recorder.Phase.TheVariants.{Done, Ready}
use Rattle.wy_record.specs.Recorders.{Mirrors}
use Rattle.wy_words.specs.Words.{Asked, Asks, Command, Migrate, Record}
use Rattle.wy_reply.specs.Migrations.{HoldPartAnew}
use Rattle.wy_reply.specs.Recordings.{HoldByPhase, HoldPrefix, Spelling}
use Rattle.wy_top.specs.Answers.{AsksToMigrate}
use Rattle.wy_top.specs.Call.{IsOpened, Rewritten, Traced}
use Rattle.wy_kernel.specs.Limits.{source_limit}
use Rattle.wy_top.specs.Held.{Holds, IsInput}
use Rattle.wy_program.specs.Programs.{IsProgramOf}

-- the recorder was not started, or is done
abbrev pub IsSettled : Phase → Type 0
IsSettled phase = (phase ≡ Ready) ⊎ (phase ≡ Done)

-- the run that was asked for is traced so far: each mirror that tells its bytes holds a prefix of the trace of the source's program
pub record TracedSoFar (s : Spelling) (files : Files) (a : Asked) (old new : Mirrors) : Type 0 where
  pub source : List ℕ
  pub holds : Holds files a.source source_limit source
  pub input : List ℕ
  pub is_input : IsInput files a.input input
  pub program : Program
  pub is_program : IsProgramOf source program
  pub held : HoldPrefix s (program_of program) source input a.steps old new

-- the mirrors are as they were where the recorder was not started, the run is traced where it is done, and so far where it is neither
abbrev pub LeftFor : Spelling → Files → Asked → Phase → Mirrors → Mirrors → Type 0
LeftFor s files a Ready old new = new ≡ old
LeftFor s files a Done old new = Traced s files a old new
LeftFor s files a _ old new = TracedSoFar s files a old new

-- the trace of a name is written anew so far: each mirror that tells its bytes holds a prefix of the trace that the file is read as
pub record RewrittenSoFar (s : Spelling) (files : Files) (name : List ℕ) (old new : Mirrors) : Type 0 where
  pub program : Program
  pub trace : Trace
  pub opened : IsOpened files name program trace
  pub held : HoldPartAnew s trace old new

-- the mirrors are as they were where the recorder was not started, the trace is written anew where it is done, and so far where it is neither
abbrev pub LeftAnew : Spelling → Files → List ℕ → Phase → Mirrors → Mirrors → Type 0
LeftAnew s files name Ready old new = new ≡ old
LeftAnew s files name Done old new = Rewritten s files name old new
LeftAnew s files name _ old new = RewrittenSoFar s files name old new

-- so for the run that a command records, and for the trace that it migrates
abbrev pub LeftBy : Spelling → Files → Command → Phase → Mirrors → Mirrors → Type 0
LeftBy s files (Record a trace) phase old new = LeftFor s files a phase old new
LeftBy s files (Migrate trace name) phase old new = LeftAnew s files trace phase old new
LeftBy s files _ phase old new = Unit {0}

-- so for what the words ask
abbrev pub Leaves : Spelling → List (List ℕ) → Option Files → Phase → Mirrors → Mirrors → Type 0
Leaves s words held phase old new = (c : Command) (files : Files) → Asks words c → held ≡ Some files → LeftBy s files c phase old new

-- so for a source
abbrev pub LeavesSource : Spelling → List ℕ → List ℕ → ℕ → Phase → Mirrors → Mirrors → Type 0
LeavesSource s source input steps Ready old new = new ≡ old
LeavesSource s source input steps phase old new = (p : Program) × IsProgramOf source p × HoldByPhase s (program_of p) source input steps phase old new

-- so for some source, whatever the shelf tells
abbrev pub LeavesSome : Spelling → Phase → Mirrors → Mirrors → Type 0
LeavesSome s phase old new = (source : List ℕ) × (input : List ℕ) × (steps : ℕ) × LeavesSource s source input steps phase old new

-- so for the trace of some file
abbrev pub LeavesAnew : Spelling → Phase → Mirrors → Mirrors → Type 0
LeavesAnew s phase old new = (files : Files) × (name : List ℕ) × LeftAnew s files name phase old new

-- so for some source, or, where the words ask to migrate, for the trace of some file
abbrev pub LeavesAny : Spelling → List (List ℕ) → Phase → Mirrors → Mirrors → Type 0
LeavesAny s words phase old new = LeavesSome s phase old new ⊎ (AsksToMigrate words × LeavesAnew s phase old new)

-- ---- whether the recorder was started

-- at this status it was not: the words are no command, a file is lacking or has too many bytes, the source is no program, or the trace is none
abbrev pub StartsNone : ℕ → Type 0
StartsNone status = (status ≡ 2) ⊎ (status ≡ 3) ⊎ (status ≡ 4) ⊎ (status ≡ 5) ⊎ (status ≡ 8)

-- it is done where the files that the run names are there and the source is a program
abbrev pub FinishesRun : Asked → Option Files → Phase → Type 0
FinishesRun a held phase =
    (files : Files) (source input : List ℕ) (p : Program) → held ≡ Some files → Holds files a.source source_limit source → IsInput files a.input input → IsProgramOf source p → phase ≡ Done

-- it is done where the file of a name is the trace of a program
abbrev pub FinishesTrace : List ℕ → Option Files → Phase → Type 0
FinishesTrace name held phase = (files : Files) (p : Program) (t : Trace) → held ≡ Some files → IsOpened files name p t → phase ≡ Done

-- so for the run that a command records, and for the trace that it migrates
abbrev pub Finishes : Command → Option Files → Phase → Type 0
Finishes (Record a trace) held phase = FinishesRun a held phase
Finishes (Migrate trace name) held phase = FinishesTrace trace held phase
Finishes _ held phase = Unit {0}

-- so for what the words ask
abbrev pub FinishesProgram : List (List ℕ) → Option Files → Phase → Type 0
FinishesProgram words held phase = (c : Command) → Asks words c → Finishes c held phase
