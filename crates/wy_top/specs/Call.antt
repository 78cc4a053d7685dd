-- What a call promises of the bytes that it writes, and of the trace that it records.
use Rattle.std.specs.Prelude.{◌≡◌, ◌≢◌, ◌⊎◌, ℕ, List, [], ◌++◌, Option, Some, None, Ok}
use Rattle.wy_kernel.specs.declared.program.Program.{Program}
use Rattle.wy_kernel.specs.Parts.{program_of}
use Rattle.wy_event.specs.declared.record.Head.{Head}
use Rattle.wy_event.specs.declared.record.Trace.{Trace}
use Rattle.wy_event.specs.declared.record.Version.{Version}
use Rattle.wy_frames.specs.Heads.{head_of}
use Rattle.wy_frames.specs.Traces.{IsReadAs}
use Rattle.wy_outside.specs.Counts.{Rose}
use Rattle.wy_outside.specs.Shelf.{Files}
use Rattle.wy_outside.specs.Sink.{appended}
use Rattle.wy_record.specs.Recorders.{Mirrors}
use Rattle.wy_session.specs.Desk.{scene_of}
use Rattle.wy_session.specs.Talk.{BeginsTalk, IsPrefixOf, IsReadOut}
use Rattle.wy_session.specs.Closings.{keys_fault_line}
use Rattle.wy_words.specs.Words.{Asked, Asks, Command, Explore, Migrate, Record, Why, Affects, WhyNot}
use Rattle.wy_reply.specs.Carried.{AffectedAnswer, CarriedAnswer}
use Rattle.wy_reply.specs.Lines.{shelf_fault_line}
use Rattle.wy_reply.specs.Refused.{IsRefused}
use Rattle.wy_reply.specs.Statuses.{code_of}
use Rattle.wy_reply.specs.declared.status.Status.{Status}
use Rattle.wy_reply.specs.Migrations.{HoldAnew}
use Rattle.wy_reply.specs.Recordings.{HoldTrace, IsTraceOf, Spelling, trace_spelling}
use Rattle.wy_reply.specs.Tellings.{Wanted, covers_of}
use Rattle.wy_reply.specs.Tellings as wanted
use Rattle.wy_top.specs.Cuts.{CutAnswer}
use Rattle.wy_top.specs.Due.{Due}
use Rattle.wy_top.specs.Answers.{AsksToExplore, Counts, IsFaultLine, Knows, counts}
use Rattle.wy_kernel.specs.Limits.{source_limit, trace_limit}
use Rattle.wy_top.specs.Held.{Holds, IsInput}
use Rattle.wy_program.specs.Programs.{IsProgramOf}

-- all of a text that is due with this status was written
abbrev pub WritesDue : List (List ℕ) → Option Files → Option (List ℕ) → ℕ → Option (List ℕ) → Option (List ℕ) → Type 0
WritesDue words held keys status before after = (text : List ℕ) × Due words held keys status text × (after ≡ appended before text)

-- the file of a name is the trace of a program, and is read as this
pub record IsOpened (files : Files) (name : List ℕ) (p : Program) (t : Trace) : Type 0 where
  pub bytes : List ℕ
  pub holds : Holds files name trace_limit bytes
  pub head : Head
  pub end : ℕ
  pub version : Version
  pub is_head : head_of bytes ≡ Ok (head, end, version)
  pub is_program : IsProgramOf head.source p
  pub is_read : IsReadAs p bytes (Ok t)

-- a text that is due begins with this part, or what a session answers to its first lines does
pub data BeginsDue (words : List (List ℕ)) (held : Option Files) (keys : Option (List ℕ)) (part : List ℕ) : Type 0 where
  whole : (status : ℕ) (text : List ℕ) → Due words held keys status text → IsPrefixOf part text → BeginsDue words held keys part
  session : (trace : List ℕ) (files : Files) (input : List ℕ) (p : Program) (t : Trace) → Asks words (Explore trace) → held ≡ Some files → keys ≡ Some input →
      IsOpened files trace p t → BeginsTalk (scene_of p t.events (covers_of t)) input part → BeginsDue words held keys part

-- how often the shelf, the recorder and the keys failed
pub record Failures : Type 0 where
  pub outside : Counts
  pub keys : ℕ

abbrev pub failures : ℕ → ℕ → ℕ → Failures
failures shelf recorder keys = record { outside = counts shelf recorder; keys = keys }

-- the line of a fault, behind what was written before it: nothing, but what a session answered where its keys or its shelf failed
pub data IsFaultBehind (words : List (List ℕ)) (held : Option Files) (keys : Option (List ℕ)) (before after : Failures) : List ℕ → List ℕ → Type 0 where
  alone : (line : List ℕ) → IsFaultLine before.outside after.outside line → IsFaultBehind words held keys before after [] line
  of_keys : (said : List ℕ) → AsksToExplore words → Rose before.keys after.keys → (Knows words held keys → BeginsDue words held keys said)
      → IsFaultBehind words held keys before after said keys_fault_line
  of_shelf : (said : List ℕ) → AsksToExplore words → Rose before.outside.shelf after.outside.shelf → (Knows words held keys → BeginsDue words held keys said)
      → IsFaultBehind words held keys before after said shelf_fault_line

-- the line of a fault was written last
abbrev pub WritesFaultLine : List (List ℕ) → Option Files → Option (List ℕ) → Failures → Failures → Option (List ℕ) → Option (List ℕ) → Type 0
WritesFaultLine words held keys faults_before faults_after before after =
    (said : List ℕ) × (line : List ℕ) × IsFaultBehind words held keys faults_before faults_after said line × (after ≡ appended before (said ++ line))

-- a prefix of a text was written, and nothing after it: of the line of a fault where one came, behind what was written before it, else of a text that is due, where the shelf and the keys tell
abbrev pub WritesPrefix : List (List ℕ) → Option Files → Option (List ℕ) → Failures → Failures → Option (List ℕ) → Option (List ℕ) → Type 0
WritesPrefix words held keys faults_before faults_after before after =
    (part : List ℕ) × (after ≡ appended before part)
    × ((part ≡ [])
    ⊎ ((said : List ℕ) × (line : List ℕ) × (prefix : List ℕ) × IsFaultBehind words held keys faults_before faults_after said line × IsPrefixOf prefix line × (part ≡ said ++ prefix))
    ⊎ ((faults_after ≡ faults_before) × (Knows words held keys → BeginsDue words held keys part)))

-- the command was refused: its status is neither 0 nor 9 nor, where the words ask for a session, one with which a session may end. A
-- trace can be gone or changed where a session is over it only where nothing is told of the files
abbrev pub WasRefused : List (List ℕ) → Option Files → ℕ → Type 0
WasRefused words held status = (status ≢ 0) × (status ≢ 9)
    × (AsksToExplore words → (status ≢ 7) × (status ≢ 8) × (held ≡ None → (status ≢ 3) × (status ≢ 5)))

-- the one line of a refusal with this status was written, and nothing else
abbrev pub WritesRefusal : ℕ → Option (List ℕ) → Option (List ℕ) → Type 0
WritesRefusal status before after = (s : Status) × (line : List ℕ) × (status ≡ code_of s) × IsRefused s line × (after ≡ appended before line)

-- the line of a refusal with this status was written last
abbrev pub WritesLast : ℕ → Option (List ℕ) → Option (List ℕ) → Type 0
WritesLast status before after =
    (said : List ℕ) × (s : Status) × (line : List ℕ) × (status ≡ code_of s) × IsRefused s line × (after ≡ appended before (said ++ line))

-- a trace is no trace, is not there any more, or has changed
abbrev pub IsOfTrace : ℕ → Type 0
IsOfTrace status = (status ≡ 3) ⊎ (status ≡ 5)

-- a session that the words ask for over the trace of a name has read its keys to their end, or at least to the end of their quit, and
-- what is left of them is told
abbrev pub ReadsKeysOut : List (List ℕ) → Option Files → Option (List ℕ) → Option (List ℕ) → Type 0
ReadsKeysOut words held keys left = (trace : List ℕ) (files : Files) (input : List ℕ)
    → Asks words (Explore trace) → held ≡ Some files → keys ≡ Some input
    → (p : Program) × (t : Trace) × (rest : List ℕ) × IsOpened files trace p t × (left ≡ Some rest)
    × IsReadOut (scene_of p t.events (covers_of t)) input rest

-- the run that was asked for is traced: each mirror that tells its bytes holds the trace of the source's program
pub record Traced (s : Spelling) (files : Files) (a : Asked) (old new : Mirrors) : Type 0 where
  pub source : List ℕ
  pub holds : Holds files a.source source_limit source
  pub input : List ℕ
  pub is_input : IsInput files a.input input
  pub program : Program
  pub is_program : IsProgramOf source program
  pub held : HoldTrace s (program_of program) source input a.steps old new

-- the trace of a name is written anew: each mirror that tells its bytes holds the trace that the file is read as
pub record Rewritten (s : Spelling) (files : Files) (name : List ℕ) (old new : Mirrors) : Type 0 where
  pub program : Program
  pub trace : Trace
  pub opened : IsOpened files name program trace
  pub held : HoldAnew s trace old new

-- the run that a command records is traced, and the trace that it migrates is written anew
abbrev pub TracedBy : Spelling → Files → Command → Mirrors → Mirrors → Type 0
TracedBy s files (Record a trace) old new = Traced s files a old new
TracedBy s files (Migrate trace name) old new = Rewritten s files trace old new
TracedBy s files _ old new = Unit {0}

-- so for what the words ask
abbrev pub Traces : Spelling → List (List ℕ) → Option Files → Mirrors → Mirrors → Type 0
Traces s words held old new = (c : Command) (files : Files) → Asks words c → held ≡ Some files → TracedBy s files c old new

-- a command uses the recorder: it records a run, or it migrates a trace
abbrev pub Records : Command → Type 0
Records (Record a trace) = Unit {0}
Records (Migrate trace name) = Unit {0}
Records _ = ⊥

-- the words ask for no such command
abbrev pub RecordsNothing : List (List ℕ) → Type 0
RecordsNothing words = (c : Command) → Asks words c → ¬ Records c

-- what is asked is no such command
abbrev pub IsNoRecording : Option Command → Type 0
IsNoRecording asked = (c : Command) → asked ≡ Some c → ¬ Records c

-- ---- what a run did

-- a why tells what the run carried, an affects to what it carried the event, and a whynot a least cut of what it reached and did not
-- cross
abbrev pub IsRunAnswer : Program → List ℕ → ℕ → Wanted → List ℕ → Type 0
IsRunAnswer p input steps (wanted.Why question) text = CarriedAnswer (program_of p) p.lines.items input steps question text
IsRunAnswer p input steps (wanted.Affects question) text = AffectedAnswer (program_of p) p.lines.items input steps question text
IsRunAnswer p input steps (wanted.WhyNot word) text = CutAnswer (program_of p) p.lines.items input steps word text
IsRunAnswer p input steps _ text = Unit {0}

-- so the text does by each run that has these bytes as its trace, in either version
abbrev pub AnswersRun : List ℕ → Wanted → List ℕ → Type 0
AnswersRun bytes w text = (v : Version) (source input : List ℕ) (steps : ℕ) (p : Program) → IsProgramOf source p
    → IsTraceOf (trace_spelling v) (program_of p) source input steps bytes → IsRunAnswer p input steps w text

-- the same for the file of a name
abbrev pub AnswersRunOf : Option Files → List ℕ → Wanted → List ℕ → Type 0
AnswersRunOf held name w text = (files : Files) (bytes : List ℕ) → held ≡ Some files → files name ≡ Some bytes → AnswersRun bytes w text

-- so each such question is answered that the words ask over the trace of a run
abbrev pub AnswersEach : (List ℕ → List ℕ → Command) → (List ℕ → Wanted) → List (List ℕ) → Option Files → List ℕ → Type 0
AnswersEach command w words held text = (trace word : List ℕ) → Asks words (command trace word) → AnswersRunOf held trace (w word) text

-- each why and each affects is answered by what the run carried
abbrev pub Carries : List (List ℕ) → Option Files → List ℕ → Type 0
Carries words held text = AnswersEach Why wanted.Why words held text × AnswersEach Affects wanted.Affects words held text

-- each whynot is answered by a least cut
abbrev pub Cuts : List (List ℕ) → Option Files → List ℕ → Type 0
Cuts = AnswersEach WhyNot wanted.WhyNot

-- such a text was written, all of it
abbrev pub WritesAll : (List ℕ → Type 0) → Option (List ℕ) → Option (List ℕ) → Type 0
WritesAll is_so before after = (text : List ℕ) × (after ≡ appended before text) × is_so text

abbrev pub WritesCarried : List (List ℕ) → Option Files → Option (List ℕ) → Option (List ℕ) → Type 0
WritesCarried words held before after = WritesAll (Carries words held) before after

abbrev pub WritesCut : List (List ℕ) → Option Files → Option (List ℕ) → Option (List ℕ) → Type 0
WritesCut words held before after = WritesAll (Cuts words held) before after
