-- A trace that a session is over: what its opening gives, and how the session ends.
use Rattle.std.specs.Prelude.{◌≡◌, ◌≢◌, ◌⊎◌, ℕ, List, false, Option, Some, None, Ok, option_map}
use Rattle.wy_event.specs.declared.record.Cover.{Cover}
use Rattle.wy_event.specs.declared.record.Head.{Head}
use Rattle.wy_event.specs.Record.{Recorded}
use Rattle.wy_kernel.specs.Parts.{program_of}
use Rattle.wy_frames.specs.Heads.{head_of}
use Rattle.wy_frames.specs.Traces.{IsReadAs}
use Rattle.wy_kernel.specs.declared.program.Program.{Program}
use Rattle.wy_event.specs.declared.record.Trace.{Trace}
use Rattle.wy_event.specs.declared.record.Version.{Version}
use Rattle.wy_outside.specs.Counts.{Rose}
use Rattle.wy_outside.specs.Shelf.{Files}
use Rattle.wy_view.specs.declared.view.ViewError.{ViewError}
use Rattle.wy_view.specs.declared.view.ViewError.TheVariants as view
use Rattle.wy_session.specs.Desk.{scene_of}
use Rattle.wy_session.specs.Scene.{Scene}
use Rattle.wy_session.specs.Closings.{Closed, ReadsOut, TakesManyFor}
use Rattle.wy_session.specs.Closings as ways
use Rattle.wy_session.specs.declared.ending.Ending.{Ending}
use Rattle.wy_session.specs.declared.ending.Ending.TheVariants as ending
use Rattle.wy_reply.specs.declared.answer.Answer.{Answer}
use Rattle.wy_reply.specs.declared.status.Status.{Status}
use Rattle.wy_reply.specs.declared.status.Status.TheVariants as status
use Rattle.wy_reply.specs.Statuses.{code_of, is_of_files}
use Rattle.wy_reply.specs.Lines.{absent_line, changed_line, shelf_fault_line}
use Rattle.wy_reply.specs.Opening.{IsViewable}
use Rattle.wy_reply.specs.Tellings.{Wanted, covers_of}
use Rattle.wy_top.specs.declared.opening.Opening.{Opening}
use Rattle.wy_top.specs.declared.opening.Opening.TheVariants.{Open, Refused}
use Rattle.wy_top.specs.Call.{IsOpened}
use Rattle.wy_top.specs.Deliveries.{Delivers}
use Rattle.wy_top.specs.Due.{DueForBytes, DueForTrace}
use Rattle.wy_program.specs.Programs.{IsProgramOf}
use Rattle.wy_top.specs.Replies.{HasCause, ShelfCounts}

-- the program of the source of the head of bytes, and the trace as which they are read under it; or why there is none, and nothing is done
abbrev pub OpensBytes : List ℕ → Opening → Type 0
OpensBytes bytes (Open typed t) = (head : Head) × (end : ℕ) × (v : Version) × (head_of bytes ≡ Ok (head, end, v)) × IsProgramOf head.source typed.program × IsReadAs typed.program bytes (Ok t)
OpensBytes bytes (Refused answer) = (answer.status ≡ status.Done → ⊥) × ((w : Wanted) → DueForBytes bytes w (code_of answer.status) answer.text.items)

-- what is open can be viewed, and a refusal speaks of no file
abbrev pub IsSettled : Opening → Type 0
IsSettled (Open typed t) = IsViewable t
IsSettled (Refused answer) = is_of_files answer.status ≡ false

-- the shelf failed, and the answer names it; or it is what is due of that trace, whatever is wanted
abbrev pub AnswersAny : Option Files → List ℕ → ShelfCounts → ShelfCounts → Answer → Type 0
AnswersAny held name before after answer =
    ((answer.status ≡ status.Fault) × (answer.text.items ≡ shelf_fault_line) × Rose before.faults after.faults)
    ⊎ ((after.faults ≡ before.faults) × (answer.status ≡ status.Fault → ⊥)
    × ((w : Wanted) (files : Files) → held ≡ Some files → DueForTrace files name w (code_of answer.status) answer.text.items))

-- the trace of a name is open, and no count rose; or what is answered in place of whatever is wanted
abbrev pub OpensFile : Option Files → List ℕ → ShelfCounts → ShelfCounts → Opening → Type 0
OpensFile held name before after (Open typed t) = IsViewable t × (after.faults ≡ before.faults)
    × ((files : Files) → held ≡ Some files → IsOpened files name typed.program t)
OpensFile held name before after (Refused answer) = HasCause before after answer × AnswersAny held name before after answer

-- what is open is the trace of some file, and a refusal did not do what the command says
abbrev pub OpensSome : Opening → Type 0
OpensSome (Open typed t) = (files : Files) × (name : List ℕ) × IsOpened files name typed.program t
OpensSome (Refused answer) = answer.status ≡ status.Done → ⊥

-- ---- a view that refuses

-- an answer says why a view of the trace of this name refused; want of memory has none
abbrev pub TellsRefusal : List ℕ → ViewError → Answer → Type 0
TellsRefusal name view.ReadFault answer = (answer.status ≡ status.Fault) × (answer.text.items ≡ shelf_fault_line)
TellsRefusal name view.Gone answer = (answer.status ≡ status.Absent) × (answer.text.items ≡ absent_line name)
TellsRefusal name (view.Changed block kept found) answer = (answer.status ≡ status.Trace) × (answer.text.items ≡ changed_line block)
TellsRefusal name view.NoMemory answer = ⊥

-- a view refused: the shelf failed; or the trace was gone or had changed, which never is where its bytes are told
abbrev pub RefusesView : Type 0 → ViewError → ShelfCounts → ShelfCounts → Type 0
RefusesView untold view.ReadFault before after = Rose before.faults after.faults
RefusesView untold view.Gone before after = Rose before.misses after.misses × (after.faults ≡ before.faults) × untold
RefusesView untold (view.Changed block kept found) before after = (after.faults ≡ before.faults) × untold
RefusesView untold view.NoMemory before after = Unit {0}

-- ---- a session

-- what is left of the keys, how often they failed, and how much of them was taken
pub record Keys : Type 0 where
  pub left : Option (List ℕ)
  pub faults : ℕ
  pub taken : ℕ

abbrev pub keys_at : Option (List ℕ) → ℕ → ℕ → Keys
keys_at left faults taken = record { left = left; faults = faults; taken = taken }

-- the output, and how often it failed
pub record Output : Type 0 where
  pub written : Option (List ℕ)
  pub faults : ℕ

abbrev pub output_at : Option (List ℕ) → ℕ → Output
output_at written faults = record { written = written; faults = faults }

-- the scene of a program, of records that may be told, and of what is told of its statements
abbrev pub scene_told : Program → List Cover → Option (List Recorded) → Option Scene
scene_told p covers records =
    option_map (λ rs. record { program = program_of p; lines = p.lines.items; records = rs; covers = covers }) records

-- where the files are told, the scene is that of the trace of this name
abbrev pub IsTold : Option Files → List ℕ → Option Scene → Type 0
IsTold held name scene = (files : Files) → held ≡ Some files
    → (p : Program) × (t : Trace) × IsOpened files name p t × (scene ≡ Some (scene_of p t.events (covers_of t)))

-- a session over this scene ended so, if the scene is told
abbrev pub ClosedOver : Option Scene → Keys → Keys → Output → Output → Ending → Type 0
ClosedOver scene keys_before keys_after before after e =
    Closed (λ x. scene ≡ Some x) keys_before.left (ways.failures keys_before.faults keys_after.faults before.faults after.faults) before.written after.written e

-- where all was said over this scene, if it is told, the keys were read out
abbrev pub ReadsOver : Option Scene → Option (List ℕ) → Option (List ℕ) → Ending → Type 0
ReadsOver scene before after e = ReadsOut (λ x. scene ≡ Some x) before after e

-- a view refused where a session ended by that, and else the shelf did not fail
abbrev pub CountsBy : Type 0 → Ending → ShelfCounts → ShelfCounts → Type 0
CountsBy untold (ending.View e) before after = (e ≢ view.NoMemory) × RefusesView untold e before after
CountsBy untold _ before after = after.faults ≡ before.faults

-- the line of a refusal is written where a view refused, and memory may run out before; and else nothing more
abbrev pub EndsBy : List ℕ → Ending → Status → Output → Output → Type 0
EndsBy name (ending.View e) s said after =
    ((answer : Answer) × TellsRefusal name e answer × Delivers answer s said.faults after.faults said.written after.written)
    ⊎ ((s ≡ status.NoMemory) × (after ≡ said))
EndsBy name ending.Done s said after = (s ≡ status.Done) × (after ≡ said)
EndsBy name ending.LongLine s said after = (s ≡ status.TooLong) × (after ≡ said)
EndsBy name ending.LongInput s said after = (s ≡ status.TooLong) × (after ≡ said)
EndsBy name ending.KeysFailed s said after = (s ≡ status.Fault) × (after ≡ said)
EndsBy name ending.OutFailed s said after = (s ≡ status.Fault) × (after ≡ said)
EndsBy name ending.NoMemory s said after = (s ≡ status.NoMemory) × (after ≡ said)

-- a trace that can't be opened is answered for, and the keys stay; a session over the trace of a name comes to its end; or memory ran out before anything was written
pub data Explores (held : Option Files) (name : List ℕ) (shelf_before shelf_after : ShelfCounts) (keys_before keys_after : Keys) (before after : Output) : Status → Type 0 where
  refused : (answer : Answer) (s : Status) → answer.status ≢ status.Done → HasCause shelf_before shelf_after answer
      → AnswersAny held name shelf_before shelf_after answer
      → keys_after ≡ keys_before → Delivers answer s before.faults after.faults before.written after.written
      → Explores held name shelf_before shelf_after keys_before keys_after before after s
  session : (scene : Option Scene) (e : Ending) (said : Output) (s : Status) → IsTold held name scene
      → ClosedOver scene keys_before keys_after before said e → ReadsOver scene keys_before.left keys_after.left e
      → TakesManyFor e keys_before.taken keys_after.taken
      → CountsBy (held ≡ None) e shelf_before shelf_after → EndsBy name e s said after
      → Explores held name shelf_before shelf_after keys_before keys_after before after s
  memory : keys_after ≡ keys_before → after ≡ before
      → Explores held name shelf_before shelf_after keys_before keys_after before after status.NoMemory
