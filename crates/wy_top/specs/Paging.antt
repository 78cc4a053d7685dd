-- A trace that is looked at where it stays: its front, what a view of it tells, and what is answered through the view.
use Rattle.std.specs.Prelude.{◌≡◌, ℕ, ◌≤◌, ◌++◌, List, length, map, Option, Some, IfSome, Result, Ok, Err, Vec}
use Rattle.std.specs.declared.alloc.Global.{Global}
use Rattle.wy_kernel.specs.Limits.{trace_limit}
use Rattle.wy_kernel.specs.declared.program.Program.{Program}
use Rattle.wy_event.specs.Record.{recorded}
use Rattle.wy_event.specs.declared.record.Tail.{Tail}
use Rattle.wy_event.specs.declared.record.Trace.{Trace}
use Rattle.wy_fitting.specs.Fits.{EndFits}
use Rattle.wy_frames.specs.Heads.{version_of}
use Rattle.law_reading.specs.Spelled.{AreBytes}
use Rattle.wy_outside.specs.Shelf.{Files, ReadsPart}
use Rattle.wy_index.specs.declared.build.Findings.{Findings}
use Rattle.wy_page.specs.declared.pages.Pages.{Pages}
use Rattle.wy_page.specs.Noted.{HasNoted}
use Rattle.wy_page.specs.Paged.{IsOfShelf, records_told}
use Rattle.wy_view.specs.declared.view.ViewError.{ViewError}
use Rattle.wy_view.specs.declared.view.ViewError.TheVariants as view
use Rattle.wy_reply.specs.declared.answer.Answer.{Answer}
use Rattle.wy_reply.specs.declared.status.Status.TheVariants as status
use Rattle.wy_reply.specs.Certificates.{seal_of}
use Rattle.wy_reply.specs.Tellings.{Tells, Wanted}
use Rattle.wy_top.specs.declared.files.FileError.{FileError}
use Rattle.wy_top.specs.declared.shelved.Shelved.{Shelved}
use Rattle.wy_top.specs.declared.shelved.Shelved.TheVariants.{Open, Refused, Headless}
use Rattle.wy_top.specs.Answers.{counts}
use Rattle.wy_top.specs.Call.{IsOpened}
use Rattle.wy_top.specs.Held.{Holds}
use Rattle.wy_top.specs.Openings.{AnswersAny, RefusesView}
use Rattle.wy_top.specs.Reads.{GivesFile}
use Rattle.wy_top.specs.Replies.{AnswersBy, HasCause, ShelfCounts}

-- where the files are told, the one of this name begins with these bytes, and is short enough for a trace
abbrev pub BeginsFile : Option Files → List ℕ → List ℕ → Type 0
BeginsFile held name front = IfSome held (λ files. (others : List ℕ) × Holds files name trace_limit (front ++ others))

-- the one of this name is there, and short enough for a trace
abbrev pub IsShort : Option Files → List ℕ → Result Unit FileError → Type 0
IsShort held name (Ok u) = IfSome held (λ files. (bytes : List ℕ) × Holds files name trace_limit bytes)
IsShort held name (Err error) = GivesFile held name trace_limit (Err error)

-- its first bytes, so many of them, or all where it has fewer
abbrev pub GivesFirst : Option Files → List ℕ → ℕ → Result (Vec ℕ Global) FileError → Type 0
GivesFirst held name len (Ok bytes) = ReadsPart held name 0 len (Ok bytes)
GivesFirst held name len (Err error) = GivesFile held name trace_limit (Err error)

-- the front of the file of this name, or what is due where it is lacking
abbrev pub GivesFront : Option Files → List ℕ → Result (Vec ℕ Global) FileError → Type 0
GivesFront held name (Ok front) = BeginsFile held name front.items
GivesFront held name (Err error) = GivesFile held name trace_limit (Err error)

-- ---- through a view

-- what is kept of a trace on a shelf of these files, and what is told of its end, is of this trace
pub record ArePagesOf (t : Trace) (pages : Pages) (tail : Tail) (files : Files) : Type 0 where
  pub records : records_told pages (Some files) ≡ Some (map recorded t.events)
  pub tail_is : tail ≡ t.tail
  pub seal : pages.seal ≡ seal_of pages.version t

-- what each trace tells that is the one which is kept
abbrev pub DueInPages : Program → Pages → Tail → Wanted → Files → ℕ → List ℕ → Type 0
DueInPages p pages tail w files status text = (t : Trace) → ArePagesOf t pages tail files → Tells p pages.seal t w status text

-- what was looked up was given, and the shelf did not fail; or a view refused
abbrev pub LooksUp : {X : Type 0} → Type 0 → Result X ViewError → ShelfCounts → ShelfCounts → Type 0
LooksUp untold (Ok x) before after = after.faults ≡ before.faults
LooksUp untold (Err e) before after = RefusesView untold e before after

-- each status that speaks of a file has its cause; and the shelf failed, or what is due by its files is answered, whatever a recorder counts
pub record AnswersFrom (due : Files → ℕ → List ℕ → Type 0) (held : Option Files) (before after : ShelfCounts) (answer : Answer) : Type 0 where
  pub caused : HasCause before after answer
  pub is : (n : ℕ) → AnswersBy due held (counts before.faults n) (counts after.faults n) answer

-- ---- opened where it stays

-- the file of a name is the trace of a program, and this is kept of it
pub record IsPaged (files : Files) (name : List ℕ) (p : Program) (pages : Pages) (tail : Tail) : Type 0 where
  pub trace : Trace
  pub opened : IsOpened files name p trace
  pub are_bytes : AreBytes opened.bytes
  pub version_is : pages.version ≡ version_of opened.bytes
  pub pages_are : ArePagesOf trace pages tail files
  pub end_fits : EndFits trace.tail

-- the pages of a trace of a name are open, and no count rose; or what is answered in place of whatever is wanted
abbrev pub OpensPages : Option Files → List ℕ → ShelfCounts → ShelfCounts → Shelved → Type 0
OpensPages held name before after (Open typed pages tail) = (after ≡ before) × IsOfShelf pages held
    × ((files : Files) → held ≡ Some files → IsPaged files name typed.program pages tail)
OpensPages held name before after (Refused answer) =
    (answer.status ≡ status.Done → ⊥) × HasCause before after answer × AnswersAny held name before after answer
OpensPages held name before after Headless = after ≡ before

-- where its pages are open, what is wanted was found in all its events
abbrev pub AreNoted : Option Findings → Option Files → Shelved → Type 0
AreNoted found held (Open typed pages tail) = IfSome found (HasNoted pages held)
AreNoted found held (Refused answer) = Unit {0}
AreNoted found held Headless = Unit {0}
