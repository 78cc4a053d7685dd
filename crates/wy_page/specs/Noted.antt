-- What was found in the events of a trace while it was opened, where that was wanted.
use Rattle.std.specs.Prelude.{◌≡◌, ◌<◌, ◌^◌, List, length, map, Option, IfSome}
use Rattle.wy_event.specs.Record.{Recorded, recorded}
use Rattle.wy_frames.specs.Progress.{Progress, event_in}
use Rattle.wy_index.specs.declared.build.Findings.{Findings}
use Rattle.wy_index.specs.Findings.{HasFound}
use Rattle.wy_outside.specs.Shelf.{Files}
use Rattle.wy_page.specs.declared.pages.Pages.{Pages}
use Rattle.wy_page.specs.Paged.{records_told}

-- what is wanted was found in these records
abbrev pub HaveFound : Option Findings → List Recorded → Type 0
HaveFound found rs = IfSome found (λ f. HasFound f rs)

-- in those that were read so far
abbrev pub Noted : Option Findings → Progress → Type 0
Noted found t = HaveFound found (map recorded (map event_in t.placed))

-- in all records of a trace of which this is kept, which are those of its file where the files are told
pub record HasNoted (pages : Pages) (held : Option Files) (found : Findings) : Type 0 where
  pub records : List Recorded
  pub has_found : HasFound found records
  pub few : length records < 2 ^ 32
  pub all : length records ≡ pages.count
  pub as_told : IfSome (records_told pages held) (λ rs. rs ≡ records)
