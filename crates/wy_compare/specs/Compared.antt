-- What is written of two runs of a program.
use Rattle.std.specs.Prelude.{◌≡◌, ◌==◌, ◌&&◌, ℕ, nat_lt, Bool, true, false, if◌then◌else◌, List, [], ◌++◌, codes, length, slice_get, Option, Some}
use Rattle.std.specs.Prelude.{None as Absent}
use Rattle.std.specs.Fmt.{decimal}
use Rattle.wy_kernel.specs.Program.{Program}
use Rattle.wy_event.specs.declared.record.Tail.{Tail}
use Rattle.wy_event.specs.Record.{Recorded}
use Rattle.wy_text.specs.EndLines.{line_of}
use Rattle.wy_text.specs.EventLines.{event_line}
use Rattle.wy_compare.specs.declared.look.Look.TheVariants.{Values, Path}
use Rattle.wy_compare.specs.declared.text.Partings.{Partings}
use Rattle.wy_compare.specs.Parting.{Parts}

-- they stopped alike, after as many steps
abbrev pub ends_alike : Tail → Tail → Bool
ends_alike good bad = good.stop == bad.stop && good.last == bad.last && good.steps == bad.steps

abbrev pub no_parting_line : Bool → List ℕ
no_parting_line alike = if alike then line_of (codes "equal") else line_of (codes "equal but for the end")

-- ---- a place

-- the line of what a run has there, or that it has ended
abbrev pub event_or_end : Program → List ℕ → List Recorded → ℕ → Option Recorded → List ℕ
event_or_end p lines rs n Absent = line_of (codes "ended")
event_or_end p lines rs n (Some e) = event_line p lines rs n false

abbrev pub both_lines : Program → List ℕ → List Recorded → List Recorded → ℕ → List ℕ
both_lines p lines good bad n =
    codes "< " ++ (event_or_end p lines good n (slice_get good n) ++ (codes "> " ++ event_or_end p lines bad n (slice_get bad n)))

-- what parts there, and what each run has
unfoldable pub part_text : Program → List ℕ → List Recorded → List Recorded → List ℕ → ℕ → List ℕ
part_text p lines good bad what n = line_of (what ++ (codes " part at #" ++ decimal n)) ++ both_lines p lines good bad n

-- ---- what to ask next

-- a question about an event of the second run, whose trace has this name
unfoldable pub question_line : List ℕ → List ℕ → ℕ → List ℕ
question_line command name n = line_of (codes "ask: whyline " ++ (command ++ (codes " " ++ (name ++ (codes " e" ++ decimal n)))))

-- why it is there, or why the run stopped
unfoldable pub next_line : List ℕ → ℕ → Bool → List ℕ
next_line name n true = question_line (codes "why") name n
next_line name n false = codes "ask: whylens show " ++ (name ++ line_of (codes " --stop"))

-- ---- all of it

-- the values part, and the paths don't: what comes of the first other value can be asked
abbrev pub agreeing_text : Program → List ℕ → List Recorded → List Recorded → List ℕ → ℕ → List ℕ
agreeing_text p lines good bad name n =
    part_text p lines good bad (codes "values") n ++ (line_of (codes "paths agree") ++ question_line (codes "affects") name n)

-- where the values part, unless it is where the paths do
abbrev pub values_text : Program → List ℕ → List Recorded → List Recorded → ℕ → ℕ → List ℕ
values_text p lines good bad n m = if nat_lt n m then part_text p lines good bad (codes "values") n else []

abbrev pub parting_word : ℕ → ℕ → List ℕ
parting_word n m = if nat_lt n m then codes "paths" else codes "values and paths"

-- the values part at a place, and the paths there or later
abbrev pub places_text : Program → List ℕ → List Recorded → List Recorded → List ℕ → ℕ → ℕ → List ℕ
places_text p lines good bad name n m =
    values_text p lines good bad n m ++ (part_text p lines good bad (parting_word n m) m ++ next_line name m (nat_lt m (length bad)))

-- by the first places at which the values part, and the paths
unfoldable pub parted_text : Program → List ℕ → List Recorded → List Recorded → Bool → List ℕ → Option ℕ → Option ℕ → List ℕ
parted_text p lines good bad alike name Absent paths = no_parting_line alike
parted_text p lines good bad alike name (Some n) Absent = agreeing_text p lines good bad name n
parted_text p lines good bad alike name (Some n) (Some m) = places_text p lines good bad name n m

-- these are the places
abbrev pub ArePartings : List Recorded → List Recorded → Partings → Type 0
ArePartings good bad found = Parts Values good bad found.values × Parts Path good bad found.paths

-- the text of two runs that ended alike or not, the second of which has a trace of this name
abbrev pub IsDiff : Program → List ℕ → List Recorded → List Recorded → Bool → List ℕ → List ℕ → Type 0
IsDiff p lines good bad alike name text =
    (found : Partings) × ArePartings good bad found × (text ≡ parted_text p lines good bad alike name found.values found.paths)
