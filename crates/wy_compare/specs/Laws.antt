-- What holds of where two runs part.
use Rattle.std.specs.Prelude.{◌≡◌, ◌<◌, ◌≤◌, ℕ, Bool, List, map}
use Rattle.wy_kernel.specs.Program.{Program}
use Rattle.wy_event.specs.declared.record.Event.{Event}
use Rattle.wy_event.specs.Record.{Recorded, recorded}
use Rattle.wy_event.specs.Sources.{closure, data_closure}
use Rattle.wy_ask.specs.Asked.{owners}
use Rattle.wy_telling.specs.Why.{why_text}
use Rattle.wy_view.specs.References.{AllRefersBelow}
use Rattle.wy_compare.specs.declared.look.Look.TheVariants.{Values, Path}
use Rattle.wy_compare.specs.Compared.{IsDiff}
use Rattle.wy_compare.specs.Parting.{PartsAt}

-- paths part where values do, or later
abbrev pub ValuesPartFirst : Type 0
ValuesPartFirst = (good bad : List Recorded) (n m : ℕ) → PartsAt Values good bad n → PartsAt Path good bad m → n ≤ m

-- the answers to why an event is there: all that it comes from, what it comes from by data, and the text
abbrev pub SameAnswers : Program → List ℕ → List Recorded → List Recorded → ℕ → Type 0
SameAnswers p lines good bad event =
    (closure (owners p) good event ≡ closure (owners p) bad event) × (data_closure (owners p) good event ≡ data_closure (owners p) bad event)
    × (why_text p lines good event ≡ why_text p lines bad event)

-- of an event below the place at which the values part, both runs give the same; their events refer to earlier ones alone
abbrev pub SameAnswersBelow : Type 0
SameAnswersBelow = (p : Program) (lines : List ℕ) (good bad : List Event) (n event : ℕ) → AllRefersBelow good
    → PartsAt Values (map recorded good) (map recorded bad) n → event < n → SameAnswers p lines (map recorded good) (map recorded bad) event

-- two texts that are due of the same runs are one
abbrev pub OneTextIsDue : Type 0
OneTextIsDue = (p : Program) (lines : List ℕ) (good bad : List Recorded) (alike : Bool) (name a b : List ℕ)
    → IsDiff p lines good bad alike name a → IsDiff p lines good bad alike name b → a ≡ b
