-- Where two runs part, by what is looked at.
use Rattle.std.specs.Prelude.{◌≡◌, ◌<◌, ℕ, List, Option, Some, slice_get}
use Rattle.std.specs.Prelude.{None as Absent}
use Rattle.wy_event.specs.Record.{Recorded}
use Rattle.wy_compare.specs.declared.look.Look.{Look}
use Rattle.wy_compare.specs.declared.look.Look.TheVariants.{Values, Path}

-- two events are one step of a path
pub record SameStep (a b : Recorded) : Type 0 where
  pub kind : a.kind ≡ b.kind
  pub site : a.site ≡ b.site
  pub frame : a.frame ≡ b.frame
  pub entity : a.entity ≡ b.entity

-- they are the same in all that is recorded, or one step of a path
abbrev pub Same : Look → Recorded → Recorded → Type 0
Same Values a b = a ≡ b
Same Path a b = SameStep a b

-- each run has the same at a place, or none has anything there
abbrev pub SameAt : Look → Option Recorded → Option Recorded → Type 0
SameAt look (Some a) (Some b) = Same look a b
SameAt look Absent Absent = Unit {0}
SameAt look Absent (Some b) = ⊥
SameAt look (Some a) Absent = ⊥

-- below this place each has what the other has, and there it hasn't
pub record PartsAt (look : Look) (good bad : List Recorded) (n : ℕ) : Type 0 where
  pub before : (k : ℕ) → k < n → SameAt look (slice_get good k) (slice_get bad k)
  pub here : ¬ SameAt look (slice_get good n) (slice_get bad n)

-- the first place at which they part, where they do
abbrev pub Parts : Look → List Recorded → List Recorded → Option ℕ → Type 0
Parts look good bad (Some n) = PartsAt look good bad n
Parts look good bad Absent = (k : ℕ) → SameAt look (slice_get good k) (slice_get bad k)
