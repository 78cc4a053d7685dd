-- Where the events of a run first differ from those that were expected.
use Rattle.std.specs.Prelude.{◌≡◌, ◌≢◌, ◌<◌, ℕ, Bool, true, List, slice_get, Result, Err}
use Rattle.wy_event.specs.Record.{Recorded}
use Rattle.wy_record.specs.declared.recorder.RecordError.{RecordError}
use Rattle.wy_record.specs.declared.recorder.RecordError.TheVariants.{Differs}

-- below this place each has what the other has
abbrev pub AgreeBelow : ℕ → List Recorded → List Recorded → Type 0
AgreeBelow n expected events = (k : ℕ) → k < n → slice_get expected k ≡ slice_get events k

-- the first n agree, and behind them one has another event than the other, or none
pub record FirstDifference (expected events : List Recorded) (n : ℕ) : Type 0 where
  pub before : AgreeBelow n expected events
  pub here : slice_get expected n ≢ slice_get events n

-- a difference is answered only by one that compares, and is the first
abbrev pub DiffersAsFirst : {X : Type 0} → Result X RecordError → Bool → List Recorded → List Recorded → Type 0
DiffersAsFirst (Err (Differs event)) compares expected events = (compares ≡ true) × FirstDifference expected events event
DiffersAsFirst _ compares expected events = Unit {0}
