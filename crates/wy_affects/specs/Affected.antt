-- The events that one affects: those above it that come from it.
use Rattle.std.specs.Prelude.{ℕ, suc, ◌-◌, List, filter, length}
use Rattle.std.specs.List.{range_with_len}
use Rattle.wy_event.specs.Numbers.{Numbers}
use Rattle.wy_event.specs.Record.{Recorded}
use Rattle.wy_event.specs.Sources.{Owners, closure, data_closure}

-- the numbers above e and below a count whose set has e in it, rising
abbrev pub above_with : (ℕ → Numbers) → ℕ → ℕ → List ℕ
above_with sets e count = filter (λ n. sets n e) (range_with_len (suc e) (count - suc e))

-- the events above e that come from it
abbrev pub affected : Owners → List Recorded → ℕ → List ℕ
affected owner rs e = above_with (closure owner rs) e (length rs)

-- those that come from it by data
abbrev pub affected_by_data : Owners → List Recorded → ℕ → List ℕ
affected_by_data owner rs e = above_with (data_closure owner rs) e (length rs)
