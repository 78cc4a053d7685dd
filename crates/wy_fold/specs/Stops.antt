-- Where a run stopped.
use Rattle.std.specs.Prelude.{◌≡◌, ◌-◌, ◌<◌, ℕ, Option, Some}
use Rattle.std.specs.Prelude.{None as Absent}
use Rattle.wy_kernel.specs.View.{present}

-- the Throw that ended it, else its last event
abbrev pub stop_at : Option ℕ → ℕ → ℕ
stop_at (Some throw) count = throw
stop_at Absent count = count - 1

-- that event, where a run has events and the Throw is one of them
abbrev pub StopsAt : ℕ → ℕ → Option ℕ → Type 0
StopsAt last count (Some event) = (event ≡ stop_at (present last) count) × (event < count)
StopsAt last count Absent = ¬ (stop_at (present last) count < count)
