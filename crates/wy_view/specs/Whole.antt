-- What a view of events in memory tells: all of it, with counts that stay at 0. It borrows nothing.
use Rattle.std.specs.Prelude.{ℕ, List, map, length, Option, Some, None}
use Rattle.wy_event.specs.declared.record.Event.{Event}
use Rattle.wy_event.specs.Record.{recorded}
use Rattle.wy_view.specs.View.{Told}

abbrev pub whole : List Event → Option ℕ → Told
whole events reads = record { records = Some (map recorded events); reads = reads; count = length events; faults = 0; misses = 0; changes = 0; lender = None }
