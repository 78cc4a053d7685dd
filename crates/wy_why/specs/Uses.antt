-- How many places an event used.
use Rattle.std.specs.Prelude.{ℕ, List, Option, Some, sum_by, slice_get}
use Rattle.std.specs.Prelude.{None as Absent}
use Rattle.wy_event.specs.declared.record.Use.{Use}
use Rattle.wy_event.specs.declared.record.Use.TheVariants.{Place}
use Rattle.wy_event.specs.Record.{Recorded}

abbrev pub is_place : Use → ℕ
is_place (Place slot moment) = 1
is_place _ = 0

abbrev pub places : List Use → ℕ
places us = sum_by is_place us

abbrev pub places_of : Option Recorded → ℕ
places_of Absent = 0
places_of (Some e) = places e.uses

-- in the records of these events
abbrev pub places_in : List Recorded → List ℕ → ℕ
places_in rs events = sum_by (λ n. places_of (slice_get rs n)) events
