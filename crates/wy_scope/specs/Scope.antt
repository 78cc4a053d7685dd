-- The scope of a call: the call itself, and all events that ran in it.
use Rattle.std.specs.Prelude.{ℕ, zero, suc, Bool, false, ◌&&◌, ◌||◌, ◌==◌, nat_lt, List, Option, Some, slice_get, filter}
use Rattle.std.specs.Prelude.{None as Absent}
use Rattle.wy_event.specs.Record.{Recorded}
use Rattle.wy_index.specs.declared.found.Hit.{Hit}
use Rattle.wy_index.specs.Found.{hits_in, number}
use Rattle.wy_static.specs.declared.point.Point.{Point}
use Rattle.wy_static.specs.declared.point.Point.TheVariants as point
use Rattle.wy_travel.specs.Frames.{frame_of}

-- from an event to its frame, and so on outwards in at most so many steps, comes the call. A frame is
-- below its events, so no event below the call comes to it
unfoldable pub comes_to : ℕ → List Recorded → ℕ → Option ℕ → Bool
comes_to zero rs call x = false
comes_to (suc steps) rs call Absent = false
comes_to (suc steps) rs call (Some x) =
    (x == call) || (nat_lt call x && comes_to steps rs call (frame_of (slice_get rs x)))

unfoldable pub in_scope : List Recorded → ℕ → ℕ → Bool
in_scope rs call x = comes_to (suc x) rs call (Some x)

abbrev pub is_hit_in : List Recorded → ℕ → Hit → Bool
is_hit_in rs call hit = in_scope rs call hit.event

-- what happened at a site in the scope of a call
abbrev pub hits_of_scope : List Recorded → ℕ → ℕ → List Hit
hits_of_scope rs call site = filter (is_hit_in rs call) (hits_in rs site)

-- the entry of the method that is called
abbrev pub entry_called : Option Recorded → Point
entry_called Absent = point.Entry (number Absent)
entry_called (Some r) = point.Entry (number r.entity)

abbrev pub entry_of : List Recorded → ℕ → Point
entry_of rs call = entry_called (slice_get rs call)
