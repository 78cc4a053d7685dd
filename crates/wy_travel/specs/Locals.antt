-- The locals of a frame that were written below a moment, with what they hold then.
-- A local keeps its last value when a declaration without initializer runs, since no event shows that.
use Rattle.std.specs.Prelude.{ℕ, Bool, List, Option, Some, slice_get, map, filter, length, min, is_some}
use Rattle.std.specs.Prelude.{None as Absent}
use Rattle.std.specs.List.{range_with_len}
use Rattle.wy_kernel.specs.Program as parts
use Rattle.wy_kernel.specs.Program.{Program, body, init_body}
use Rattle.wy_kernel.specs.View.{NONE}
use Rattle.wy_value.specs.declared.value.Value.{Value}
use Rattle.wy_event.specs.declared.record.Kind.{Kind}
use Rattle.wy_event.specs.declared.record.Kind.TheVariants.{Call, Init}
use Rattle.wy_event.specs.declared.record.Slot.TheVariants.{Local}
use Rattle.wy_event.specs.Record.{Recorded}
use Rattle.wy_event.specs.Sources.{last_write}
use Rattle.wy_steps.specs.Steps.{owner_in}
use Rattle.wy_travel.specs.Held.{held}

-- the body that an event of a kind runs: that of a method, or of the initializer of a class
unfoldable pub body_run : Program → Kind → Option ℕ → Option parts.Body
body_run p Call (Some m) = body p m
body_run p Init (Some c) = init_body p c
body_run p _ _ = Absent

-- the body of a frame
unfoldable pub frame_body : Program → Option Recorded → Option parts.Body
frame_body p Absent = Absent
frame_body p (Some e) = body_run p e.kind e.entity

-- a body numbers its locals from 0 on; NONE numbers none
unfoldable pub local_count : Option parts.Body → ℕ
local_count Absent = 0
local_count (Some b) = min (length b.locals) NONE

-- a local of a frame was written below a moment
unfoldable pub is_written : Program → List Recorded → ℕ → ℕ → ℕ → Bool
is_written p rs f m i = is_some (last_write (owner_in p) rs (Local f i) m)

-- the written ones of the first so many locals of a frame, by number, each with what it holds
unfoldable pub written_among : Program → List Recorded → ℕ → ℕ → ℕ → List (ℕ × Value)
written_among p rs f m count =
    map (λ i. (i, held p rs (Local f i) m)) (filter (is_written p rs f m) (range_with_len 0 count))

-- the written locals of a frame
unfoldable pub written_locals : Program → List Recorded → ℕ → ℕ → List (ℕ × Value)
written_locals p rs f m = written_among p rs f m (local_count (frame_body p (slice_get rs f)))
