-- The frames of an event: the bodies that ran as it was recorded, by the records of a trace alone.
use Rattle.std.specs.Prelude.{ℕ, zero, suc, List, [], ◌∷◌, Option, Some, slice_get}
use Rattle.std.specs.Prelude.{None as Absent}
use Rattle.wy_event.specs.Record.{Recorded}

-- the event that runs the body in which an event stands
unfoldable pub frame_of : Option Recorded → Option ℕ
frame_of Absent = Absent
frame_of (Some e) = e.frame

-- a frame, its own frame, and so on, in at most so many steps; a frame is below its events in every list that this is said of
unfoldable pub frames_within : ℕ → List Recorded → Option ℕ → List ℕ
frames_within zero rs f = []
frames_within (suc k) rs Absent = []
frames_within (suc k) rs (Some f) = f ∷ frames_within k rs (frame_of (slice_get rs f))

-- the frames at an event, the innermost first
unfoldable pub frames : List Recorded → ℕ → List ℕ
frames rs m = frames_within m rs (frame_of (slice_get rs m))
