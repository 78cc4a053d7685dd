-- To what the events that bytes are read as refer, and how many there are.
use Rattle.std.specs.Prelude.{ℕ, ◌≤◌, List, length, map, Ok}
use Rattle.wy_kernel.specs.declared.program.Program.{Program}
use Rattle.wy_event.specs.declared.record.Event.{Event}
use Rattle.wy_event.specs.declared.record.Head.{Head}
use Rattle.wy_event.specs.declared.record.Trace.{Trace}
use Rattle.wy_event.specs.declared.record.Version.{Version}
use Rattle.wy_payload.specs.Ranges.{ranges_of}
use Rattle.wy_frames.specs.Progress.{Progress, event_in, start}
use Rattle.wy_frames.specs.Scan.{Leaves}
use Rattle.wy_kernel.specs.Limits.{event_limit}
use Rattle.wy_frames.specs.Traces.{IsReadAs}
use Rattle.wy_view.specs.References.{AllRefersBelow}

-- each refers to events below it, and to moments up to it
abbrev pub DecodedEventsReferBelow : Type 0
DecodedEventsReferBelow = (p : Program) (bytes : List ℕ) (x : Trace) → IsReadAs p bytes (Ok x) → AllRefersBelow x.events

-- and so does each of those that were read so far, of which there are as few
pub record ReferBelow (events : List Event) : Type 0 where
  pub few : length events ≤ event_limit
  pub refer : AllRefersBelow events

abbrev pub ReadEventsReferBelow : Type 0
ReadEventsReferBelow = (v : Version) (p : Program) (head : Head) (fed rest : List ℕ) (t : Progress) → Leaves (ranges_of v p) head.steps (start v head) fed t rest → ReferBelow (map event_in t.placed)

abbrev pub FewEventsAreDecoded : Type 0
FewEventsAreDecoded = (p : Program) (bytes : List ℕ) (x : Trace) → IsReadAs p bytes (Ok x) → length x.events ≤ event_limit
