-- Where events that are read stand.
use Rattle.std.specs.Prelude.{◌≡◌, ℕ, ◌+◌, ◌≤◌, List, [], ◌∷◌, ◌++◌, length, map, Ok}
use Rattle.wy_kernel.specs.Limits.{trace_limit}
use Rattle.wy_kernel.specs.declared.program.Program.{Program}
use Rattle.wy_event.specs.declared.record.Head.{Head}
use Rattle.wy_event.specs.declared.record.Trace.{Trace}
use Rattle.wy_event.specs.declared.record.Version.{Version}
use Rattle.wy_event.specs.Record.{recorded}
use Rattle.wy_fitting.specs.Fits.{AllFit, AllTold}
use Rattle.wy_spelling.specs.Spelling.{event_frame, events_bytes, opening}
use Rattle.wy_payload.specs.Ranges.{ranges_of}
use Rattle.wy_frames.specs.declared.stage.ReadEvent.{ReadEvent}
use Rattle.wy_frames.specs.Progress.{Progress, event_in, start}
use Rattle.wy_frames.specs.Scan.{Leaves}
use Rattle.wy_frames.specs.Heads.{version_of}
use Rattle.wy_frames.specs.Traces.{IsReadAs}
use Rattle.law_reading.specs.Spelled.{AreBytes}

-- each place is behind the frame of its event, which begins where the one before it ends, and the first at a place
abbrev pub PlacedFrom : Version → ℕ → List ReadEvent → Type 0
PlacedFrom v at [] = Unit {0}
PlacedFrom v at (x ∷ placed) = (x.end ≡ at + length (event_frame v (recorded x.event))) × PlacedFrom v x.end placed

-- bytes behind a head are the frames of these events, and others; and the places are behind the frames
pub record ArePlaced (v : Version) (head : Head) (fed : List ℕ) (placed : List ReadEvent) : Type 0 where
  pub others : List ℕ
  pub parts : fed ≡ events_bytes v (map event_in placed) ++ others
  pub places : PlacedFrom v (length (opening v head)) placed

abbrev pub ReadEventsArePlaced : Type 0
ReadEventsArePlaced = (v : Version) (p : Program) (head : Head) (fed : List ℕ) (t : Progress) (rest : List ℕ) → AreBytes fed → Leaves (ranges_of v p) head.steps (start v head) fed t rest → ArePlaced v head fed t.placed

abbrev pub ReadEventsAreTold : Type 0
ReadEventsAreTold = (p : Program) (bytes : List ℕ) (x : Trace) → AreBytes bytes → length bytes ≤ trace_limit → AllFit (map recorded x.events) → IsReadAs p bytes (Ok x) → AllTold (version_of bytes) (map recorded x.events)
