-- The event whose frame bytes begin with.
use Rattle.std.specs.Prelude.{◌≡◌, ◌≤◌, ℕ, List, ◌++◌, length, Option, Some}
use Rattle.std.specs.Prelude.{None as Absent}
use Rattle.wy_event.specs.declared.record.Event.{Event}
use Rattle.wy_event.specs.declared.record.Version.{Version}
use Rattle.wy_event.specs.Record.{Recorded, recorded}
use Rattle.wy_fitting.specs.Fits.{Fits, IsTold}
use Rattle.wy_kernel.specs.Limits.{trace_limit}
use Rattle.wy_spelling.specs.Spelling.{event_frame}
use Rattle.wy_view.specs.References.{RefersBelow}

-- bytes begin with the frame of this record in a version: each of its numbers fits the bytes that it is spelled in, it refers to events below n and to moments up to n, its bytes tell all of it, and a trace has room for it
pub record BeginWith (v : Version) (n : ℕ) (bytes : List ℕ) (e : Recorded) : Type 0 where
  pub fits : Fits e
  pub below : RefersBelow n e
  pub told : IsTold v e
  pub short : length (event_frame v e) ≤ trace_limit
  pub rest : List ℕ
  pub starts : bytes ≡ event_frame v e ++ rest

-- they begin with the frame of this event, which is so long, and with that of no other; or with the frame of none
abbrev pub BeginsWithEvent : Version → ℕ → List ℕ → Option (Event × ℕ) → Type 0
BeginsWithEvent v n bytes (Some (e, size)) = BeginWith v n bytes (recorded e) × (size ≡ length (event_frame v (recorded e))) × ((other : Recorded) → BeginWith v n bytes other → other ≡ recorded e)
BeginsWithEvent v n bytes Absent = (other : Recorded) → ¬ BeginWith v n bytes other
