-- The frames at an event are the bodies that were active as it was recorded.
use Rattle.std.specs.Prelude.{◌≡◌, ℕ, Bool, List, filter, Some, slice_get}
use Rattle.wy_kernel.specs.Program.{Program}
use Rattle.wy_event.specs.Record.{Recorded}
use Rattle.wy_event.specs.Sources.{is_so}
use Rattle.wy_steps.specs.Sets.{nothing}
use Rattle.wy_steps.specs.State.{Noted}
use Rattle.wy_meaning.specs.Run.{history, events}
use Rattle.law_counted.specs.Entries.{runs_body}
use Rattle.wy_travel.specs.Frames.{frames}
use Rattle.law_frames.specs.Joined.{joined, active_in}

-- a record of a run is a Call or an Init
abbrev pub is_body : List Recorded → ℕ → Bool
is_body rs n = is_so (λ e. runs_body e.kind) (slice_get rs n)

-- the bodies among the entries that were active as an event was recorded, the newest first
abbrev pub active_bodies : List Recorded → Noted joined → List ℕ
active_bodies rs e = filter (is_body rs) (active_in e.from_all)

-- in a run
abbrev pub FramesAreActiveBodies : Program → List ℕ → ℕ → Type 0
FramesAreActiveBodies p input budget =
    (m : ℕ) (e : Noted joined) → slice_get (history joined p input budget) m ≡ Some e →
    frames (events nothing p input budget) m ≡ active_bodies (events nothing p input budget) e

-- in every run
abbrev pub FramesWereActive : Program → Type 0
FramesWereActive p = (input : List ℕ) (budget : ℕ) → FramesAreActiveBodies p input budget
