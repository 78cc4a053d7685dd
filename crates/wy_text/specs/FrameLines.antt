-- The lines of a frame: what it runs, and what its locals hold. Each ends with a line feed.
use Rattle.std.specs.Prelude.{ℕ, List, [], ◌++◌, Option, Some, slice_get, codes}
use Rattle.std.specs.Prelude.{None as Absent}
use Rattle.std.specs.Fmt.{decimal}
use Rattle.wy_kernel.specs.Program.{Program}
use Rattle.wy_value.specs.declared.value.Value.{Value}
use Rattle.wy_event.specs.declared.record.Kind.{Kind}
use Rattle.wy_event.specs.declared.record.Kind.TheVariants.{Call, Init}
use Rattle.wy_event.specs.declared.record.Slot.TheVariants.{Local}
use Rattle.wy_event.specs.Record.{Recorded}
use Rattle.wy_text.specs.EndLines.{line_of, name_of}
use Rattle.wy_text.specs.EventLines.{equation}
use Rattle.wy_text.specs.Names.{method_name, numbered}
use Rattle.wy_text.specs.Places.{slot_text}
use Rattle.wy_text.specs.Values.{value_text}

-- what an event began to run: a method, or the initializer of a class
unfoldable pub running : Program → Kind → Option ℕ → List ℕ
running p Call method = method_name p method
running p Init class = codes "init " ++ name_of p class
running p _ _ = []

unfoldable pub running_at : Program → Option Recorded → List ℕ
running_at p Absent = []
running_at p (Some e) = running p e.kind e.entity

-- the frame that event n began
unfoldable pub frame_line : Program → List Recorded → ℕ → List ℕ
frame_line p records n =
    line_of (numbered n ++ (codes " " ++ running_at p (slice_get records n)))

-- a local of a frame, by its name and its number
unfoldable pub local_text : Program → List Recorded → ℕ → ℕ → List ℕ
local_text p records frame index =
    slot_text p records (Local frame index) ++ (codes "." ++ decimal index)

-- and what it holds
unfoldable pub local_line : Program → List Recorded → ℕ → ℕ → Value → List ℕ
local_line p records frame index value =
    codes " " ++ line_of (equation (local_text p records frame index) (value_text p records value))
