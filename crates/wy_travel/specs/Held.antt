-- The value that a slot holds at a moment, by the records of a trace alone.
use Rattle.std.specs.Prelude.{ℕ, ◌<◌, if◌then◌else◌, List, Option, Some, slice_get}
use Rattle.std.specs.Prelude.{None as Absent}
use Rattle.wy_kernel.specs.Program.{Program}
use Rattle.wy_value.specs.declared.value.Value.{Value}
use Rattle.wy_value.specs.declared.value.Value.TheVariants.{None as Nothing}
use Rattle.wy_event.specs.declared.record.Slot.{Slot}
use Rattle.wy_event.specs.declared.record.Slot.TheVariants.{Static, Field}
use Rattle.wy_event.specs.Record.{Recorded}
use Rattle.wy_event.specs.Sources.{writes, last_write}
use Rattle.wy_steps.specs.Steps.{default_in, owner_in}

-- what a record gives a slot: the value that it writes, or the default of what it creates
unfoldable pub given_by : Program → Slot → Option Recorded → Value
given_by p x Absent = Nothing
given_by p x (Some e) = if writes x e then e.value else default_in p e x

-- what an event gives a slot, and nothing where there is no event
unfoldable pub given_at : Program → List Recorded → Slot → Option ℕ → Value
given_at p rs x Absent = Nothing
given_at p rs x (Some n) = given_by p x (slice_get rs n)

-- the value of the last write of a slot below a moment, the default of its type where that is a creation, and none where there
-- is none
unfoldable pub held : Program → List Recorded → Slot → ℕ → Value
held p rs x m = given_at p rs x (last_write (owner_in p) rs x m)

-- the field of a slot, if it has one, is one of so many
abbrev pub HasFieldBelow : ℕ → Slot → Type 0
HasFieldBelow n (Static f) = f < n
HasFieldBelow n (Field object f) = f < n
HasFieldBelow n _ = Unit {0}
