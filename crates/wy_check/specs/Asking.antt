-- The slots that some events used are asked about.
use Rattle.std.specs.Prelude.{◌≡◌, ℕ, List, [], Option, Some, All, slice_get}
use Rattle.std.specs.Prelude.{None as Absent}
use Rattle.std.specs.List.{AllByRecursion}
use Rattle.wy_event.specs.declared.record.Slot.{Slot}
use Rattle.wy_event.specs.declared.record.Use.{Use}
use Rattle.wy_event.specs.declared.record.Use.TheVariants.{Place, Value, Choice}
use Rattle.wy_event.specs.Record.{Recorded}
use Rattle.wy_cert.specs.declared.certificate.Listed.{Listed}
use Rattle.wy_check.specs.declared.history.History.{History}
use Rattle.wy_check.specs.History.{HasSeen, IsAsked}

abbrev pub IsUseAsked : History → Use → Type 0
IsUseAsked h (Place slot moment) = IsAsked h slot
IsUseAsked h (Value event) = Unit {0}
IsUseAsked h (Choice event) = Unit {0}

abbrev pub AreAsked : History → List Use → Type 0
AreAsked h uses = AllByRecursion (IsUseAsked h) uses

abbrev pub uses_of : Option Recorded → List Use
uses_of Absent = []
uses_of (Some r) = r.uses

abbrev pub uses_at : List Recorded → ℕ → List Use
uses_at rs n = uses_of (slice_get rs n)

abbrev pub AreLinesAsked : History → List Recorded → List Listed → Type 0
AreLinesAsked h rs lines = AllByRecursion (λ (l : Listed). AreAsked h (uses_at rs l.event)) lines

-- what was asked about still is, and nothing was seen yet
pub record AsksMore (old new : History) : Type 0 where
  pub keeps : (x : Slot) → IsAsked old x → IsAsked new x
  pub seen : HasSeen old [] → HasSeen new []
