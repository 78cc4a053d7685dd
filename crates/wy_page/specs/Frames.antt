-- The records of frames that stand one behind another.
use Rattle.std.specs.Prelude.{◌≡◌, ℕ, zero, suc, ◌+◌, List, [], ◌∷◌, length, drop, map, slice_get, Some, Result, Ok, Err}
use Rattle.wy_kernel.specs.View.{NONE}
use Rattle.wy_value.specs.declared.value.Value.TheVariants as val
use Rattle.wy_event.specs.declared.record.Kind.TheVariants as kind
use Rattle.wy_event.specs.declared.record.Slot.TheVariants as slots
use Rattle.wy_event.specs.declared.record.Event.{Event}
use Rattle.wy_event.specs.declared.record.Version.{Version}
use Rattle.wy_event.specs.Record.{Recorded, recorded}
use Rattle.wy_spelling.specs.Spelling.{event_frame}
use Rattle.wy_payload.specs.declared.fault.DamageRule.{DamageRule}
use Rattle.wy_view.specs.References.{RefersBelow}
use Rattle.wy_frame_reading.specs.Begins.{BeginWith}
use Rattle.wy_frame_reading.specs.Fields.{frame_at}

-- bytes begin with the frames of these records in a version, the first of number n
abbrev pub AreFrames : Version → ℕ → List Recorded → List ℕ → Type 0
AreFrames v n [] bytes = Unit {0}
AreFrames v n (e ∷ es) bytes = BeginWith v n bytes e × AreFrames v (suc n) es (drop (length (event_frame v e)) bytes)

-- what is read is the record that bytes begin with, and what is left is behind its frame
abbrev pub IsNext : Version → ℕ → List ℕ → Event → List ℕ → Type 0
IsNext v n bytes x rest = (e : Recorded) → BeginWith v n bytes e → (recorded x ≡ e) × (rest ≡ drop (length (event_frame v e)) bytes)

-- so many frames that bytes begin with are read as these events
abbrev pub ReadAs : Version → ℕ → ℕ → List ℕ → List Event → Type 0
ReadAs v first count bytes events = (es : List Recorded) → AreFrames v first es bytes → length es ≡ count → map recorded events ≡ es

-- each refers below itself, the first as one of number n
abbrev pub ReferFrom : ℕ → List Event → Type 0
ReferFrom n events = (k : ℕ) (e : Event) → slice_get events k ≡ Some e → RefersBelow (n + k) (recorded e)

-- what is read where no frame is
abbrev pub blank : Event
blank = record { kind = kind.Return; site = 0; frame = NONE; control = NONE; entity = NONE; slot = slots.None; value = val.None; units = []; uses = [] }

abbrev pub or_blank : Result (Event × ℕ) DamageRule → Event × ℕ
or_blank (Ok x) = x
or_blank (Err d) = (blank, 0)

-- the records that so many frames are read as, the first of number n
unfoldable pub records_from : Version → ℕ → ℕ → List ℕ → List Recorded
records_from v n zero bytes = []
records_from v n (suc count) bytes = let x = or_blank (frame_at v n bytes) in recorded x.0 ∷ records_from v (suc n) count (drop x.1 bytes)
