-- Slots: which may stand where, and how they are read.
use Rattle.std.specs.Prelude.{ℕ, Bool, true, false, List, [], ◌∷◌, Ok, slice_get}
use Rattle.std.specs.Int.{w8, w32}
use Rattle.wy_event.specs.declared.record.Kind.{Kind}
use Rattle.wy_event.specs.declared.record.Kind.TheVariants as kind
use Rattle.wy_event.specs.declared.record.Slot.{Slot}
use Rattle.wy_event.specs.declared.record.Slot.TheVariants as slots
use Rattle.wy_payload.specs.declared.ranges.Ranges.{Ranges}
use Rattle.wy_payload.specs.declared.known.Known.{Known}
use Rattle.wy_payload.specs.declared.known.Role.TheVariants as role
use Rattle.wy_payload.specs.declared.slot.SlotTag.{SlotTag}
use Rattle.wy_payload.specs.declared.slot.SlotTag.TheVariants as tags
use Rattle.wy_payload.specs.declared.slot.SlotForm.{SlotForm}
use Rattle.wy_payload.specs.declared.slot.SlotForm.TheVariants as form
use Rattle.wy_kernel.specs.Limits.{index_limit}
use Rattle.wy_payload.specs.Rules.{in_range, field_rule, local_rule}
use Rattle.wy_payload.specs.Reading.{◌>>=◌, Read, passed, known_tag, number_at, reference_at, below_at}

-- the tags 0 to 4
abbrev pub slot_tags : List SlotTag
slot_tags = tags.None ∷ tags.Local ∷ tags.Static ∷ tags.Field ∷ tags.Elem ∷ []

-- a Bind and a Catch have a local, a Set any place
abbrev pub slot_form : Kind → SlotForm
slot_form kind.Bind = form.Local
slot_form kind.Catch = form.Local
slot_form kind.Set = form.Place
slot_form _ = form.Nothing

abbrev pub allows_slot : SlotForm → SlotTag → Bool
allows_slot form.Nothing tags.None = true
allows_slot form.Nothing _ = false
allows_slot form.Local tags.Local = true
allows_slot form.Local _ = false
allows_slot form.Place tags.None = false
allows_slot form.Place _ = true

unfoldable pub local_at : Ranges → List Known → List ℕ → Read Slot
local_at r earlier bytes = do
  frame ← reference_at role.Frame earlier bytes
  index ← number_at w32 frame.1
  passed (local_rule r earlier frame.0 index.0) (slots.Local frame.0 index.0, index.1)

unfoldable pub static_at : Ranges → List ℕ → Read Slot
static_at r bytes = do
  field ← number_at w32 bytes
  passed (field_rule r true field.0) (slots.Static field.0, field.1)

unfoldable pub field_at : Ranges → List Known → List ℕ → Read Slot
field_at r earlier bytes = do
  object ← reference_at role.Object earlier bytes
  field ← number_at w32 object.1
  passed (field_rule r false field.0) (slots.Field object.0 field.0, field.1)

unfoldable pub element_at : List Known → List ℕ → Read Slot
element_at earlier bytes = do
  array ← reference_at role.Array earlier bytes
  index ← below_at index_limit array.1
  Ok (slots.Elem array.0 index.0, index.1)

-- behind its tag
unfoldable pub slot_of : Ranges → List Known → SlotTag → List ℕ → Read Slot
slot_of r earlier tags.None rest = Ok (slots.None, rest)
slot_of r earlier tags.Local rest = local_at r earlier rest
slot_of r earlier tags.Static rest = static_at r rest
slot_of r earlier tags.Field rest = field_at r earlier rest
slot_of r earlier tags.Elem rest = element_at earlier rest

unfoldable pub slot_at : Ranges → List Known → SlotForm → List ℕ → Read Slot
slot_at r earlier wanted bytes = do
  b ← number_at w8 bytes
  tag ← known_tag (slice_get slot_tags b.0) b.1
  rest ← passed (in_range (allows_slot wanted tag.0)) tag.1
  slot_of r earlier tag.0 rest
