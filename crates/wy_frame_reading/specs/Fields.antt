-- The fields of an event's frame, read from left to right with nothing asked of a number but its bound.
use Rattle.std.specs.Prelude.{ℕ, ◌+◌, ◌==◌, ◌||◌, nat_lt, if◌then◌else◌, List, [], length, take, Result, Ok, Err, slice_get}
use Rattle.std.specs.Prelude.{None as Absent}
use Rattle.std.specs.Int.{w8, w32, cast_signed}
use Rattle.wy_kernel.specs.View.{NONE}
use Rattle.wy_value.specs.declared.value.Value.{Value}
use Rattle.wy_value.specs.declared.value.Value.TheVariants as val
use Rattle.wy_event.specs.declared.record.Kind.{Kind}
use Rattle.wy_event.specs.declared.record.Kind.TheVariants as kind
use Rattle.wy_event.specs.declared.record.Slot.{Slot}
use Rattle.wy_event.specs.declared.record.Slot.TheVariants as slots
use Rattle.wy_event.specs.declared.record.Use.{Use}
use Rattle.wy_event.specs.declared.record.Use.TheVariants as used
use Rattle.wy_event.specs.declared.record.Event.{Event}
use Rattle.wy_event.specs.declared.record.Version.{Version}
use Rattle.wy_event.specs.declared.record.Version.TheVariants as version
use Rattle.wy_payload.specs.declared.fault.DamageRule.{DamageRule}
use Rattle.wy_payload.specs.declared.fault.DamageRule.TheVariants as rule
use Rattle.wy_payload.specs.declared.slot.SlotTag.{SlotTag}
use Rattle.wy_payload.specs.declared.slot.SlotTag.TheVariants as places
use Rattle.wy_payload.specs.declared.value.ValueTag.{ValueTag}
use Rattle.wy_payload.specs.declared.value.ValueTag.TheVariants as tags
use Rattle.wy_payload.specs.declared.value.ValueForm.{ValueForm}
use Rattle.wy_payload.specs.declared.value.ValueForm.TheVariants as form
use Rattle.wy_payload.specs.declared.event.UseTag.{UseTag}
use Rattle.wy_payload.specs.declared.event.UseTag.TheVariants as ways
use Rattle.wy_payload.specs.declared.event.Origin.{Origin}
use Rattle.wy_payload.specs.declared.event.Content.{Content}
use Rattle.wy_payload.specs.Rules.{Broken, in_range}
use Rattle.wy_payload.specs.Reading.{◌>>=◌, Read, all_of, passed, known_tag, number_at, below_at, at_most_at, rows_from}
use Rattle.wy_payload.specs.Places.{slot_tags}
use Rattle.wy_payload.specs.Values.{arm_width, bool_at, plain_at, units_at, value_tag}
use Rattle.wy_payload.specs.Events.{kinds, use_tag}

-- a number below a limit, or NONE
unfoldable pub optional_at : ℕ → List ℕ → Read ℕ
optional_at n bytes = do
  m ← number_at w32 bytes
  passed (in_range (m.0 == NONE || nat_lt m.0 n)) m

-- ---- slots

unfoldable pub local_at : ℕ → List ℕ → Read Slot
local_at n bytes = do
  frame ← below_at n bytes
  index ← number_at w32 frame.1
  Ok (slots.Local frame.0 index.0, index.1)

unfoldable pub static_at : List ℕ → Read Slot
static_at bytes = do
  field ← number_at w32 bytes
  Ok (slots.Static field.0, field.1)

unfoldable pub field_at : ℕ → List ℕ → Read Slot
field_at n bytes = do
  object ← below_at n bytes
  field ← number_at w32 object.1
  Ok (slots.Field object.0 field.0, field.1)

unfoldable pub element_at : ℕ → List ℕ → Read Slot
element_at n bytes = do
  array ← below_at n bytes
  index ← number_at w32 array.1
  Ok (slots.Elem array.0 index.0, index.1)

-- behind its tag
unfoldable pub slot_of : ℕ → SlotTag → List ℕ → Read Slot
slot_of n places.None rest = Ok (slots.None, rest)
slot_of n places.Local rest = local_at n rest
slot_of n places.Static rest = static_at rest
slot_of n places.Field rest = field_at n rest
slot_of n places.Elem rest = element_at n rest

unfoldable pub slot_at : ℕ → List ℕ → Read Slot
slot_at n bytes = do
  b ← number_at w8 bytes
  tag ← known_tag (slice_get slot_tags b.0) b.1
  slot_of n tag.0 tag.1

-- ---- values

unfoldable pub int_at : List ℕ → Read Value
int_at bytes = do
  m ← number_at w32 bytes
  Ok (val.Int (cast_signed w32 m.0), m.1)

unfoldable pub object_at : ℕ → List ℕ → Read Value
object_at n bytes = do
  m ← below_at n bytes
  Ok (val.Object m.0, m.1)

unfoldable pub text_at : ℕ → List ℕ → Read Value
text_at n bytes = do
  m ← below_at n bytes
  Ok (val.Text m.0, m.1)

unfoldable pub fixed_at : List ℕ → Read Value
fixed_at bytes = do
  m ← number_at w32 bytes
  Ok (val.Fixed m.0, m.1)

-- version 1 has no arm but 0 and 1
abbrev pub arm_rule : Version → ℕ → Broken
arm_rule version.One m = in_range (nat_lt m 2)
arm_rule version.Two m = Absent

unfoldable pub arm_at : Version → List ℕ → Read Value
arm_at v bytes = do
  m ← number_at (arm_width v) bytes
  passed (arm_rule v m.0) (val.Arm m.0, m.1)

-- behind its tag
unfoldable pub value_of : Version → ℕ → ValueTag → List ℕ → Read Value
value_of v n tags.Bool rest = bool_at rest
value_of v n tags.Int rest = int_at rest
value_of v n tags.Object rest = object_at n rest
value_of v n tags.Text rest = text_at n rest
value_of v n tags.Fixed rest = fixed_at rest
value_of v n tags.Arm rest = arm_at v rest
value_of v n tag rest = plain_at tag rest

-- an arm is wanted in a Test
abbrev pub form_in : Kind → ValueForm
form_in kind.Test = form.Arm
form_in _ = form.Optional

unfoldable pub value_at : Version → ValueForm → ℕ → List ℕ → Read Value
value_at v wanted n bytes = do
  b ← number_at w8 bytes
  tag ← known_tag (value_tag v wanted b.0) b.1
  value_of v n tag.0 tag.1

-- ---- uses

unfoldable pub place_at : ℕ → List ℕ → Read Use
place_at n bytes = do
  slot ← slot_at n bytes
  moment ← at_most_at n slot.1
  Ok (used.Place slot.0 moment.0, moment.1)

unfoldable pub used_value_at : ℕ → List ℕ → Read Use
used_value_at n bytes = do
  event ← below_at n bytes
  Ok (used.Value event.0, event.1)

unfoldable pub choice_at : ℕ → List ℕ → Read Use
choice_at n bytes = do
  event ← below_at n bytes
  Ok (used.Choice event.0, event.1)

-- behind its tag
unfoldable pub use_of : ℕ → UseTag → List ℕ → Read Use
use_of n ways.Place rest = place_at n rest
use_of n ways.Value rest = used_value_at n rest
use_of n ways.Choice rest = choice_at n rest

unfoldable pub use_at : ℕ → List ℕ → Read Use
use_at n bytes = do
  b ← number_at w8 bytes
  tag ← known_tag (use_tag b.0) b.1
  use_of n tag.0 tag.1

unfoldable pub uses_at : ℕ → List ℕ → Read (List Use)
uses_at n bytes = do
  count ← number_at w32 bytes
  rows_from (use_at n) count.0 count.1

-- ---- events

unfoldable pub kind_at : List ℕ → Read Kind
kind_at bytes = do
  b ← number_at w8 bytes
  k ← known_tag (slice_get kinds b.0) b.1
  Ok (k.0, k.1)

unfoldable pub origin_at : ℕ → List ℕ → Read Origin
origin_at n bytes = do
  k ← kind_at bytes
  site ← number_at w32 k.1
  frame ← optional_at n site.1
  control ← optional_at n frame.1
  entity ← number_at w32 control.1
  Ok (record { kind = k.0; site = site.0; frame = frame.0; control = control.0; entity = entity.0 }, entity.1)

-- the units of a Text, and the value of every other event
unfoldable pub content_at : Version → ℕ → Kind → List ℕ → Read Content
content_at v n kind.Text bytes = do
  units ← units_at bytes
  Ok (record { value = val.None; units = units.0 }, units.1)
content_at v n k bytes = do
  value ← value_at v (form_in k) n bytes
  Ok (record { value = value.0; units = [] }, value.1)

unfoldable pub event_at : Version → ℕ → List ℕ → Read Event
event_at v n bytes = do
  o ← origin_at n bytes
  slot ← slot_at n o.1
  c ← content_at v n o.0.kind slot.1
  uses ← uses_at n c.1
  Ok (record { kind = o.0.kind; site = o.0.site; frame = o.0.frame; control = o.0.control; entity = o.0.entity; slot = slot.0; value = c.0.value; units = c.0.units; uses = uses.0 }, uses.1)

-- ---- frames

-- the event that is all of a payload
unfoldable pub whole_at : Version → ℕ → List ℕ → Result Event DamageRule
whole_at v n payload = all_of (event_at v n payload)

-- a trace has no longer payload
abbrev pub payload_limit : ℕ
payload_limit = 1073741819

-- the length of the payload, and this
unfoldable pub payload_at : List ℕ → Read ℕ
payload_at bytes = do
  letter ← number_at w8 bytes
  rest ← passed (in_range (letter.0 == 69)) letter.1
  size ← at_most_at payload_limit rest
  if nat_lt (length size.1) size.0 then Err rule.Length else Ok (size.0, take size.0 size.1)

-- the event, and the length of its frame
unfoldable pub frame_at : Version → ℕ → List ℕ → Result (Event × ℕ) DamageRule
frame_at v n bytes = do
  payload ← payload_at bytes
  event ← whole_at v n payload.1
  Ok (event, 5 + payload.0)
