-- Events: what they used, and how a whole one is read by what is known of those before it.
use Rattle.std.specs.Prelude.{ℕ, zero, suc, nat_lt, List, [], ◌∷◌, length, Option, Ok, slice_get}
use Rattle.std.specs.Prelude.{None as Absent}
use Rattle.std.specs.Int.{w8, w32}
use Rattle.wy_kernel.specs.Limits.{event_limit}
use Rattle.wy_value.specs.declared.value.Value.TheVariants as val
use Rattle.wy_event.specs.declared.record.Kind.{Kind}
use Rattle.wy_event.specs.declared.record.Kind.TheVariants as kind
use Rattle.wy_event.specs.declared.record.Use.{Use}
use Rattle.wy_event.specs.declared.record.Use.TheVariants as used
use Rattle.wy_payload.specs.declared.ranges.Ranges.{Ranges}
use Rattle.wy_payload.specs.declared.known.Known.{Known}
use Rattle.wy_payload.specs.declared.known.Role.TheVariants as role
use Rattle.wy_payload.specs.declared.slot.SlotForm.TheVariants as forms
use Rattle.wy_payload.specs.declared.event.UseTag.{UseTag}
use Rattle.wy_payload.specs.declared.event.UseTag.TheVariants as tags
use Rattle.wy_payload.specs.declared.event.Origin.{Origin}
use Rattle.wy_payload.specs.declared.event.Content.{Content}
use Rattle.wy_payload.specs.declared.event.Written.{Written}
use Rattle.wy_payload.specs.Rules.{in_range, site_rule, entity_rule}
use Rattle.wy_payload.specs.Reading.{◌>>=◌, Read, passed, known_tag, number_at, below_at, at_most_at, optional_at, reference_at, rows_from}
use Rattle.wy_payload.specs.Places.{slot_at, slot_form}
use Rattle.wy_payload.specs.Values.{output_behind, units_at, value_at, value_form}

-- the tags 1 to 3
abbrev pub use_tag : ℕ → Option UseTag
use_tag zero = Absent
use_tag (suc n) = slice_get (tags.Place ∷ tags.Value ∷ tags.Choice ∷ []) n

unfoldable pub place_at : Ranges → List Known → List ℕ → Read Use
place_at r earlier bytes = do
  slot ← slot_at r earlier forms.Place bytes
  moment ← at_most_at (length earlier) slot.1
  Ok (used.Place slot.0 moment.0, moment.1)

-- behind its tag
unfoldable pub use_of : Ranges → List Known → UseTag → List ℕ → Read Use
use_of r earlier tags.Place rest = place_at r earlier rest
use_of r earlier tags.Value rest = do
  event ← below_at (length earlier) rest
  Ok (used.Value event.0, event.1)
use_of r earlier tags.Choice rest = do
  event ← reference_at role.Test earlier rest
  Ok (used.Choice event.0, event.1)

unfoldable pub use_at : Ranges → List Known → List ℕ → Read Use
use_at r earlier bytes = do
  b ← number_at w8 bytes
  tag ← known_tag (use_tag b.0) b.1
  use_of r earlier tag.0 tag.1

unfoldable pub uses_at : Ranges → List Known → List ℕ → Read (List Use)
uses_at r earlier bytes = do
  count ← number_at w32 bytes
  rows_from (use_at r earlier) count.0 count.1

-- ---- what an event is, where it stands, and what it has

-- the kinds 0 to 12
abbrev pub kinds : List Kind
kinds = kind.Init ∷ kind.New ∷ kind.Call ∷ kind.Bind ∷ kind.Set ∷ kind.Test ∷ kind.Text ∷ kind.Read ∷ kind.Print ∷ kind.Return ∷ kind.Jump ∷ kind.Throw ∷ kind.Catch ∷ []

-- there is room for one more event
unfoldable pub kind_at : List Known → List ℕ → Read Kind
kind_at earlier bytes = do
  b ← number_at w8 bytes
  kind ← known_tag (slice_get kinds b.0) b.1
  passed (in_range (nat_lt (length earlier) event_limit)) kind

unfoldable pub site_at : Ranges → List ℕ → Read ℕ
site_at r bytes = do
  n ← number_at w32 bytes
  passed (site_rule r n.0) n

unfoldable pub entity_at : Ranges → Kind → List ℕ → Read ℕ
entity_at r k bytes = do
  n ← number_at w32 bytes
  passed (entity_rule r k n.0) n

unfoldable pub origin_at : Ranges → List Known → List ℕ → Read Origin
origin_at r earlier bytes = do
  k ← kind_at earlier bytes
  site ← site_at r k.1
  frame ← optional_at role.Frame earlier site.1
  control ← optional_at role.Control earlier frame.1
  entity ← entity_at r k.0 control.1
  Ok (record { kind = k.0; site = site.0; frame = frame.0; control = control.0; entity = entity.0 }, entity.1)

-- the units of a Text, and the value of every other event
unfoldable pub content_at : Ranges → List Known → Kind → ℕ → List ℕ → Read Content
content_at r earlier kind.Text entity bytes = do
  units ← units_at bytes
  Ok (record { value = val.None; units = units.0 }, units.1)
content_at r earlier k entity bytes = do
  value ← value_at r earlier (value_form k entity) bytes
  Ok (record { value = value.0; units = [] }, value.1)

-- the event behind so much output, with the output behind it
unfoldable pub event_at : Ranges → List Known → ℕ → List ℕ → Read Written
event_at r earlier output bytes = do
  o ← origin_at r earlier bytes
  slot ← slot_at r earlier (slot_form o.0.kind) o.1
  c ← content_at r earlier o.0.kind o.0.entity slot.1
  total ← output_behind r earlier output o.0.kind o.0.site c.0.value
  uses ← uses_at r earlier c.1
  Ok (
    record {
      event = record { kind = o.0.kind; site = o.0.site; frame = o.0.frame; control = o.0.control; entity = o.0.entity; slot = slot.0; value = c.0.value; units = c.0.units; uses = uses.0 };
      output = total;
    },
    uses.1,
  )
