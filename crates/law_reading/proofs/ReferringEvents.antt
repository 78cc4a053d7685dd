-- What an event that is read refers to.
use Rattle.std.proofs.Common.{ℕ, ◌<◌, List, length}
use Rattle.std.specs.Prelude.{nat_lt, slice_get}
use Rattle.std.specs.Int.{w8}
use Rattle.std.proofs.lemmas.Bool.{ltb-true}
use Rattle.wy_event.specs.declared.record.Kind.{Kind}
use Rattle.wy_event.specs.declared.record.Kind.TheVariants as kind
use Rattle.wy_event.specs.Record.{recorded}
use Rattle.wy_kernel.specs.View.{present}
use Rattle.wy_view.specs.References.{OptionBelow, ValueBelow, RefersBelow}
use Rattle.wy_payload.specs.declared.ranges.Ranges.{Ranges}
use Rattle.wy_payload.specs.declared.known.Known.{Known}
use Rattle.wy_payload.specs.declared.known.Role.TheVariants as role
use Rattle.wy_payload.specs.declared.event.Origin.{Origin}
use Rattle.wy_payload.specs.declared.event.Content.{Content}
use Rattle.wy_payload.specs.declared.event.Written.{Written}
use Rattle.wy_payload.specs.Rules.{in_range}
use Rattle.wy_payload.specs.Reading.{known_tag, number_at, optional_at}
use Rattle.wy_payload.specs.Places.{slot_at, slot_form}
use Rattle.wy_payload.specs.Values.{output_behind, units_at, value_at, value_form}
use Rattle.wy_kernel.specs.Limits.{event_limit}
use Rattle.wy_payload.specs.Events.{kinds, kind_at, site_at, entity_at, origin_at, content_at, uses_at, event_at}
use Rattle.wy_payload.proofs.Readers.{then_has}
use Rattle.law_reading.proofs.ReferringNumbers.{Has, after, passed_has, in_range_is, optional_has}
use Rattle.law_reading.proofs.Fields.{slot_has, value_has, uses_have}

-- there is room for it
kind_has : (earlier : List Known) (bytes : List ℕ) → Has (λ _. length earlier < event_limit) (kind_at earlier bytes)
unfolding kind_at
kind_has earlier bytes = after (number_at w8 bytes) _ _ (λ b. after (known_tag (slice_get kinds b.0) b.1) _ _ (λ kind. passed_has (in_range (nat_lt (length earlier) event_limit)) kind (λ _. length earlier < event_limit) (λ ok. ltb-true (length earlier) event_limit (in_range_is (nat_lt (length earlier) event_limit) ok))))

record OriginBelow (n : ℕ) (o : Origin) : Type 0 where
  room : n < event_limit
  frame : OptionBelow n (present o.frame)
  control : OptionBelow n (present o.control)

origin_has : (r : Ranges) (earlier : List Known) (bytes : List ℕ) → Has (OriginBelow (length earlier)) (origin_at r earlier bytes)
unfolding origin_at
origin_has r earlier bytes =
    then_has (kind_at earlier bytes) _ _ _ (kind_has earlier bytes) (λ k room.
    after (site_at r k.1) _ _ (λ site.
    then_has (optional_at role.Frame earlier site.1) _ _ _ (optional_has role.Frame earlier site.1) (λ frame enters.
    then_has (optional_at role.Control earlier frame.1) _ _ _ (optional_has role.Control earlier frame.1) (λ control steers.
    after (entity_at r k.0 control.1) _ _ (λ entity. record { room = room; frame = enters; control = steers })))))

content_has : (r : Ranges) (earlier : List Known) (k : Kind) (entity : ℕ) (bytes : List ℕ) → Has (λ (c : Content). ValueBelow (length earlier) c.value) (content_at r earlier k entity bytes)
unfolding content_at
content_has r earlier kind.Text entity bytes = after (units_at bytes) _ _ (λ units. tt)
content_has r earlier k entity bytes = then_has (value_at r earlier (value_form k entity) bytes) _ _ _ (value_has r earlier (value_form k entity) bytes) (λ value below. below)

-- it stands in its place
pub record Stands (n : ℕ) (w : Written) : Type 0 where
  pub room : n < event_limit
  pub refers : RefersBelow n (recorded w.event)

pub event_has : (r : Ranges) (earlier : List Known) (output : ℕ) (bytes : List ℕ) → Has (Stands (length earlier)) (event_at r earlier output bytes)
unfolding event_at recorded
event_has r earlier output bytes =
    then_has (origin_at r earlier bytes) _ _ _ (origin_has r earlier bytes) (λ o origin.
    then_has (slot_at r earlier (slot_form o.0.kind) o.1) _ _ _ (slot_has r earlier (slot_form o.0.kind) o.1) (λ slot place.
    then_has (content_at r earlier o.0.kind o.0.entity slot.1) _ _ _ (content_has r earlier o.0.kind o.0.entity slot.1) (λ c value.
    after (output_behind r earlier output o.0.kind o.0.site c.0.value) _ _ (λ total.
    then_has (uses_at r earlier c.1) _ _ _ (uses_have r earlier c.1) (λ uses are.
    record { room = origin.room; refers = record { frame = origin.frame; control = origin.control; slot = place; value = value; uses = are } })))))
