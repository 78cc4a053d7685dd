-- An event that is read keeps the rules, and is counted.
use Rattle.std.proofs.Common.{◌≡◌, ℕ, ◌+◌, ◌≤◌, Bool, true, false, cond, eqb, List, All, refl, sym, subst}
use Rattle.std.specs.Prelude.{None as Absent}
use Rattle.std.specs.Prelude.{IfOk, IfSome, Some, nat_le}
use Rattle.std.specs.Int.{w32}
use Rattle.std.proofs.lemmas.Bool.{eqb-true, leb-true}
use Rattle.wy_kernel.specs.Limits.{output_limit}
use Rattle.wy_kernel.specs.View.{NONE, present}
use Rattle.wy_value.specs.declared.value.Value.{Value}
use Rattle.wy_event.specs.declared.record.Event.{Event}
use Rattle.wy_event.specs.declared.record.Kind.{Kind}
use Rattle.wy_event.specs.declared.record.Kind.TheVariants as kind
use Rattle.wy_event.specs.declared.record.Slot.{Slot}
use Rattle.wy_event.specs.declared.record.Use.{Use}
use Rattle.wy_event.specs.Record.{recorded}
use Rattle.wy_payload.specs.declared.ranges.Ranges.{Ranges}
use Rattle.wy_payload.specs.declared.known.Known.{Known}
use Rattle.wy_payload.specs.declared.known.Role.TheVariants as role
use Rattle.wy_payload.specs.declared.event.Content.{Content}
use Rattle.wy_payload.specs.declared.event.Origin.{Origin}
use Rattle.wy_payload.specs.declared.event.Written.{Written}
use Rattle.wy_payload.specs.Ranges.{known_of}
use Rattle.wy_payload.specs.Rules.{entity_rule, in_range, site_rule}
use Rattle.wy_payload.specs.Reading.{number_at, optional_at}
use Rattle.wy_payload.specs.Places.{slot_at, slot_form}
use Rattle.wy_payload.specs.Values.{output_behind, output_of, units_at, value_at, value_form}
use Rattle.wy_payload.specs.Events.{content_at, entity_at, event_at, kind_at, origin_at, site_at, uses_at}
use Rattle.wy_payload.proofs.Readers.{then_has}
use Rattle.law_reading.specs.Readable.{MayStand, Refers, SlotMayStand, UseMayStand, ValueMayStand, known_in, or_none}
use Rattle.law_reading.proofs.ReferringNumbers.{Has, after, in_range_is, passed_has}
use Rattle.law_migrated.proofs.Fields.{optional_refers, slot_has, uses_have, value_has}

-- a number that may stand for none
none_again : (n : ℕ) → or_none (present n) ≡ n
unfolding present
none_again n = by (eqb n NONE) refl
  where
    by : (b : Bool) → eqb n NONE ≡ b → or_none (cond b Absent (Some n)) ≡ n
    by true is = sym (eqb-true n NONE is)
    by false is = refl

pub known_again : (e : Event) → known_of e ≡ known_in (recorded e)
unfolding recorded
known_again e = rw (none_again e.entity) refl

-- ---- origin

record OriginStands (r : Ranges) (earlier : List Known) (o : Origin) : Type 0 where
  site : site_rule r o.site ≡ Absent
  frame : IfSome (present o.frame) (Refers role.Frame earlier)
  control : IfSome (present o.control) (Refers role.Control earlier)
  entity : entity_rule r o.kind o.entity ≡ Absent

site_has : (r : Ranges) (bytes : List ℕ) → Has (λ n. site_rule r n ≡ Absent) (site_at r bytes)
unfolding site_at
site_has r bytes = after (number_at w32 bytes) _ _ (λ n. passed_has (site_rule r n.0) n (λ (m : ℕ × List ℕ). site_rule r m.0 ≡ Absent) (λ ok. ok))

entity_has : (r : Ranges) (k : Kind) (bytes : List ℕ) → Has (λ n. entity_rule r k n ≡ Absent) (entity_at r k bytes)
unfolding entity_at
entity_has r k bytes = after (number_at w32 bytes) _ _ (λ n. passed_has (entity_rule r k n.0) n (λ (m : ℕ × List ℕ). entity_rule r k m.0 ≡ Absent) (λ ok. ok))

origin_has : (r : Ranges) (earlier : List Known) (bytes : List ℕ) → Has (OriginStands r earlier) (origin_at r earlier bytes)
unfolding origin_at
origin_has r earlier bytes =
    after (kind_at earlier bytes) _ _ (λ k.
    then_has (site_at r k.1) _ _ _ (site_has r k.1) (λ site placed.
    then_has (optional_at role.Frame earlier site.1) _ _ _ (optional_refers role.Frame earlier site.1) (λ frame enters.
    then_has (optional_at role.Control earlier frame.1) _ _ _ (optional_refers role.Control earlier frame.1) (λ control steers.
    then_has (entity_at r k.0 control.1) _ _ _ (entity_has r k.0 control.1) (λ entity is. record { site = placed; frame = enters; control = steers; entity = is })))))

-- ---- content and output

content_has : (r : Ranges) (earlier : List Known) (k : Kind) (entity : ℕ) (bytes : List ℕ) → Has (λ (c : Content). ValueMayStand r earlier (value_form k entity) c.value) (content_at r earlier k entity bytes)
unfolding content_at
content_has r earlier kind.Text entity bytes = after (units_at bytes) _ _ (λ units. record { form = refl; there = tt })
content_has r earlier k entity bytes = then_has (value_at r earlier (value_form k entity) bytes) _ _ _ (value_has r earlier (value_form k entity) bytes) (λ value may. may)

output_has : (r : Ranges) (earlier : List Known) (output : ℕ) (k : Kind) (site : ℕ) (v : Value) → IfOk (output_behind r earlier output k site v) (λ t. (t ≡ output + output_of r earlier k site v) × t ≤ output_limit)
unfolding output_behind
output_has r earlier output k site v =
    let total = output + output_of r earlier k site v in
    passed_has (in_range (nat_le total output_limit)) total (λ t. (t ≡ total) × t ≤ output_limit) (λ ok. (refl, leb-true total output_limit (in_range_is (nat_le total output_limit) ok)))

-- ---- events

pub record EventStands (r : Ranges) (earlier : List Known) (output : ℕ) (w : Written) : Type 0 where
  pub may : MayStand r earlier (recorded w.event)
  pub total : w.output ≡ output + output_of r earlier w.event.kind w.event.site w.event.value
  pub little : w.output ≤ output_limit

event_may : (r : Ranges) (earlier : List Known) (o : Origin) (slot : Slot) (c : Content) (uses : List Use) → OriginStands r earlier o → SlotMayStand r earlier (slot_form o.kind) slot → ValueMayStand r earlier (value_form o.kind o.entity) c.value → All (UseMayStand r earlier) uses
    → MayStand r earlier (recorded (record { kind = o.kind; site = o.site; frame = o.frame; control = o.control; entity = o.entity; slot = slot; value = c.value; units = c.units; uses = uses }))
unfolding recorded
event_may r earlier o slot c uses origin place value are = record {
  site = origin.site;
  frame = origin.frame;
  control = origin.control;
  entity = subst (λ n. entity_rule r o.kind n ≡ Absent) (sym (none_again o.entity)) origin.entity;
  slot = place;
  value = subst (λ n. ValueMayStand r earlier (value_form o.kind n) c.value) (sym (none_again o.entity)) value;
  uses = are;
}

pub event_has : (r : Ranges) (earlier : List Known) (output : ℕ) (bytes : List ℕ) → Has (EventStands r earlier output) (event_at r earlier output bytes)
unfolding event_at
event_has r earlier output bytes =
    then_has (origin_at r earlier bytes) _ _ _ (origin_has r earlier bytes) (λ o origin.
    then_has (slot_at r earlier (slot_form o.0.kind) o.1) _ _ _ (slot_has r earlier (slot_form o.0.kind) o.1) (λ slot place.
    then_has (content_at r earlier o.0.kind o.0.entity slot.1) _ _ _ (content_has r earlier o.0.kind o.0.entity slot.1) (λ c value.
    then_has (output_behind r earlier output o.0.kind o.0.site c.0.value) _ (λ t. (t ≡ output + output_of r earlier o.0.kind o.0.site c.0.value) × t ≤ output_limit) _ (output_has r earlier output o.0.kind o.0.site c.0.value) (λ total counted.
    then_has (uses_at r earlier c.1) _ _ _ (uses_have r earlier c.1) (λ uses are.
    record { may = event_may r earlier o.0 slot.0 c.0 uses.0 origin place value are; total = counted.0; little = counted.1 })))))
