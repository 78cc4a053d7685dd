-- A whole event is read.
use Rattle.std.proofs.Common.{◌≡◌, ℕ, ◌+◌, ◌<◌, ◌≤◌, ◌^◌, Bool, true, false, cond, eqb, List, [], ◌∷◌, ◌++◌, length, Option, Some, Ok, refl, sym, ap, ◌∙◌, append-nil, arith, All}
use Rattle.std.specs.Prelude.{None as Absent}
use Rattle.std.specs.Prelude.{nat_lt, nat_le, slice_get}
use Rattle.std.proofs.lemmas.Bool.{eqb-true, lt-ltb, le-leb}
use Rattle.wy_kernel.specs.View.{NONE, present}
use Rattle.wy_value.specs.declared.value.Value.{Value}
use Rattle.wy_event.specs.declared.record.Version.{Version}
use Rattle.wy_event.specs.declared.record.Event.{Event}
use Rattle.wy_event.specs.declared.record.Kind.{Kind}
use Rattle.wy_event.specs.declared.record.Kind.TheVariants as kind
use Rattle.wy_event.specs.Record.{Recorded, recorded}
use Rattle.wy_fitting.specs.Fits.{IsUnit, IsPresent, ValueFits, Fits, told_value, told_units, told}
use Rattle.wy_spelling.specs.Spelling.{number, kind_number, slot_bytes, content_bytes, uses_bytes, origin_bytes, event_payload}
use Rattle.wy_spelling.proofs.Lengths.{units_are_few}
use Rattle.wy_payload.specs.declared.ranges.Ranges.{Ranges}
use Rattle.wy_payload.specs.declared.known.Known.{Known}
use Rattle.wy_payload.specs.declared.known.Role.TheVariants as role
use Rattle.wy_payload.specs.declared.value.ValueForm.TheVariants as form
use Rattle.wy_payload.specs.declared.event.Origin.{Origin}
use Rattle.wy_payload.specs.declared.event.Content.{Content}
use Rattle.wy_payload.specs.declared.event.Written.{Written}
use Rattle.wy_payload.specs.Rules.{in_range, site_rule, entity_rule}
use Rattle.wy_payload.specs.Ranges.{known_as, known_of}
use Rattle.wy_payload.specs.Reading.{Read, passed, optional_at, all_of}
use Rattle.wy_payload.specs.Places.{slot_at, slot_form}
use Rattle.wy_payload.specs.Values.{value_form, output_of, output_behind, units_at, value_at}
use Rattle.wy_kernel.specs.Limits.{event_limit, output_limit}
use Rattle.wy_payload.specs.Events.{kinds, kind_at, site_at, entity_at, origin_at, content_at, uses_at, event_at}
use Rattle.law_reading.specs.Readable.{or_none, known_in, ValueMayStand, MayStand}
use Rattle.law_reading.proofs.ReadableSteps.{Reads, then_is, passes, ranged, checked_is, tag_is}
use Rattle.law_reading.proofs.Parts.{or_none_spelled, or_none_small, optional_is, slot_is}
use Rattle.law_reading.proofs.ReadableValues.{value_is, units_are, uses_are}
use Rattle.law_reading.proofs.Told.{told_by_form, told_stays}
use Rattle.wy_payload.proofs.Tags.{kind_known}
use Rattle.law_reading.proofs.EventLengths.{parts_short}

-- ---- origins

kind_is : (earlier : List Known) (k : Kind) (rest : List ℕ) → length earlier < event_limit → Reads (kind_at earlier (kind_number k ∷ rest)) k rest
unfolding kind_at
kind_is earlier k rest room = tag_is (slice_get kinds) k (kind_number k) rest (kind_known k) _ _ (passes (in_range (nat_lt (length earlier) event_limit)) (k, rest) (ranged (nat_lt (length earlier) event_limit) (lt-ltb (length earlier) event_limit room)))

site_is : (r : Ranges) (n : ℕ) (rest : List ℕ) → n < 2 ^ 32 → site_rule r n ≡ Absent → Reads (site_at r (number n ++ rest)) n rest
unfolding site_at
site_is r n rest small keeps = checked_is (site_rule r) n rest small keeps

entity_is : (r : Ranges) (k : Kind) (n : ℕ) (rest : List ℕ) → n < 2 ^ 32 → entity_rule r k n ≡ Absent → Reads (entity_at r k (number n ++ rest)) n rest
unfolding entity_at
entity_is r k n rest small keeps = checked_is (entity_rule r k) n rest small keeps

abbrev origin_of : Recorded → Origin
origin_of e = record { kind = e.kind; site = e.site; frame = or_none e.frame; control = or_none e.control; entity = or_none e.entity }

origin_parts : (e : Recorded) (rest : List ℕ) → origin_bytes e ++ rest ≡ kind_number e.kind ∷ number e.site ++ (number (or_none e.frame) ++ (number (or_none e.control) ++ (number (or_none e.entity) ++ rest)))
unfolding origin_bytes
origin_parts e rest = rw (or_none_spelled e.frame, or_none_spelled e.control, or_none_spelled e.entity) refl

origin_is : (r : Ranges) (earlier : List Known) (e : Recorded) (rest : List ℕ) → Fits e → MayStand r earlier e → length earlier < event_limit → Reads (origin_at r earlier (origin_bytes e ++ rest)) (origin_of e) rest
unfolding origin_at
origin_is r earlier e rest fit may room =
    let d = number (or_none e.entity) ++ rest in
    let c = number (or_none e.control) ++ d in
    let b = number (or_none e.frame) ++ c in
    let a = number e.site ++ b in
    ap (origin_at r earlier) (origin_parts e rest)
    ∙ then_is (kind_at earlier (kind_number e.kind ∷ a)) _ (e.kind, a) _ (kind_is earlier e.kind a room)
    (then_is (site_at r a) _ (e.site, b) _ (site_is r e.site b fit.site may.site)
    (then_is (optional_at role.Frame earlier b) _ (or_none e.frame, c) _ (optional_is role.Frame earlier e.frame c fit.frame may.frame)
    (then_is (optional_at role.Control earlier c) _ (or_none e.control, d) _ (optional_is role.Control earlier e.control d fit.control may.control)
    (then_is (entity_at r e.kind d) _ (or_none e.entity, rest) _ (entity_is r e.kind (or_none e.entity) rest (or_none_small e.entity fit.entity) may.entity) refl))))

-- ---- contents

abbrev content_of : Version → Recorded → Content
content_of v e = record { value = told_value v e.kind e.value; units = told_units e.kind e.units }

-- the content of an event that is no Text
valued : List ℕ → Value → Read Content
valued rest x = Ok (record { value = x; units = [] }, rest)

content_is : (r : Ranges) (earlier : List Known) (k : Kind) (entity : ℕ) (v : Value) (units rest : List ℕ) → ValueFits v → All IsUnit units → ValueMayStand r earlier (value_form k entity) v → length (content_bytes r.version k v units) < 2 ^ 32
    → Reads (content_at r earlier k entity (content_bytes r.version k v units ++ rest)) (record { value = told_value r.version k v; units = told_units k units }) rest
unfolding content_at valued
content_is r earlier kind.Text entity v units rest value fit may short = then_is (units_at (content_bytes r.version kind.Text v units ++ rest)) _ (units, rest) _ (units_are units rest fit (units_are_few units short)) refl
content_is r earlier k entity v units rest value fit may short =
    then_is (value_at r earlier (value_form k entity) (content_bytes r.version k v units ++ rest)) _ (v, rest) _ (value_is r earlier (value_form k entity) v rest value may)
    (ap (valued rest) (sym (told_stays r earlier r.version (value_form k entity) v may) ∙ told_by_form r.version k entity v tt))

-- ---- what it prints

told_output : (r : Ranges) (earlier : List Known) (k : Kind) (entity site : ℕ) (v : Value) → ValueMayStand r earlier (value_form k entity) v → output_of r earlier k site (told_value r.version k v) ≡ output_of r earlier k site v
unfolding output_of
told_output r earlier kind.Print entity site v may = ap (output_of r earlier kind.Print site) (told_stays r earlier r.version form.Printed v may)
told_output r earlier _ entity site v may = refl

output_is : (r : Ranges) (earlier : List Known) (output : ℕ) (k : Kind) (entity site : ℕ) (v : Value) → ValueMayStand r earlier (value_form k entity) v → output + output_of r earlier k site v ≤ output_limit
    → output_behind r earlier output k site (told_value r.version k v) ≡ Ok (output + output_of r earlier k site v)
unfolding output_behind
output_is r earlier output k entity site v may within =
    let total = output + output_of r earlier k site v in
    ap (λ n. passed (in_range (nat_le (output + n) output_limit)) (output + n)) (told_output r earlier k entity site v may)
    ∙ passes (in_range (nat_le total output_limit)) total (ranged (nat_le total output_limit) (le-leb total output_limit within))

-- ---- events

-- a record as it stands in memory once it is read
abbrev pub event_of : Version → Recorded → Event
event_of v e = record { kind = e.kind; site = e.site; frame = or_none e.frame; control = or_none e.control; entity = or_none e.entity; slot = e.slot; value = told_value v e.kind e.value; units = told_units e.kind e.units; uses = e.uses }

abbrev pub written_of : Ranges → List Known → ℕ → Recorded → Written
written_of r earlier output e = record { event = event_of r.version e; output = output + output_of r earlier e.kind e.site e.value }

event_parts : (v : Version) (e : Recorded) → event_payload v e ≡ origin_bytes e ++ (slot_bytes e.slot ++ (content_bytes v e.kind e.value e.units ++ (uses_bytes e.uses ++ [])))
unfolding event_payload
event_parts v e = rw (append-nil (uses_bytes e.uses)) refl

-- a record behind those before it
pub record Behind (r : Ranges) (earlier : List Known) (output : ℕ) (e : Recorded) : Type 0 where
  pub fit : Fits e
  pub may : MayStand r earlier e
  pub room : length earlier < event_limit
  pub printed : output + output_of r earlier e.kind e.site e.value ≤ output_limit
  pub short : length (event_payload r.version e) < 2 ^ 32

event_is : (r : Ranges) (earlier : List Known) (output : ℕ) (e : Recorded) → Behind r earlier output e → Reads (event_at r earlier output (event_payload r.version e)) (written_of r earlier output e) []
unfolding event_at
event_is r earlier output e h =
    let parts = parts_short r.version e h.short in
    let c = uses_bytes e.uses ++ [] in
    let b = content_bytes r.version e.kind e.value e.units ++ c in
    let a = slot_bytes e.slot ++ b in
    let content = content_of r.version e in
    let total = output + output_of r earlier e.kind e.site e.value in
    ap (event_at r earlier output) (event_parts r.version e)
    ∙ then_is (origin_at r earlier (origin_bytes e ++ a)) _ (origin_of e, a) _ (origin_is r earlier e a h.fit h.may h.room)
    (then_is (slot_at r earlier (slot_form e.kind) a) _ (e.slot, b) _ (slot_is r earlier (slot_form e.kind) e.slot b h.fit.slot h.may.slot)
    (then_is (content_at r earlier e.kind (or_none e.entity) b) _ (content, c) _ (content_is r earlier e.kind (or_none e.entity) e.value e.units c h.fit.value h.fit.units h.may.value parts.content)
    (then_is (output_behind r earlier output e.kind e.site content.value) _ total _ (output_is r earlier output e.kind (or_none e.entity) e.site e.value h.may.value h.printed)
    (then_is (uses_at r earlier c) _ (e.uses, []) _ (uses_are r earlier e.uses [] h.fit.uses h.may.uses parts.uses) refl))))

pub whole_event : (r : Ranges) (earlier : List Known) (output : ℕ) (e : Recorded) → Behind r earlier output e → all_of (event_at r earlier output (event_payload r.version e)) ≡ Ok (written_of r earlier output e)
whole_event r earlier output e h = ap all_of (event_is r earlier output e h)

-- ---- what is kept of it

-- a number that is there is not taken for one that is not
some_present : (n : ℕ) (b : Bool) → n < NONE → eqb n NONE ≡ b → cond b Absent (Some n) ≡ Some n
some_present n true small e = absurd (omega (arith, small, eqb-true n NONE e))
some_present n false small e = refl

or_none_present : (o : Option ℕ) → IsPresent o → present (or_none o) ≡ o
unfolding present
or_none_present Absent fit = refl
or_none_present (Some n) fit = some_present n (eqb n NONE) fit refl

pub event_told : (v : Version) (e : Recorded) → Fits e → recorded (event_of v e) ≡ told v e
unfolding recorded told
event_told v e fit = rw (or_none_present e.frame fit.frame, or_none_present e.control fit.control, or_none_present e.entity fit.entity) refl

known_told : (k : Kind) (entity : ℕ) (units : List ℕ) → known_as k entity (told_units k units) ≡ known_as k entity units
known_told kind.Text entity units = refl
known_told _ entity units = refl

pub event_known : (v : Version) (e : Recorded) → known_of (event_of v e) ≡ known_in e
event_known v e = known_told e.kind (or_none e.entity) e.units
