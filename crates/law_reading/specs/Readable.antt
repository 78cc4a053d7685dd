-- What a trace keeps so that a reader finds nothing wrong with it: what its head, events, coverage and end may say.
use Rattle.std.specs.Prelude.{◌≡◌, ℕ, ◌+◌, ◌<◌, ◌≤◌, true, false, List, [], ◌∷◌, ◌++◌, length, map, take, All, Option, Some, IfSome, slice_get}
use Rattle.std.specs.Prelude.{None as Absent}
use Rattle.wy_kernel.specs.declared.program.Program.{Program}
use Rattle.wy_kernel.specs.View.{NONE}
use Rattle.wy_value.specs.declared.value.Value.{Value}
use Rattle.wy_value.specs.declared.value.Value.TheVariants as val
use Rattle.wy_event.specs.declared.record.Cover.{Cover}
use Rattle.wy_event.specs.declared.record.Head.{Head}
use Rattle.wy_event.specs.declared.record.Slot.{Slot}
use Rattle.wy_event.specs.declared.record.Slot.TheVariants as slots
use Rattle.wy_event.specs.declared.record.Tail.{Tail}
use Rattle.wy_event.specs.declared.record.Use.{Use}
use Rattle.wy_event.specs.declared.record.Version.{Version}
use Rattle.wy_event.specs.declared.record.Use.TheVariants as used
use Rattle.wy_event.specs.Record.{Recorded}
use Rattle.wy_fitting.specs.Fits.{IsNumber, AllFit}
use Rattle.wy_payload.specs.declared.ranges.Ranges.{Ranges}
use Rattle.wy_payload.specs.declared.known.Known.{Known}
use Rattle.wy_payload.specs.declared.known.Role.{Role}
use Rattle.wy_payload.specs.declared.known.Role.TheVariants as role
use Rattle.wy_payload.specs.declared.slot.SlotForm.{SlotForm}
use Rattle.wy_payload.specs.declared.slot.SlotForm.TheVariants as place
use Rattle.wy_payload.specs.declared.slot.SlotTag.{SlotTag}
use Rattle.wy_payload.specs.declared.slot.SlotTag.TheVariants as slot_tag
use Rattle.wy_payload.specs.declared.value.ValueForm.{ValueForm}
use Rattle.wy_payload.specs.declared.value.ValueTag.{ValueTag}
use Rattle.wy_payload.specs.declared.value.ValueTag.TheVariants as value_tag
use Rattle.wy_payload.specs.Ranges.{known_as, ranges_of}
use Rattle.wy_payload.specs.Rules.{reference_rule, site_rule, entity_rule, locals_in, field_rule}
use Rattle.wy_payload.specs.Places.{slot_form, allows_slot}
use Rattle.wy_payload.specs.Values.{value_form, allows_value, arm_limit, int_rule, object_role, output_of}
use Rattle.wy_kernel.specs.Limits.{steps_limit, input_limit, source_limit, event_limit, output_limit, index_limit}
use Rattle.wy_payload.specs.Closing.{first_rule, cause_rule, last_rule}

-- ---- what is known of records

-- the number that stands for a number or for none
abbrev pub or_none : Option ℕ → ℕ
or_none Absent = NONE
or_none (Some n) = n

-- of a record what later ones may refer to
abbrev pub known_in : Recorded → Known
known_in e = known_as e.kind (or_none e.entity) e.units

-- of the records before record n
abbrev pub known_before : List Recorded → ℕ → List Known
known_before rs n = map known_in (take n rs)

-- ---- parts of a record

-- the number of an earlier event that has this role
abbrev pub Refers : Role → List Known → ℕ → Type 0
Refers r earlier n = reference_rule r earlier n ≡ Absent

abbrev pub tag_of_slot : Slot → SlotTag
tag_of_slot slots.None = slot_tag.None
tag_of_slot (slots.Local frame index) = slot_tag.Local
tag_of_slot (slots.Static field) = slot_tag.Static
tag_of_slot (slots.Field object field) = slot_tag.Field
tag_of_slot (slots.Elem array index) = slot_tag.Elem

-- a local is one of its frame's body, and a field is declared so
abbrev pub SlotIsThere : Ranges → List Known → Slot → Type 0
SlotIsThere r earlier slots.None = Unit {0}
SlotIsThere r earlier (slots.Local frame index) = Refers role.Frame earlier frame × index < locals_in r (slice_get earlier frame)
SlotIsThere r earlier (slots.Static field) = field_rule r true field ≡ Absent
SlotIsThere r earlier (slots.Field object field) = Refers role.Object earlier object × (field_rule r false field ≡ Absent)
SlotIsThere r earlier (slots.Elem array index) = Refers role.Array earlier array × index < index_limit

-- and it may stand here
pub record SlotMayStand (r : Ranges) (earlier : List Known) (wanted : SlotForm) (x : Slot) : Type 0 where
  pub form : allows_slot wanted (tag_of_slot x) ≡ true
  pub there : SlotIsThere r earlier x

abbrev pub tag_of_value : Value → ValueTag
tag_of_value val.None = value_tag.None
tag_of_value (val.Bool b) = value_tag.Bool
tag_of_value (val.Byte z) = value_tag.Byte
tag_of_value (val.Short z) = value_tag.Short
tag_of_value (val.Char unit) = value_tag.Char
tag_of_value (val.Int z) = value_tag.Int
tag_of_value (val.Long z) = value_tag.Long
tag_of_value val.Null = value_tag.Null
tag_of_value (val.Object n) = value_tag.Object
tag_of_value (val.Text n) = value_tag.Text
tag_of_value (val.Fixed n) = value_tag.Fixed
tag_of_value (val.Arm n) = value_tag.Arm

-- an int is a length or an input byte where one is wanted, what a value refers to is there, and an arm is that of a truth
abbrev pub ValueIsThere : Ranges → List Known → ValueForm → Value → Type 0
ValueIsThere r earlier wanted (val.Int z) = int_rule wanted z ≡ Absent
ValueIsThere r earlier wanted (val.Object n) = Refers (object_role wanted) earlier n
ValueIsThere r earlier wanted (val.Text n) = Refers role.Text earlier n
ValueIsThere r earlier wanted (val.Fixed n) = n < length r.fixed
ValueIsThere r earlier wanted (val.Arm n) = n < arm_limit
ValueIsThere r earlier wanted _ = Unit {0}

-- and it may stand here
pub record ValueMayStand (r : Ranges) (earlier : List Known) (wanted : ValueForm) (v : Value) : Type 0 where
  pub form : allows_value wanted (tag_of_value v) ≡ true
  pub there : ValueIsThere r earlier wanted v

-- a moment may be the record's own number
abbrev pub UseMayStand : Ranges → List Known → Use → Type 0
UseMayStand r earlier (used.Place x moment) = SlotMayStand r earlier place.Place x × moment ≤ length earlier
UseMayStand r earlier (used.Value event) = event < length earlier
UseMayStand r earlier (used.Choice event) = Refers role.Test earlier event

-- ---- records

-- behind what is known of those before it
pub record MayStand (r : Ranges) (earlier : List Known) (e : Recorded) : Type 0 where
  pub site : site_rule r e.site ≡ Absent
  pub frame : IfSome e.frame (Refers role.Frame earlier)
  pub control : IfSome e.control (Refers role.Control earlier)
  pub entity : entity_rule r e.kind (or_none e.entity) ≡ Absent
  pub slot : SlotMayStand r earlier (slot_form e.kind) e.slot
  pub value : ValueMayStand r earlier (value_form e.kind (or_none e.entity)) e.value
  pub uses : All (UseMayStand r earlier) e.uses

-- each behind those before it
abbrev pub AllMayStand : Ranges → List Recorded → Type 0
AllMayStand r rs = (n : ℕ) (e : Recorded) → slice_get rs n ≡ Some e → MayStand r (known_before rs n) e

-- the bytes that records print behind what is known of those before them
unfoldable pub printed : Ranges → List Known → List Recorded → ℕ
printed r earlier [] = 0
printed r earlier (e ∷ rest) = output_of r earlier e.kind e.site e.value + printed r (earlier ++ known_in e ∷ []) rest

unfoldable pub uses_in : List Recorded → ℕ
uses_in [] = 0
uses_in (e ∷ rest) = length e.uses + uses_in rest

-- ---- head, coverage and end

pub record HeadMayStand (head : Head) : Type 0 where
  pub some_steps : 1 ≤ head.steps
  pub steps : head.steps ≤ steps_limit
  pub input : length head.input ≤ input_limit
  pub source : length head.source ≤ source_limit

-- a statement ended no more often than it began, first began at a moment of the run, and was left by what leaves statements
pub record CoverMayStand (earlier : List Known) (c : Cover) : Type 0 where
  pub begins : IsNumber c.begins
  pub ends : c.ends ≤ c.begins
  pub first : first_rule c.begins (length earlier) c.first ≡ Absent
  pub cause : cause_rule earlier c.cause ≡ Absent

-- of a program with so many statements and a run that had so many steps, behind what is known of its events
pub record EndMayStand (statements budget : ℕ) (earlier : List Known) (end : Tail) : Type 0 where
  pub each_covered : length end.coverage.statements ≡ statements
  pub covers : All (CoverMayStand earlier) end.coverage.statements
  pub stop : end.stop ≤ 11
  pub last : last_rule earlier end.stop end.last ≡ Absent
  pub steps : end.steps ≤ budget

-- an end counts the events, what they used, and what they printed
pub record CountsAre (r : Ranges) (rs : List Recorded) (end : Tail) : Type 0 where
  pub events : end.events ≡ length rs
  pub uses : end.uses ≡ uses_in rs
  pub output : end.output ≡ printed r [] rs

-- ---- a trace

-- the trace of a run keeps every rule of a reader of a version
pub record IsReadable (v : Version) (p : Program) (head : Head) (rs : List Recorded) (end : Tail) : Type 0 where
  pub head_stands : HeadMayStand head
  pub fit : AllFit rs
  pub few : length rs ≤ event_limit
  pub events_stand : AllMayStand (ranges_of v p) rs
  pub little_output : printed (ranges_of v p) [] rs ≤ output_limit
  pub end_stands : EndMayStand p.statements head.steps (map known_in rs) end
  pub counts : CountsAre (ranges_of v p) rs end
