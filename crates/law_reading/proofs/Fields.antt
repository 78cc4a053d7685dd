-- What slots, values and uses that are read refer to.
use Rattle.std.proofs.Common.{ℕ, zero, suc, true, false, List, length}
use Rattle.std.specs.Prelude.{slice_get, nat_lt, ◌==◌}
use Rattle.std.specs.Int.{w8, w16, w32, w64, cast_signed}
use Rattle.wy_value.specs.declared.value.Value.{Value}
use Rattle.wy_value.specs.declared.value.Value.TheVariants as val
use Rattle.wy_event.specs.declared.record.Version.{Version}
use Rattle.wy_event.specs.declared.record.Slot.{Slot}
use Rattle.wy_event.specs.declared.record.Slot.TheVariants as slots
use Rattle.wy_event.specs.declared.record.Use.{Use}
use Rattle.wy_view.specs.References.{ValueBelow, SlotBelow, UseBelow, UsesBelow}
use Rattle.wy_payload.specs.declared.ranges.Ranges.{Ranges}
use Rattle.wy_payload.specs.declared.known.Known.{Known}
use Rattle.wy_payload.specs.declared.known.Role.TheVariants as role
use Rattle.wy_payload.specs.declared.slot.SlotTag.{SlotTag}
use Rattle.wy_payload.specs.declared.slot.SlotTag.TheVariants as slot_tag
use Rattle.wy_payload.specs.declared.slot.SlotForm.{SlotForm}
use Rattle.wy_payload.specs.declared.slot.SlotForm.TheVariants as form
use Rattle.wy_payload.specs.declared.value.ValueTag.{ValueTag}
use Rattle.wy_payload.specs.declared.value.ValueTag.TheVariants as value_tag
use Rattle.wy_payload.specs.declared.value.ValueForm.{ValueForm}
use Rattle.wy_payload.specs.declared.event.UseTag.{UseTag}
use Rattle.wy_payload.specs.declared.event.UseTag.TheVariants as use_tag
use Rattle.wy_kernel.specs.Limits.{index_limit}
use Rattle.wy_payload.specs.Rules.{in_range, local_rule, field_rule}
use Rattle.wy_payload.specs.Reading.{Read, passed, known_tag, number_at, rows_from, reference_at, below_at, at_most_at}
use Rattle.wy_payload.specs.Places.{slot_tags, allows_slot, local_at, static_at, field_at, element_at, slot_of, slot_at}
use Rattle.wy_payload.specs.Values.{arm_at, arm_limit, arm_width, int_rule, value_tag as tag_in, allows_value, bool_at, int_at, plain_at, object_role, object_at, text_at, fixed_at, value_of, value_at}
use Rattle.wy_payload.specs.Events.{use_tag as tag_of, place_at, use_of, use_at, uses_at}
use Rattle.wy_payload.proofs.Readers.{then_has}
use Rattle.law_reading.proofs.ReferringNumbers.{Has, after, passed_has, reference_has, below_has, at_most_has}

-- ---- slots

local_has : (r : Ranges) (earlier : List Known) (bytes : List ℕ) → Has (SlotBelow (length earlier)) (local_at r earlier bytes)
unfolding local_at
local_has r earlier bytes = then_has (reference_at role.Frame earlier bytes) _ _ _ (reference_has role.Frame earlier bytes) (λ frame below. after (number_at w32 frame.1) _ _ (λ index. passed_has (local_rule r earlier frame.0 index.0) (slots.Local frame.0 index.0, index.1) (λ (x : Slot × List ℕ). SlotBelow (length earlier) x.0) (λ _. below)))

static_has : (r : Ranges) (earlier : List Known) (bytes : List ℕ) → Has (SlotBelow (length earlier)) (static_at r bytes)
unfolding static_at
static_has r earlier bytes = after (number_at w32 bytes) _ _ (λ field. passed_has (field_rule r true field.0) (slots.Static field.0, field.1) (λ (x : Slot × List ℕ). SlotBelow (length earlier) x.0) (λ _. tt))

field_has : (r : Ranges) (earlier : List Known) (bytes : List ℕ) → Has (SlotBelow (length earlier)) (field_at r earlier bytes)
unfolding field_at
field_has r earlier bytes = then_has (reference_at role.Object earlier bytes) _ _ _ (reference_has role.Object earlier bytes) (λ object below. after (number_at w32 object.1) _ _ (λ field. passed_has (field_rule r false field.0) (slots.Field object.0 field.0, field.1) (λ (x : Slot × List ℕ). SlotBelow (length earlier) x.0) (λ _. below)))

element_has : (earlier : List Known) (bytes : List ℕ) → Has (SlotBelow (length earlier)) (element_at earlier bytes)
unfolding element_at
element_has earlier bytes = then_has (reference_at role.Array earlier bytes) _ _ _ (reference_has role.Array earlier bytes) (λ array below. after (below_at index_limit array.1) _ _ (λ index. below))

slot_behind : (r : Ranges) (earlier : List Known) (tag : SlotTag) (rest : List ℕ) → Has (SlotBelow (length earlier)) (slot_of r earlier tag rest)
unfolding slot_of
slot_behind r earlier slot_tag.None rest = tt
slot_behind r earlier slot_tag.Local rest = local_has r earlier rest
slot_behind r earlier slot_tag.Static rest = static_has r earlier rest
slot_behind r earlier slot_tag.Field rest = field_has r earlier rest
slot_behind r earlier slot_tag.Elem rest = element_has earlier rest

pub slot_has : (r : Ranges) (earlier : List Known) (wanted : SlotForm) (bytes : List ℕ) → Has (SlotBelow (length earlier)) (slot_at r earlier wanted bytes)
unfolding slot_at
slot_has r earlier wanted bytes = after (number_at w8 bytes) _ _ (λ b. after (known_tag (slice_get slot_tags b.0) b.1) _ _ (λ tag. after (passed (in_range (allows_slot wanted tag.0)) tag.1) _ _ (λ rest. slot_behind r earlier tag.0 rest)))

-- ---- values

bool_has : (n : ℕ) (bytes : List ℕ) → Has (ValueBelow n) (bool_at bytes)
unfolding bool_at
bool_has n bytes = after (number_at w8 bytes) _ _ (λ b. passed_has (in_range (nat_lt b.0 2)) (val.Bool (b.0 == 1), b.1) (λ (x : Value × List ℕ). ValueBelow n x.0) (λ _. tt))

int_has : (n : ℕ) (wanted : ValueForm) (bytes : List ℕ) → Has (ValueBelow n) (int_at wanted bytes)
unfolding int_at
int_has n wanted bytes = after (number_at w32 bytes) _ _ (λ k. passed_has (int_rule wanted (cast_signed w32 k.0)) (val.Int (cast_signed w32 k.0), k.1) (λ (x : Value × List ℕ). ValueBelow n x.0) (λ _. tt))

plain_has : (n : ℕ) (tag : ValueTag) (bytes : List ℕ) → Has (ValueBelow n) (plain_at tag bytes)
unfolding plain_at
plain_has n value_tag.Byte bytes = after (number_at w8 bytes) _ _ (λ k. tt)
plain_has n value_tag.Short bytes = after (number_at w16 bytes) _ _ (λ k. tt)
plain_has n value_tag.Char bytes = after (number_at w16 bytes) _ _ (λ k. tt)
plain_has n value_tag.Long bytes = after (number_at w64 bytes) _ _ (λ k. tt)
plain_has n value_tag.Null bytes = tt
plain_has n _ bytes = tt

object_has : (earlier : List Known) (wanted : ValueForm) (bytes : List ℕ) → Has (ValueBelow (length earlier)) (object_at earlier wanted bytes)
unfolding object_at
object_has earlier wanted bytes = then_has (reference_at (object_role wanted) earlier bytes) _ _ _ (reference_has (object_role wanted) earlier bytes) (λ n below. below)

text_has : (earlier : List Known) (bytes : List ℕ) → Has (ValueBelow (length earlier)) (text_at earlier bytes)
unfolding text_at
text_has earlier bytes = then_has (reference_at role.Text earlier bytes) _ _ _ (reference_has role.Text earlier bytes) (λ n below. below)

fixed_has : (n : ℕ) (r : Ranges) (bytes : List ℕ) → Has (ValueBelow n) (fixed_at r bytes)
unfolding fixed_at
fixed_has n r bytes = after (number_at w32 bytes) _ _ (λ k. passed_has (in_range (nat_lt k.0 (length r.fixed))) (val.Fixed k.0, k.1) (λ (x : Value × List ℕ). ValueBelow n x.0) (λ _. tt))

arm_has : (n : ℕ) (v : Version) (bytes : List ℕ) → Has (ValueBelow n) (arm_at v bytes)
unfolding arm_at
arm_has n v bytes = after (number_at (arm_width v) bytes) _ _ (λ k. passed_has (in_range (nat_lt k.0 arm_limit)) (val.Arm k.0, k.1) (λ (x : Value × List ℕ). ValueBelow n x.0) (λ _. tt))

value_behind : (r : Ranges) (earlier : List Known) (wanted : ValueForm) (tag : ValueTag) (rest : List ℕ) → Has (ValueBelow (length earlier)) (value_of r earlier wanted tag rest)
unfolding value_of
value_behind r earlier wanted value_tag.Bool rest = bool_has (length earlier) rest
value_behind r earlier wanted value_tag.Int rest = int_has (length earlier) wanted rest
value_behind r earlier wanted value_tag.Object rest = object_has earlier wanted rest
value_behind r earlier wanted value_tag.Text rest = text_has earlier rest
value_behind r earlier wanted value_tag.Fixed rest = fixed_has (length earlier) r rest
value_behind r earlier wanted value_tag.Arm rest = arm_has (length earlier) r.version rest
value_behind r earlier wanted tag rest = plain_has (length earlier) tag rest

pub value_has : (r : Ranges) (earlier : List Known) (wanted : ValueForm) (bytes : List ℕ) → Has (ValueBelow (length earlier)) (value_at r earlier wanted bytes)
unfolding value_at
value_has r earlier wanted bytes = after (number_at w8 bytes) _ _ (λ b. after (known_tag (tag_in r.version wanted b.0) b.1) _ _ (λ tag. after (passed (in_range (allows_value wanted tag.0)) tag.1) _ _ (λ rest. value_behind r earlier wanted tag.0 rest)))

-- ---- uses

place_has : (r : Ranges) (earlier : List Known) (bytes : List ℕ) → Has (UseBelow (length earlier)) (place_at r earlier bytes)
unfolding place_at
place_has r earlier bytes = then_has (slot_at r earlier form.Place bytes) _ _ _ (slot_has r earlier form.Place bytes) (λ slot below. then_has (at_most_at (length earlier) slot.1) _ _ _ (at_most_has (length earlier) slot.1) (λ moment up. (below, up)))

use_behind : (r : Ranges) (earlier : List Known) (tag : UseTag) (rest : List ℕ) → Has (UseBelow (length earlier)) (use_of r earlier tag rest)
unfolding use_of
use_behind r earlier use_tag.Place rest = place_has r earlier rest
use_behind r earlier use_tag.Value rest = then_has (below_at (length earlier) rest) _ _ _ (below_has (length earlier) rest) (λ event below. below)
use_behind r earlier use_tag.Choice rest = then_has (reference_at role.Test earlier rest) _ _ _ (reference_has role.Test earlier rest) (λ event below. below)

use_has : (r : Ranges) (earlier : List Known) (bytes : List ℕ) → Has (UseBelow (length earlier)) (use_at r earlier bytes)
unfolding use_at
use_has r earlier bytes = after (number_at w8 bytes) _ _ (λ b. after (known_tag (tag_of b.0) b.1) _ _ (λ tag. use_behind r earlier tag.0 tag.1))

rows_have : (n : ℕ) (read : List ℕ → Read Use) → ((bytes : List ℕ) → Has (UseBelow n) (read bytes)) → (count : ℕ) (bytes : List ℕ) → Has (UsesBelow n) (rows_from read count bytes)
unfolding rows_from
rows_have n read each zero bytes = tt
rows_have n read each (suc count) bytes = then_has (read bytes) _ _ _ (each bytes) (λ first below. then_has (rows_from read count first.1) _ _ _ (rows_have n read each count first.1) (λ others are. (below, are)))

pub uses_have : (r : Ranges) (earlier : List Known) (bytes : List ℕ) → Has (UsesBelow (length earlier)) (uses_at r earlier bytes)
unfolding uses_at
uses_have r earlier bytes = after (number_at w32 bytes) _ _ (λ count. rows_have (length earlier) (use_at r earlier) (use_has r earlier) count.0 count.1)
