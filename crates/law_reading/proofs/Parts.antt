-- References and slots are read.
use Rattle.std.proofs.Common.{◌≡◌, ℕ, ◌<◌, ◌≤◌, ◌^◌, Bool, true, false, cond, List, ◌∷◌, ◌++◌, Option, Some, refl, arith}
use Rattle.std.specs.Prelude.{None as Absent}
use Rattle.std.specs.Prelude.{eqb, IfSome, nat_lt, nat_le, slice_get}
use Rattle.std.specs.Int.{w32}
use Rattle.std.proofs.lemmas.Bool.{lt-ltb, le-leb}
use Rattle.wy_kernel.specs.View.{NONE}
use Rattle.wy_event.specs.declared.record.Slot.{Slot}
use Rattle.wy_event.specs.declared.record.Slot.TheVariants as slots
use Rattle.wy_fitting.specs.Fits.{IsNumber, IsPresent, SlotFits}
use Rattle.wy_spelling.specs.Spelling.{number, optional, slot_bytes}
use Rattle.wy_payload.specs.declared.ranges.Ranges.{Ranges}
use Rattle.wy_payload.specs.declared.known.Known.{Known}
use Rattle.wy_payload.specs.declared.known.Role.{Role}
use Rattle.wy_payload.specs.declared.known.Role.TheVariants as role
use Rattle.wy_payload.specs.declared.slot.SlotForm.{SlotForm}
use Rattle.wy_payload.specs.declared.slot.SlotTag.{SlotTag}
use Rattle.wy_payload.specs.declared.slot.SlotTag.TheVariants as places
use Rattle.wy_kernel.specs.Limits.{index_limit}
use Rattle.wy_payload.specs.Rules.{Broken, in_range, reference_rule, optional_rule, field_rule, local_rule, locals_in}
use Rattle.wy_payload.specs.Reading.{passed, number_at, reference_at, optional_at, below_at, at_most_at}
use Rattle.wy_payload.specs.Places.{slot_tags, allows_slot, local_at, static_at, field_at, element_at, slot_of, slot_at}
use Rattle.law_reading.specs.Readable.{or_none, Refers, SlotIsThere, SlotMayStand}
use Rattle.law_reading.proofs.ReadableSteps.{Reads, then_is, passes, ranged, number_is, checked_is, tag_is}

pub reference_is : (r : Role) (earlier : List Known) (n : ℕ) (rest : List ℕ) → n < 2 ^ 32 → Refers r earlier n → Reads (reference_at r earlier (number n ++ rest)) n rest
unfolding reference_at
reference_is r earlier n rest small refers = checked_is (reference_rule r earlier) n rest small refers

pub below_is : (limit n : ℕ) (rest : List ℕ) → n < 2 ^ 32 → n < limit → Reads (below_at limit (number n ++ rest)) n rest
unfolding below_at
below_is limit n rest small below = checked_is (λ m. in_range (nat_lt m limit)) n rest small (ranged (nat_lt n limit) (lt-ltb n limit below))

pub at_most_is : (limit n : ℕ) (rest : List ℕ) → n < 2 ^ 32 → n ≤ limit → Reads (at_most_at limit (number n ++ rest)) n rest
unfolding at_most_at
at_most_is limit n rest small within = checked_is (λ m. in_range (nat_le m limit)) n rest small (ranged (nat_le n limit) (le-leb n limit within))

-- ---- numbers that may be absent

either_way : (b : Bool) (broken : Broken) → broken ≡ Absent → cond b Absent broken ≡ Absent
either_way true broken e = refl
either_way false broken e = e

optional_keeps : (r : Role) (earlier : List Known) (o : Option ℕ) → IfSome o (Refers r earlier) → optional_rule r earlier (or_none o) ≡ Absent
unfolding optional_rule
optional_keeps r earlier Absent refers = refl
optional_keeps r earlier (Some n) refers = either_way (eqb n NONE) (reference_rule r earlier n) refers

pub or_none_spelled : (o : Option ℕ) → optional o ≡ number (or_none o)
or_none_spelled Absent = refl
or_none_spelled (Some n) = refl

pub or_none_small : (o : Option ℕ) → IsPresent o → or_none o < 2 ^ 32
or_none_small Absent fit = omega arith
or_none_small (Some n) fit = omega (arith, fit)

pub optional_is : (r : Role) (earlier : List Known) (o : Option ℕ) (rest : List ℕ) → IsPresent o → IfSome o (Refers r earlier) → Reads (optional_at r earlier (number (or_none o) ++ rest)) (or_none o) rest
unfolding optional_at
optional_is r earlier o rest fit refers = checked_is (optional_rule r earlier) (or_none o) rest (or_none_small o fit) (optional_keeps r earlier o refers)

-- ---- slots

local_is : (r : Ranges) (earlier : List Known) (frame index : ℕ) (rest : List ℕ) → SlotFits (slots.Local frame index) → SlotIsThere r earlier (slots.Local frame index) → Reads (local_at r earlier (number frame ++ (number index ++ rest))) (slots.Local frame index) rest
unfolding local_at
local_is r earlier frame index rest fit there =
    then_is (reference_at role.Frame earlier (number frame ++ (number index ++ rest))) _ (frame, number index ++ rest) _ (reference_is role.Frame earlier frame (number index ++ rest) fit.0 there.0)
    (then_is (number_at w32 (number index ++ rest)) _ (index, rest) _ (number_is index rest fit.1)
    (passes (local_rule r earlier frame index) (slots.Local frame index, rest) (ranged (nat_lt index (locals_in r (slice_get earlier frame))) (lt-ltb index (locals_in r (slice_get earlier frame)) there.1))))

static_is : (r : Ranges) (field : ℕ) (rest : List ℕ) → IsNumber field → field_rule r true field ≡ Absent → Reads (static_at r (number field ++ rest)) (slots.Static field) rest
unfolding static_at
static_is r field rest fit there = then_is (number_at w32 (number field ++ rest)) _ (field, rest) _ (number_is field rest fit) (passes (field_rule r true field) (slots.Static field, rest) there)

field_is : (r : Ranges) (earlier : List Known) (object field : ℕ) (rest : List ℕ) → SlotFits (slots.Field object field) → SlotIsThere r earlier (slots.Field object field) → Reads (field_at r earlier (number object ++ (number field ++ rest))) (slots.Field object field) rest
unfolding field_at
field_is r earlier object field rest fit there =
    then_is (reference_at role.Object earlier (number object ++ (number field ++ rest))) _ (object, number field ++ rest) _ (reference_is role.Object earlier object (number field ++ rest) fit.0 there.0)
    (then_is (number_at w32 (number field ++ rest)) _ (field, rest) _ (number_is field rest fit.1)
    (passes (field_rule r false field) (slots.Field object field, rest) there.1))

element_is : (r : Ranges) (earlier : List Known) (array index : ℕ) (rest : List ℕ) → SlotFits (slots.Elem array index) → SlotIsThere r earlier (slots.Elem array index) → Reads (element_at earlier (number array ++ (number index ++ rest))) (slots.Elem array index) rest
unfolding element_at
element_is r earlier array index rest fit there =
    then_is (reference_at role.Array earlier (number array ++ (number index ++ rest))) _ (array, number index ++ rest) _ (reference_is role.Array earlier array (number index ++ rest) fit.0 there.0)
    (then_is (below_at index_limit (number index ++ rest)) _ (index, rest) _ (below_is index_limit index rest fit.1 there.1) refl)

placed_is : (r : Ranges) (earlier : List Known) (wanted : SlotForm) (tag : SlotTag) (b : ℕ) (x : Slot) (text rest : List ℕ) → slice_get slot_tags b ≡ Some tag → allows_slot wanted tag ≡ true → Reads (slot_of r earlier tag text) x rest → Reads (slot_at r earlier wanted (b ∷ text)) x rest
unfolding slot_at
placed_is r earlier wanted tag b x text rest is allowed h =
    tag_is (slice_get slot_tags) tag b text is _ _
    (then_is (passed (in_range (allows_slot wanted tag)) text) (slot_of r earlier tag) text _ (passes (in_range (allows_slot wanted tag)) text (ranged (allows_slot wanted tag) allowed)) h)

pub slot_is : (r : Ranges) (earlier : List Known) (wanted : SlotForm) (x : Slot) (rest : List ℕ) → SlotFits x → SlotMayStand r earlier wanted x → Reads (slot_at r earlier wanted (slot_bytes x ++ rest)) x rest
unfolding slot_bytes slot_of
slot_is r earlier wanted slots.None rest fit may = placed_is r earlier wanted places.None 0 slots.None rest rest refl may.form refl
slot_is r earlier wanted (slots.Local frame index) rest fit may = placed_is r earlier wanted places.Local 1 (slots.Local frame index) (number frame ++ (number index ++ rest)) rest refl may.form (local_is r earlier frame index rest fit may.there)
slot_is r earlier wanted (slots.Static field) rest fit may = placed_is r earlier wanted places.Static 2 (slots.Static field) (number field ++ rest) rest refl may.form (static_is r field rest fit may.there)
slot_is r earlier wanted (slots.Field object field) rest fit may = placed_is r earlier wanted places.Field 3 (slots.Field object field) (number object ++ (number field ++ rest)) rest refl may.form (field_is r earlier object field rest fit may.there)
slot_is r earlier wanted (slots.Elem array index) rest fit may = placed_is r earlier wanted places.Elem 4 (slots.Elem array index) (number array ++ (number index ++ rest)) rest refl may.form (element_is r earlier array index rest fit may.there)
