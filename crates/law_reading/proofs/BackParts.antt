-- Slots, values, units and uses are read back.
use Rattle.std.proofs.Common.{◌≡◌, ℕ, ◌<◌, ◌^◌, true, false, List, ◌∷◌, ◌++◌, Some, refl}
use Rattle.std.specs.Prelude.{nat_lt, slice_get}
use Rattle.std.specs.Int.{w32}
use Rattle.wy_event.specs.declared.record.Slot.{Slot}
use Rattle.wy_event.specs.declared.record.Slot.TheVariants as slots
use Rattle.wy_fitting.specs.Fits.{IsNumber, SlotFits}
use Rattle.wy_spelling.specs.Spelling.{number, slot_bytes}
use Rattle.wy_payload.specs.declared.ranges.Ranges.{Ranges}
use Rattle.wy_payload.specs.declared.known.Known.{Known}
use Rattle.wy_payload.specs.declared.known.Role.{Role}
use Rattle.wy_payload.specs.declared.known.Role.TheVariants as role
use Rattle.wy_payload.specs.declared.slot.SlotForm.{SlotForm}
use Rattle.wy_payload.specs.declared.slot.SlotTag.{SlotTag}
use Rattle.wy_payload.specs.declared.slot.SlotTag.TheVariants as places
use Rattle.wy_kernel.specs.Limits.{index_limit}
use Rattle.wy_payload.specs.Rules.{in_range, reference_rule, field_rule, local_rule}
use Rattle.wy_payload.specs.Reading.{passed, number_at, reference_at, below_at, at_most_at}
use Rattle.wy_payload.specs.Places.{slot_tags, allows_slot, local_at, static_at, field_at, element_at, slot_of, slot_at}
use Rattle.law_reading.proofs.Back.{Gives, then_back, passed_back, number_back, checked_back, tag_back}

pub reference_back : (r : Role) (earlier : List Known) (n : ℕ) (rest : List ℕ) → n < 2 ^ 32 → Gives n rest (reference_at r earlier (number n ++ rest))
unfolding reference_at
reference_back r earlier n rest small = checked_back (reference_rule r earlier) n rest small

pub below_back : (limit n : ℕ) (rest : List ℕ) → n < 2 ^ 32 → Gives n rest (below_at limit (number n ++ rest))
unfolding below_at
below_back limit n rest small = checked_back (λ m. in_range (nat_lt m limit)) n rest small

pub at_most_back : (limit n : ℕ) (rest : List ℕ) → n < 2 ^ 32 → Gives n rest (at_most_at limit (number n ++ rest))
unfolding at_most_at
at_most_back limit n rest small = then_back (number_at w32 (number n ++ rest)) _ (n, rest) _ (number_back n rest small) (passed_back _ (n, rest))

-- ---- slots

local_back : (r : Ranges) (earlier : List Known) (frame index : ℕ) (rest : List ℕ) → IsNumber frame → IsNumber index → Gives (slots.Local frame index) rest (local_at r earlier (number frame ++ (number index ++ rest)))
unfolding local_at
local_back r earlier frame index rest f i =
    then_back (reference_at role.Frame earlier (number frame ++ (number index ++ rest))) _ (frame, number index ++ rest) _ (reference_back role.Frame earlier frame (number index ++ rest) f)
    (then_back (number_at w32 (number index ++ rest)) _ (index, rest) _ (number_back index rest i)
    (passed_back (local_rule r earlier frame index) (slots.Local frame index, rest)))

static_back : (r : Ranges) (field : ℕ) (rest : List ℕ) → IsNumber field → Gives (slots.Static field) rest (static_at r (number field ++ rest))
unfolding static_at
static_back r field rest f = then_back (number_at w32 (number field ++ rest)) _ (field, rest) _ (number_back field rest f) (passed_back (field_rule r true field) (slots.Static field, rest))

field_back : (r : Ranges) (earlier : List Known) (object field : ℕ) (rest : List ℕ) → IsNumber object → IsNumber field → Gives (slots.Field object field) rest (field_at r earlier (number object ++ (number field ++ rest)))
unfolding field_at
field_back r earlier object field rest o f =
    then_back (reference_at role.Object earlier (number object ++ (number field ++ rest))) _ (object, number field ++ rest) _ (reference_back role.Object earlier object (number field ++ rest) o)
    (then_back (number_at w32 (number field ++ rest)) _ (field, rest) _ (number_back field rest f)
    (passed_back (field_rule r false field) (slots.Field object field, rest)))

element_back : (earlier : List Known) (array index : ℕ) (rest : List ℕ) → IsNumber array → IsNumber index → Gives (slots.Elem array index) rest (element_at earlier (number array ++ (number index ++ rest)))
unfolding element_at
element_back earlier array index rest a i =
    then_back (reference_at role.Array earlier (number array ++ (number index ++ rest))) _ (array, number index ++ rest) _ (reference_back role.Array earlier array (number index ++ rest) a)
    (then_back (below_at index_limit (number index ++ rest)) _ (index, rest) _ (below_back index_limit index rest i) refl)

placed_back : (r : Ranges) (earlier : List Known) (wanted : SlotForm) (tag : SlotTag) (b : ℕ) (x : Slot) (text rest : List ℕ) → slice_get slot_tags b ≡ Some tag → Gives x rest (slot_of r earlier tag text) → Gives x rest (slot_at r earlier wanted (b ∷ text))
unfolding slot_at
placed_back r earlier wanted tag b x text rest is h =
    tag_back (slice_get slot_tags) tag b text is _ _
    (then_back (passed (in_range (allows_slot wanted tag)) text) (slot_of r earlier tag) text _ (passed_back (in_range (allows_slot wanted tag)) text) h)

pub slot_back : (r : Ranges) (earlier : List Known) (wanted : SlotForm) (x : Slot) (rest : List ℕ) → SlotFits x → Gives x rest (slot_at r earlier wanted (slot_bytes x ++ rest))
unfolding slot_bytes slot_of
slot_back r earlier wanted slots.None rest fit = placed_back r earlier wanted places.None 0 slots.None rest rest refl refl
slot_back r earlier wanted (slots.Local frame index) rest fit = placed_back r earlier wanted places.Local 1 (slots.Local frame index) (number frame ++ (number index ++ rest)) rest refl (local_back r earlier frame index rest fit.0 fit.1)
slot_back r earlier wanted (slots.Static field) rest fit = placed_back r earlier wanted places.Static 2 (slots.Static field) (number field ++ rest) rest refl (static_back r field rest fit)
slot_back r earlier wanted (slots.Field object field) rest fit = placed_back r earlier wanted places.Field 3 (slots.Field object field) (number object ++ (number field ++ rest)) rest refl (field_back r earlier object field rest fit.0 fit.1)
slot_back r earlier wanted (slots.Elem array index) rest fit = placed_back r earlier wanted places.Elem 4 (slots.Elem array index) (number array ++ (number index ++ rest)) rest refl (element_back earlier array index rest fit.0 fit.1)
