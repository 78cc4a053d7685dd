-- Slots are read as they are spelled.
use Rattle.std.proofs.Common.{◌≡◌, ℕ, ◌<◌, ◌^◌, List, ◌∷◌, ◌++◌, Some, Ok, refl, arith}
use Rattle.std.specs.Prelude.{IfOk, slice_get}
use mir.Val.{bits}
use Rattle.std.specs.Int.{w32}
use Rattle.std.proofs.lemmas.Bool.{lt-ltb, ltb-true}
use Rattle.wy_event.specs.declared.record.Slot.{Slot}
use Rattle.wy_event.specs.declared.record.Slot.TheVariants as slots
use Rattle.wy_fitting.specs.Fits.{SlotFits}
use Rattle.wy_spelling.specs.Spelling.{number, slot_bytes}
use Rattle.wy_view.specs.References.{SlotBelow}
use Rattle.wy_payload.specs.declared.slot.SlotTag.{SlotTag}
use Rattle.wy_payload.specs.declared.slot.SlotTag.TheVariants as tags
use Rattle.wy_payload.specs.Places.{slot_tags}
use Rattle.wy_payload.specs.Reading.{◌>>=◌, Read, number_at, below_at}
use Rattle.wy_frame_reading.specs.Fields.{element_at, field_at, local_at, slot_at, slot_of, static_at}
use Rattle.wy_frame_reading.proofs.Readers.{AreBytes, Reads, by_parts, one, two}
use Rattle.wy_frame_reading.proofs.Numbers.{IsBelow, below, word_32}
use Rattle.wy_frame_reading.proofs.Tags.{Behind, behind_as, tag_is, tagged}
use Rattle.wy_payload.proofs.Tags.{slot_tag, slot_number, slot_rest}

-- its numbers fit, and its event is below n
abbrev pub GoodSlot : ℕ → Slot → Type 0
GoodSlot n x = SlotFits x × SlotBelow n x

-- the bytes of a slot behind its tag
slot_is : (s : Slot) → slot_number (slot_tag s) ∷ slot_rest s ≡ slot_bytes s
unfolding slot_bytes
slot_is slots.None = refl
slot_is (slots.Local frame index) = refl
slot_is (slots.Static field) = refl
slot_is (slots.Field object field) = refl
slot_is (slots.Elem array index) = refl

-- ---- each form

abbrev ReadsTwo : ℕ → (ℕ → ℕ → Slot) → (List ℕ → Read Slot) → Type 0
ReadsTwo n make read = Reads (ℕ × ℕ) Slot (λ p. IsBelow n p.0 × (p.1 < 2 ^ bits w32)) (λ p. number p.0 ++ number p.1) (λ p. make p.0 p.1) read

index_of : (make : ℕ → Slot) → Reads ℕ Slot (λ m. m < 2 ^ bits w32) number make (λ bytes. number_at w32 bytes >>= λ index. Ok (make index.0, index.1))
index_of make = one ℕ ℕ Slot (λ m. m < 2 ^ bits w32) number (λ m. m) (number_at w32) make word_32

local : (n : ℕ) → ReadsTwo n slots.Local (local_at n)
unfolding local_at
local n = two ℕ ℕ ℕ Slot (IsBelow n) number (λ m. m) (below_at n) (λ a m. m < 2 ^ bits w32) (λ a. number) slots.Local _ (below n) (λ frame. index_of (slots.Local frame))

field : (n : ℕ) → ReadsTwo n slots.Field (field_at n)
unfolding field_at
field n = two ℕ ℕ ℕ Slot (IsBelow n) number (λ m. m) (below_at n) (λ a m. m < 2 ^ bits w32) (λ a. number) slots.Field _ (below n) (λ object. index_of (slots.Field object))

element : (n : ℕ) → ReadsTwo n slots.Elem (element_at n)
unfolding element_at
element n = two ℕ ℕ ℕ Slot (IsBelow n) number (λ m. m) (below_at n) (λ a m. m < 2 ^ bits w32) (λ a. number) slots.Elem _ (below n) (λ array. index_of (slots.Elem array))

static : Reads ℕ Slot (λ m. m < 2 ^ bits w32) number slots.Static static_at
unfolding static_at
static = index_of slots.Static

-- ---- all forms

abbrev SlotBehind : ℕ → SlotTag → List ℕ → Slot × List ℕ → Type 0
SlotBehind n = Behind SlotTag Slot (slice_get slot_tags) slot_number slot_tag slot_rest (GoodSlot n) (slot_of n)

forth : (n : ℕ) (x : Slot) (rest : List ℕ) → GoodSlot n x → slot_of n (slot_tag x) (slot_rest x ++ rest) ≡ Ok (x, rest)
unfolding slot_of
forth n slots.None rest good = refl
forth n (slots.Local frame index) rest (fit, lower) = (local n).back (frame, index) rest ((fit.0, lt-ltb frame n lower), fit.1)
forth n (slots.Static field) rest (fit, lower) = static.back field rest fit
forth n (slots.Field object index) rest (fit, lower) = (field n).back (object, index) rest ((fit.0, lt-ltb object n lower), fit.1)
forth n (slots.Elem array index) rest (fit, lower) = (element n).back (array, index) rest ((fit.0, lt-ltb array n lower), fit.1)

back : (n : ℕ) (t : SlotTag) (bytes : List ℕ) → AreBytes bytes → IfOk (slot_of n t bytes) (SlotBehind n t bytes)
unfolding slot_of
back n tags.None bytes are = (refl, (tt, tt), record { parts = refl; rest_bytes = are })
back n tags.Local bytes are =
    behind_as SlotTag Slot (slice_get slot_tags) slot_number slot_tag slot_rest (GoodSlot n) (slot_of n) (ℕ × ℕ) _ _ _ tags.Local (local n) (λ (frame, index) ((small, lower), fit). (refl, ((small, fit), ltb-true frame n lower), refl)) bytes are
back n tags.Static bytes are = behind_as SlotTag Slot (slice_get slot_tags) slot_number slot_tag slot_rest (GoodSlot n) (slot_of n) ℕ _ _ _ tags.Static static (λ field fit. (refl, (fit, tt), refl)) bytes are
back n tags.Field bytes are =
    behind_as SlotTag Slot (slice_get slot_tags) slot_number slot_tag slot_rest (GoodSlot n) (slot_of n) (ℕ × ℕ) _ _ _ tags.Field (field n) (λ (object, index) ((small, lower), fit). (refl, ((small, fit), ltb-true object n lower), refl)) bytes are
back n tags.Elem bytes are =
    behind_as SlotTag Slot (slice_get slot_tags) slot_number slot_tag slot_rest (GoodSlot n) (slot_of n) (ℕ × ℕ) _ _ _ tags.Elem (element n) (λ (array, index) ((small, lower), fit). (refl, ((small, fit), ltb-true array n lower), refl)) bytes are

known : (t : SlotTag) → slice_get slot_tags (slot_number t) ≡ Some t
known tags.None = refl
known tags.Local = refl
known tags.Static = refl
known tags.Field = refl
known tags.Elem = refl

placed : (b : ℕ) (t : SlotTag) → slice_get slot_tags b ≡ Some t → slot_number t ≡ b
placed b t is = omega (arith, tag_is slot_number slot_tags 0 5 refl b t is)

pub slot : (n : ℕ) → Reads Slot Slot (GoodSlot n) slot_bytes (λ x. x) (slot_at n)
unfolding slot_at
slot n =
    by_parts Slot Slot Slot (GoodSlot n) (λ x. slot_number (slot_tag x) ∷ slot_rest x) (λ x. x) (GoodSlot n) slot_bytes (λ x. x) _ (λ x. x) (λ x. x)
    (tagged SlotTag Slot (slice_get slot_tags) slot_number slot_tag slot_rest (GoodSlot n) (slot_of n) (λ x good. known (slot_tag x)) placed (forth n) (λ t can. back n t))
    (λ x good. (good, refl, slot_is x)) (λ x good. (good, refl, slot_is x))
