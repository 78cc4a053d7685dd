-- A slot that is read is spelled so.
use Rattle.std.proofs.Common.{◌≡◌, ℕ, zero, suc, true, false, List, [], ◌∷◌, ◌++◌, Option, Some, Ok, refl, sym, ap, ◌∙◌, subst}
use Rattle.std.specs.Prelude.{None as Absent}
use Rattle.std.specs.Prelude.{nat_lt, slice_get}
use Rattle.std.specs.Int.{w8, w32}
use Rattle.wy_event.specs.declared.record.Slot.{Slot}
use Rattle.wy_event.specs.declared.record.Slot.TheVariants as slots
use Rattle.wy_spelling.specs.Spelling.{number, slot_bytes}
use Rattle.wy_payload.specs.declared.ranges.Ranges.{Ranges}
use Rattle.wy_payload.specs.declared.known.Known.{Known}
use Rattle.wy_payload.specs.declared.known.Role.{Role}
use Rattle.wy_payload.specs.declared.known.Role.TheVariants as role
use Rattle.wy_payload.specs.declared.slot.SlotTag.{SlotTag}
use Rattle.wy_payload.specs.declared.slot.SlotTag.TheVariants as tags
use Rattle.wy_payload.specs.declared.slot.SlotForm.{SlotForm}
use Rattle.wy_kernel.specs.Limits.{index_limit}
use Rattle.wy_payload.specs.Rules.{Broken, in_range, reference_rule, field_rule, local_rule}
use Rattle.wy_payload.specs.Reading.{◌>>=◌, passed, known_tag, number_at, reference_at, below_at}
use Rattle.wy_payload.specs.Places.{slot_tags, allows_slot, local_at, static_at, field_at, element_at, slot_of, slot_at}
use Rattle.law_reading.specs.Spelled.{AreBytes}
use Rattle.law_reading.proofs.SpelledNumbers.{read_then, passing, Spelled, number_spelled, one_after}
use Rattle.law_reading.proofs.Heads.{ok_is}
use Rattle.law_reading.proofs.Tails.{byte_spelled}
use Rattle.wy_payload.proofs.Tags.{slot_tag, slot_number, slot_rest}

-- a number that a rule lets pass
pub checked_spelled : (broken : ℕ → Broken) (bytes : List ℕ) (x : ℕ × List ℕ) → AreBytes bytes → (number_at w32 bytes >>= λ n. passed (broken n.0) n) ≡ Ok x → Spelled bytes (number x.0) x.1
checked_spelled broken bytes x are e =
    let a = read_then (number_at w32 bytes) (λ n. passed (broken n.0) n) x e in
    subst (λ (y : ℕ × List ℕ). Spelled bytes (number y.0) y.1) (passing (broken a.0.0) a.0 x a.2) (number_spelled bytes a.0 are a.1)

pub reference_spelled : (r : Role) (earlier : List Known) (bytes : List ℕ) (x : ℕ × List ℕ) → AreBytes bytes → reference_at r earlier bytes ≡ Ok x → Spelled bytes (number x.0) x.1
unfolding reference_at
reference_spelled r earlier bytes x are e = checked_spelled (reference_rule r earlier) bytes x are e

pub below_spelled : (limit : ℕ) (bytes : List ℕ) (x : ℕ × List ℕ) → AreBytes bytes → below_at limit bytes ≡ Ok x → Spelled bytes (number x.0) x.1
unfolding below_at
below_spelled limit bytes x are e = checked_spelled (λ n. in_range (nat_lt n limit)) bytes x are e

-- the bytes of a slot behind its tag
slot_is : (s : Slot) → slot_bytes s ≡ (slot_number (slot_tag s) ∷ []) ++ slot_rest s
unfolding slot_bytes
slot_is slots.None = refl
slot_is (slots.Local frame index) = refl
slot_is (slots.Static field) = refl
slot_is (slots.Field object field) = refl
slot_is (slots.Elem array index) = refl

-- a slot behind its tag
abbrev Behind : SlotTag → List ℕ → Slot × List ℕ → Type 0
Behind tag bytes x = Spelled bytes (slot_rest x.0) x.1 × (slot_tag x.0 ≡ tag)

two_numbers : (bytes : List ℕ) (a b : ℕ × List ℕ) (rest : List ℕ) → Spelled bytes (number a.0) a.1 → Spelled a.1 (number b.0) b.1 → b.1 ≡ rest → Spelled bytes (number a.0 ++ number b.0) rest
two_numbers bytes a b rest s t e = subst (λ (l : List ℕ). Spelled bytes (number a.0 ++ number b.0) l) e (one_after bytes (number a.0) a.1 (number b.0) b.1 s t)

local_spelled : (r : Ranges) (earlier : List Known) (bytes : List ℕ) (x : Slot × List ℕ) → AreBytes bytes → local_at r earlier bytes ≡ Ok x → Behind tags.Local bytes x
unfolding local_at
local_spelled r earlier bytes x are e =
    let a = read_then (reference_at role.Frame earlier bytes) (λ frame. number_at w32 frame.1 >>= λ index. passed (local_rule r earlier frame.0 index.0) (slots.Local frame.0 index.0, index.1)) x e in
    let b = read_then (number_at w32 a.0.1) (λ index. passed (local_rule r earlier a.0.0 index.0) (slots.Local a.0.0 index.0, index.1)) x a.2 in
    let s = reference_spelled role.Frame earlier bytes a.0 are a.1 in
    let made : Slot × List ℕ = (slots.Local a.0.0 b.0.0, b.0.1) in
    subst (λ (y : Slot × List ℕ). Behind tags.Local bytes y) (passing (local_rule r earlier a.0.0 b.0.0) made x b.2) (two_numbers bytes a.0 b.0 b.0.1 s (number_spelled a.0.1 b.0 s.rest_bytes b.1) refl, refl)

static_spelled : (r : Ranges) (bytes : List ℕ) (x : Slot × List ℕ) → AreBytes bytes → static_at r bytes ≡ Ok x → Behind tags.Static bytes x
unfolding static_at
static_spelled r bytes x are e =
    let a = read_then (number_at w32 bytes) (λ field. passed (field_rule r true field.0) (slots.Static field.0, field.1)) x e in
    let made : Slot × List ℕ = (slots.Static a.0.0, a.0.1) in
    subst (λ (y : Slot × List ℕ). Behind tags.Static bytes y) (passing (field_rule r true a.0.0) made x a.2) (number_spelled bytes a.0 are a.1, refl)

field_spelled : (r : Ranges) (earlier : List Known) (bytes : List ℕ) (x : Slot × List ℕ) → AreBytes bytes → field_at r earlier bytes ≡ Ok x → Behind tags.Field bytes x
unfolding field_at
field_spelled r earlier bytes x are e =
    let a = read_then (reference_at role.Object earlier bytes) (λ object. number_at w32 object.1 >>= λ field. passed (field_rule r false field.0) (slots.Field object.0 field.0, field.1)) x e in
    let b = read_then (number_at w32 a.0.1) (λ field. passed (field_rule r false field.0) (slots.Field a.0.0 field.0, field.1)) x a.2 in
    let s = reference_spelled role.Object earlier bytes a.0 are a.1 in
    let made : Slot × List ℕ = (slots.Field a.0.0 b.0.0, b.0.1) in
    subst (λ (y : Slot × List ℕ). Behind tags.Field bytes y) (passing (field_rule r false b.0.0) made x b.2) (two_numbers bytes a.0 b.0 b.0.1 s (number_spelled a.0.1 b.0 s.rest_bytes b.1) refl, refl)

element_spelled : (earlier : List Known) (bytes : List ℕ) (x : Slot × List ℕ) → AreBytes bytes → element_at earlier bytes ≡ Ok x → Behind tags.Elem bytes x
unfolding element_at
element_spelled earlier bytes x are e =
    let a = read_then (reference_at role.Array earlier bytes) (λ array. below_at index_limit array.1 >>= λ index. Ok (slots.Elem array.0 index.0, index.1)) x e in
    let b = read_then (below_at index_limit a.0.1) (λ index. Ok (slots.Elem a.0.0 index.0, index.1)) x a.2 in
    let s = reference_spelled role.Array earlier bytes a.0 are a.1 in
    let made : Slot × List ℕ = (slots.Elem a.0.0 b.0.0, b.0.1) in
    subst (λ (y : Slot × List ℕ). Behind tags.Elem bytes y) (ok_is made x b.2) (two_numbers bytes a.0 b.0 b.0.1 s (below_spelled index_limit a.0.1 b.0 s.rest_bytes b.1) refl, refl)

behind_spelled : (r : Ranges) (earlier : List Known) (tag : SlotTag) (bytes : List ℕ) (x : Slot × List ℕ) → AreBytes bytes → slot_of r earlier tag bytes ≡ Ok x → Behind tag bytes x
unfolding slot_of
behind_spelled r earlier tags.None bytes x are e = let made : Slot × List ℕ = (slots.None, bytes) in subst (λ (y : Slot × List ℕ). Behind tags.None bytes y) (ok_is made x e) (record { parts = refl; rest_bytes = are }, refl)
behind_spelled r earlier tags.Local bytes x are e = local_spelled r earlier bytes x are e
behind_spelled r earlier tags.Static bytes x are e = static_spelled r bytes x are e
behind_spelled r earlier tags.Field bytes x are e = field_spelled r earlier bytes x are e
behind_spelled r earlier tags.Elem bytes x are e = element_spelled earlier bytes x are e

some_is : (a b : SlotTag) → Some a ≡ Some b → a ≡ b
some_is a b e = cc

-- a tag is its place in the list
tag_is : (b : ℕ) (tag : SlotTag) → slice_get slot_tags b ≡ Some tag → slot_number tag ≡ b
tag_is zero tag e = ap slot_number (sym (some_is tags.None tag e))
tag_is (suc zero) tag e = ap slot_number (sym (some_is tags.Local tag e))
tag_is (suc (suc zero)) tag e = ap slot_number (sym (some_is tags.Static tag e))
tag_is (suc (suc (suc zero))) tag e = ap slot_number (sym (some_is tags.Field tag e))
tag_is (suc (suc (suc (suc zero)))) tag e = ap slot_number (sym (some_is tags.Elem tag e))
tag_is (suc (suc (suc (suc (suc b))))) tag e = absurd cc

tag_read : {A : Type 0} (o : Option A) (rest : List ℕ) (x : A × List ℕ) → known_tag o rest ≡ Ok x → (o ≡ Some x.0) × (rest ≡ x.1)
tag_read Absent rest x e = absurd cc
tag_read {A} (Some tag) rest x e = let made : A × List ℕ = (tag, rest) in (ap (λ (y : A × List ℕ). Some y.0) (ok_is made x e), ap (λ (y : A × List ℕ). y.1) (ok_is made x e))

pub slot_spelled : (r : Ranges) (earlier : List Known) (wanted : SlotForm) (bytes : List ℕ) (x : Slot × List ℕ) → AreBytes bytes → slot_at r earlier wanted bytes ≡ Ok x → Spelled bytes (slot_bytes x.0) x.1
unfolding slot_at
slot_spelled r earlier wanted bytes x are e =
    let a = read_then (number_at w8 bytes) (λ b. known_tag (slice_get slot_tags b.0) b.1 >>= λ tag. passed (in_range (allows_slot wanted tag.0)) tag.1 >>= λ rest. slot_of r earlier tag.0 rest) x e in
    let b = read_then (known_tag (slice_get slot_tags a.0.0) a.0.1) (λ tag. passed (in_range (allows_slot wanted tag.0)) tag.1 >>= λ rest. slot_of r earlier tag.0 rest) x a.2 in
    let c = read_then (passed (in_range (allows_slot wanted b.0.0)) b.0.1) (λ rest. slot_of r earlier b.0.0 rest) x b.2 in
    let tag = tag_read (slice_get slot_tags a.0.0) a.0.1 b.0 b.1 in
    let here : a.0.1 ≡ c.0 = tag.1 ∙ passing (in_range (allows_slot wanted b.0.0)) b.0.1 c.0 c.1 in
    let first = subst (λ (l : List ℕ). Spelled bytes (a.0.0 ∷ []) l) here (byte_spelled bytes a.0 are a.1) in
    let behind = behind_spelled r earlier b.0.0 c.0 x first.rest_bytes c.2 in
    let all = one_after bytes (a.0.0 ∷ []) c.0 (slot_rest x.0) x.1 first behind.0 in
    let number-is : a.0.0 ≡ slot_number (slot_tag x.0) = sym (tag_is a.0.0 b.0.0 tag.0) ∙ ap slot_number (sym behind.1) in
    subst (λ (l : List ℕ). Spelled bytes l x.1) (ap (λ n. (n ∷ []) ++ slot_rest x.0) number-is ∙ sym (slot_is x.0)) all

pub slot_stands : (r : Ranges) (earlier : List Known) (wanted : SlotForm) (bytes : List ℕ) (x : Slot) (rest : List ℕ) → AreBytes bytes → slot_at r earlier wanted bytes ≡ Ok (x, rest) → bytes ≡ slot_bytes x ++ rest
slot_stands r earlier wanted bytes x rest are e = (slot_spelled r earlier wanted bytes (x, rest) are e).parts
