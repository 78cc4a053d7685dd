-- The tags of kinds, slots and values, and the numbers that spell them.
use Rattle.std.proofs.Common.{◌≡◌, ℕ, Bool, true, false, cond, eqb, List, [], ◌++◌, Some, refl, sym, ap, subst}
use Rattle.std.proofs.lemmas.Bool.{eqb-true}
use Rattle.std.specs.Prelude.{slice_get}
use Rattle.wy_event.specs.declared.record.Kind.{Kind}
use Rattle.wy_event.specs.declared.record.Kind.TheVariants as kind
use Rattle.wy_event.specs.declared.record.Version.{Version}
use Rattle.wy_event.specs.declared.record.Version.TheVariants as version
use Rattle.wy_event.specs.declared.record.Slot.{Slot}
use Rattle.wy_event.specs.declared.record.Slot.TheVariants as slots
use Rattle.wy_payload.specs.Events.{kinds}
use Rattle.wy_payload.specs.declared.slot.SlotTag.{SlotTag}
use Rattle.wy_payload.specs.declared.slot.SlotTag.TheVariants as places
use Rattle.wy_payload.specs.declared.value.ValueTag.{ValueTag}
use Rattle.wy_payload.specs.declared.value.ValueTag.TheVariants as tags
use Rattle.wy_payload.specs.declared.value.ValueForm.{ValueForm}
use Rattle.wy_payload.specs.declared.value.ValueForm.TheVariants as form
use Rattle.wy_payload.specs.Values.{is_arm_tag, value_tag, value_tags}
use Rattle.wy_spelling.specs.Spelling.{arm_tag, kind_number, number}

pub kind_known : (k : Kind) → slice_get kinds (kind_number k) ≡ Some k
kind_known kind.Init = refl
kind_known kind.New = refl
kind_known kind.Call = refl
kind_known kind.Bind = refl
kind_known kind.Set = refl
kind_known kind.Test = refl
kind_known kind.Text = refl
kind_known kind.Read = refl
kind_known kind.Print = refl
kind_known kind.Return = refl
kind_known kind.Jump = refl
kind_known kind.Throw = refl
kind_known kind.Catch = refl

abbrev pub slot_tag : Slot → SlotTag
slot_tag slots.None = places.None
slot_tag (slots.Local frame index) = places.Local
slot_tag (slots.Static field) = places.Static
slot_tag (slots.Field object field) = places.Field
slot_tag (slots.Elem array index) = places.Elem

abbrev pub slot_number : SlotTag → ℕ
slot_number places.None = 0
slot_number places.Local = 1
slot_number places.Static = 2
slot_number places.Field = 3
slot_number places.Elem = 4

abbrev pub slot_rest : Slot → List ℕ
slot_rest slots.None = []
slot_rest (slots.Local frame index) = number frame ++ number index
slot_rest (slots.Static field) = number field
slot_rest (slots.Field object field) = number object ++ number field
slot_rest (slots.Elem array index) = number array ++ number index

-- the byte of a tag
abbrev pub value_number : Version → ValueTag → ℕ
value_number v tags.None = 0
value_number v tags.Bool = 1
value_number v tags.Byte = 2
value_number v tags.Short = 3
value_number v tags.Char = 4
value_number v tags.Int = 5
value_number v tags.Long = 6
value_number v tags.Null = 7
value_number v tags.Object = 8
value_number v tags.Text = 9
value_number v tags.Fixed = 10
value_number v tags.Arm = arm_tag v

arm_number_is : (v : Version) (wanted : ValueForm) (b : ℕ) → is_arm_tag v wanted b ≡ true → arm_tag v ≡ b
arm_number_is version.One form.Arm b e = sym (eqb-true b 1 e)
arm_number_is version.One _ b e = absurd cc
arm_number_is version.Two wanted b e = sym (eqb-true b 12 e)

-- the tag that a byte is has this byte
pub tag_has_byte : (v : Version) (wanted : ValueForm) (b : ℕ) (tag : ValueTag) → ((t : ValueTag) → slice_get value_tags b ≡ Some t → value_number v t ≡ b) → value_tag v wanted b ≡ Some tag → value_number v tag ≡ b
tag_has_byte v wanted b tag listed is = by (is_arm_tag v wanted b) refl is
  where
    by : (t : Bool) → is_arm_tag v wanted b ≡ t → cond t (Some tags.Arm) (slice_get value_tags b) ≡ Some tag → value_number v tag ≡ b
    by true arm e = let same : tags.Arm ≡ tag = cc in subst (λ t. value_number v t ≡ b) same (arm_number_is v wanted b arm)
    by false none e = listed tag e

not_arm : (v : Version) (wanted : ValueForm) (b : ℕ) → eqb b 1 ≡ false → eqb b 12 ≡ false → is_arm_tag v wanted b ≡ false
not_arm version.One form.Arm b e f = e
not_arm version.One _ b e f = refl
not_arm version.Two wanted b e f = f

-- a byte that is the tag of no arm in either version is one of the list
pub listed_tag : (v : Version) (wanted : ValueForm) (b : ℕ) → eqb b 1 ≡ false → eqb b 12 ≡ false → value_tag v wanted b ≡ slice_get value_tags b
listed_tag v wanted b e f = ap (λ t. cond t (Some tags.Arm) (slice_get value_tags b)) (not_arm v wanted b e f)
