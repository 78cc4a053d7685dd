-- A slot, a value and the uses that are read keep the rules.
use Rattle.std.proofs.Common.{◌≡◌, ℕ, zero, suc, Bool, true, false, cond, eqb, List, length, All, Ok, Err, refl, ap}
use Rattle.std.specs.Prelude.{None as Absent}
use Rattle.std.specs.Prelude.{IfSome, Some, nat_lt, slice_get, ◌==◌}
use Rattle.std.specs.Int.{w8, w16, w32, w64, cast_signed}
use Rattle.std.proofs.lemmas.Bool.{ltb-true}
use Rattle.std.proofs.lemmas.List.Elements.{All-cons, All-nil}
use Rattle.wy_kernel.specs.Limits.{index_limit}
use Rattle.wy_kernel.specs.View.{NONE, present}
use Rattle.wy_value.specs.declared.value.Value.{Value}
use Rattle.wy_value.specs.declared.value.Value.TheVariants as val
use Rattle.wy_event.specs.declared.record.Slot.{Slot}
use Rattle.wy_event.specs.declared.record.Slot.TheVariants as slots
use Rattle.wy_event.specs.declared.record.Version.{Version}
use Rattle.wy_payload.specs.declared.ranges.Ranges.{Ranges}
use Rattle.wy_payload.specs.declared.known.Known.{Known}
use Rattle.wy_payload.specs.declared.known.Role.{Role}
use Rattle.wy_payload.specs.declared.known.Role.TheVariants as role
use Rattle.wy_payload.specs.declared.slot.SlotTag.{SlotTag}
use Rattle.wy_payload.specs.declared.slot.SlotTag.TheVariants as slot_tag
use Rattle.wy_payload.specs.declared.slot.SlotForm.{SlotForm}
use Rattle.wy_payload.specs.declared.slot.SlotForm.TheVariants as place
use Rattle.wy_payload.specs.declared.value.ValueTag.{ValueTag}
use Rattle.wy_payload.specs.declared.value.ValueTag.TheVariants as value_tag
use Rattle.wy_payload.specs.declared.value.ValueForm.{ValueForm}
use Rattle.wy_payload.specs.declared.event.UseTag.{UseTag}
use Rattle.wy_payload.specs.declared.event.UseTag.TheVariants as use_tag
use Rattle.wy_payload.specs.Rules.{field_rule, in_range, local_rule, locals_in, optional_rule, reference_rule}
use Rattle.wy_payload.specs.Reading.{Read, at_most_at, below_at, known_tag, number_at, optional_at, passed, reference_at, rows_from}
use Rattle.wy_payload.specs.Places.{allows_slot, element_at, field_at, local_at, slot_at, slot_of, slot_tags, static_at}
use Rattle.wy_payload.specs.Values.{allows_value, arm_at, arm_limit, arm_width, bool_at, fixed_at, int_at, int_rule, object_at, object_role, plain_at, text_at, value_at, value_of, value_tag as tag_in}
use Rattle.wy_payload.specs.Events.{place_at, use_at, use_of, use_tag as use_in, uses_at}
use Rattle.wy_payload.proofs.Readers.{then_has}
use Rattle.law_reading.specs.Readable.{Refers, SlotIsThere, SlotMayStand, UseMayStand, ValueIsThere, ValueMayStand, tag_of_slot, tag_of_value}
use Rattle.law_reading.proofs.ReferringNumbers.{Has, after, at_most_has, below_has, in_range_is, passed_has}

-- ---- steps

-- what has this, has that
pub then_has_kept : {A : Type 0} (read : Read A) (P Q : A → Type 0) → Has P read → ((x : A) → P x → Q x) → Has Q read
then_has_kept (Ok x) P Q h k = k x.0 h
then_has_kept (Err d) P Q h k = tt

pub rows_have : {X : Type 0} (P : X → Type 0) (read : List ℕ → Read X) → ((bytes : List ℕ) → Has P (read bytes)) → (count : ℕ) (bytes : List ℕ) → Has (λ xs. (length xs ≡ count) × All P xs) (rows_from read count bytes)
unfolding rows_from
rows_have P read each zero bytes = (refl, All-nil P)
rows_have P read each (suc count) bytes = then_has (read bytes) _ _ _ (each bytes) (λ first has. then_has (rows_from read count first.1) _ _ _ (rows_have P read each count first.1) (λ others have. (ap suc have.0, All-cons P first.0 others.0 has have.1)))

-- ---- references

pub refers_has : (r : Role) (earlier : List Known) (bytes : List ℕ) → Has (Refers r earlier) (reference_at r earlier bytes)
unfolding reference_at
refers_has r earlier bytes = after (number_at w32 bytes) _ _ (λ n. passed_has (reference_rule r earlier n.0) n (λ (m : ℕ × List ℕ). Refers r earlier m.0) (λ ok. ok))

may_refer : (r : Role) (earlier : List Known) (n : ℕ) → optional_rule r earlier n ≡ Absent → IfSome (present n) (Refers r earlier)
unfolding optional_rule present
may_refer r earlier n e = by (eqb n NONE) e
  where
    by : (b : Bool) → cond b Absent (reference_rule r earlier n) ≡ Absent → IfSome (cond b Absent (Some n)) (Refers r earlier)
    by true e = tt
    by false e = e

pub optional_refers : (r : Role) (earlier : List Known) (bytes : List ℕ) → Has (λ n. IfSome (present n) (Refers r earlier)) (optional_at r earlier bytes)
unfolding optional_at
optional_refers r earlier bytes = after (number_at w32 bytes) _ _ (λ n. passed_has (optional_rule r earlier n.0) n (λ (m : ℕ × List ℕ). IfSome (present m.0) (Refers r earlier)) (λ ok. may_refer r earlier n.0 ok))

-- ---- slots

-- a slot with this tag is there
abbrev SlotOf : Ranges → List Known → SlotTag → Slot → Type 0
SlotOf r earlier tag x = (tag_of_slot x ≡ tag) × SlotIsThere r earlier x

local_has : (r : Ranges) (earlier : List Known) (bytes : List ℕ) → Has (SlotOf r earlier slot_tag.Local) (local_at r earlier bytes)
unfolding local_at
local_has r earlier bytes = then_has (reference_at role.Frame earlier bytes) _ _ _ (refers_has role.Frame earlier bytes) (λ frame there. after (number_at w32 frame.1) _ _ (λ index.
    passed_has (local_rule r earlier frame.0 index.0) (slots.Local frame.0 index.0, index.1) (λ (x : Slot × List ℕ). SlotOf r earlier slot_tag.Local x.0) (λ ok. (refl, (there, ltb-true index.0 (locals_in r (slice_get earlier frame.0)) (in_range_is (nat_lt index.0 (locals_in r (slice_get earlier frame.0))) ok))))))

static_has : (r : Ranges) (earlier : List Known) (bytes : List ℕ) → Has (SlotOf r earlier slot_tag.Static) (static_at r bytes)
unfolding static_at
static_has r earlier bytes = after (number_at w32 bytes) _ _ (λ field. passed_has (field_rule r true field.0) (slots.Static field.0, field.1) (λ (x : Slot × List ℕ). SlotOf r earlier slot_tag.Static x.0) (λ ok. (refl, ok)))

field_has : (r : Ranges) (earlier : List Known) (bytes : List ℕ) → Has (SlotOf r earlier slot_tag.Field) (field_at r earlier bytes)
unfolding field_at
field_has r earlier bytes = then_has (reference_at role.Object earlier bytes) _ _ _ (refers_has role.Object earlier bytes) (λ object there. after (number_at w32 object.1) _ _ (λ field. passed_has (field_rule r false field.0) (slots.Field object.0 field.0, field.1) (λ (x : Slot × List ℕ). SlotOf r earlier slot_tag.Field x.0) (λ ok. (refl, (there, ok)))))

element_has : (r : Ranges) (earlier : List Known) (bytes : List ℕ) → Has (SlotOf r earlier slot_tag.Elem) (element_at earlier bytes)
unfolding element_at
element_has r earlier bytes = then_has (reference_at role.Array earlier bytes) _ _ _ (refers_has role.Array earlier bytes) (λ array there. then_has (below_at index_limit array.1) _ _ _ (below_has index_limit array.1) (λ index below. (refl, (there, below))))

slot_behind : (r : Ranges) (earlier : List Known) (tag : SlotTag) (rest : List ℕ) → Has (SlotOf r earlier tag) (slot_of r earlier tag rest)
unfolding slot_of
slot_behind r earlier slot_tag.None rest = (refl, tt)
slot_behind r earlier slot_tag.Local rest = local_has r earlier rest
slot_behind r earlier slot_tag.Static rest = static_has r earlier rest
slot_behind r earlier slot_tag.Field rest = field_has r earlier rest
slot_behind r earlier slot_tag.Elem rest = element_has r earlier rest

slot_stands : (r : Ranges) (earlier : List Known) (wanted : SlotForm) (tag : SlotTag) (x : Slot) → allows_slot wanted tag ≡ true → SlotOf r earlier tag x → SlotMayStand r earlier wanted x
slot_stands r earlier wanted tag x allowed (is, there) = record { form = rw is allowed; there = there }

pub slot_has : (r : Ranges) (earlier : List Known) (wanted : SlotForm) (bytes : List ℕ) → Has (SlotMayStand r earlier wanted) (slot_at r earlier wanted bytes)
unfolding slot_at
slot_has r earlier wanted bytes = after (number_at w8 bytes) _ _ (λ b. after (known_tag (slice_get slot_tags b.0) b.1) _ _ (λ tag.
    then_has (passed (in_range (allows_slot wanted tag.0)) tag.1) _ (λ _. allows_slot wanted tag.0 ≡ true) _ (passed_has (in_range (allows_slot wanted tag.0)) tag.1 (λ _. allows_slot wanted tag.0 ≡ true) (λ ok. in_range_is (allows_slot wanted tag.0) ok)) (λ rest allowed.
    then_has_kept (slot_of r earlier tag.0 rest) (SlotOf r earlier tag.0) (SlotMayStand r earlier wanted) (slot_behind r earlier tag.0 rest) (λ x is. slot_stands r earlier wanted tag.0 x allowed is))))

-- ---- values

-- a value with this tag is there
abbrev ValueOf : Ranges → List Known → ValueForm → ValueTag → Value → Type 0
ValueOf r earlier wanted tag x = (tag_of_value x ≡ tag) × ValueIsThere r earlier wanted x

module _ (r : Ranges) (earlier : List Known) (wanted : ValueForm) where
  bool_has : (bytes : List ℕ) → Has (ValueOf r earlier wanted value_tag.Bool) (bool_at bytes)
  unfolding bool_at
  bool_has bytes = after (number_at w8 bytes) _ _ (λ b. passed_has (in_range (nat_lt b.0 2)) (val.Bool (b.0 == 1), b.1) (λ (x : Value × List ℕ). ValueOf r earlier wanted value_tag.Bool x.0) (λ _. (refl, tt)))

  int_has : (bytes : List ℕ) → Has (ValueOf r earlier wanted value_tag.Int) (int_at wanted bytes)
  unfolding int_at
  int_has bytes = after (number_at w32 bytes) _ _ (λ k. passed_has (int_rule wanted (cast_signed w32 k.0)) (val.Int (cast_signed w32 k.0), k.1) (λ (x : Value × List ℕ). ValueOf r earlier wanted value_tag.Int x.0) (λ ok. (refl, ok)))

  object_has : (bytes : List ℕ) → Has (ValueOf r earlier wanted value_tag.Object) (object_at earlier wanted bytes)
  unfolding object_at
  object_has bytes = then_has (reference_at (object_role wanted) earlier bytes) _ _ _ (refers_has (object_role wanted) earlier bytes) (λ n there. (refl, there))

  text_has : (bytes : List ℕ) → Has (ValueOf r earlier wanted value_tag.Text) (text_at earlier bytes)
  unfolding text_at
  text_has bytes = then_has (reference_at role.Text earlier bytes) _ _ _ (refers_has role.Text earlier bytes) (λ n there. (refl, there))

  fixed_has : (bytes : List ℕ) → Has (ValueOf r earlier wanted value_tag.Fixed) (fixed_at r bytes)
  unfolding fixed_at
  fixed_has bytes = after (number_at w32 bytes) _ _ (λ k. passed_has (in_range (nat_lt k.0 (length r.fixed))) (val.Fixed k.0, k.1) (λ (x : Value × List ℕ). ValueOf r earlier wanted value_tag.Fixed x.0) (λ ok. (refl, ltb-true k.0 (length r.fixed) (in_range_is (nat_lt k.0 (length r.fixed)) ok))))

  arm_has : (v : Version) (bytes : List ℕ) → Has (ValueOf r earlier wanted value_tag.Arm) (arm_at v bytes)
  unfolding arm_at
  arm_has v bytes = after (number_at (arm_width v) bytes) _ _ (λ k. passed_has (in_range (nat_lt k.0 arm_limit)) (val.Arm k.0, k.1) (λ (x : Value × List ℕ). ValueOf r earlier wanted value_tag.Arm x.0) (λ ok. (refl, ltb-true k.0 arm_limit (in_range_is (nat_lt k.0 arm_limit) ok))))

  value_behind : (tag : ValueTag) (rest : List ℕ) → Has (ValueOf r earlier wanted tag) (value_of r earlier wanted tag rest)
  unfolding value_of plain_at
  value_behind value_tag.Bool rest = bool_has rest
  value_behind value_tag.Int rest = int_has rest
  value_behind value_tag.Object rest = object_has rest
  value_behind value_tag.Text rest = text_has rest
  value_behind value_tag.Fixed rest = fixed_has rest
  value_behind value_tag.Arm rest = arm_has r.version rest
  value_behind value_tag.Byte rest = after (number_at w8 rest) _ _ (λ k. (refl, tt))
  value_behind value_tag.Short rest = after (number_at w16 rest) _ _ (λ k. (refl, tt))
  value_behind value_tag.Char rest = after (number_at w16 rest) _ _ (λ k. (refl, tt))
  value_behind value_tag.Long rest = after (number_at w64 rest) _ _ (λ k. (refl, tt))
  value_behind value_tag.Null rest = (refl, tt)
  value_behind value_tag.None rest = (refl, tt)

  value_stands : (tag : ValueTag) (x : Value) → allows_value wanted tag ≡ true → ValueOf r earlier wanted tag x → ValueMayStand r earlier wanted x
  value_stands tag x allowed (is, there) = record { form = rw is allowed; there = there }

  pub value_has : (bytes : List ℕ) → Has (ValueMayStand r earlier wanted) (value_at r earlier wanted bytes)
  unfolding value_at
  value_has bytes = after (number_at w8 bytes) _ _ (λ b. after (known_tag (tag_in r.version wanted b.0) b.1) _ _ (λ tag.
      then_has (passed (in_range (allows_value wanted tag.0)) tag.1) _ (λ _. allows_value wanted tag.0 ≡ true) _ (passed_has (in_range (allows_value wanted tag.0)) tag.1 (λ _. allows_value wanted tag.0 ≡ true) (λ ok. in_range_is (allows_value wanted tag.0) ok)) (λ rest allowed.
      then_has_kept (value_of r earlier wanted tag.0 rest) (ValueOf r earlier wanted tag.0) (ValueMayStand r earlier wanted) (value_behind tag.0 rest) (λ x is. value_stands tag.0 x allowed is))))

-- ---- uses

module _ (r : Ranges) (earlier : List Known) where
  use_behind : (tag : UseTag) (rest : List ℕ) → Has (UseMayStand r earlier) (use_of r earlier tag rest)
  unfolding use_of place_at
  use_behind use_tag.Place rest = then_has (slot_at r earlier place.Place rest) _ _ _ (slot_has r earlier place.Place rest) (λ slot stands. then_has (at_most_at (length earlier) slot.1) _ _ _ (at_most_has (length earlier) slot.1) (λ moment up. (stands, up)))
  use_behind use_tag.Value rest = then_has (below_at (length earlier) rest) _ _ _ (below_has (length earlier) rest) (λ event below. below)
  use_behind use_tag.Choice rest = then_has (reference_at role.Test earlier rest) _ _ _ (refers_has role.Test earlier rest) (λ event there. there)

  use_has : (bytes : List ℕ) → Has (UseMayStand r earlier) (use_at r earlier bytes)
  unfolding use_at
  use_has bytes = after (number_at w8 bytes) _ _ (λ b. after (known_tag (use_in b.0) b.1) _ _ (λ tag. use_behind tag.0 tag.1))

  pub uses_have : (bytes : List ℕ) → Has (All (UseMayStand r earlier)) (uses_at r earlier bytes)
  unfolding uses_at
  uses_have bytes = after (number_at w32 bytes) _ _ (λ count.
      then_has_kept (rows_from (use_at r earlier) count.0 count.1) (λ us. (length us ≡ count.0) × All (UseMayStand r earlier) us) (All (UseMayStand r earlier)) (rows_have (UseMayStand r earlier) (use_at r earlier) use_has count.0 count.1) (λ us h. h.1))
