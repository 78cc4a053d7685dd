-- Values that are in range keep the rules of a reader.
use Rattle.std.proofs.Common.{◌≡◌, ◌<◌, ◌≤◌, inl, inr, arith, ℕ, zero, suc, Bool, true, false, List, length, Option, Some, refl, sym, ap, ◌∙◌, subst}
use Rattle.std.specs.Prelude.{None as Absent}
use Rattle.std.specs.Prelude.{ℤ, pos, negsuc, nat_lt, nat_le, slice_get, if◌then◌else◌}
use Rattle.std.proofs.lemmas.Bool.Decides.{nat_tests}
use Rattle.std.proofs.lemmas.List.{length-map}
use Rattle.wy_kernel.specs.declared.program.Program as memory
use Rattle.wy_kernel.specs.Parts.{program_of}
use Rattle.wy_value.specs.declared.value.Value.{Value}
use Rattle.wy_value.specs.declared.value.Value.TheVariants as val
use Rattle.wy_event.specs.declared.record.Version.{Version}
use Rattle.wy_event.specs.declared.record.Kind.{Kind}
use Rattle.wy_event.specs.declared.record.Kind.TheVariants as kind
use Rattle.wy_event.specs.Record.{Recorded}
use Rattle.wy_steps.specs.Steps.{code_of}
use Rattle.wy_payload.specs.declared.known.Known.{Known}
use Rattle.wy_payload.specs.declared.known.Role.TheVariants as role
use Rattle.wy_payload.specs.declared.value.ValueForm.{ValueForm}
use Rattle.wy_payload.specs.declared.value.ValueForm.TheVariants as form
use Rattle.wy_payload.specs.Ranges.{ranges_of}
use Rattle.wy_payload.specs.Rules.{in_range, brackets_unit}
use Rattle.wy_payload.specs.Values.{value_form, allows_value, int_rule, object_role}
use Rattle.law_shaped.specs.Shaped.{Shaped, ValueFits, EntityOf, IsNew, IsText}
use Rattle.law_reading.specs.Readable.{or_none, Refers, tag_of_value, ValueIsThere, ValueMayStand}
use Rattle.law_in_range.specs.InRange.{arrays_from, IsNone, IsSome, IsArm, IsReturned, IsByte, IsPrinted, IsThrown, IsLength, ValueInRange, FixedInRange}
use Rattle.law_own_traces.proofs.Plain.{printed_plain, some_plain, thrown_plain}
use Rattle.law_own_traces.proofs.Known.{earlier, front, below_refers, object_refers}

module _ (V : Version) (P : memory.Program) (rs : List Recorded) (shaped : (n : ℕ) (e : Recorded) → slice_get rs n ≡ Some e → Shaped rs n e) (n : ℕ) where
  abbrev before : List Known
  before = earlier (front rs shaped n)

  abbrev Stands : ValueForm → Value → Type 0
  Stands wanted v = ValueMayStand (ranges_of V P) before wanted v

  -- what a form says of ints and objects
  pub record IsLoose (wanted : ValueForm) : Type 0 where
    pub ints : (z : ℤ) → int_rule wanted z ≡ Absent
    pub objects : object_role wanted ≡ role.Made

  fixed_there : (k : ℕ) → k < length (program_of P).fixed_texts → k < length (ranges_of V P).fixed
  unfolding ranges_of
  fixed_there k lt = subst (λ m. k < m) (length-map P.fixed_texts.items _ ∙ sym (length-map P.fixed_texts.items _)) lt

  there_as : (wanted : ValueForm) → IsLoose wanted → (v : Value) → IsReturned v → FixedInRange (program_of P) v → ValueFits rs n v → ValueIsThere (ranges_of V P) before wanted v
  there_as wanted l (val.Int z) plain f h = l.ints z
  there_as wanted l (val.Object k) plain f h = subst (λ r. Refers r before k) (sym l.objects) (below_refers rs shaped n role.Made IsNew (λ k h. h) k h)
  there_as wanted l (val.Text k) plain f h = below_refers rs shaped n role.Text IsText (λ k h. h) k h
  there_as wanted l (val.Fixed k) plain f h = fixed_there k f
  there_as wanted l val.None plain f h = tt
  there_as wanted l (val.Bool x) plain f h = tt
  there_as wanted l (val.Byte x) plain f h = tt
  there_as wanted l (val.Short x) plain f h = tt
  there_as wanted l (val.Char x) plain f h = tt
  there_as wanted l (val.Long x) plain f h = tt
  there_as wanted l val.Null plain f h = tt
  there_as wanted l (val.Arm x) plain f h = absurd plain

  any_loose : IsLoose form.Any
  any_loose = record { ints = λ z. refl; objects = refl }

  optional_loose : IsLoose form.Optional
  optional_loose = record { ints = λ z. refl; objects = refl }

  printed_loose : IsLoose form.Printed
  printed_loose = record { ints = λ z. refl; objects = refl }

  caught_loose : IsLoose form.Caught
  caught_loose = record { ints = λ z. refl; objects = refl }

  -- ---- each form

  no_value : (v : Value) → IsNone v → Stands form.Nothing v
  no_value val.None h = record { form = refl; there = tt }
  no_value _ h = absurd h

  some_value : (v : Value) → IsSome v → allows_value form.Any (tag_of_value v) ≡ true
  some_value val.None h = absurd h
  some_value (val.Bool x) h = refl
  some_value (val.Byte x) h = refl
  some_value (val.Short x) h = refl
  some_value (val.Char x) h = refl
  some_value (val.Int x) h = refl
  some_value (val.Long x) h = refl
  some_value val.Null h = refl
  some_value (val.Object x) h = refl
  some_value (val.Text x) h = refl
  some_value (val.Fixed x) h = refl
  some_value (val.Arm x) h = absurd h

  printed_value : (v : Value) → IsPrinted v → allows_value form.Printed (tag_of_value v) ≡ true
  printed_value val.None h = refl
  printed_value (val.Bool x) h = refl
  printed_value (val.Byte x) h = absurd h
  printed_value (val.Short x) h = absurd h
  printed_value (val.Char x) h = refl
  printed_value (val.Int x) h = refl
  printed_value (val.Long x) h = refl
  printed_value val.Null h = refl
  printed_value (val.Object x) h = absurd h
  printed_value (val.Text x) h = refl
  printed_value (val.Fixed x) h = refl
  printed_value (val.Arm x) h = absurd h

  arm_value : (v : Value) → IsArm v → Stands form.Arm v
  arm_value (val.Arm k) h = record { form = refl; there = h }
  arm_value _ h = absurd h

  returned_value : (v : Value) → IsReturned v → allows_value form.Optional (tag_of_value v) ≡ true
  returned_value (val.Arm k) h = absurd h
  returned_value _ h = refl

  byte_value : (v : Value) → IsByte v → Stands form.Byte v
  byte_value (val.Int (pos k)) h = record { form = refl; there = ap in_range below }
    where
      below : nat_lt k 256 ≡ true
      below = grind (arith, nat_tests)
  byte_value (val.Int (negsuc zero)) h = record { form = refl; there = refl }
  byte_value (val.Int (negsuc (suc k))) h = absurd h
  byte_value (val.Bool x) h = absurd h
  byte_value (val.Byte x) h = absurd h
  byte_value (val.Short x) h = absurd h
  byte_value (val.Char x) h = absurd h
  byte_value (val.Long x) h = absurd h
  byte_value val.Null h = absurd h
  byte_value (val.Object x) h = absurd h
  byte_value (val.Text x) h = absurd h
  byte_value (val.Fixed x) h = absurd h
  byte_value val.None h = absurd h
  byte_value (val.Arm x) h = absurd h

  thrown_value : (v : Value) → IsThrown (slice_get (front rs shaped n)) v → Stands form.Thrown v
  thrown_value (val.Object k) h = record { form = refl; there = object_refers rs shaped n k h }
  thrown_value _ h = absurd h

  caught_value : (v : Value) → IsThrown (slice_get (front rs shaped n)) v → allows_value form.Caught (tag_of_value v) ≡ true
  caught_value (val.Object k) h = refl
  caught_value _ h = absurd h

  length_value : (k : ℕ) → Stands form.Length (val.Int (pos k))
  length_value k = record { form = refl; there = refl }

  small_form : (code : ℕ) → code < arrays_from → value_form kind.New code ≡ form.Nothing
  small_form code lt = ap (λ (b : Bool). if b then form.Length else form.Nothing) large
    where
      large : nat_le brackets_unit code ≡ false
      large = grind (arith, nat_tests)

  large_form : (code : ℕ) → arrays_from ≤ code → value_form kind.New code ≡ form.Length
  large_form code le = ap (λ (b : Bool). if b then form.Length else form.Nothing) large
    where
      large : nat_le brackets_unit code ≡ true
      large = grind (arith, nat_tests)

  new_value : (code : ℕ) (v : Value) → IsLength code v → Stands (value_form kind.New code) v
  new_value code v (inl h) = subst (λ w. Stands w v) (sym (small_form code h.0)) (no_value v h.1)
  new_value code v (inr h) = subst (λ w. Stands w v) (sym (large_form code h.0)) (subst (λ x. Stands form.Length x) (sym h.1.1) (length_value h.1.0))

  new_code : (entity : Option ℕ) (v : Value) → EntityOf kind.New entity → IsLength (code_of entity) v → Stands (value_form kind.New (or_none entity)) v
  unfolding code_of
  new_code (Some code) v w h = new_value code v h
  new_code Absent v w h = absurd w

  pub value_stands : (k : Kind) (entity : Option ℕ) (v : Value) → EntityOf k entity → ValueInRange (slice_get (front rs shaped n)) k entity v → FixedInRange (program_of P) v → ValueFits rs n v → Stands (value_form k (or_none entity)) v
  value_stands kind.Init entity v w h f s = no_value v h
  value_stands kind.New entity v w h f s = new_code entity v w h
  value_stands kind.Call entity v w h f s = no_value v h
  value_stands kind.Bind entity v w h f s = record { form = some_value v h; there = there_as form.Any any_loose v (some_plain v h) f s }
  value_stands kind.Set entity v w h f s = record { form = some_value v h; there = there_as form.Any any_loose v (some_plain v h) f s }
  value_stands kind.Test entity v w h f s = arm_value v h
  value_stands kind.Text entity v w h f s = no_value v h
  value_stands kind.Read entity v w h f s = byte_value v h
  value_stands kind.Print entity v w h f s = record { form = printed_value v h; there = there_as form.Printed printed_loose v (printed_plain v h) f s }
  value_stands kind.Return entity v w h f s = record { form = returned_value v h; there = there_as form.Optional optional_loose v h f s }
  value_stands kind.Jump entity v w h f s = no_value v h
  value_stands kind.Throw entity v w h f s = thrown_value v h
  value_stands kind.Catch entity v w h f s = record { form = caught_value v h; there = there_as form.Caught caught_loose v (thrown_plain (slice_get (front rs shaped n)) v h) f s }
