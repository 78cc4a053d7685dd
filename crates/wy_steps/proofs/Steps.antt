-- The laws of the steps, by cases on what there is room for.
use Rattle.std.proofs.Common.{◌≡◌, ◌≤◌, ◌+◌, ℕ, zero, suc, Bool, true, false, length, Option, Some, refl, ap, ◌∙◌, eq-eqb, nat_eq, nat_le, nat_lt}
use Rattle.std.proofs.lemmas.Bool.{ltb-true, leb-true}
use Rattle.std.specs.Prelude.{None as Absent}
use Rattle.std.specs.Prelude.{◌&&◌, if◌then◌else◌}
use Rattle.wy_event.specs.declared.record.Slot.{Slot}
use Rattle.wy_event.specs.declared.record.Slot.TheVariants as slot
use Rattle.wy_event.specs.Record.{same_slot}
use Rattle.wy_steps.specs.Sets.{Sets}
use Rattle.wy_steps.specs.State.{Carried, Held, State, Stop, Outcome, Done, Left, Stopped, Run, EventLimit, UseLimit, ElementLimit, UnitLimit, stop, choose}
use Rattle.wy_kernel.specs.Limits.{event_limit, use_limit, element_limit, unit_limit}
use Rattle.wy_steps.specs.Steps.{pay, tick, held_of, read, slot_with, no_value, declare, next_event, made, with_event, room_for, noting, note, held_by, with_stored, writing, note_write, if_empty, with_created, creating, note_new, active_again, scoped, frame_again, in_frame, with_elements, take_elements, with_units, take_units}
use Rattle.wy_steps.specs.Laws.{IfDone, end_of, TakesOne, IsSlot, carried_of, ReadsWhatWasWritten, LeavesOthers, ReplacesNothing, emptied, TakesTheValue, AppendsOne, WritesOne, CreatesOne, EntriesComeBack, FrameComesBack, RecordsWithin, WritesWithin, CreatesWithin, MakesWithin}

both_true : (a b : Bool) → a ≡ true → b ≡ true → (a && b) ≡ true
both_true a b p q = ap (λ x. x && b) p ∙ q

same_as_itself : (n : ℕ) → nat_eq n n ≡ true
same_as_itself n = eq-eqb n n refl

-- a slot of something is itself
itself : (x : Slot) → IsSlot x → same_slot x x ≡ true
unfolding same_slot
itself slot.None h = elim h [ ]
itself (slot.Local f i) h = both_true _ _ (same_as_itself f) (same_as_itself i)
itself (slot.Static f) h = same_as_itself f
itself (slot.Field o f) h = both_true _ _ (same_as_itself o) (same_as_itself f)
itself (slot.Elem a i) h = both_true _ _ (same_as_itself a) (same_as_itself i)

if_true : {X : Type 0} (b : Bool) (x y : X) → b ≡ true → (if b then x else y) ≡ x
if_true b x y h = ap (λ c. if c then x else y) h

if_false : {X : Type 0} (b : Bool) (x y : X) → b ≡ false → (if b then x else y) ≡ y
if_false b x y h = ap (λ c. if c then x else y) h

module _ (A : Sets) where
  -- ---- what went through had room

  chosen : {X : Type 0} (b : Bool) (m : Run A X) (why : Stop) (s : State A) (P : X → State A → Type 0) → (b ≡ true → IfDone (m s) P) → IfDone (choose b m (stop why) s) P
  unfolding choose stop
  chosen true m why s P h = h refl
  chosen false m why s P h = tt

  roomy : {X : Type 0} (c : Carried A) (m : Run A X) (s : State A) (P : X → State A → Type 0) → (suc (length s.noted) ≤ event_limit → s.uses + length c.uses ≤ use_limit → IfDone (m s) P) → IfDone (room_for c m s) P
  unfolding room_for
  roomy c m s P h =
      chosen (nat_lt (length s.noted) event_limit) (choose (nat_le (s.uses + length c.uses) use_limit) m (stop UseLimit)) EventLimit s P
      (λ below. chosen (nat_le (s.uses + length c.uses) use_limit) m UseLimit s P
      (λ fits. h (ltb-true (length s.noted) event_limit below) (leb-true (s.uses + length c.uses) use_limit fits)))

  -- ---- the budget

  pub takes_one : TakesOne A
  unfolding tick pay
  takes_one s = paid s.left s refl
    where
      paid : (n : ℕ) (s : State A) → s.left ≡ n → IfDone (pay n s) (λ x t. s.left ≡ suc t.left)
      paid zero s e = tt
      paid (suc n) s e = e

  -- ---- slots

  held_at : (o p : Option (Held A)) (h : Held A) → o ≡ p → p ≡ Some h → held_of o ≡ h
  unfolding held_of
  held_at o p h e f = ap held_of (e ∙ f)

  pub reads_what_was_written : ReadsWhatWasWritten A
  unfolding note_write writing read with_stored with_event slot_with held_by made
  reads_what_was_written d c s is = roomy c (writing d c) s _ (λ few fits.
      ap (λ h. Done (carried_of h d.slot (suc (length s.noted))) (with_stored d.slot (held_by d.value (next_event d c s)) (with_event (next_event d c s) s)))
      (held_at _ _ _ refl (if_true (same_slot d.slot d.slot) _ _ (itself d.slot is))))

  pub leaves_others : LeavesOthers A
  unfolding note_write writing with_stored with_event slot_with
  leaves_others d c s = roomy c (writing d c) s _ (λ few fits y other. if_false (same_slot y d.slot) _ _ other)

  pub replaces_nothing : ReplacesNothing A
  unfolding note_new creating with_created with_event if_empty
  replaces_nothing p d c s = roomy c (creating p d c) s _ (λ few fits y h there. kept (s.store y) _ h there)
    where
      kept : (o new : Option (Held A)) (h : Held A) → o ≡ Some h → if_empty o new ≡ Some h
      kept o new h e = ap (λ x. if_empty x new) e

  pub takes_the_value : TakesTheValue A
  unfolding declare held_of no_value
  takes_the_value x s is = ap held_of (if_true (same_slot x x) _ _ (itself x is)) ∙ emptied_of (s.store x)
    where
      emptied_of : (o : Option (Held A)) → held_of (no_value o) ≡ emptied (held_of o)
      emptied_of Absent = refl
      emptied_of (Some h) = refl

  -- ---- records

  pub appends_one : AppendsOne A
  unfolding note noting made with_event next_event
  appends_one d c s = roomy c (noting d c) s _ (λ few fits. record { event = next_event d c s; one_more = refl; number = refl; kind = refl; uses = refl; by_data = refl; in_all = refl })

  pub writes_one : WritesOne A
  unfolding note_write writing made with_event with_stored next_event
  writes_one d c s = roomy c (writing d c) s _ (λ few fits. record { event = next_event d c s; one_more = refl; number = refl; kind = refl; uses = refl; by_data = refl; in_all = refl })

  pub creates_one : CreatesOne A
  unfolding note_new creating made with_event with_created next_event
  creates_one p d c s = roomy c (creating p d c) s _ (λ few fits. record { event = next_event d c s; one_more = refl; number = refl; kind = refl; uses = refl; by_data = refl; in_all = refl })

  -- ---- what stands around a part of a run

  pub entries_come_back : (X : Type 0) → EntriesComeBack A X
  unfolding scoped active_again
  entries_come_back X m s = back (m s)
    where
      back : (o : Outcome A X) → (end_of (active_again s.active o)).active ≡ s.active
      back (Done x t) = refl
      back (Left why t) = refl
      back (Stopped why t) = refl

  pub frame_comes_back : (X : Type 0) → FrameComesBack A X
  unfolding in_frame frame_again
  frame_comes_back X n m s = back (m (record s { frame = Some n }))
    where
      back : (o : Outcome A X) → (end_of (frame_again s.frame o)).frame ≡ s.frame
      back (Done x t) = refl
      back (Left why t) = refl
      back (Stopped why t) = refl

  -- ---- limits

  pub records_within : RecordsWithin A
  unfolding note noting with_event next_event
  records_within d c s = roomy c (noting d c) s _ (λ few fits. (few, fits))

  pub writes_within : WritesWithin A
  unfolding note_write writing with_stored with_event next_event
  writes_within d c s = roomy c (writing d c) s _ (λ few fits. (few, fits))

  pub creates_within : CreatesWithin A
  unfolding note_new creating with_created with_event next_event
  creates_within p d c s = roomy c (creating p d c) s _ (λ few fits. (few, fits))

  pub makes_within : MakesWithin A
  unfolding take_elements take_units with_elements with_units
  makes_within n s = (
    chosen (nat_le (s.elements + n) element_limit) (with_elements n) ElementLimit s _ (λ fits. leb-true (s.elements + n) element_limit fits),
    chosen (nat_le (s.units + n) unit_limit) (with_units n) UnitLimit s _ (λ fits. leb-true (s.units + n) unit_limit fits),
  )
