-- States are typed: the law of states, with what is known of values, slots, events and bodies.
use Rattle.std.proofs.Common.{◌≡◌, ℕ, Bool, true, false, List, ◌⊎◌, inl, inr, Option, Some, refl, sym, ◌∙◌, subst}
use Rattle.std.specs.Prelude.{None as Absent}
use Rattle.std.specs.Prelude.{nat_eq, if◌then◌else◌}
use Rattle.std.proofs.lemmas.Bool.{eq-eqb}
use Rattle.wy_kernel.specs.declared.types.Ty.{Ty}
use Rattle.wy_kernel.specs.Program.{Program, Method, field}
use Rattle.wy_kernel.specs.Subtyping.{class_type}
use Rattle.wy_kernel.specs.Builtin.{throwable_class}
use Rattle.wy_value.specs.declared.value.Value.{Value}
use Rattle.wy_event.specs.declared.record.Slot.{Slot}
use Rattle.wy_event.specs.declared.record.Slot.TheVariants as slot
use Rattle.wy_event.specs.Record.{same_slot}
use Rattle.wy_event.specs.Sources.{creates, creates_as, is_entity}
use Rattle.wy_steps.specs.Sets.{Sets}
use Rattle.wy_steps.specs.State.{Held, Noted, State, Reason, Jumped, Returned, Threw}
use Rattle.wy_steps.specs.Steps.{Draft, Made, made, event_in, held_of, no_value, owner_in, next_event, with_event, with_stored, with_created, with_active, without, covering}
use Rattle.wy_typing.specs.Expressions.{IsMethod}
use Rattle.wy_typing.specs.Programs.{IsProgram}
use Rattle.law_induction.specs.Law.{Fact, nothing, FrameKind, OfCall, OfInit, Region, Outside, In, Ends}
use Rattle.law_induction.specs.States.{StateLaw, declared}
use Rattle.law_typed_states.specs.Typed.{Is, Runs, FitsSlot, FitsLocal, IsThere, IsTypedState, LacksValue}
use Rattle.law_typed_states.proofs.Moments.{by_events, Later, later_one, newest_there, IsObject, Begun, MadeAs, begun_where, object_up, begun_up, made_up, runs_up, is_up, fits_up, slot_is}
use Rattle.law_typed_states.proofs.States.{recorded_typed, written_typed, created_typed}

module _ (A : Sets) (p : Program) where
  abbrev pub Known : Type 1
  Known = Fact (by_events A)

  -- the value is of the type
  unfoldable pub is : Ty → Value → Known
  is ty v = record { holds = λ n. Is p n ty v; up = λ m n le h. is_up p m n ty v le h }

  unfoldable pub object : ℕ → Known
  object k = record { holds = λ n. IsObject n k; up = λ m n le h. object_up m n k le h }

  -- the initialization of the class has begun
  unfoldable pub begun : ℕ → Known
  begun c = record { holds = λ n. Begun n c; up = λ m n le h. begun_up m n c le h }

  unfoldable pub runs : FrameKind → ℕ → Known
  runs i f = record { holds = λ n. Runs n f i; up = λ m n le h. runs_up m n f i le h }

  abbrev pub Current : FrameKind → Option ℕ → List (Noted A) → Type 0
  Current i o n = (f : ℕ) × (o ≡ Some f) × Runs n f i

  pub current_up : (m n : List (Noted A)) (i : FrameKind) (o : Option ℕ) → Later m n → Current i o m → Current i o n
  current_up m n i o le h = (h.0, h.1, runs_up m n h.0 i le h.2)

  unfoldable pub current : FrameKind → Option ℕ → Known
  unfolding current_up
  current i o = record { holds = Current i o; up = λ m n. current_up m n i o }

  -- the slot may be read
  unfoldable pub place : Slot → Known
  place slot.None = nothing
  place (slot.Local f k) = nothing
  place (slot.Static k) = begun (field p k).class
  place (slot.Field o k) = object o
  place (slot.Elem a i) = object a

  unfoldable pub event : Draft → Made A → Known
  event d e = record { holds = λ n. MadeAs n d e; up = λ m n le h. made_up m n d e le h }

  pub told_up : (m n : List (Noted A)) (c : ℕ) (b : Bool) → Later m n → (b ≡ true → Begun m c) → b ≡ true → Begun n c
  told_up m n c b le h e = begun_up m n c le (h e)

  unfoldable pub told : ℕ → Bool → Known
  unfolding told_up
  told c b = record { holds = λ n. b ≡ true → Begun n c; up = λ m n. told_up m n c b }

  -- what is read of a slot
  abbrev pub ReadsAs : List (Noted A) → Slot → Value → Type 0
  ReadsAs n (slot.Local f k) v = LacksValue v ⊎ FitsLocal p n f k v
  ReadsAs n x v = FitsSlot p n x v

  pub reads_up : (m n : List (Noted A)) (x : Slot) (v : Value) → Later m n → ReadsAs m x v → ReadsAs n x v
  reads_up m n (slot.Local f k) v le (inl e) = inl e
  reads_up m n (slot.Local f k) v le (inr h) = inr (fits_up p m n (slot.Local f k) v le h)
  reads_up m n slot.None v le h = tt
  reads_up m n (slot.Static k) v le h = fits_up p m n (slot.Static k) v le h
  reads_up m n (slot.Field o k) v le h = fits_up p m n (slot.Field o k) v le h
  reads_up m n (slot.Elem a i) v le h = fits_up p m n (slot.Elem a i) v le h

  unfoldable pub read_from : Slot → Value → Known
  unfolding reads_up
  read_from x v = record { holds = λ n. ReadsAs n x v; up = λ m n. reads_up m n x v }

  unfoldable pub stores : Slot → Value → Known
  stores x v = record { holds = λ n. FitsSlot p n x v; up = λ m n le h. fits_up p m n x v le h }

  pub answer_up : (m n : List (Noted A)) (k : ℕ) (v : Value) → Later m n → ((md : Method) → IsMethod p k md → Is p m md.result v) → (md : Method) → IsMethod p k md → Is p n md.result v
  answer_up m n k v le h md e = is_up p m n md.result v le (h md e)

  -- what a method gives
  unfoldable pub answer : ℕ → Value → Known
  unfolding answer_up
  answer k v = record { holds = λ n. (md : Method) → IsMethod p k md → Is p n md.result v; up = λ m n. answer_up m n k v }

  unfoldable pub never : Known
  never = record { holds = λ n. ⊥; up = λ m n le h. h }

  -- a Return gives back what the method gives; an initialization has none, and none leaves a body
  unfoldable pub reason : Region → Reason A → Known
  reason r (Jumped target e) = nothing
  reason r (Threw e v) = is (class_type throwable_class) v.value
  reason (In (OfCall m)) (Returned e v) = answer m v.value
  reason (In (OfInit c)) (Returned e v) = never
  reason Outside (Returned e v) = never
  reason (Ends i) (Returned e v) = never

  pub reason_out : (r : Region) (i : FrameKind) (why : Reason A) (n : List (Noted A)) → (reason (Ends i) why).holds n → (reason r why).holds n
  unfolding reason never
  reason_out r i (Jumped target e) n h = tt
  reason_out r i (Threw e v) n h = h
  reason_out r i (Returned e v) n h = absurd h

  -- ---- states

  -- in which body it is
  abbrev pub Standing : Region → State A → Type 0
  Standing Outside s = Unit {0}
  Standing (In i) s = Current i s.frame s.noted
  Standing (Ends i) s = Current i s.frame s.noted

  pub standing_up : (r : Region) (s t : State A) → Later s.noted t.noted → t.frame ≡ s.frame → Standing r s → Standing r t
  standing_up Outside s t le e h = tt
  standing_up (In i) s t le e h = (h.0, e ∙ h.1, runs_up s.noted t.noted h.0 i le h.2)
  standing_up (Ends i) s t le e h = (h.0, e ∙ h.1, runs_up s.noted t.noted h.0 i le h.2)

  emptied_there : (b : Bool) (o : Option (Held A)) → IsThere o → IsThere (if b then no_value o else o)
  unfolding no_value
  emptied_there true (Some h) t = tt
  emptied_there true Absent t = absurd t
  emptied_there false o t = t

  emptied_local : (n : List (Noted A)) (f k : ℕ) (o : Option (Held A)) (h : Held A) → ((g : Held A) → o ≡ Some g → FitsLocal p n f k g.value) → no_value o ≡ Some h → FitsLocal p n f k h.value
  unfolding no_value held_of
  emptied_local n f k Absent h i e = absurd (cc e)
  emptied_local n f k (Some g) h i e = let l = i g refl in subst (λ (o : Option (Held A)). FitsLocal p n f k (held_of o).value) e (record { body = l.body; runs = l.runs; typed = λ ty q. inl refl })

  emptied_fits : (n : List (Noted A)) (f k : ℕ) (y : Slot) (b : Bool) (o : Option (Held A)) (h : Held A) → same_slot y (slot.Local f k) ≡ b → ((g : Held A) → o ≡ Some g → FitsSlot p n y g.value) → (if b then no_value o else o) ≡ Some h → FitsSlot p n y h.value
  emptied_fits n f k y true o h is i e = subst (λ z. FitsSlot p n z h.value) (sym (slot_is y (slot.Local f k) is)) (emptied_local n f k o h (λ g q. subst (λ z. FitsSlot p n z g.value) (slot_is y (slot.Local f k) is) (i g q)) e)
  emptied_fits n f k y false o h is i e = i h e

  pub declared_typed : (s : State A) (f k : ℕ) → IsTypedState p s → IsTypedState p (declared (slot.Local f k) s)
  declared_typed s f k i = record {
    store = λ y h e. emptied_fits s.noted f k y (same_slot y (slot.Local f k)) (s.store y) h refl (i.store y) e;
    created = λ n e x there c. emptied_there (same_slot x (slot.Local f k)) (s.store x) (i.created n e x there c);
    past = i.past;
  }

  -- what holds something that fits is read so
  held_known : (s : State A) (x : Slot) (o : Option (Held A)) → s.store x ≡ o → IsTypedState p s → IsThere o → ReadsAs s.noted x (held_of o).value
  unfolding held_of
  held_known s x Absent e i t = absurd t
  held_known s (slot.Local f k) (Some h) e i t = inr (i.store (slot.Local f k) h e)
  held_known s slot.None (Some h) e i t = tt
  held_known s (slot.Static k) (Some h) e i t = i.store (slot.Static k) h e
  held_known s (slot.Field o k) (Some h) e i t = i.store (slot.Field o k) h e
  held_known s (slot.Elem a j) (Some h) e i t = i.store (slot.Elem a j) h e

  local_known : (s : State A) (f k : ℕ) (o : Option (Held A)) → s.store (slot.Local f k) ≡ o → IsTypedState p s → ReadsAs s.noted (slot.Local f k) (held_of o).value
  unfolding held_of
  local_known s f k Absent e i = inl refl
  local_known s f k (Some h) e i = inr (i.store (slot.Local f k) h e)

  same_number : (n : ℕ) → nat_eq n n ≡ true
  same_number n = eq-eqb n n refl

  new_field : (s : State A) (o k : ℕ) → IsTypedState p s → IsObject s.noted o → IsThere (s.store (slot.Field o k))
  unfolding creates creates_as
  new_field s o k i h = i.created o h.event (slot.Field o k) h.there (subst (λ q. creates_as (owner_in p) q o h.event.entity (slot.Field o k) ≡ true) (sym h.is_new) (same_number o))

  new_element : (s : State A) (a j : ℕ) → IsTypedState p s → IsObject s.noted a → IsThere (s.store (slot.Elem a j))
  unfolding creates creates_as
  new_element s a j i h = i.created a h.event (slot.Elem a j) h.there (subst (λ q. creates_as (owner_in p) q a h.event.entity (slot.Elem a j) ≡ true) (sym h.is_new) (same_number a))

  new_static : (s : State A) (k : ℕ) → IsTypedState p s → Begun s.noted (field p k).class → IsThere (s.store (slot.Static k))
  unfolding creates creates_as is_entity owner_in
  new_static s k i h = i.created h.number h.event (slot.Static k) h.there (subst (λ q. creates_as (owner_in p) q h.number h.event.entity (slot.Static k) ≡ true) (sym h.is_init) (subst (λ q. is_entity q (field p k).class ≡ true) (sym h.of_class) (same_number (field p k).class)))

  pub slot_known : (s : State A) (x : Slot) → IsTypedState p s → (place x).holds s.noted → ReadsAs s.noted x (held_of (s.store x)).value
  unfolding place object begun
  slot_known s slot.None i h = tt
  slot_known s (slot.Local f k) i h = local_known s f k (s.store (slot.Local f k)) refl i
  slot_known s (slot.Static k) i h = held_known s (slot.Static k) (s.store (slot.Static k)) refl i (new_static s k i h)
  slot_known s (slot.Field o k) i h = held_known s (slot.Field o k) (s.store (slot.Field o k)) refl i (new_field s o k i h)
  slot_known s (slot.Elem a j) i h = held_known s (slot.Elem a j) (s.store (slot.Elem a j)) refl i (new_element s a j i h)

module _ (A : Sets) (p : Program) (fits : IsProgram p) where
  unfoldable pub law : StateLaw A
  unfolding event current told read_from stores runs with_event with_stored with_created with_active without covering next_event made
  law = record {
    facts = record {
      program = p;
      moments = by_events A;
      fit = λ v. nothing;
      value = λ v. nothing;
      place = place A p;
      made = event A p;
      body = runs A p;
      current = current A p;
      told = told A p;
      read_from = λ x v. read_from A p x v.value;
      stores = stores A p;
      sees = λ k o n. o ≡ event_in n k;
      reason = reason A p;
      threw = λ e. nothing;
      out = reason_out A p;
    };
    now = λ s. s.noted;
    goes = λ s t. Later s.noted t.noted;
    goes_nowhere = λ s k e h. h;
    goes_on = λ s t u g h k e i. h k e (g k e i);
    goes_later = λ s t g. g;
    part = λ s. Unit {0};
    part_before = λ s t g f. tt;
    inv = λ r s. IsTypedState p s × Standing A p r s;
    inv_body = λ i s. (λ h. h, λ h. h);
    stopped = λ why n. Unit {0};
    stopped_plainly = λ why h n. tt;
    stopped_failed = λ e n h. tt;
    stopped_later = λ why m n le h. tt;
    event_seen = λ r s n i. refl;
    begun_told = λ r s c i e. begun_where c s.noted e;
    frame_known = λ i s j. j.1;
    slot_known = λ r s x i h. slot_known A p s x i.0 h;
    goes_quietly = λ s a b c i k e h. h;
    inv_quietly = λ r s a b c l i. (i.0, standing_up A p r s _ (λ k e h. h) refl i.1);
    goes_declared = λ s f k n e h. h;
    inv_declared = λ r s f k i h. (declared_typed A p s f k i.0, standing_up A p r s _ (λ n e h. h) refl i.1);
    goes_recorded = λ s d c. later_one (next_event d c s) s.noted;
    inv_recorded = λ r s d c g room h i v e. (recorded_typed A p fits s d c g i.0, standing_up A p r s _ (later_one (next_event d c s) s.noted) refl i.1);
    made_recorded = λ s d c h e. record { event = (next_event d c s).event; there = newest_there (next_event d c s) s.noted; kind = refl; entity = refl };
    goes_stored = λ t x h k e g. g;
    inv_stored = λ r s d c g room h i x y v e. (written_typed A p fits s d c g i.0 y, standing_up A p r s _ (later_one (next_event d c s) s.noted) refl i.1);
    goes_created = λ s d c k e g. g;
    inv_created = λ r s d c g room h i v e. (created_typed A p fits s d c i.0, standing_up A p r s _ (later_one (next_event d c s) s.noted) refl i.1);
    goes_printed = λ t bytes k e h. h;
    inv_printed = λ r t bytes h j. (j.0, standing_up A p r t _ (λ k e h. h) refl j.1);
    goes_active = λ t entries k e h. h;
    inv_entered = λ r reach s t d c k a b i j g. (j.0, standing_up A p r t _ (λ n e h. h) refl j.1);
    inv_again = λ r s t g i j. (j.0, standing_up A p r t _ (λ k e h. h) refl j.1);
    inv_without = λ r f n t j. (j.0, standing_up A p r t _ (λ k e h. h) refl j.1);
    goes_framed = λ t f k e h. h;
    inv_within = λ r i n s j h. (j.0, (n, refl, h));
    inv_outside = λ r i n s t g j k. (k.0, standing_up A p r s _ g refl j.1);
    goes_ended = λ s t k g. g;
    goes_left = λ s t k e g. g;
    inv_begun = λ r s k i. (i.0, standing_up A p r s _ (λ n e h. h) refl i.1);
    inv_ended = λ r t k j. (j.0, standing_up A p r t _ (λ n e h. h) refl j.1);
    inv_left = λ r t k why h j. (j.0, standing_up A p r t _ (λ n e h. h) refl j.1);
    inv_stopped = λ r t k why h j. (j.0, standing_up A p r t _ (λ n e h. h) refl j.1);
    now_covered = λ t k f n e h. h;
    part_covered = λ t k f h. tt;
  }
