-- A property of states: what has to be shown of each change of a state, so that every run keeps it.
use Rattle.std.specs.Prelude.{◌≡◌, ◌+◌, ◌≤◌, ℕ, suc, List, [], ◌∷◌, ◌++◌, length, Option, Some, if◌then◌else◌}
use Rattle.wy_event.specs.declared.record.Slot.{Slot}
use Rattle.wy_event.specs.declared.record.Slot.TheVariants as slot
use Rattle.wy_event.specs.declared.record.Use.TheVariants.{Place}
use Rattle.wy_event.specs.Record.{same_slot}
use Rattle.wy_steps.specs.Sets.{Sets}
use Rattle.wy_steps.specs.State.{Carried, Held, Active, Covered, Reach, State, Stop, InitFailed, Reason}
use Rattle.wy_kernel.specs.Limits.{event_limit, use_limit, output_limit}
use Rattle.wy_steps.specs.Steps.{Draft, held_of, no_value, event_in, has_init, next_event, made as made_of, with_event, held_by, with_stored, with_created, with_active, without, covering, begun, ended, left_by, stop_cause, event_of}
use Rattle.law_induction.specs.Law.{Region, In, Ends, FrameKind, IsControl, IsPlain, IsNoted, IsWrite, IsCreated, Facts}

-- what no property is about: steps that are left, elements, units and input
abbrev pub quietly : {A : Sets} → State A → (left elements units : ℕ) → List ℕ → State A
quietly s a b c i = record s { left = a; elements = b; units = c; input = i }

abbrev pub declared : {A : Sets} → Slot → State A → State A
declared x s = record s { store = λ y. if same_slot y x then no_value (s.store y) else s.store y }

abbrev pub carried_in : {A : Sets} → Slot → State A → Carried A
carried_in x s = record { value = (held_of (s.store x)).value; uses = Place x (length s.noted) ∷ []; from_data = (held_of (s.store x)).from_data; from_all = (held_of (s.store x)).from_all }

-- there is room for the event
pub record Room {A : Sets} (c : Carried A) (s : State A) : Type 0 where
  pub events : suc (length s.noted) ≤ event_limit
  pub uses : s.uses + length c.uses ≤ use_limit

pub record StateLaw (A : Sets) : Type 1 where
  pub facts : Facts A
  pub open facts use *
  pub now : State A → moments.moment
  -- what lies between a state and one that a part of a run leads to
  pub goes : State A → State A → Type 0
  pub goes_nowhere : (s : State A) → goes s s
  pub goes_on : (s t u : State A) → goes s t → goes t u → goes s u
  pub goes_later : (s t : State A) → goes s t → moments.later (now s) (now t)
  -- the state is one of the run that is looked at
  pub part : State A → Type 0
  pub part_before : (s t : State A) → goes s t → part t → part s
  pub inv : Region → State A → Type 0
  pub inv_body : (i : FrameKind) (s : State A) → (inv (Ends i) s → inv (In i) s) × (inv (In i) s → inv (Ends i) s)
  pub stopped : Stop → moments.moment → Type 0
  pub stopped_plainly : (why : Stop) → IsPlain why → (n : moments.moment) → stopped why n
  pub stopped_failed : (e : ℕ) (n : moments.moment) → (threw e).holds n → stopped (InitFailed e) n
  -- what is known of what is read
  pub event_seen : (r : Region) (s : State A) (n : ℕ) → inv r s → sees n (event_in s.noted n) (now s)
  pub begun_told : (r : Region) (s : State A) (c : ℕ) → inv r s → (told c (has_init c s.noted)).holds (now s)
  pub frame_known : (i : FrameKind) (s : State A) → inv (In i) s → (current i s.frame).holds (now s)
  pub slot_known : (r : Region) (s : State A) (x : Slot) → inv r s → (place x).holds (now s) → (read_from x (carried_in x s)).holds (now s)
  -- changes
  pub goes_quietly : (s : State A) (a b c : ℕ) (i : List ℕ) → goes s (quietly s a b c i)
  pub inv_quietly : (r : Region) (s : State A) (a b c : ℕ) (i : List ℕ) → inv r s → inv r (quietly s a b c i)
  pub goes_declared : (s : State A) (f k : ℕ) → goes s (declared (slot.Local f k) s)
  pub inv_declared : (r : Region) (s : State A) (f k : ℕ) → inv r s → (place (slot.Local f k)).holds (now s) → inv r (declared (slot.Local f k) s)
  pub goes_recorded : (s : State A) (d : Draft) (c : Carried A) → goes s (with_event (next_event d c s) s)
  pub inv_recorded : (r : Region) (s : State A) (d : Draft) (c : Carried A) → IsNoted d c → Room c s → part (with_event (next_event d c s) s) → inv r s → (value d.value).holds (now s) → (fit c).holds (now s) → inv r (with_event (next_event d c s) s)
  pub made_recorded : (s : State A) (d : Draft) (c : Carried A) → part (with_event (next_event d c s) s) → (fit c).holds (now s) → (made d (made_of (next_event d c s) s)).holds (now (with_event (next_event d c s) s))
  pub goes_stored : (t : State A) (x : Slot) (h : Held A) → goes t (with_stored x h t)
  pub inv_stored : (r : Region) (s : State A) (d : Draft) (c : Carried A) → IsWrite d c → Room c s → part (with_event (next_event d c s) s) → inv r s → (place d.slot).holds (now s) → (stores d.slot d.value).holds (now s) → (value d.value).holds (now s) → (fit c).holds (now s) → inv r (with_stored d.slot (held_by d.value (next_event d c s)) (with_event (next_event d c s) s))
  pub goes_created : (s : State A) (d : Draft) (c : Carried A) → goes (with_event (next_event d c s) s) (with_created program (length s.noted) (next_event d c s) (with_event (next_event d c s) s))
  pub inv_created : (r : Region) (s : State A) (d : Draft) (c : Carried A) → IsCreated d c → Room c s → part (with_event (next_event d c s) s) → inv r s → (value d.value).holds (now s) → (fit c).holds (now s) → inv r (with_created program (length s.noted) (next_event d c s) (with_event (next_event d c s) s))
  pub goes_printed : (t : State A) (bytes : List ℕ) → goes t (record t { output = t.output ++ bytes })
  pub inv_printed : (r : Region) (t : State A) (bytes : List ℕ) → length (t.output ++ bytes) ≤ output_limit → inv r t → inv r (record t { output = t.output ++ bytes })
  -- active entries
  pub goes_active : (t : State A) (entries : List (Active A)) → goes t (record t { active = entries })
  pub inv_entered : (r : Region) (reach : Reach) (s t : State A) (d : Draft) (c : Carried A) → IsControl d.kind → t.active ≡ s.active → t.noted ≡ next_event d c s ∷ s.noted → inv r s → inv r t → (made d (made_of (next_event d c s) s)).holds (now t)
      → inv r (with_active (record { number = length s.noted; from_all = (next_event d c s).from_all; reach = reach }) t)
  pub inv_again : (r : Region) (s t : State A) → goes s t → inv r s → inv r t → inv r (record t { active = s.active })
  pub inv_without : (r : Region) (f : Option ℕ) (n : ℕ) (t : State A) → inv r t → inv r (without f n t)
  -- frames
  pub goes_framed : (t : State A) (f : Option ℕ) → goes t (record t { frame = f })
  pub inv_within : (r : Region) (i : FrameKind) (n : ℕ) (s : State A) → inv r s → (body i n).holds (now s) → inv (Ends i) (record s { frame = Some n })
  pub inv_outside : (r : Region) (i : FrameKind) (n : ℕ) (s t : State A) → goes (record s { frame = Some n }) t → inv r s → inv (Ends i) t → inv r (record t { frame = s.frame })
  -- coverage
  pub goes_ended : (s t : State A) (k : ℕ) → goes (covering k (begun (length s.noted)) s) t → goes s (covering k ended t)
  pub goes_left : (s t : State A) (k e : ℕ) → goes (covering k (begun (length s.noted)) s) t → goes s (covering k (left_by e) t)
  pub inv_begun : (r : Region) (s : State A) (k : ℕ) → inv r s → inv r (covering k (begun (length s.noted)) s)
  pub inv_ended : (r : Region) (t : State A) (k : ℕ) → inv r t → inv r (covering k ended t)
  pub inv_left : (r : Region) (t : State A) (k : ℕ) (why : Reason A) → (reason r why).holds (now t) → inv r t → inv r (covering k (left_by (event_of why)) t)
  pub inv_stopped : (r : Region) (t : State A) (k : ℕ) (why : Stop) → stopped why (now t) → inv r t → inv r (covering k (left_by (stop_cause why)) t)
  pub stopped_later : (why : Stop) (m n : moments.moment) → moments.later m n → stopped why m → stopped why n
  pub now_covered : (t : State A) (k : ℕ) (f : Covered → Covered) → moments.later (now t) (now (covering k f t))
  pub part_covered : (t : State A) (k : ℕ) (f : Covered → Covered) → part (covering k f t) → part t
