-- What the steps of a run do to its state, each said by itself: what changes, and that nothing else does.
use Rattle.std.specs.Prelude.{◌≡◌, ◌≤◌, ℕ, suc, false, [], ◌∷◌, length, Some}
use Rattle.wy_kernel.specs.Program.{Program}
use Rattle.wy_value.specs.declared.value.Value.TheVariants.{None as Nothing}
use Rattle.wy_event.specs.declared.record.Slot.{Slot}
use Rattle.wy_event.specs.declared.record.Slot.TheVariants as slot
use Rattle.wy_event.specs.declared.record.Use.TheVariants.{Place}
use Rattle.wy_event.specs.Record.{same_slot}
use Rattle.wy_steps.specs.Sets.{Sets}
use Rattle.wy_steps.specs.State.{Carried, Held, Noted, State, Outcome, Done, Left, Stopped, Run}
use Rattle.wy_kernel.specs.Limits.{event_limit, use_limit, element_limit, unit_limit}
use Rattle.wy_steps.specs.Steps.{Draft, Made, tick, read, declare, held_of, control_set, note, note_write, note_new, scoped, in_frame, take_elements, take_units}

-- what holds of the value and the state where a part of a run went through
abbrev pub IfDone : {A : Sets} {X : Type 0} → Outcome A X → (X → State A → Type 0) → Type 0
IfDone (Done x s) P = P x s
IfDone (Left why s) P = Unit {0}
IfDone (Stopped why s) P = Unit {0}

-- the state at the end of a part of a run, whichever way it ended
abbrev pub end_of : {A : Sets} {X : Type 0} → Outcome A X → State A
end_of (Done x s) = s
end_of (Left why s) = s
end_of (Stopped why s) = s

-- ---- the budget

-- the start of a form takes one of the steps that are left
abbrev pub TakesOne : Sets → Type 0
TakesOne A = (s : State A) → IfDone (tick s) (λ x t. s.left ≡ suc t.left)

-- ---- slots

-- a slot of something: a local, a field or an element
abbrev pub IsSlot : Slot → Type 0
IsSlot slot.None = ⊥
IsSlot _ = Unit {0}

abbrev pub carried_of : {A : Sets} → Held A → Slot → ℕ → Carried A
carried_of h x moment = record { value = h.value; uses = Place x moment ∷ []; from_data = h.from_data; from_all = h.from_all }

abbrev pub written : {A : Sets} → Draft → Made A → Held A
written d e = record { value = d.value; from_data = e.from_data; from_all = e.from_all }

-- what is read of a slot just after a write is what was written, by the number of the next event
abbrev pub ReadsWhatWasWritten : Sets → Type 0
ReadsWhatWasWritten A = (d : Draft) (c : Carried A) (s : State A) → IsSlot d.slot →
    IfDone (note_write d c s) (λ e t. read d.slot t ≡ Done (carried_of (written d e) d.slot (suc e.number)) t)

-- a write leaves all other slots
abbrev pub LeavesOthers : Sets → Type 0
LeavesOthers A = (d : Draft) (c : Carried A) (s : State A) →
    IfDone (note_write d c s) (λ e t. (y : Slot) → same_slot y d.slot ≡ false → t.store y ≡ s.store y)

-- what is created is new: each slot that held something holds the same
abbrev pub ReplacesNothing : Sets → Type 0
ReplacesNothing A = (p : Program) (d : Draft) (c : Carried A) (s : State A) →
    IfDone (note_new p d c s) (λ e t. (y : Slot) (h : Held A) → s.store y ≡ Some h → t.store y ≡ Some h)

abbrev pub emptied : {A : Sets} → Held A → Held A
emptied h = record h { value = Nothing }

-- a declared local has no value, and comes from what it came from before
abbrev pub TakesTheValue : Sets → Type 0
TakesTheValue A = (x : Slot) (s : State A) → IsSlot x → IfDone (declare x s) (λ u t. held_of (t.store x) ≡ emptied (held_of (s.store x)))

-- ---- records

-- one record is appended to those of the state, with their number as its own: it comes from itself and from what its operands come
-- from, and in all also from what the active entries come from (Korel and Laski)
pub record Appends {A : Sets} (d : Draft) (c : Carried A) (s : State A) (e : Made A) (t : State A) : Type 0 where
  pub event : Noted A
  pub one_more : t.noted ≡ event ∷ s.noted
  pub number : e.number ≡ length s.noted
  pub kind : event.event.kind ≡ d.kind
  pub uses : event.event.uses ≡ c.uses
  pub by_data : e.from_data ≡ A.both (A.one e.number) c.from_data
  pub in_all : e.from_all ≡ A.both (A.one e.number) (A.both c.from_all (control_set s.active))

abbrev pub AppendsOne : Sets → Type 0
AppendsOne A = (d : Draft) (c : Carried A) (s : State A) → IfDone (note d c s) (Appends d c s)

abbrev pub WritesOne : Sets → Type 0
WritesOne A = (d : Draft) (c : Carried A) (s : State A) → IfDone (note_write d c s) (Appends d c s)

abbrev pub CreatesOne : Sets → Type 0
CreatesOne A = (p : Program) (d : Draft) (c : Carried A) (s : State A) → IfDone (note_new p d c s) (Appends d c s)

-- ---- what stands around a part of a run

-- whatever it does, the same entries are active after it as before
abbrev pub EntriesComeBack : Sets → Type 0 → Type 0
EntriesComeBack A X = (m : Run A X) (s : State A) → (end_of (scoped m s)).active ≡ s.active

-- whatever a body does, its frame is left
abbrev pub FrameComesBack : Sets → Type 0 → Type 0
FrameComesBack A X = (n : ℕ) (m : Run A X) (s : State A) → (end_of (in_frame n m s)).frame ≡ s.frame

-- ---- limits

-- the records of a state, and its uses, are no more than their limits
abbrev pub IsWithin : {A : Sets} → State A → Type 0
IsWithin t = (length t.noted ≤ event_limit) × (t.uses ≤ use_limit)

-- a run that records goes on within its limits
abbrev pub RecordsWithin : Sets → Type 0
RecordsWithin A = (d : Draft) (c : Carried A) (s : State A) → IfDone (note d c s) (λ e t. IsWithin t)

abbrev pub WritesWithin : Sets → Type 0
WritesWithin A = (d : Draft) (c : Carried A) (s : State A) → IfDone (note_write d c s) (λ e t. IsWithin t)

abbrev pub CreatesWithin : Sets → Type 0
CreatesWithin A = (p : Program) (d : Draft) (c : Carried A) (s : State A) → IfDone (note_new p d c s) (λ e t. IsWithin t)

-- so does a run that takes elements or units
abbrev pub MakesWithin : Sets → Type 0
MakesWithin A = (n : ℕ) (s : State A) →
    IfDone (take_elements n s) (λ x t. t.elements ≤ element_limit) × IfDone (take_units n s) (λ x t. t.units ≤ unit_limit)
