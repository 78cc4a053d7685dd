-- The steps that a run is made of: each reads or changes one thing of its state.
use Rattle.std.specs.Prelude.{ℕ, zero, suc, ◌+◌, Bool, true, false, ◌&&◌, nat_eq, nat_lt, nat_le, if◌then◌else◌, List, [], ◌∷◌, ◌++◌, length, Option, Some, pos}
use Rattle.std.specs.Prelude.{None as Absent}
use Rattle.wy_kernel.specs.declared.operator.Primitive.{Primitive}
use Rattle.wy_kernel.specs.declared.operator.Primitive.TheVariants as prim
use Rattle.wy_kernel.specs.declared.types.Base.TheVariants.{Primitive as Basic}
use Rattle.wy_kernel.specs.declared.types.Ty.{Ty}
use Rattle.wy_kernel.specs.declared.types.Ty.TheVariants.{Of}
use Rattle.wy_kernel.specs.Program.{Program, field, type_of_code, element_type}
use Rattle.wy_kernel.specs.Limits.{event_limit, use_limit, element_limit, unit_limit, output_limit}
use Rattle.wy_value.specs.declared.value.Value.{Value}
use Rattle.wy_value.specs.declared.value.Value.TheVariants.{None as Nothing, Bool as Boolean, Byte, Short, Char, Int, Long, Null}
use Rattle.wy_event.specs.declared.record.Kind.{Kind}
use Rattle.wy_event.specs.declared.record.Kind.TheVariants.{Init}
use Rattle.wy_event.specs.declared.record.Slot.{Slot}
use Rattle.wy_event.specs.declared.record.Slot.TheVariants.{Static, Field, Elem}
use Rattle.wy_event.specs.declared.record.Use.TheVariants.{Place, Value as ValueOf, Choice}
use Rattle.wy_event.specs.Record.{Recorded, same_slot}
use Rattle.wy_event.specs.Sources.{Owners, creates, is_entity}
use Rattle.wy_steps.specs.Sets.{Sets}
use Rattle.wy_steps.specs.State.{Carried, Held, Store, Noted, Reach, Around, Through, Active, Covered, State, Stop, StepLimit, EventLimit, UseLimit, ElementLimit, UnitLimit, OutputLimit, InitFailed, Reason, Jumped, Returned, Threw, Outcome, Done, Left, Stopped, Run, return, stop, choose}

-- ---- carried values

-- a constant comes from nothing
unfoldable pub constant : {A : Sets} → Value → Carried A
constant {A = A} v = record { value = v; uses = []; from_data = A.empty; from_all = A.empty }

-- the same with another plain value
unfoldable pub with_value : {A : Sets} → Value → Carried A → Carried A
with_value v c = record c { value = v }

-- a value made of two, in the order of their evaluation
unfoldable pub joined : {A : Sets} → Value → Carried A → Carried A → Carried A
joined {A = A} v a b = record {
  value = v;
  uses = a.uses ++ b.uses;
  from_data = A.both a.from_data b.from_data;
  from_all = A.both a.from_all b.from_all;
}

-- a value made of all of a list
unfoldable pub joined_all : {A : Sets} → List (Carried A) → Carried A
joined_all [] = constant Nothing
joined_all (c ∷ cs) = joined Nothing c (joined_all cs)

-- an event that was recorded, with what it comes from
pub record Made (A : Sets) : Type 0 where
  pub number : ℕ
  pub from_data : A.set
  pub from_all : A.set

-- the value of an event
unfoldable pub value_of : {A : Sets} → Made A → Value → Carried A
value_of e v = record { value = v; uses = ValueOf e.number ∷ []; from_data = e.from_data; from_all = e.from_all }

-- a value that a test chose: its data are not of the test
unfoldable pub chosen : {A : Sets} → Made A → Carried A → Carried A
chosen {A = A} e c = record {
  value = c.value;
  uses = Choice e.number ∷ c.uses;
  from_data = c.from_data;
  from_all = A.both e.from_all c.from_all;
}

-- ---- steps and what is read off the state

unfoldable pub pay : {A : Sets} → ℕ → State A → Outcome A Unit
pay zero s = Stopped StepLimit s
pay (suc n) s = Done tt (record s { left = n })

-- one step of the budget: the start of a form
unfoldable pub tick : {A : Sets} → Run A Unit
tick s = pay s.left s

unfoldable pub steps_left : {A : Sets} → Run A ℕ
steps_left s = Done s.left s

-- the Call or Init of the running body
unfoldable pub frame : {A : Sets} → Run A (Option ℕ)
frame s = Done s.frame s

unfoldable pub event_in : {A : Sets} → List (Noted A) → ℕ → Option Recorded
event_in [] n = Absent
event_in (e ∷ rest) n = if nat_eq n (length rest) then Some e.event else event_in rest n

-- event n, so far
unfoldable pub event_at : {A : Sets} → ℕ → Run A (Option Recorded)
event_at n s = Done (event_in s.noted n) s

unfoldable pub is_init_of : ℕ → Kind → Option ℕ → Bool
is_init_of c Init entity = is_entity entity c
is_init_of c _ entity = false

unfoldable pub has_init : {A : Sets} → ℕ → List (Noted A) → Bool
has_init c [] = false
has_init c (e ∷ rest) = if is_init_of c e.event.kind e.event.entity then true else has_init c rest

-- the initialization of a class is going on or done
unfoldable pub is_begun : {A : Sets} → ℕ → Run A Bool
is_begun c s = Done (has_init c s.noted) s

-- ---- slots

unfoldable pub held_of : {A : Sets} → Option (Held A) → Held A
held_of (Some h) = h
held_of {A = A} Absent = record { value = Nothing; from_data = A.empty; from_all = A.empty }

-- the value in a slot, with the slot as its use at the moment now: the number of the next event
unfoldable pub read : {A : Sets} → Slot → Run A (Carried A)
read x s = Done
    (record {
      value = (held_of (s.store x)).value;
      uses = Place x (length s.noted) ∷ [];
      from_data = (held_of (s.store x)).from_data;
      from_all = (held_of (s.store x)).from_all;
    })
    s

unfoldable pub slot_with : {A : Sets} → Slot → Held A → Store A → Store A
slot_with x new old y = if same_slot y x then Some new else old y

unfoldable pub no_value : {A : Sets} → Option (Held A) → Option (Held A)
no_value Absent = Absent
no_value (Some h) = Some (record h { value = Nothing })

-- takes the value of a slot away and leaves what it comes from
unfoldable pub declare : {A : Sets} → Slot → Run A Unit
declare x s = Done tt (record s { store = λ y. if same_slot y x then no_value (s.store y) else s.store y })

-- ---- events

-- the newest active entry
unfoldable pub parent : {A : Sets} → List (Active A) → Option ℕ
parent [] = Absent
parent (a ∷ rest) = Some a.number

-- what all active entries come from
unfoldable pub control_set : {A : Sets} → List (Active A) → A.set
control_set {A = A} [] = A.empty
control_set {A = A} (a ∷ rest) = A.both a.from_all (control_set rest)

-- what an event says of itself
pub record Draft : Type 0 where
  pub kind : Kind
  pub site : ℕ
  pub entity : Option ℕ
  pub slot : Slot
  pub value : Value
  pub units : List ℕ

-- the draft as the next event of the run, with these operands
unfoldable pub next_event : {A : Sets} → Draft → Carried A → State A → Noted A
next_event {A = A} d c s = record {
  event = record {
    kind = d.kind;
    site = d.site;
    frame = s.frame;
    control = parent s.active;
    entity = d.entity;
    slot = d.slot;
    value = d.value;
    units = d.units;
    uses = c.uses;
  };
  from_data = A.both (A.one (length s.noted)) c.from_data;
  from_all = A.both (A.one (length s.noted)) (A.both c.from_all (control_set s.active));
  before = s.store;
}

unfoldable pub made : {A : Sets} → Noted A → State A → Made A
made e s = record { number = length s.noted; from_data = e.from_data; from_all = e.from_all }

unfoldable pub with_event : {A : Sets} → Noted A → State A → State A
with_event e s = record s { noted = e ∷ s.noted; uses = s.uses + length e.event.uses }

-- there is room for one more event, and then for its uses
unfoldable pub room_for : {A : Sets} {X : Type 0} → Carried A → Run A X → Run A X
room_for c m s = choose (nat_lt (length s.noted) event_limit) (choose (nat_le (s.uses + length c.uses) use_limit) m (stop UseLimit)) (stop EventLimit) s

unfoldable pub noting : {A : Sets} → Draft → Carried A → Run A (Made A)
noting d c s = Done (made (next_event d c s) s) (with_event (next_event d c s) s)

-- records an event
unfoldable pub note : {A : Sets} → Draft → Carried A → Run A (Made A)
note d c = room_for c (noting d c)

unfoldable pub held_by : {A : Sets} → Value → Noted A → Held A
held_by v e = record { value = v; from_data = e.from_data; from_all = e.from_all }

unfoldable pub with_stored : {A : Sets} → Slot → Held A → State A → State A
with_stored x h s = record s { store = slot_with x h s.store }

unfoldable pub writing : {A : Sets} → Draft → Carried A → Run A (Made A)
writing d c s = Done (made (next_event d c s) s) (with_stored d.slot (held_by d.value (next_event d c s)) (with_event (next_event d c s) s))

-- records a Bind, Set or Catch, whose slot then holds the value and what the event comes from
unfoldable pub note_write : {A : Sets} → Draft → Carried A → Run A (Made A)
note_write d c = room_for c (writing d c)

unfoldable pub default_primitive : Primitive → Value
default_primitive prim.Bool = Boolean false
default_primitive prim.Byte = Byte (pos 0)
default_primitive prim.Short = Short (pos 0)
default_primitive prim.Char = Char 0
default_primitive prim.Int = Int (pos 0)
default_primitive prim.Long = Long (pos 0)

-- the value of a new field or element of a type (JLS 4.12.5)
unfoldable pub default_value : Ty → Value
default_value (Of (Basic q) zero) = default_primitive q
default_value _ = Null

unfoldable pub code_of : Option ℕ → ℕ
code_of Absent = 0
code_of (Some n) = n

-- the value of a slot that an event creates
unfoldable pub default_in : Program → Recorded → Slot → Value
default_in p e (Static f) = default_value (field p f).ty
default_in p e (Field object f) = default_value (field p f).ty
default_in p e (Elem array i) = default_value (element_type (type_of_code (code_of e.entity)))
default_in p e _ = Nothing

-- the class that declares a field
unfoldable pub owner_in : Program → Owners
owner_in p f = (field p f).class

unfoldable pub if_empty : {A : Sets} → Option (Held A) → Option (Held A) → Option (Held A)
if_empty (Some h) new = Some h
if_empty Absent new = new

unfoldable pub with_created : {A : Sets} → Program → ℕ → Noted A → State A → State A
with_created p n e s = record s { store = λ y. if_empty (s.store y) (if creates (owner_in p) n y e.event then Some (held_by (default_in p e.event y) e) else Absent) }

unfoldable pub creating : {A : Sets} → Program → Draft → Carried A → Run A (Made A)
creating p d c s = Done (made (next_event d c s) s) (with_created p (length s.noted) (next_event d c s) (with_event (next_event d c s) s))

-- records a New: the slots that it creates hold their defaults, and what the event comes from
unfoldable pub note_new : {A : Sets} → Program → Draft → Carried A → Run A (Made A)
note_new p d c = room_for c (creating p d c)

-- ---- active entries

unfoldable pub with_active : {A : Sets} → Active A → State A → State A
with_active a s = record s { active = a ∷ s.active }

unfoldable pub entered : {A : Sets} → Reach → Made A → State A → Outcome A (Made A)
entered reach e s = Done e (with_active (record { number = e.number; from_all = e.from_all; reach = reach }) s)

unfoldable pub go_in : {A : Sets} → Reach → Outcome A (Made A) → Outcome A (Made A)
go_in reach (Done e s) = entered reach e s
go_in reach (Left why s) = Left why s
go_in reach (Stopped why s) = Stopped why s

-- what is recorded is active from then on
unfoldable pub activating : {A : Sets} → Reach → Run A (Made A) → Run A (Made A)
activating reach m s = go_in reach (m s)

unfoldable pub active_again : {A : Sets} {X : Type 0} → List (Active A) → Outcome A X → Outcome A X
active_again entries (Done x s) = Done x (record s { active = entries })
active_again entries (Left why s) = Left why (record s { active = entries })
active_again entries (Stopped why s) = Stopped why (record s { active = entries })

-- after it the same entries are active as before
unfoldable pub scoped : {A : Sets} {X : Type 0} → Run A X → Run A X
scoped m s = active_again s.active (m s)

unfoldable pub same_frame : Option ℕ → Option ℕ → Bool
same_frame Absent Absent = true
same_frame (Some m) (Some n) = nat_eq m n
same_frame _ _ = false

unfoldable pub ends_with : Option ℕ → ℕ → Reach → Bool
ends_with f n Around = false
ends_with f n (Through g m) = same_frame f g && nat_eq n m

-- the entries that outlast a statement of a frame
unfoldable pub outlasting : {A : Sets} → Option ℕ → ℕ → List (Active A) → List (Active A)
outlasting f n [] = []
outlasting f n (a ∷ rest) = if ends_with f n a.reach then outlasting f n rest else a ∷ outlasting f n rest

unfoldable pub without : {A : Sets} → Option ℕ → ℕ → State A → State A
without f n s = record s { active = outlasting f n s.active }

unfoldable pub end_reaches : {A : Sets} {X : Type 0} → Option ℕ → ℕ → Outcome A X → Outcome A X
end_reaches f n (Done x s) = Done x (without f n s)
end_reaches f n (Left why s) = Left why (without f n s)
end_reaches f n (Stopped why s) = Stopped why (without f n s)

-- with the end of statement n end the reaches of the tests that reach through it
unfoldable pub reaching : {A : Sets} {X : Type 0} → ℕ → Run A X → Run A X
reaching n m s = end_reaches s.frame n (m s)

-- ---- frames

unfoldable pub frame_again : {A : Sets} {X : Type 0} → Option ℕ → Outcome A X → Outcome A X
frame_again f (Done x s) = Done x (record s { frame = f })
frame_again f (Left why s) = Left why (record s { frame = f })
frame_again f (Stopped why s) = Stopped why (record s { frame = f })

-- in the frame of a Call or Init
unfoldable pub in_frame : {A : Sets} {X : Type 0} → ℕ → Run A X → Run A X
in_frame n m s = frame_again s.frame (m (record s { frame = Some n }))

-- ---- limits of what is made

unfoldable pub with_elements : {A : Sets} → ℕ → State A → Outcome A Unit
with_elements n s = Done tt (record s { elements = s.elements + n })

-- a new array of n elements
unfoldable pub take_elements : {A : Sets} → ℕ → Run A Unit
take_elements n s = choose (nat_le (s.elements + n) element_limit) (with_elements n) (stop ElementLimit) s

unfoldable pub with_units : {A : Sets} → ℕ → State A → Outcome A Unit
with_units n s = Done tt (record s { units = s.units + n })

-- a new text of n units
unfoldable pub take_units : {A : Sets} → ℕ → Run A Unit
take_units n s = choose (nat_le (s.units + n) unit_limit) (with_units n) (stop UnitLimit) s

-- there is room for these bytes of output
unfoldable pub room_for_output : {A : Sets} → List ℕ → Run A Unit
room_for_output bytes s = choose (nat_le (length s.output + length bytes) output_limit) (return tt) (stop OutputLimit) s

unfoldable pub write_out : {A : Sets} → List ℕ → Run A Unit
write_out bytes s = Done tt (record s { output = s.output ++ bytes })

unfoldable pub take_byte : {A : Sets} → List ℕ → State A → Outcome A (Option ℕ)
take_byte [] s = Done Absent s
take_byte (b ∷ rest) s = Done (Some b) (record s { input = rest })

-- the next byte of input
unfoldable pub next_byte : {A : Sets} → Run A (Option ℕ)
next_byte s = take_byte s.input s

-- ---- coverage

-- the cause of a statement that a stop found going on, and of one that nothing ever left
abbrev pub going_on : ℕ
going_on = 4294967294

abbrev pub never_left : ℕ
never_left = 4294967295

unfoldable pub cover_with : ℕ → (Covered → Covered) → (ℕ → Covered) → ℕ → Covered
cover_with n f old m = if nat_eq m n then f (old m) else old m

unfoldable pub covering : {A : Sets} → ℕ → (Covered → Covered) → State A → State A
covering n f s = record s { coverage = cover_with n f s.coverage }

unfoldable pub first_moment : Option ℕ → ℕ → Option ℕ
first_moment Absent m = Some m
first_moment (Some k) m = Some k

unfoldable pub begun : ℕ → Covered → Covered
begun moment c = record c { begins = suc c.begins; first = first_moment c.first moment }

unfoldable pub ended : Covered → Covered
ended c = record c { ends = suc c.ends }

unfoldable pub left_by : ℕ → Covered → Covered
left_by e c = record c { cause = e }

-- a statement that a failed initialization found going on is left by its Throw
unfoldable pub stop_cause : Stop → ℕ
stop_cause (InitFailed last) = last
stop_cause _ = going_on

unfoldable pub event_of : {A : Sets} → Reason A → ℕ
event_of (Jumped target e) = e
event_of (Returned e v) = e
event_of (Threw e v) = e

unfoldable pub arrives : {A : Sets} → ℕ → Reason A → Bool
arrives n (Jumped target e) = nat_eq n target
arrives n _ = false

unfoldable pub end_normally : {A : Sets} → ℕ → Run A Unit
end_normally n s = Done tt (covering n ended s)

unfoldable pub be_left : {A : Sets} → ℕ → Reason A → Run A Unit
be_left n why s = Left why (covering n (left_by (event_of why)) s)

-- a jump ends where it arrives: at its target, which ends normally
unfoldable pub cover_end : {A : Sets} → ℕ → Outcome A Unit → Outcome A Unit
cover_end n (Done x s) = end_normally n s
cover_end n (Left why s) = choose (arrives n why) (end_normally n) (be_left n why) s
cover_end n (Stopped why s) = Stopped why (covering n (left_by (stop_cause why)) s)

-- a statement by its number, from its begin to its end
unfoldable pub covered : {A : Sets} → ℕ → Run A Unit → Run A Unit
covered n m s = cover_end n (m (covering n (begun (length s.noted)) s))
