-- When the state in memory agrees with a state of the definition, and what it is that the one does what the other does.
use Rattle.std.specs.Prelude.{◌≡◌, ◌<◌, ◌≤◌, ◌+◌, ◌++◌, ℕ, false, List, [], ◌∷◌, map, reverse, length, slice_index_or, slice_set, Some, Result, Ok, Err}
use Rattle.std.specs.Prelude.{None as Absent}
use Rattle.std.specs.declared.alloc.AllocError.{AllocError}
use Rattle.wy_kernel.specs.Program.{Program, type_of_code}
use Rattle.wy_value.specs.declared.value.Value.{Value}
use Rattle.wy_event.specs.declared.record.Slot.{Slot}
use Rattle.wy_event.specs.declared.record.Slot.TheVariants.{Local, Static, Field, Elem}
use Rattle.wy_event.specs.declared.record.Cover.{Cover}
use Rattle.wy_event.specs.declared.record.Kind.{Kind}
use Rattle.wy_event.specs.declared.record.Kind.TheVariants as kinds
use Rattle.wy_event.specs.declared.record.Use.{Use}
use Rattle.wy_event.specs.Record.{Recorded}
use Rattle.wy_steps.specs.Sets.{nothing}
use Rattle.wy_steps.specs.State.{State, Store, Covered, Noted, Run, Outcome, return, stop, leave}
use Rattle.wy_kernel.specs.Limits.{event_limit, use_limit}
use Rattle.wy_steps.specs.Steps.{Draft, held_of, parent, event_in, has_init, owner_in}
use Rattle.wy_meaning.specs.World.{type_in, length_in, units_in}
use Rattle.wy_calls.specs.Calls.{CallFrame, CallStack, frame_of}
use Rattle.wy_calls.specs.Calls as calls
use Rattle.wy_heap.specs.declared.heap.Heap.{Heap}
use Rattle.wy_heap.specs.Plan.{plan_of}
use Rattle.wy_heap.specs.Heap.{plan, held, code, size, text, is_made}
use Rattle.wy_state.specs.declared.parts.Halt.{Halt}
use Rattle.wy_state.specs.declared.parts.Halt.TheVariants.{Left, Stopped, Memory}
use Rattle.wy_state.specs.declared.parts.Limit.TheVariants as limit
use Rattle.wy_state.specs.declared.parts.Throw.{Throw}
use Rattle.wy_state.specs.declared.state.State.{State as Present}
use Rattle.wy_state.specs.Seen.{blank, covered_of, reason_of, stop_of}

-- what contracts see of the state in memory; no frame from `entered` on was entered, and the events from number `keeps` on are kept
pub record Shape : Type 0 where
  pub calls : CallStack
  pub heap : Heap
  pub entered : ℕ
  pub events : ℕ
  pub uses : ℕ
  pub left : ℕ
  pub elements : ℕ
  pub units : ℕ
  pub output : List ℕ
  pub input : List ℕ
  pub covers : List Cover
  pub throws : List Throw
  pub keeps : ℕ
  pub kept : List Recorded

abbrev pub shape : {R : Type 0} → (R → ℕ) → (R → List Recorded) → Present R → Shape
shape keeps kept p = record {
  calls = p.calls;
  heap = p.heap;
  entered = p.entered;
  events = p.events;
  uses = p.uses;
  left = p.left;
  elements = p.elements;
  units = p.units;
  output = p.output.items;
  input = p.input.now;
  covers = p.covers.items;
  throws = reverse p.throws.items;
  keeps = keeps p.register;
  kept = kept p.register;
}

-- the event that comes next, by its draft and what it uses
abbrev pub event_of : Draft → List Use → Shape → Recorded
event_of d us m = record {
  kind = d.kind;
  site = d.site;
  frame = frame_of m.calls;
  control = parent m.calls.active;
  entity = d.entity;
  slot = d.slot;
  value = d.value;
  units = d.units;
  uses = us;
}

-- a Throw among the records by its number, with its site and what it threw
abbrev pub throw_at : ℕ → Kind → ℕ → Value → List Throw → List Throw
throw_at n kinds.Throw site v throws = record { event = n; site = site; value = v } ∷ throws
throw_at n _ site v throws = throws

-- the Throws of the records, the newest first
abbrev pub throws_in : List (Noted nothing) → List Throw
throws_in [] = []
throws_in (e ∷ noted) = throw_at (length noted) e.event.kind e.event.site e.event.value (throws_in noted)

-- the value that a slot has
abbrev pub value_in : Store nothing → Slot → Value
value_in store x = (held_of (store x)).value

-- the frames have falling numbers, from below a bound
abbrev pub Fall : ℕ → List CallFrame → Type 0
Fall bound [] = Unit {0}
Fall bound (f ∷ fs) = (f.event < bound) × Fall f.event fs

-- what the locals of the live frames hold is what the store has
abbrev pub HasLocals : Store nothing → List CallFrame → Type 0
HasLocals store fs = (f i : ℕ) (v : Value) → calls.held fs f i ≡ Some v → value_in store (Local f i) ≡ v

-- the locals of frames from this number on were never made
abbrev pub HasFreshLocals : Store nothing → ℕ → Type 0
HasFreshLocals store entered = (f i : ℕ) → entered ≤ f → store (Local f i) ≡ Absent

-- what the heap holds is what the store has
abbrev pub HasSlots : Store nothing → Heap → Type 0
HasSlots store h = (x : Slot) (v : Value) → held h x ≡ Some v → value_in store x ≡ v

-- nothing was made of a number: the heap has no block of it, and the store no slot
pub record IsUnmade (h : Heap) (store : Store nothing) (n : ℕ) : Type 0 where
  pub no_code : code h n ≡ Absent
  pub no_size : size h n ≡ Absent
  pub no_text : text h n ≡ Absent
  pub no_field : (f : ℕ) → held h (Field n f) ≡ Absent
  pub no_element : (i : ℕ) → held h (Elem n i) ≡ Absent
  pub fresh_field : (f : ℕ) → store (Field n f) ≡ Absent
  pub fresh_element : (i : ℕ) → store (Elem n i) ≡ Absent

-- the static fields of a class that wasn't made hold nothing
abbrev pub HasFreshStatics : Program → Store nothing → Heap → Type 0
HasFreshStatics p store h = (f : ℕ) → is_made h (owner_in p f) ≡ false → store (Static f) ≡ Absent

-- types, lengths and units are those of the records
abbrev pub HasCodes : List (Noted nothing) → Heap → Type 0
HasCodes noted h = (n c : ℕ) → code h n ≡ Some c → type_in (event_in noted n) ≡ type_of_code c

abbrev pub HasSizes : List (Noted nothing) → Heap → Type 0
HasSizes noted h = (n k : ℕ) → size h n ≡ Some k → length_in (event_in noted n) ≡ k

abbrev pub HasTexts : List (Noted nothing) → Heap → Type 0
HasTexts noted h = (n : ℕ) (us : List ℕ) → text h n ≡ Some us → units_in (event_in noted n) ≡ us

-- the statements are covered so
abbrev pub HasCovers : (ℕ → Covered) → List Cover → Type 0
HasCovers coverage cs = (n : ℕ) → n < length cs → coverage n ≡ covered_of (slice_index_or cs n blank)

-- they are those of a list from this number on
abbrev pub AreFrom : ℕ → List Recorded → List Recorded → Type 0
AreFrom n events kept = (before : List Recorded) × (length before ≡ n) × (events ≡ before ++ kept)

pub record Agrees (p : Program) (m : Shape) (s : State nothing) : Type 0 where
  pub events : length s.noted ≡ m.events
  pub kept : AreFrom m.keeps (map (λ e. e.event) (reverse s.noted)) m.kept
  pub uses : s.uses ≡ m.uses
  pub left : s.left ≡ m.left
  pub elements : s.elements ≡ m.elements
  pub units : s.units ≡ m.units
  pub output : s.output ≡ m.output
  pub input : s.input ≡ m.input
  pub active : s.active ≡ m.calls.active
  pub frame : s.frame ≡ frame_of m.calls
  pub covers : HasCovers s.coverage m.covers
  pub throws : m.throws ≡ throws_in s.noted
  pub fall : Fall m.entered m.calls.frames
  pub locals : HasLocals s.store m.calls.frames
  pub fresh_locals : HasFreshLocals s.store m.entered
  pub same_plan : plan m.heap ≡ plan_of p
  pub slots : HasSlots s.store m.heap
  pub fresh_statics : HasFreshStatics p s.store m.heap
  pub unmade : (n : ℕ) → m.events ≤ n → IsUnmade m.heap s.store n
  pub codes : HasCodes s.noted m.heap
  pub sizes : HasSizes s.noted m.heap
  pub texts : HasTexts s.noted m.heap
  pub begun : (c : ℕ) → has_init c s.noted ≡ is_made m.heap c

-- an outcome is that of a run from some state that agrees
pub record Comes {X : Type 0} (p : Program) (m : Shape) (g : Run nothing X) (o : Outcome nothing X) : Type 0 where
  pub state : State nothing
  pub agrees : Agrees p m state
  pub is : g state ≡ o

-- to run f from any state that agrees with the one is to run g from some state that agrees with the other; and the events are kept from
-- the same number on
pub record Onward {X : Type 0} (p : Program) (m : Shape) (f : Run nothing X) (n : Shape) (g : Run nothing X) : Type 0 where
  pub from : (s : State nothing) → Agrees p m s → Comes p n g (f s)
  pub same : n.keeps ≡ m.keeps

-- the step was done with this result, or was left, or the run stopped; or memory is wanting
abbrev pub StepGives : {X Y : Type 0} → Program → (X → Y) → Result X Halt → Shape → Run nothing Y → Shape → Type 0
StepGives p view (Ok x) m f n = Onward p m f n (return (view x))
StepGives p view (Err (Left why)) m f n = Onward p m f n (leave (reason_of why))
StepGives p view (Err (Stopped why)) m f n = Onward p m f n (stop (stop_of why))
StepGives p view (Err Memory) m f n = Unit {0}

-- the step was done with this result, or memory is wanting
abbrev pub Meets : {X Y : Type 0} → Program → (X → Y) → Result X AllocError → Shape → Run nothing Y → Shape → Type 0
Meets p view (Ok x) m f n = Onward p m f n (return (view x))
Meets p view (Err e) m f n = Unit {0}

abbrev pub itself : {X : Type 0} → X → X
itself x = x

-- but for locals, what stands of the calls is the same
pub record IsSameButLocals (old new : CallStack) : Type 0 where
  pub frames : map (λ (f : CallFrame). f.event) new.frames ≡ map (λ (f : CallFrame). f.event) old.frames
  pub active : new.active ≡ old.active
  pub scopes : new.scopes ≡ old.scopes

-- so it is after what was done, was left or stopped; memory may be wanting in the middle
abbrev pub KeepsFrames : {X : Type 0} → Result X Halt → CallStack → CallStack → Type 0
KeepsFrames (Ok x) old new = IsSameButLocals old new
KeepsFrames (Err (Left why)) old new = IsSameButLocals old new
KeepsFrames (Err (Stopped why)) old new = IsSameButLocals old new
KeepsFrames (Err Memory) old new = Unit {0}

-- the statement was left by the event, and the covers of the others stay
abbrev pub IsCaused : ℕ → ℕ → List Cover → List Cover → Type 0
IsCaused n e old new = (n < length old) × (new ≡ slice_set old n (record (slice_index_or old n blank) { cause = e }))

-- the state with one event more
abbrev pub with_record : Draft → List Use → Shape → Shape
with_record d us m = record m { events = m.events + 1; uses = m.uses + length us; kept = m.kept ++ event_of d us m ∷ []; throws = throw_at m.events d.kind d.site d.value m.throws }

-- there was no room for an event or for its uses, or memory is wanting
abbrev pub Refusing : List Use → Halt → Shape → Shape → Type 0
Refusing us (Stopped limit.Events) m n = (event_limit ≤ m.events) × (n ≡ m)
Refusing us (Stopped limit.Uses) m n = (m.events < event_limit) × (use_limit < m.uses + length us) × (n ≡ m)
Refusing us Memory m n = Unit {0}
Refusing us e m n = ⊥

-- an event was recorded, with its number, or refused
abbrev pub Recording : {Y : Type 0} → Draft → List Use → Result (ℕ × Y) Halt → Shape → Shape → Type 0
Recording d us (Ok r) m n = (r.0 ≡ m.events) × (m.events < event_limit) × (m.uses + length us ≤ use_limit) × (n ≡ with_record d us m)
Recording d us (Err e) m n = Refusing us e m n
