-- What the calls of a heap change, each said by itself: what is new, and that nothing else is.
use Rattle.std.specs.Prelude.{◌≡◌, ◌≢◌, ◌+◌, ℕ, Bool, true, false, nat_eq, nat_lt, if◌then◌else◌, List, length, Some, is_some}
use Rattle.std.specs.Prelude.{None as Absent}
use Rattle.wy_kernel.specs.Program.{Program, element_type, type_of_code}
use Rattle.wy_value.specs.declared.value.Value.{Value}
use Rattle.wy_event.specs.declared.record.Slot.{Slot}
use Rattle.wy_event.specs.declared.record.Slot.TheVariants.{Static, Field, Elem}
use Rattle.wy_event.specs.Record.{same_slot}
use Rattle.wy_steps.specs.Steps.{default_value}
use Rattle.wy_heap.specs.declared.heap.Heap.{Heap}
use Rattle.wy_heap.specs.Plan.{Plan, plan_of, first_of, fields_of, position_of, is_static_of}
use Rattle.wy_heap.specs.Heap.{plan, held, code, size, text, is_made, element_count, unit_count}

-- a heap of a program in which nothing was made
pub record IsNew (p : Program) (h : Heap) : Type 0 where
  pub same_plan : plan h ≡ plan_of p
  pub slots : (x : Slot) → held h x ≡ Absent
  pub codes : (n : ℕ) → code h n ≡ Absent
  pub sizes : (n : ℕ) → size h n ≡ Absent
  pub texts : (n : ℕ) → text h n ≡ Absent
  pub classes : (c : ℕ) → is_made h c ≡ false
  pub elements : element_count h ≡ 0
  pub units : unit_count h ≡ 0

-- it says the same
pub record Keeps (old new : Heap) : Type 0 where
  pub same_plan : plan new ≡ plan old
  pub slots : (x : Slot) → held new x ≡ held old x
  pub codes : (n : ℕ) → code new n ≡ code old n
  pub sizes : (n : ℕ) → size new n ≡ size old n
  pub texts : (n : ℕ) → text new n ≡ text old n
  pub classes : (c : ℕ) → is_made new c ≡ is_made old c
  pub elements : element_count new ≡ element_count old
  pub units : unit_count new ≡ unit_count old

-- the slot is one of the object or array with this number
unfoldable pub is_part : ℕ → Slot → Bool
is_part n (Field object f) = nat_eq object n
is_part n (Elem array i) = nat_eq array n
is_part n _ = false

-- of every other number it says the same
pub record KeepsOthers (n : ℕ) (old new : Heap) : Type 0 where
  pub same_plan : plan new ≡ plan old
  pub slots : (x : Slot) → is_part n x ≡ false → held new x ≡ held old x
  pub codes : (m : ℕ) → m ≢ n → code new m ≡ code old m
  pub sizes : (m : ℕ) → m ≢ n → size new m ≡ size old m
  pub texts : (m : ℕ) → m ≢ n → text new m ≡ text old m
  pub classes : (c : ℕ) → is_made new c ≡ is_made old c

-- the objects of a class have the field
unfoldable pub is_field_of : Plan → ℕ → ℕ → Bool
is_field_of plan c f = is_some (position_of (fields_of plan c) f)

-- there is an object of a class, whose fields have their first values
pub record MakesObject (n c : ℕ) (old new : Heap) : Type 0 where
  pub others : KeepsOthers n old new
  pub code : code new n ≡ Some (16 + c)
  pub size : size new n ≡ Absent
  pub text : text new n ≡ Absent
  pub fields : (f : ℕ) → held new (Field n f) ≡ (if is_field_of (plan old) c f then Some (first_of (plan old) f) else Absent)
  pub no_elements : (i : ℕ) → held new (Elem n i) ≡ Absent
  pub elements : element_count new ≡ element_count old
  pub units : unit_count new ≡ unit_count old

-- there is an array of a type by its code, whose elements have the first value of theirs
pub record MakesArray (n k many : ℕ) (old new : Heap) : Type 0 where
  pub others : KeepsOthers n old new
  pub code : code new n ≡ Some k
  pub size : size new n ≡ Some many
  pub text : text new n ≡ Absent
  pub no_fields : (f : ℕ) → held new (Field n f) ≡ Absent
  pub each : (i : ℕ) → held new (Elem n i) ≡ (if nat_lt i many then Some (default_value (element_type (type_of_code k))) else Absent)
  pub elements : element_count new ≡ element_count old + many
  pub units : unit_count new ≡ unit_count old

-- there is a text
pub record MakesText (n : ℕ) (us : List ℕ) (old new : Heap) : Type 0 where
  pub others : KeepsOthers n old new
  pub code : code new n ≡ Absent
  pub size : size new n ≡ Absent
  pub text : text new n ≡ Some us
  pub no_fields : (f : ℕ) → held new (Field n f) ≡ Absent
  pub no_elements : (i : ℕ) → held new (Elem n i) ≡ Absent
  pub elements : element_count new ≡ element_count old
  pub units : unit_count new ≡ unit_count old + length us

-- the slot is a static field of a class
unfoldable pub is_static_slot : Plan → ℕ → Slot → Bool
is_static_slot plan c (Static f) = is_static_of plan c f
is_static_slot plan c _ = false

-- the class is made: where it wasn't, its static fields have their first values
pub record MakesClass (c : ℕ) (old new : Heap) : Type 0 where
  pub same_plan : plan new ≡ plan old
  pub made : is_made new c ≡ true
  pub classes : (d : ℕ) → d ≢ c → is_made new d ≡ is_made old d
  pub statics : (f : ℕ) → is_static_of (plan old) c f ≡ true → is_made old c ≡ false → held new (Static f) ≡ Some (first_of (plan old) f)
  pub again : is_made old c ≡ true → (x : Slot) → held new x ≡ held old x
  pub slots : (x : Slot) → is_static_slot (plan old) c x ≡ false → held new x ≡ held old x
  pub codes : (n : ℕ) → code new n ≡ code old n
  pub sizes : (n : ℕ) → size new n ≡ size old n
  pub texts : (n : ℕ) → text new n ≡ text old n
  pub elements : element_count new ≡ element_count old
  pub units : unit_count new ≡ unit_count old

-- the slot holds the value, and every other what it held
pub record Writes (x : Slot) (v : Value) (old new : Heap) : Type 0 where
  pub same_plan : plan new ≡ plan old
  pub written : held new x ≡ Some v
  pub others : (y : Slot) → same_slot y x ≡ false → held new y ≡ held old y
  pub codes : (n : ℕ) → code new n ≡ code old n
  pub sizes : (n : ℕ) → size new n ≡ size old n
  pub texts : (n : ℕ) → text new n ≡ text old n
  pub classes : (c : ℕ) → is_made new c ≡ is_made old c
  pub elements : element_count new ≡ element_count old
  pub units : unit_count new ≡ unit_count old
