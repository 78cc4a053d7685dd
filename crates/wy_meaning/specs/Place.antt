-- Places: where a value is read and where it is assigned, with the checks in their order (JLS 15.10.4, 15.11, 15.13, 15.14, 15.26).
use Rattle.std.specs.Prelude.{ℕ, zero, pos, Bool, true, false, nat_lt, if◌then◌else◌, Option, Some}
use Rattle.std.specs.Prelude.{None as Absent}
use Rattle.wy_kernel.specs.declared.operator.Primitive.{Primitive}
use Rattle.wy_kernel.specs.declared.operator.Primitive.TheVariants as prim
use Rattle.wy_kernel.specs.declared.operator.BinOp.{BinOp}
use Rattle.wy_kernel.specs.declared.types.Base.TheVariants.{Primitive as Basic}
use Rattle.wy_kernel.specs.declared.types.Ty.{Ty}
use Rattle.wy_kernel.specs.declared.types.Ty.TheVariants.{Of}
use Rattle.wy_kernel.specs.Program.{Program, is_source, is_below, element_type, field}
use Rattle.wy_value.specs.declared.value.Value.{Value}
use Rattle.wy_value.specs.declared.value.Value.TheVariants.{None as Nothing, Int, Long, Null, Object}
use Rattle.wy_value.specs.Operator.{binary_of, is_shift}
use Rattle.wy_value.specs.Conversion.{converted}
use Rattle.wy_event.specs.declared.record.Kind.TheVariants as kind
use Rattle.wy_event.specs.declared.record.Slot.{Slot}
use Rattle.wy_event.specs.declared.record.Slot.TheVariants.{Local, Static, Field, Elem}
use Rattle.wy_steps.specs.Sets.{Sets}
use Rattle.wy_steps.specs.State.{Carried, Run, Unassigned, ◌>>=◌, ◌>>◌, return, stop, choose}
use Rattle.wy_steps.specs.Steps.{constant, joined, with_value, value_of, note_write, frame, read, is_begun, code_of}
use Rattle.wy_meaning.specs.World.{World, into, fail, arithmetic, array_store, array_index, type_of, length_of, object_of}

-- a place by the runs of its parts
pub data Located (A : Sets) : Type 0 where
  AtLocal : (index : ℕ) → Located A
  AtStatic : (field site : ℕ) → Located A
  AtField : (object : Run A (Carried A)) (field site : ℕ) → Located A
  AtElem : (array index : Run A (Carried A)) (site : ℕ) → Located A

-- a slot, with what its object, array and index carry
pub record Spot (A : Sets) : Type 0 where
  pub slot : Slot
  pub parts : Carried A

unfoldable pub initialize_source : {A : Sets} → World A → ℕ → ℕ → Bool → Run A Unit
initialize_source w site c false = return tt
initialize_source w site c true = do
  going ← is_begun c
  choose going (return tt) (w.enter site c)

-- initializes a source class, unless that is going on or done (JLS 12.4.2)
unfoldable pub initialize : {A : Sets} → World A → ℕ → ℕ → Run A Unit
initialize w site c = initialize_source w site c (is_source c)

-- the local of the running body
unfoldable pub local_spot : {A : Sets} → ℕ → Run A (Spot A)
local_spot i = do
  f ← frame
  return (record { slot = Local (code_of f) i; parts = constant Nothing })

-- the class that declares a static field is initialized directly before the field is read or written
unfoldable pub static_spot : {A : Sets} → World A → ℕ → ℕ → Run A (Spot A)
static_spot w f site = do
  initialize w site (field w.program f).class
  return (record { slot = Static f; parts = constant Nothing })

unfoldable pub field_spot : {A : Sets} → World A → ℕ → ℕ → Carried A → Run A (Spot A)
field_spot w f site o = do
  n ← object_of w site o o.value
  return (record { slot = Field n f; parts = o })

-- an index is a number from 0 that is below the length
unfoldable pub index_in : ℕ → Value → Option ℕ
index_in length (Int (pos i)) = if nat_lt i length then Some i else Absent
index_in length _ = Absent

unfoldable pub checked_index : {A : Sets} → World A → ℕ → Carried A → Option ℕ → Run A ℕ
checked_index w site operands (Some i) = return i
checked_index w site operands Absent = fail w array_index site operands

-- first null, then the index
unfoldable pub element_spot : {A : Sets} → World A → ℕ → Carried A → Carried A → Run A (Spot A)
element_spot w site a k = do
  n ← object_of w site (joined Nothing a k) a.value
  length ← length_of n
  i ← checked_index w site (joined Nothing a k) (index_in length k.value)
  return (record { slot = Elem n i; parts = joined Nothing a k })

-- the parts are evaluated and checked
unfoldable pub find : {A : Sets} → World A → Located A → Run A (Spot A)
find w (AtLocal i) = local_spot i
find w (AtStatic f site) = static_spot w f site
find w (AtField object f site) = do
  o ← object
  field_spot w f site o
find w (AtElem array index site) = do
  a ← array
  k ← index
  element_spot w site a k

-- a local has no value before its first assignment
unfoldable pub lacks_value : Slot → Value → Bool
lacks_value (Local f i) Nothing = true
lacks_value _ _ = false

-- the value in a slot that was found: what its parts carry, and then the slot
unfoldable pub fetch : {A : Sets} → Spot A → Run A (Carried A)
fetch spot = do
  v ← read spot.slot
  choose (lacks_value spot.slot v.value) (stop Unassigned) (return (joined v.value spot.parts v))

unfoldable pub read_place : {A : Sets} → World A → Located A → Run A (Carried A)
read_place w place = do
  spot ← find w place
  fetch spot

-- the uses of a Set begin with those of its place's parts; the value of an assignment is that of its Set
unfoldable pub assign : {A : Sets} → ℕ → Spot A → Carried A → Run A (Carried A)
assign site spot v = do
  e ← note_write (into kind.Set site spot.slot v.value) (joined v.value spot.parts v)
  return (value_of e v.value)

-- a reference may be an element of an array whose elements have a type at or above its own (JLS 10.5)
unfoldable pub may_store : Program → Ty → Ty → Value → Bool
may_store p element value Null = true
may_store p (Of (Basic q) zero) value v = true
may_store p element value v = is_below p value element

unfoldable pub check_store : {A : Sets} → World A → ℕ → Spot A → Carried A → Slot → Run A Unit
check_store w site spot v (Elem n i) = do
  array ← type_of (Object n)
  value ← type_of v.value
  choose (may_store w.program (element_type array) value v.value) (return tt) (fail w array_store site (joined Nothing spot.parts v))
check_store w site spot v _ = return tt

-- the store check is the last
unfoldable pub store : {A : Sets} → World A → ℕ → Spot A → Carried A → Run A (Carried A)
store w site spot v = do
  check_store w site spot v spot.slot
  assign site spot v

-- an assignment: the parts, the right side, the checks, the Set (JLS 15.26.1)
unfoldable pub set_place : {A : Sets} → World A → Located A → Run A (Carried A) → ℕ → Run A (Carried A)
set_place w (AtLocal i) right site = do
  v ← right
  spot ← local_spot i
  store w site spot v
set_place w (AtStatic f at) right site = do
  v ← right
  spot ← static_spot w f at
  store w site spot v
set_place w (AtField object f at) right site = do
  o ← object
  v ← right
  spot ← field_spot w f at o
  store w site spot v
set_place w (AtElem array index at) right site = do
  a ← array
  k ← index
  v ← right
  spot ← element_spot w at a k
  store w site spot v

-- unary promotion (JLS 5.6.1)
unfoldable pub promoted : Value → Value
promoted (Long z) = Long z
promoted v = converted prim.Int v

-- the operation of a compound assignment in the type in which it is done; a shift promotes its distance by itself
unfoldable pub operated : BinOp → Primitive → Value → Value → Option Value
operated op wide a b = binary_of op (converted wide a) (if is_shift op then promoted b else converted wide b)

unfoldable pub primitive_of : Ty → Value → Value
primitive_of (Of (Basic q) zero) v = converted q v
primitive_of _ v = v

-- a value, or none where a divisor was zero
unfoldable pub divided : {A : Sets} → World A → ℕ → Carried A → Option Value → Run A (Carried A)
divided w site operands Absent = fail w arithmetic site operands
divided w site operands (Some v) = return (with_value v operands)

-- `op=`, `++` and `--` on numbers and booleans: the old value is fetched before the right side (JLS 15.26.2, 15.14.2, 15.15.1)
unfoldable pub update_place : {A : Sets} → World A → Located A → BinOp → Run A (Carried A) → Ty → Primitive → Bool → ℕ → Run A (Carried A)
update_place w place op right ty wide gives_old site = do
  spot ← find w place
  old ← fetch spot
  v ← right
  new ← divided w site (joined Nothing old v) (operated op wide old.value v.value)
  set ← assign site spot (with_value (primitive_of ty new.value) new)
  return (if gives_old then old else set)
