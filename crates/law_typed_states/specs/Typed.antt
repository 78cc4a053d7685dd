-- What a typed state of a run is: each value in a local, a field or an element is of the type of what holds it.
use Rattle.std.specs.Prelude.{◌≡◌, ◌⊎◌, ℕ, zero, suc, ◌+◌, ◌<◌, ◌≤◌, ◌^◌, true, false, List, [], ◌∷◌, length, Option, Some, slice_get}
use Rattle.std.specs.Prelude.{None as Absent}
use Rattle.wy_kernel.specs.declared.operator.Primitive.TheVariants as prim
use Rattle.wy_kernel.specs.declared.types.Base.TheVariants.{Primitive as Basic, Class as Named}
use Rattle.wy_kernel.specs.declared.types.Ty.{Ty}
use Rattle.wy_kernel.specs.declared.types.Ty.TheVariants.{Void, Null as OfNull, Of}
use Rattle.wy_kernel.specs.Program.{Program, Body, Field, Method, body, init_body, is_source, type_of_code, element_type}
use Rattle.wy_kernel.specs.Builtin as builtin
use Rattle.wy_kernel.specs.Subtyping.{IsReference, Below, primitive_type}
use Rattle.wy_value.specs.declared.value.Value.{Value}
use Rattle.wy_value.specs.declared.value.Value.TheVariants as val
use Rattle.wy_event.specs.declared.record.Kind.{Kind}
use Rattle.wy_event.specs.declared.record.Kind.TheVariants as kind
use Rattle.wy_event.specs.declared.record.Slot.{Slot}
use Rattle.wy_event.specs.declared.record.Slot.TheVariants as slot
use Rattle.wy_event.specs.Record.{Recorded}
use Rattle.wy_event.specs.Sources.{creates}
use Rattle.wy_steps.specs.Sets.{Sets}
use Rattle.wy_steps.specs.State.{Held, Store, Noted, State}
use Rattle.wy_steps.specs.Steps.{code_of, event_in, owner_in}
use Rattle.wy_typing.specs.Types.{boolean_type, char_type, int_type, long_type, text_type, IsNullable}
use Rattle.wy_typing.specs.Expressions.{IsMethod, IsField, IsMade}
use Rattle.wy_typing.specs.Programs.{types}
use Rattle.law_induction.specs.Law.{FrameKind, OfCall, OfInit}

-- ---- values

-- objects are made of the type: it is an array, or a class that is neither abstract nor an interface
abbrev pub IsConcrete : Program → Ty → Type 0
IsConcrete p (Of (Named c) zero) = IsMade p c
IsConcrete p (Of base (suc brackets)) = Unit {0}
IsConcrete p (Of (Basic q) zero) = ⊥
IsConcrete p Void = ⊥
IsConcrete p OfNull = ⊥

-- a reference of the first type, at run time, may stand where one of the second is wanted
pub record MayStand (p : Program) (found ty : Ty) : Type 0 where
  pub reference : IsReference ty
  pub concrete : IsConcrete p found
  pub below : Below p.classes found ty

-- the type of the object that a New makes
abbrev pub made_type : Recorded → Ty
made_type e = type_of_code (code_of e.entity)

-- among these events, the newest first, the New of that number made an object that may stand for one of the type
pub record Refers {A : Sets} (p : Program) (noted : List (Noted A)) (ty : Ty) (n : ℕ) : Type 0 where
  pub event : Recorded
  pub there : event_in noted n ≡ Some event
  pub is_new : event.kind ≡ kind.New
  pub stands : MayStand p (made_type event) ty

-- the value is of the type: of the primitive one, or null, or a reference to what is of a type below and of no abstract class; a method
-- without a result gives no value
abbrev pub Is : {A : Sets} → Program → List (Noted A) → Ty → Value → Type 0
Is p noted ty (val.Bool b) = ty ≡ boolean_type
Is p noted ty (val.Byte z) = ty ≡ primitive_type prim.Byte
Is p noted ty (val.Short z) = ty ≡ primitive_type prim.Short
Is p noted ty (val.Char c) = ty ≡ char_type
Is p noted ty (val.Int z) = ty ≡ int_type
Is p noted ty (val.Long z) = ty ≡ long_type
Is p noted ty val.Null = IsNullable ty
Is p noted ty (val.Object n) = Refers p noted ty n
Is p noted ty (val.Text n) = MayStand p text_type ty
Is p noted ty (val.Fixed n) = MayStand p text_type ty
Is p noted ty val.None = ty ≡ Void
Is p noted ty (val.Arm n) = ⊥

-- ---- bodies

-- the body that a Call or an Init runs
abbrev pub running_as : Kind → Option ℕ → Option FrameKind
running_as kind.Call (Some m) = Some (OfCall m)
running_as kind.Init (Some c) = Some (OfInit c)
running_as _ entity = Absent

abbrev pub running : Recorded → Option FrameKind
running e = running_as e.kind e.entity

abbrev pub types_of : Option Body → List Ty
types_of Absent = []
types_of (Some b) = types b

-- the types of a body's locals
abbrev pub local_types : Program → FrameKind → List Ty
local_types p (OfCall m) = types_of (body p m)
local_types p (OfInit c) = types_of (init_body p c)

-- event f runs such a body
pub record Runs {A : Sets} (noted : List (Noted A)) (f : ℕ) (i : FrameKind) : Type 0 where
  pub event : Recorded
  pub there : event_in noted f ≡ Some event
  pub runs : running event ≡ Some i

-- ---- slots

abbrev pub LacksValue : Value → Type 0
LacksValue v = v ≡ val.None

-- what a local of a body holds
pub record FitsLocal {A : Sets} (p : Program) (noted : List (Noted A)) (f k : ℕ) (v : Value) : Type 0 where
  pub body : FrameKind
  pub runs : Runs noted f body
  pub typed : (ty : Ty) → slice_get (local_types p body) k ≡ Some ty → LacksValue v ⊎ Is p noted ty v

-- and an element of an array
pub record FitsElement {A : Sets} (p : Program) (noted : List (Noted A)) (n : ℕ) (v : Value) : Type 0 where
  pub array : Recorded
  pub there : event_in noted n ≡ Some array
  pub typed : Is p noted (element_type (made_type array)) v

abbrev pub FitsField : {A : Sets} → Program → List (Noted A) → ℕ → Value → Type 0
FitsField p noted k v = (f : Field) → IsField p k f → Is p noted f.ty v

-- the value is of the type of the local, the field or the element; a local may have no value
abbrev pub FitsSlot : {A : Sets} → Program → List (Noted A) → Slot → Value → Type 0
FitsSlot p noted slot.None v = Unit {0}
FitsSlot p noted (slot.Local f k) v = FitsLocal p noted f k v
FitsSlot p noted (slot.Static k) v = FitsField p noted k v
FitsSlot p noted (slot.Field object k) v = FitsField p noted k v
FitsSlot p noted (slot.Elem array i) v = FitsElement p noted array v

abbrev pub StoreIsTyped : {A : Sets} → Program → List (Noted A) → Store A → Type 0
StoreIsTyped {A = A} p noted store = (x : Slot) (h : Held A) → store x ≡ Some h → FitsSlot p noted x h.value

-- ---- states

abbrev pub IsThere : {X : Type 0} → Option X → Type 0
IsThere Absent = ⊥
IsThere (Some x) = Unit {0}

-- each slot that an event created holds something
abbrev pub CreatedAreThere : {A : Sets} → Program → List (Noted A) → Store A → Type 0
CreatedAreThere p noted store = (n : ℕ) (e : Recorded) (x : Slot) → event_in noted n ≡ Some e → creates (owner_in p) n x e ≡ true → IsThere (store x)

-- just before each event the store was typed, by the events that were there
abbrev pub PastIsTyped : {A : Sets} → Program → List (Noted A) → Type 0
PastIsTyped p [] = Unit {0}
PastIsTyped p (e ∷ rest) = StoreIsTyped p rest e.before × PastIsTyped p rest

-- so are the events, the newest first, and the store
pub record AreTyped {A : Sets} (p : Program) (noted : List (Noted A)) (held : Store A) : Type 0 where
  pub store : StoreIsTyped p noted held
  pub created : CreatedAreThere p noted held
  pub past : PastIsTyped p noted

abbrev pub IsTypedState : {A : Sets} → Program → State A → Type 0
IsTypedState p s = AreTyped p s.noted s.store

-- ---- programs

-- so is every program of a text: the number of each class has a code as a type, and the classes of the library declare nothing but what
-- the library declares
pub record KeepsLibrary (p : Program) : Type 0 where
  pub few : 16 + length p.classes ≤ 2 ^ 24
  pub methods : (k : ℕ) (m : Method) → IsMethod p k m → is_source m.class ≡ false → k < length builtin.methods
  pub fields : (k : ℕ) (f : Field) → IsField p k f → is_source f.class ≡ false → k < length builtin.fields
