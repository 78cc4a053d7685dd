-- What is in the range of a program in a record of a run, by the events before it: its site, what it is of, its slot, its value and its uses.
use Rattle.std.specs.Prelude.{◌≡◌, ◌⊎◌, ◌+◌, ◌<◌, ◌≤◌, ◌^◌, ℕ, zero, suc, pos, negsuc, Bool, true, false, if◌then◌else◌, List, [], ◌∷◌, ◌++◌, length, Option, Some, slice_get, take}
use Rattle.std.specs.Prelude.{None as Absent}
use Rattle.std.specs.List.{AllByRecursion, Contains}
use Rattle.wy_kernel.specs.declared.types.Base.TheVariants.{Primitive as Basic, Class as Named}
use Rattle.wy_kernel.specs.declared.types.Ty.{Ty}
use Rattle.wy_kernel.specs.declared.types.Ty.TheVariants.{Of}
use Rattle.wy_kernel.specs.Form.{Statement, Stmt, Act, Block, If, While, Do, For, Labelled, Jump, Try, Print, Other, nothing, this, Statements, done, first, Catches, uncaught, catch}
use Rattle.wy_kernel.specs.Program.{fixed_text, Program, Body, Class, Field, Method, is_source, string_class, type_code}
use Rattle.wy_kernel.specs.Statements.{statements_of}
use Rattle.wy_kernel.specs.Subtyping.{direct_supertypes}
use Rattle.wy_kernel.specs.Builtin as builtin
use Rattle.wy_kernel.specs.Builtin.{method_site}
use Rattle.wy_value.specs.declared.value.Value.{Value}
use Rattle.wy_value.specs.declared.value.Value.TheVariants as val
use Rattle.wy_value.specs.Numeral.{text_of}
use Rattle.wy_value.specs.Encoding.{utf8_of}
use Rattle.wy_event.specs.declared.record.Kind.{Kind}
use Rattle.wy_event.specs.declared.record.Kind.TheVariants as kind
use Rattle.wy_event.specs.declared.record.Slot.{Slot}
use Rattle.wy_event.specs.declared.record.Slot.TheVariants as slot
use Rattle.wy_event.specs.declared.record.Use.{Use}
use Rattle.wy_event.specs.declared.record.Use.TheVariants as use_of
use Rattle.wy_event.specs.Record.{Recorded}
use Rattle.wy_steps.specs.Sets.{Sets}
use Rattle.wy_kernel.specs.Limits.{element_limit, index_limit, unit_limit}
use Rattle.wy_steps.specs.Steps.{code_of}
use Rattle.wy_meaning.specs.World.{units_in}
use Rattle.wy_meaning.specs.Text.{line_end}
use Rattle.wy_meaning.specs.Run.{Tail, events, output, tail}
use Rattle.wy_typing.specs.Expressions.{IsMethod, IsField}
use Rattle.law_induction.specs.Law.{FrameKind}
use Rattle.law_typed_states.specs.Typed.{running, local_types}
use Rattle.wy_typing.specs.Sites.{BodySited}

-- ---- the text of a program

-- how many tokens it has, and at which of them a `println` stands
pub record Text : Type 0 where
  pub tokens : ℕ
  pub ends_line : ℕ → Bool

-- ---- sites

-- a token, or a method of the library
abbrev pub IsSite : ℕ → ℕ → Type 0
IsSite tokens site = (site < tokens) ⊎ ((m : ℕ) × (m < length builtin.methods) × (site ≡ method_site m))

-- in the bodies of methods and of initializers, at the classes of a text and at its main
pub record SitesInRange (tokens : ℕ) (p : Program) : Type 0 where
  pub methods : (k : ℕ) (b : Body) → slice_get p.bodies k ≡ Some (Some b) → BodySited (IsSite tokens) b
  pub initializers : (c : ℕ) (b : Body) → slice_get p.init_bodies c ≡ Some (Some b) → BodySited (IsSite tokens) b
  pub classes : (c : ℕ) (k : Class) → is_source c ≡ true → slice_get p.classes c ≡ Some k → IsSite tokens k.site
  pub main : (m : Method) → IsMethod p p.main m → IsSite tokens m.site

-- ---- what an event is of

-- objects are made of the type: it is a class of the program, and not String, or it has brackets
abbrev pub IsTypeOfObjects : Program → Ty → Type 0
IsTypeOfObjects p (Of (Named c) zero) = (c < length p.classes) × (c ≡ string_class → ⊥)
IsTypeOfObjects p (Of (Named c) (suc brackets)) = c < length p.classes
IsTypeOfObjects p (Of (Basic q) (suc brackets)) = Unit {0}
IsTypeOfObjects p _ = ⊥

-- the number of a type that objects are made of
abbrev pub IsCode : Program → ℕ → Type 0
IsCode p code = (ty : Ty) × IsTypeOfObjects p ty × (type_code ty ≡ code)

-- an Init has a class, a New a type and a Call a method of the program; no other event has any
abbrev pub EntityInRange : Program → Kind → Option ℕ → Type 0
EntityInRange p kind.Init (Some c) = c < length p.classes
EntityInRange p kind.Init Absent = ⊥
EntityInRange p kind.New (Some code) = IsCode p code
EntityInRange p kind.New Absent = ⊥
EntityInRange p kind.Call (Some m) = m < length p.methods
EntityInRange p kind.Call Absent = ⊥
EntityInRange p _ Absent = Unit {0}
EntityInRange p _ (Some n) = ⊥

-- no class extends String (JLS 8.1.1.2)
abbrev pub StringIsFinal : Program → Type 0
StringIsFinal p = (c : ℕ) → Contains (direct_supertypes p.classes c) string_class → ⊥

-- ---- objects and arrays

-- the events by their numbers
abbrev pub Events : Type 0
Events = ℕ → Option Recorded

-- numbers of types from here are those of arrays
abbrev pub arrays_from : ℕ
arrays_from = 2 ^ 24

-- the event made an object of a class
pub record IsObject (at : Events) (n : ℕ) : Type 0 where
  pub event : Recorded
  pub there : at n ≡ Some event
  pub is_new : event.kind ≡ kind.New
  pub no_array : code_of event.entity < arrays_from

-- the event made an array
pub record IsArray (at : Events) (n : ℕ) : Type 0 where
  pub event : Recorded
  pub there : at n ≡ Some event
  pub is_new : event.kind ≡ kind.New
  pub array : arrays_from ≤ code_of event.entity

-- ---- slots

-- the event runs a body that has such a local
pub record HasLocal (p : Program) (at : Events) (f k : ℕ) : Type 0 where
  pub event : Recorded
  pub there : at f ≡ Some event
  pub body : FrameKind
  pub runs : running event ≡ Some body
  pub within : k < length (local_types p body)

-- a local of the body that the frame runs, a static field, a field of objects in an object, or an element of an array
abbrev pub SlotInRange : Program → Events → Slot → Type 0
SlotInRange p at slot.None = Unit {0}
SlotInRange p at (slot.Local f k) = HasLocal p at f k
SlotInRange p at (slot.Static k) = (f : Field) × IsField p k f × (f.is_static ≡ true)
SlotInRange p at (slot.Field o k) = IsObject at o × ((f : Field) × IsField p k f × (f.is_static ≡ false))
SlotInRange p at (slot.Elem a j) = IsArray at a × j < index_limit

-- ---- values

abbrev pub IsNone : Value → Type 0
IsNone val.None = Unit {0}
IsNone _ = ⊥

-- a value of a type
abbrev pub IsSome : Value → Type 0
IsSome val.None = ⊥
IsSome (val.Arm n) = ⊥
IsSome _ = Unit {0}

-- a value of a type, or the absence of one
abbrev pub IsReturned : Value → Type 0
IsReturned (val.Arm n) = ⊥
IsReturned _ = Unit {0}

-- an arm of a test that has two
abbrev pub IsArm : Value → Type 0
IsArm (val.Arm n) = n < 2
IsArm _ = ⊥

-- a byte, or -1
abbrev pub IsByte : Value → Type 0
IsByte (val.Int (pos n)) = n < 256
IsByte (val.Int (negsuc zero)) = Unit {0}
IsByte _ = ⊥

-- what an operand of a print is converted to, or the absence of one
abbrev pub IsPrinted : Value → Type 0
IsPrinted (val.Byte z) = ⊥
IsPrinted (val.Short z) = ⊥
IsPrinted (val.Object n) = ⊥
IsPrinted (val.Arm n) = ⊥
IsPrinted _ = Unit {0}

-- an object of a class
abbrev pub IsThrown : Events → Value → Type 0
IsThrown at (val.Object n) = IsObject at n
IsThrown at _ = ⊥

-- a New of a class has none, and that of an array its length
abbrev pub IsLength : ℕ → Value → Type 0
IsLength code v = ((code < arrays_from) × IsNone v) ⊎ ((arrays_from ≤ code) × ((n : ℕ) × (v ≡ val.Int (pos n)) × n ≤ element_limit))

abbrev pub ValueInRange : Events → Kind → Option ℕ → Value → Type 0
ValueInRange at kind.New entity v = IsLength (code_of entity) v
ValueInRange at kind.Bind entity v = IsSome v
ValueInRange at kind.Set entity v = IsSome v
ValueInRange at kind.Test entity v = IsArm v
ValueInRange at kind.Read entity v = IsByte v
ValueInRange at kind.Print entity v = IsPrinted v
ValueInRange at kind.Return entity v = IsReturned v
ValueInRange at kind.Throw entity v = IsThrown at v
ValueInRange at kind.Catch entity v = IsThrown at v
ValueInRange at _ entity v = IsNone v

-- a text of the program is one of its fixed texts
abbrev pub FixedInRange : Program → Value → Type 0
FixedInRange p (val.Fixed k) = k < length p.fixed_texts
FixedInRange p _ = Unit {0}

-- ---- uses

abbrev pub IsPlace : Slot → Type 0
IsPlace slot.None = ⊥
IsPlace _ = Unit {0}

abbrev pub UseInRange : Program → Events → Use → Type 0
UseInRange p at (use_of.Place x moment) = IsPlace x × SlotInRange p at x
UseInRange p at _ = Unit {0}

abbrev pub UsesInRange : Program → Events → List Use → Type 0
UsesInRange p at [] = Unit {0}
UsesInRange p at (u ∷ us) = UseInRange p at u × UsesInRange p at us

-- ---- output

-- the units that a value spells, by the events that made its texts
abbrev pub units_seen : Program → Events → Value → List ℕ
units_seen p at (val.Text n) = units_in (at n)
units_seen p at (val.Fixed n) = fixed_text p n
units_seen p at v = text_of v

-- the bytes that an event writes: those of a printed value, and the end of a line
abbrev pub written_as : Program → (ends_line : ℕ → Bool) → Events → Kind → ℕ → Value → List ℕ
written_as p ends_line at kind.Print site v = utf8_of (units_seen p at v) ++ line_end (ends_line site)
written_as p ends_line at _ site v = []

abbrev pub written_by : Program → (ends_line : ℕ → Bool) → Events → Recorded → List ℕ
written_by p ends_line at e = written_as p ends_line at e.kind e.site e.value

-- the bytes that the records write in their order, behind those before them
unfoldable pub written : Program → (ends_line : ℕ → Bool) → List Recorded → List Recorded → List ℕ
written p ends_line before [] = []
written p ends_line before (e ∷ rest) = written_by p ends_line (slice_get before) e ++ written p ends_line (before ++ e ∷ []) rest

-- ---- texts

-- how many units the text has that an event makes
abbrev pub made_as : Kind → List ℕ → ℕ
made_as kind.Text units = length units
made_as _ units = 0

abbrev pub made_by : Recorded → ℕ
made_by e = made_as e.kind e.units

-- how many the texts have that the records make
abbrev pub made_in : List Recorded → ℕ
made_in [] = 0
made_in (e ∷ rest) = made_by e + made_in rest

-- an event that prints nothing and makes no text
abbrev pub IsQuiet : Kind → Type 0
IsQuiet kind.Print = ⊥
IsQuiet kind.Text = ⊥
IsQuiet _ = Unit {0}

-- ---- ends of lines

-- a `println` stands at a print that ends a line, and at no other
abbrev pub PrintLined : (ends_line : ℕ → Bool) → Act → Type 0
PrintLined ends_line (Print operand ty ends site) = ends_line site ≡ ends
PrintLined ends_line _ = Unit {0}

abbrev pub StatementLined : (ends_line : ℕ → Bool) → Statement → Type 0
StatementLined ends_line (Stmt number site askable reach act) = PrintLined ends_line act

-- so it is at each of these
abbrev pub Lined : (ends_line : ℕ → Bool) → List Statement → Type 0
Lined ends_line all = AllByRecursion (StatementLined ends_line) all

-- ---- jumps

-- a jump goes to the end of a statement that it stands in, or to one of these
abbrev mutual
  pub JumpsTo : (ℕ → Type 0) → Statement → Type 0
  JumpsTo J (Stmt number site askable reach act) = ActJumpsTo (λ target. J target ⊎ (target ≡ number)) act

  pub ActJumpsTo : (ℕ → Type 0) → Act → Type 0
  ActJumpsTo J (Block parts) = AllJumpTo J parts
  ActJumpsTo J (If test if_true if_false) = JumpsTo J if_true × OtherJumpsTo J if_false
  ActJumpsTo J (While test body) = JumpsTo J body
  ActJumpsTo J (Do body test) = JumpsTo J body
  ActJumpsTo J (For inits test updates body) = AllJumpTo J inits × AllJumpTo J updates × JumpsTo J body
  ActJumpsTo J (Labelled body) = JumpsTo J body
  ActJumpsTo J (Jump target) = J target
  ActJumpsTo J (Try main catches last) = JumpsTo J main × CatchesJumpTo J catches × OtherJumpsTo J last
  ActJumpsTo J _ = Unit {0}

  pub OtherJumpsTo : (ℕ → Type 0) → Other → Type 0
  OtherJumpsTo J nothing = Unit {0}
  OtherJumpsTo J (this s) = JumpsTo J s

  pub AllJumpTo : (ℕ → Type 0) → Statements → Type 0
  AllJumpTo J done = Unit {0}
  AllJumpTo J (first s rest) = JumpsTo J s × AllJumpTo J rest

  pub CatchesJumpTo : (ℕ → Type 0) → Catches → Type 0
  CatchesJumpTo J uncaught = Unit {0}
  CatchesJumpTo J (catch class local site block rest) = JumpsTo J block × CatchesJumpTo J rest

-- it holds of the body of each method, and of each initializer
abbrev pub OfBodies : (Body → Type 0) → Program → Type 0
OfBodies Q p = ((k : ℕ) (b : Body) → slice_get p.bodies k ≡ Some (Some b) → Q b) × ((c : ℕ) (b : Body) → slice_get p.init_bodies c ≡ Some (Some b) → Q b)

-- no jump leaves a body
abbrev pub NoJumpLeaves : Program → Type 0
NoJumpLeaves p = OfBodies (λ (b : Body). JumpsTo (λ target. ⊥) b.block) p

-- a `println` stands where a print of the program ends a line, and at no other print
abbrev pub LinesEnd : (ends_line : ℕ → Bool) → Program → Type 0
LinesEnd ends_line p = Lined ends_line (statements_of p)

-- what is asked of a program of a text
pub record FitsText (text : Text) (p : Program) : Type 0 where
  pub sites : SitesInRange text.tokens p
  pub final : StringIsFinal p
  pub jumps : NoJumpLeaves p
  pub lines : LinesEnd text.ends_line p

-- ---- records

-- of a program of so many tokens
pub record InRange (tokens : ℕ) (p : Program) (at : Events) (e : Recorded) : Type 0 where
  pub site : IsSite tokens e.site
  pub entity : EntityInRange p e.kind e.entity
  pub slot : SlotInRange p at e.slot
  pub value : ValueInRange at e.kind e.entity e.value
  pub fixed : FixedInRange p e.value
  pub uses : UsesInRange p at e.uses

abbrev pub IsByteOf : ℕ → Type 0
IsByteOf b = b < 256

-- so is each record of the run, by the events before it
abbrev pub RecordsAreInRange : Sets → ℕ → Program → List ℕ → ℕ → Type 0
RecordsAreInRange A tokens p input budget =
    (n : ℕ) (e : Recorded) → slice_get (events A p input budget) n ≡ Some e → InRange tokens p (slice_get (take n (events A p input budget))) e

-- ---- the end of a run

-- the output is what the records write
abbrev pub OutputIsWritten : Sets → (ends_line : ℕ → Bool) → Program → List ℕ → ℕ → Type 0
OutputIsWritten A ends_line p input budget = output A p input budget ≡ written p ends_line [] (events A p input budget)

-- the texts that the run makes have no more units than their limit
abbrev pub TextsAreShort : Sets → Program → List ℕ → ℕ → Type 0
TextsAreShort A p input budget = made_in (events A p input budget) ≤ unit_limit

-- a run that ended by a throw, here or in an initializer, has the Throw
abbrev pub LastFits : ℕ → Option ℕ → Type 0
LastFits stop last = (((stop ≡ 1) ⊎ (stop ≡ 11)) × ((e : ℕ) × (last ≡ Some e))) ⊎ (((stop ≡ 1) ⊎ (stop ≡ 11) → ⊥) × (last ≡ Absent))

pub record EndInRange (p : Program) (budget : ℕ) (end : Tail) : Type 0 where
  pub stop : end.stop ≤ 11
  pub last : LastFits end.stop end.last
  pub steps : end.steps ≤ budget
  pub covers : length end.coverage ≡ p.statements

abbrev pub EndIsInRange : Sets → Program → List ℕ → ℕ → Type 0
EndIsInRange A p input budget = EndInRange p budget (tail A p input budget)

-- ---- runs

-- whatever the bytes of its input and its budget are
pub record RunsAreInRange (A : Sets) (text : Text) (p : Program) : Type 0 where
  pub records : (input : List ℕ) (budget : ℕ) → AllByRecursion IsByteOf input → RecordsAreInRange A text.tokens p input budget
  pub output : (input : List ℕ) (budget : ℕ) → AllByRecursion IsByteOf input → OutputIsWritten A text.ends_line p input budget
  pub texts : (input : List ℕ) (budget : ℕ) → AllByRecursion IsByteOf input → TextsAreShort A p input budget
  pub end : (input : List ℕ) (budget : ℕ) → AllByRecursion IsByteOf input → EndIsInRange A p input budget
