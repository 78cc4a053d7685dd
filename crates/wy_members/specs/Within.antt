-- In which ways one class or one of its members breaks a rule, each at its token.
use Rattle.std.specs.Prelude.{◌≡◌, ◌⊎◌, ◌↔◌, ◌<◌, ◌+◌, ℕ, true, false, slice_get, Bool, ◌||◌, List, Option, Some, None}
use Rattle.std.specs.List.{Contains}
use Rattle.wy_syntax.specs.Syntax.{Named, WrittenType, Placed, Parameter, Header, Braced, Member, ClassSyntax}
use Rattle.wy_syntax.specs.Syntax as syntax
use Rattle.wy_kernel.specs.Program.{Class, Method, Field, object_class, first_source_class}
use Rattle.wy_kernel.specs.Builtin.{throwable_class}
use Rattle.wy_syntax.specs.declared.declaration.Modifier.TheVariants as modifier
use Rattle.wy_kernel.specs.Subtyping.{Supertype, Substitutable, class_type}
use Rattle.wy_kernel.specs.Table.{Table}
use Rattle.wy_kernel.specs.declared.types.Ty.{Ty}
use Rattle.wy_overloads.specs.Choice.{IsMethod, IsEquivalent, Counts, NearestHasBody}
use Rattle.wy_members.specs.Least.{Either, Here, Among, IsAgain}
use Rattle.wy_members.specs.Declarations.{CompilationUnit, denoted, has}
use Rattle.wy_members.specs.Broken.{reserved_names, IsAboveItself, Inherits, HasNoCommonResult, StandsForEach}

-- ---- Duplicate

abbrev pub ModifierTwice : List Placed → ℕ → Type 0
ModifierTwice ms = IsAgain (λ (a : Placed) (b : Placed). a.modifier ≡ b.modifier) (λ (b : Placed). b.token) ms

abbrev pub ParameterTwice : List Parameter → ℕ → Type 0
ParameterTwice ps = IsAgain (λ (a : Parameter) (b : Parameter). a.name.name ≡ b.name.name) (λ (b : Parameter). b.name.token) ps

abbrev pub RepeatsInHeader : Header → ℕ → Type 0
RepeatsInHeader h = Either (ModifierTwice h.modifiers) (ParameterTwice h.params)

abbrev pub RepeatsInMember : Member → ℕ → Type 0
RepeatsInMember syntax.Member.Nothing n = ⊥
RepeatsInMember (syntax.Initializer is_static block) n = ⊥
RepeatsInMember (syntax.Fields ms ty declarators) n = ModifierTwice ms n
RepeatsInMember (syntax.Method h result body) n = RepeatsInHeader h n
RepeatsInMember (syntax.Constructor h own_call brace parts end) n = RepeatsInHeader h n
RepeatsInMember syntax.Member.Unknown n = ⊥

abbrev pub RepeatsInClass : ClassSyntax → ℕ → Type 0
RepeatsInClass k = Either (Here (Contains reserved_names k.name.name) k.name.token) (Either (ModifierTwice k.modifiers) (Among k.members (λ i m. RepeatsInMember m)))

-- ---- UnknownName

abbrev pub UnknownNamed : CompilationUnit → Named → ℕ → Type 0
UnknownNamed unit name = Here (denoted unit name.name ≡ None) name.token

abbrev pub UnknownNames : CompilationUnit → List Named → ℕ → Type 0
UnknownNames unit names = Among names (λ i name. UnknownNamed unit name)

abbrev pub UnknownBase : CompilationUnit → syntax.Base → ℕ → ℕ → Type 0
UnknownBase unit (syntax.Basic p) token n = ⊥
UnknownBase unit (syntax.Class name) token n = Here (denoted unit name ≡ None) token n

abbrev pub UnknownType : CompilationUnit → WrittenType → ℕ → Type 0
UnknownType unit ty = UnknownBase unit ty.base ty.token

abbrev pub UnknownResult : CompilationUnit → Option WrittenType → ℕ → Type 0
UnknownResult unit None n = ⊥
UnknownResult unit (Some ty) n = UnknownType unit ty n

abbrev pub UnknownAbove : CompilationUnit → Option Named → ℕ → Type 0
UnknownAbove unit None n = ⊥
UnknownAbove unit (Some name) n = UnknownNamed unit name n

abbrev pub UnknownInHeader : CompilationUnit → Header → ℕ → Type 0
UnknownInHeader unit h = Either (Among h.params (λ i (p : Parameter). UnknownType unit p.ty)) (UnknownNames unit h.throws)

abbrev pub UnknownInMember : CompilationUnit → List ℕ → Member → ℕ → Type 0
UnknownInMember unit class syntax.Member.Nothing n = ⊥
UnknownInMember unit class (syntax.Initializer is_static block) n = ⊥
UnknownInMember unit class (syntax.Fields ms ty declarators) n = UnknownType unit ty n
UnknownInMember unit class (syntax.Method h result body) n = Either (UnknownResult unit result) (UnknownInHeader unit h) n
UnknownInMember unit class (syntax.Constructor h own_call brace parts end) n = Either (UnknownInHeader unit h) (Here (h.name.name ≡ class → ⊥) h.name.token) n
UnknownInMember unit class syntax.Member.Unknown n = ⊥

abbrev pub UnknownInClass : CompilationUnit → ClassSyntax → ℕ → Type 0
UnknownInClass unit k = Either (UnknownAbove unit k.above) (Either (UnknownNames unit k.interfaces) (Among k.members (λ i m. UnknownInMember unit k.name.name m)))

-- ---- Cycle

-- class c is above itself, and has this row
abbrev pub CycleAt : List Class → ℕ → Class → ℕ → Type 0
CycleAt classes c row = Here (IsAboveItself classes c) row.site

-- the classes that are above themselves
abbrev pub AreCyclic : List Class → List ℕ → Type 0
AreCyclic classes cyclic = (c : ℕ) → Contains cyclic c ↔ IsAboveItself classes c

-- no class at or above class c is above itself
abbrev pub IsJudgedIn : List Class → ℕ → Type 0
IsJudgedIn classes c = (d : ℕ) → Supertype classes c d → IsAboveItself classes d → ⊥

-- ---- BadOverride: methods

abbrev pub SomeMethod : Table → (ℕ → Method → Type 0) → Type 0
SomeMethod t Q = (k : ℕ) × (m : Method) × IsMethod t k m × Q k m

-- a method may not override another
abbrev pub Conflicts : List Class → Method → Method → Type 0
Conflicts classes m other = (Substitutable classes m.result other.result → ⊥) ⊎ (m.form ≡ other.form → ⊥) ⊎ (other.is_final ≡ true)

abbrev pub WrongToOverride : List Class → Method → Method → Type 0
WrongToOverride classes m other = IsEquivalent classes (class_type m.class) m other × (other.class ≡ m.class → ⊥) × Conflicts classes m other

-- the method overrides or hides one that it may not
abbrev pub OverridesWrongly : Table → Method → Type 0
OverridesWrongly t m = SomeMethod t (λ k other. WrongToOverride t.classes m other)

-- the type has an equal method of another form
abbrev pub DiffersInForm : Table → Ty → Method → Type 0
DiffersInForm t type m = SomeMethod t (λ j other. IsEquivalent t.classes type m other × (m.form ≡ other.form → ⊥))

abbrev pub StandsWrongly : Table → Ty → Method → Type 0
StandsWrongly t type m = HasNoCommonResult t type m ⊎ DiffersInForm t type m

-- class c inherits methods that may not stand together
abbrev pub InheritsWrongly : Table → ℕ → Type 0
InheritsWrongly t c = SomeMethod t (λ k m. Inherits t c k m × StandsWrongly t (class_type c) m)

-- the other method is an equal of m that counts, and its result may stand for that of each equal of it
abbrev pub IsCommonResult : Table → Ty → Method → ℕ → Method → Type 0
IsCommonResult t type m j other = IsEquivalent t.classes type m other × Counts t type j other × StandsForEach t type other

-- ---- NotImplemented

abbrev pub IsLeftAbstract : Table → ℕ → ℕ → Method → Type 0
IsLeftAbstract t c k m = Inherits t c k m × (NearestHasBody t (class_type c) m → ⊥) × (m.is_abstract ≡ true)

-- class c inherits an abstract method that no nearest class gives a body
abbrev pub LeavesAbstract : Table → ℕ → Type 0
LeavesAbstract t c = SomeMethod t (IsLeftAbstract t c)

-- ---- at classes and methods that are judged

abbrev pub OverridesAt : List Class → Table → ℕ → Method → ℕ → Type 0
OverridesAt classes t k m = Here (IsJudgedIn classes m.class × OverridesWrongly t m) m.site

abbrev pub InheritsAt : List Class → Table → ℕ → Class → ℕ → Type 0
InheritsAt classes t c row = Here (IsJudgedIn classes c × InheritsWrongly t c) row.site

abbrev pub LeavesAt : List Class → Table → ℕ → Class → ℕ → Type 0
LeavesAt classes t c row = Here (IsJudgedIn classes c × (row.is_abstract ≡ false) × LeavesAbstract t c) row.site

-- class c is not abstract
abbrev pub IsConcrete : List Class → ℕ → Type 0
IsConcrete classes c = (row : Class) × (slice_get classes c ≡ Some row) × (row.is_abstract ≡ false)

abbrev pub DeclaresAt : List Class → ℕ → Method → ℕ → Type 0
DeclaresAt classes k m = Here (IsJudgedIn classes m.class × (m.is_abstract ≡ true) × IsConcrete classes m.class) m.site

-- ---- BadOverride: supertypes

-- a class with this row may not be extended
abbrev pub NotExtended : List Class → ℕ → Class → Type 0
NotExtended classes d row = (row.is_interface ≡ true) ⊎ (row.is_final ≡ true) ⊎ ((d < first_source_class) × (d ≡ object_class → ⊥) × (Supertype classes d throwable_class → ⊥))

abbrev pub ExtendsWrongly : CompilationUnit → List Class → Option Named → Type 0
ExtendsWrongly unit classes None = ⊥
ExtendsWrongly unit classes (Some name) = (d : ℕ) × (row : Class) × (denoted unit name.name ≡ Some d) × (slice_get classes d ≡ Some row) × NotExtended classes d row

-- the name is that of a class, and no interface
abbrev pub NamesClass : CompilationUnit → List Class → Named → Type 0
NamesClass unit classes name = (d : ℕ) × (row : Class) × (denoted unit name.name ≡ Some d) × (slice_get classes d ≡ Some row) × (row.is_interface ≡ false)

abbrev pub HasWrongAbove : CompilationUnit → List Class → ClassSyntax → Type 0
HasWrongAbove unit classes k = ExtendsWrongly unit classes k.above ⊎ ((i : ℕ) × (name : Named) × (slice_get k.interfaces i ≡ Some name) × NamesClass unit classes name)

-- of the class of this place in the text
abbrev pub WrongAboveAt : CompilationUnit → List Class → ℕ → ClassSyntax → ℕ → Type 0
WrongAboveAt unit classes i k = Here (IsJudgedIn classes (first_source_class + i) × HasWrongAbove unit classes k) k.name.token

-- ---- NotImplemented: bodies

-- the method of this header has no body, and may not be without one
abbrev pub WantsBody : Bool → Header → Type 0
WantsBody in_interface h = ((in_interface || has modifier.Abstract h.modifiers) ≡ false) ⊎ (has modifier.Static h.modifiers ≡ true) ⊎ (has modifier.Private h.modifiers ≡ true)

-- the method of this header has a body, and may have none
abbrev pub WantsNoBody : Bool → Header → Type 0
WantsNoBody in_interface h = (in_interface || has modifier.Abstract h.modifiers) ≡ true

abbrev pub WrongBody : Bool → Header → Option Braced → Type 0
WrongBody in_interface h None = WantsBody in_interface h
WrongBody in_interface h (Some body) = WantsNoBody in_interface h

abbrev pub WrongBodyIn : Bool → Member → ℕ → Type 0
WrongBodyIn in_interface syntax.Member.Nothing n = ⊥
WrongBodyIn in_interface (syntax.Initializer is_static block) n = ⊥
WrongBodyIn in_interface (syntax.Fields ms ty declarators) n = ⊥
WrongBodyIn in_interface (syntax.Method h result body) n = Here (WrongBody in_interface h body) h.name.token n
WrongBodyIn in_interface (syntax.Constructor h own_call brace parts end) n = Here (has modifier.Abstract h.modifiers ≡ true) h.name.token n
WrongBodyIn in_interface syntax.Member.Unknown n = ⊥

-- in class c
abbrev pub InClassNumbered : List Class → ℕ → ClassSyntax → ℕ → Type 0
InClassNumbered classes c k n = IsJudgedIn classes c × Among k.members (λ j m. WrongBodyIn k.is_interface m) n

-- in the class of this place in the text
abbrev pub WrongBodyAt : List Class → ℕ → ClassSyntax → ℕ → Type 0
WrongBodyAt classes i k = InClassNumbered classes (first_source_class + i) k

-- ---- all parts of a rule

abbrev pub ClassTwice : List Class → ℕ → Type 0
ClassTwice = IsAgain (λ (a : Class) (b : Class). a.name ≡ b.name) (λ (b : Class). b.site)

abbrev pub FieldTwice : List Field → ℕ → Type 0
FieldTwice = IsAgain (λ (a : Field) (b : Field). (a.class ≡ b.class) × (a.name ≡ b.name)) (λ (b : Field). b.site)

abbrev pub MethodTwice : List Method → ℕ → Type 0
MethodTwice = IsAgain (λ (a : Method) (b : Method). (a.class ≡ b.class) × (a.name ≡ b.name) × (a.params ≡ b.params)) (λ (b : Method). b.site)

abbrev pub RepeatsIn : List Class → List Field → List Method → List ClassSyntax → ℕ → Type 0
RepeatsIn classes fields methods written = Either (Either (ClassTwice classes) (FieldTwice fields)) (Either (MethodTwice methods) (Among written (λ i k. RepeatsInClass k)))

abbrev pub BadOverridesIn : CompilationUnit → List Class → Table → List ClassSyntax → ℕ → Type 0
BadOverridesIn unit classes below written = Either (Among written (WrongAboveAt unit classes)) (Either (Among below.methods (OverridesAt classes below)) (Among below.classes (InheritsAt classes below)))

abbrev pub NotImplementedsIn : Table → Table → List ClassSyntax → ℕ → Type 0
NotImplementedsIn judged below written = Either (Among judged.methods (DeclaresAt judged.classes)) (Either (Among below.classes (LeavesAt judged.classes below)) (Among written (WrongBodyAt judged.classes)))
