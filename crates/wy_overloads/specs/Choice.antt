-- The methods that a type has, and the one that a call means (JLS 8.4.2, 8.4.8, 15.12.2).
use Rattle.std.specs.Prelude.{◌≡◌, ℕ, zero, suc, ◌<◌, ◌≤◌, false, List, [], ◌∷◌, Some, slice_get, MatchOption}
use Rattle.wy_kernel.specs.declared.types.Base.TheVariants.{Primitive as Basic, Class as Named}
use Rattle.wy_kernel.specs.declared.types.Ty.{Ty}
use Rattle.wy_kernel.specs.declared.types.Ty.TheVariants.{Void, Null, Of}
use Rattle.wy_kernel.specs.declared.types.MethodForm.{MethodForm}
use Rattle.wy_kernel.specs.declared.types.MethodForm.TheVariants as kind
use Rattle.wy_kernel.specs.Program.{Class, Method, first_source_class}
use Rattle.wy_kernel.specs.Subtyping.{Below, IsReference, Substitutable, class_type}
use Rattle.wy_kernel.specs.Table.{Table}
use Rattle.wy_constant.specs.declared.rule.Rule.{Rule}
use Rattle.wy_constant.specs.declared.rule.Rule.TheVariants as rule

-- for which type a class declares: a method for each reference below the class, a constructor for the class alone
abbrev pub DeclaredFor : List Class → Ty → ℕ → MethodForm → Type 0
DeclaredFor classes type class kind.Static = IsReference type × Below classes type (class_type class)
DeclaredFor classes type class kind.Instance = IsReference type × Below classes type (class_type class)
DeclaredFor classes type class kind.Constructor = type ≡ class_type class
DeclaredFor classes type class kind.Fields = ⊥

-- the type has this method, by this name
pub record IsMember (classes : List Class) (type : Ty) (name : List ℕ) (m : Method) : Type 0 where
  pub named : m.name ≡ name
  pub declared : DeclaredFor classes type m.class m.form

-- each type is below the one at its place, and there are as many
pub data EachBelow (classes : List Class) : List Ty → List Ty → Type 0 where
  none : EachBelow classes [] []
  more : {a b : Ty} {rest others : List Ty} → Below classes a b → EachBelow classes rest others → EachBelow classes (a ∷ rest) (b ∷ others)

-- the type has this method by this name, and it takes arguments of these types (JLS 15.12.2.2)
pub record Applies (classes : List Class) (type : Ty) (name : List ℕ) (arguments : List Ty) (m : Method) : Type 0 where
  pub member : IsMember classes type name m
  pub takes : EachBelow classes arguments m.params

-- the type has the other method with the name and the parameter types of m (JLS 8.4.2)
pub record IsEquivalent (classes : List Class) (type : Ty) (m other : Method) : Type 0 where
  pub member : IsMember classes type m.name other
  pub same : other.params ≡ m.params

-- m is method k
abbrev pub IsMethod : Table → ℕ → Method → Type 0
IsMethod t k m = slice_get t.methods k ≡ Some m

abbrev pub Has : Table → Ty → List ℕ → ℕ → Method → Type 0
Has t type name k m = IsMethod t k m × IsMember t.classes type name m

abbrev pub Applicable : Table → Ty → List ℕ → List Ty → ℕ → Method → Type 0
Applicable t type name arguments k m = IsMethod t k m × Applies t.classes type name arguments m

abbrev pub Equivalent : Table → Ty → Method → ℕ → Method → Type 0
Equivalent t type m k other = IsMethod t k other × IsEquivalent t.classes type m other

-- a class that is no interface
abbrev pub IsClass : List Class → ℕ → Type 0
IsClass classes c = MatchOption (slice_get classes c) ⊥ (λ declaration. declaration.is_interface ≡ false)

-- method j is declared by an interface or by a class above that of method k, and behind it where their class is the same
pub record IsFurther (classes : List Class) (k : ℕ) (m : Method) (j : ℕ) (other : Method) : Type 0 where
  pub above : IsClass classes other.class → Below classes (class_type m.class) (class_type other.class)
  pub behind : other.class ≡ m.class → k ≤ j

-- method k is declared by a class, and each equivalent method is further from the type
pub record IsNearest (t : Table) (type : Ty) (k : ℕ) (m : Method) : Type 0 where
  pub by_class : IsClass t.classes m.class
  pub nearest : (j : ℕ) (other : Method) → Equivalent t type m j other → IsFurther t.classes k m j other

-- the result of method k may stand for that of method j, which is behind it where their results are the same
pub record HasHigherResult (classes : List Class) (k : ℕ) (m : Method) (j : ℕ) (other : Method) : Type 0 where
  pub higher : Substitutable classes m.result other.result
  pub behind : other.result ≡ m.result → k ≤ j

-- each equivalent method has the result of method k, and is behind it, or a higher one
abbrev pub HasLowestResult : Table → Ty → ℕ → Method → Type 0
HasLowestResult t type k m = (j : ℕ) (other : Method) → Equivalent t type m j other → HasHigherResult t.classes k m j other

-- a class declares a method equivalent to m with a body, and no nearer class declares one
abbrev pub NearestHasBody : Table → Ty → Method → Type 0
NearestHasBody t type m = (j : ℕ) × (other : Method) × Equivalent t type m j other × IsNearest t type j other × (other.is_abstract ≡ false)

-- equivalent methods count as one: that of the nearest class, if it has a body, and else that with the lowest result
pub data Counts (t : Table) (type : Ty) (k : ℕ) (m : Method) : Type 0 where
  nearest : IsNearest t type k m → m.is_abstract ≡ false → Counts t type k m
  lowest : (NearestHasBody t type m → ⊥) → HasLowestResult t type k m → Counts t type k m

-- the parameter types of m are below those of each method that is applicable (JLS 15.12.2.5)
abbrev pub IsMostSpecific : Table → Ty → List ℕ → List Ty → Method → Type 0
IsMostSpecific t type name arguments m = (j : ℕ) (other : Method) → Applicable t type name arguments j other → EachBelow t.classes m.params other.params

-- method k is the one that a call means
pub record Chosen (t : Table) (type : Ty) (name : List ℕ) (arguments : List Ty) (k : ℕ) : Type 0 where
  pub method : Method
  pub applicable : Applicable t type name arguments k method
  pub most_specific : IsMostSpecific t type name arguments method
  pub counts : Counts t type k method

-- an array, or a class of the library
abbrev pub IsOfLibrary : Ty → Type 0
IsOfLibrary (Of base (suc brackets)) = Unit {0}
IsOfLibrary (Of (Named c) zero) = c < first_source_class
IsOfLibrary (Of (Basic p) zero) = ⊥
IsOfLibrary Void = ⊥
IsOfLibrary Null = ⊥

abbrev pub HasSome : Table → Ty → List ℕ → Type 0
HasSome t type name = (k : ℕ) × (m : Method) × Has t type name k m

abbrev pub SomeApplies : Table → Ty → List ℕ → List Ty → Type 0
SomeApplies t type name arguments = (k : ℕ) × (m : Method) × Applicable t type name arguments k m

-- a type of the library that has no method of this name
abbrev pub IsNotOffered : Table → Ty → List ℕ → Type 0
IsNotOffered t type name = IsOfLibrary type × (HasSome t type name → ⊥)

-- no method is chosen, by this rule
abbrev pub Refused : Table → Ty → List ℕ → List Ty → Rule → Type 0
Refused t type name arguments rule.NoMethod = (SomeApplies t type name arguments → ⊥) × (IsNotOffered t type name → ⊥)
Refused t type name arguments rule.Ambiguous = SomeApplies t type name arguments × ((k : ℕ) → Chosen t type name arguments k → ⊥)
Refused t type name arguments rule.NotOffered = IsNotOffered t type name
Refused t type name arguments _ = ⊥
