-- Methods with one name and the same parameter types, where rules look for some of them.
use Rattle.std.specs.Prelude.{◌≡◌, ◌⊎◌, ℕ, ◌<◌, Bool, true, false, List, length, slice_index_or}
use Rattle.std.specs.List.{Contains}
use Rattle.wy_kernel.specs.Program.{Class, Method, object_class}
use Rattle.wy_kernel.specs.Subtyping.{class_type, direct_supertypes}
use Rattle.wy_kernel.specs.Table.{Table}
use Rattle.wy_kernel.specs.declared.types.Ty.{Ty}
use Rattle.wy_table.specs.Methods.{IsByName, IsAlike}
use Rattle.wy_overloads.specs.Choice.{IsMethod, IsEquivalent, Equivalent}
use Rattle.wy_members.specs.Broken.{Inherits}
use Rattle.wy_members.specs.Within.{SomeMethod, IsLeftAbstract, StandsWrongly}
use Rattle.wy_members.specs.declared.broken.compared.Sought.{Sought}
use Rattle.wy_members.specs.declared.broken.compared.Sought.TheVariants as sought

-- some method of the list
abbrev pub SomeListed : Table → List ℕ → (ℕ → Method → Type 0) → Type 0
SomeListed t numbers Q = SomeMethod t (λ k m. Contains numbers k × Q k m)

-- the list has numbers of methods only
abbrev pub AreMethods : Table → List ℕ → Type 0
AreMethods t numbers = (k : ℕ) → Contains numbers k → k < length t.methods

-- whether abstract methods alone are sought
abbrev pub abstract_alone : Sought → Bool
abstract_alone sought.Each = false
abstract_alone sought.Abstract = true

-- a method that is called by its name, and is abstract where only such a one is looked for
abbrev pub IsSought : Bool → Method → Type 0
IsSought only_abstract m = IsByName m.form × (only_abstract ≡ true → m.is_abstract ≡ true)

-- a class or an interface that others extend or implement; Object is above all
abbrev pub IsExtended : List Class → ℕ → Type 0
IsExtended classes d = (d ≡ object_class) ⊎ ((c : ℕ) × Contains (direct_supertypes classes c) d)

-- the mark of class d is set, if it has one
abbrev pub IsMarked : List Bool → ℕ → Type 0
IsMarked marks d = d < length marks → slice_index_or marks d false ≡ true

-- ---- of the methods of classes of which something holds

-- another method is alike to method k
abbrev pub HasAlike : Table → (ℕ → Type 0) → ℕ → Method → Type 0
HasAlike t Open k m = SomeMethod t (λ j other. (j ≡ k → ⊥) × IsByName other.form × Open other.class × IsAlike m other)

-- a method that is looked for, and isn't alone where any is
abbrev pub IsFound : Table → (ℕ → Type 0) → Bool → ℕ → Method → Type 0
IsFound t Open only_abstract k m = IsSought only_abstract m × Open m.class × (only_abstract ≡ false → HasAlike t Open k m)

-- a method before method k is looked for and alike to it
abbrev pub HasEarlier : Table → (ℕ → Type 0) → Bool → ℕ → Method → Type 0
HasEarlier t Open only_abstract k m = SomeMethod t (λ j other. (j < k) × IsSought only_abstract other × Open other.class × IsAlike m other)

-- ---- lists

-- the list has a method alike to each of these, and numbers of methods only
pub record ListsAlike (t : Table) (P : ℕ → Method → Type 0) (numbers : List ℕ) : Type 0 where
  pub each : (k : ℕ) (m : Method) → IsMethod t k m → P k m → SomeListed t numbers (λ j other. IsAlike other m)
  pub in_range : AreMethods t numbers

-- of the methods that classes may inherit, and that are looked for, the list has one alike to each
abbrev pub ListsFound : Table → Bool → List ℕ → Type 0
ListsFound t only_abstract numbers = ListsAlike t (IsFound t (IsExtended t.classes) only_abstract) numbers

-- ---- what is looked for with a method

-- the type has a method of this kind that is equal to m
abbrev pub IsEqualSought : Table → Ty → Bool → Method → Method → Type 0
IsEqualSought t type only_abstract m other = IsSought only_abstract other × IsEquivalent t.classes type m other

-- class c inherits this method, which is alike to m
abbrev pub InheritsAlike : Table → ℕ → Bool → Method → ℕ → Method → Type 0
InheritsAlike t c only_abstract m j other = IsSought only_abstract other × IsAlike m other × Inherits t c j other

-- class c inherits a method alike to m, and it stands wrongly
abbrev pub InheritsAlikeWrongly : Table → ℕ → Method → Type 0
InheritsAlikeWrongly t c m = SomeMethod t (λ j other. IsAlike m other × Inherits t c j other × StandsWrongly t (class_type c) other)

-- class c leaves a method alike to m abstract
abbrev pub LeavesAlikeAbstract : Table → ℕ → Method → Type 0
LeavesAlikeAbstract t c m = SomeMethod t (λ j other. IsAlike m other × IsLeftAbstract t c j other)

-- each method of the type that is equal to m is called by its name
abbrev pub AreByName : Table → Ty → Method → Type 0
AreByName t type m = (j : ℕ) (other : Method) → Equivalent t type m j other → IsByName other.form
