-- Lists of methods by their numbers: by name, by class, and by name and parameter types.
-- Each list has all methods of which something holds, and may have others.
use Rattle.std.specs.Prelude.{◌≡◌, ℕ, ◌<◌, List, length, Some, slice_get}
use Rattle.std.specs.List.{Contains}
use Rattle.wy_kernel.specs.declared.types.MethodForm.{MethodForm}
use Rattle.wy_kernel.specs.declared.types.MethodForm.TheVariants as kind
use Rattle.wy_kernel.specs.Program.{Method}

-- methods of this form are called by a name
abbrev pub IsByName : MethodForm → Type 0
IsByName kind.Static = Unit {0}
IsByName kind.Instance = Unit {0}
IsByName kind.Constructor = ⊥
IsByName kind.Fields = ⊥

-- the list has each method of which this holds, and numbers of methods only
pub record Lists (methods : List Method) (P : ℕ → Method → Type 0) (numbers : List ℕ) : Type 0 where
  pub each : (k : ℕ) (m : Method) → slice_get methods k ≡ Some m → P k m → Contains numbers k
  pub in_range : (k : ℕ) → Contains numbers k → k < length methods

-- a method with this name that is called by it
abbrev pub IsNamed : List ℕ → Method → Type 0
IsNamed name m = IsByName m.form × (m.name ≡ name)

abbrev pub IsConstructorOf : ℕ → Method → Type 0
IsConstructorOf class m = (m.form ≡ kind.Constructor) × (m.class ≡ class)

-- two methods have one name and the same parameter types (JLS 8.4.2)
abbrev pub IsAlike : Method → Method → Type 0
IsAlike m other = (other.name ≡ m.name) × (other.params ≡ m.params)
