-- An index of methods in memory as contracts see it.
use Rattle.std.specs.Prelude.{◌≡◌, ℕ, List, [], Option, Some, None, slice_get}
use Rattle.std.specs.HashMap.{HashMap}
use Rattle.std.specs.declared.alloc.Global.{Global}
use Rattle.std.specs.declared.vec.Vec.{Vec}
use Rattle.wy_kernel.specs.Program.{Method}
use Rattle.wy_table.specs.declared.methods.MethodIndex.{MethodIndex}
use Rattle.wy_table.specs.Listed.{listed, listed_by_text}
use Rattle.wy_table.specs.Methods.{Lists, IsByName, IsNamed, IsConstructorOf, IsAlike}

abbrev pub listed_if : {S : Type 0} → HashMap ℕ (Vec ℕ Global) S → Option ℕ → List ℕ
listed_if lists None = []
listed_if lists (Some key) = listed lists key

abbrev pub named_in : MethodIndex → List ℕ → List ℕ
named_in index name = listed_by_text index.by_name name

abbrev pub constructors_in : MethodIndex → ℕ → List ℕ
constructors_in index class = listed index.constructors class

abbrev pub alike_in : MethodIndex → ℕ → List ℕ
alike_in index k = listed_if index.alike (slice_get index.groups.items k)

-- what a search among the methods looks at is listed
pub record IsIndexOf (index : MethodIndex) (methods : List Method) : Type 0 where
  pub named : (name : List ℕ) → Lists methods (λ k m. IsNamed name m) (named_in index name)
  pub constructors : (class : ℕ) → Lists methods (λ k m. IsConstructorOf class m) (constructors_in index class)
  pub alike : (k : ℕ) (m : Method) → slice_get methods k ≡ Some m → Lists methods (λ j other. IsByName other.form × IsAlike m other) (alike_in index k)
