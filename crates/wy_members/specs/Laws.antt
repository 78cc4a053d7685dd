-- What makes the constants of fields sound to rely on.
use Rattle.std.specs.Prelude.{◌≡◌, ℕ, List, Option}
use Rattle.wy_kernel.specs.Table.{ConstantValue}
use Rattle.wy_members.specs.Declarations.{CompilationUnit}
use Rattle.wy_members.specs.Constants.{IsConstantField, HasConstants}

-- a field that is a constant variable has one value
abbrev pub OneConstantAField : Type 0
OneConstantAField = (unit : CompilationUnit) (k : ℕ) (v w : ConstantValue) → IsConstantField unit k v → IsConstantField unit k w → v ≡ w

-- two lists of all constants of a program are one
abbrev pub OneListOfConstants : Type 0
OneListOfConstants = (unit : CompilationUnit) (a b : List (Option ConstantValue)) → HasConstants unit a → HasConstants unit b → a ≡ b
