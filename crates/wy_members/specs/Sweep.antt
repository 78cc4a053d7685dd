-- What is known of the fields of a table while its constants are searched for.
use Rattle.std.specs.Prelude.{◌≡◌, ℕ, suc, List, [], ◌∷◌, Option, Some, None, is_some, slice_get, if◌then◌else◌}
use Rattle.wy_syntax.specs.Syntax.{Expression}
use Rattle.wy_kernel.specs.Table.{Table, ConstantValue}
use Rattle.wy_constant.specs.Fields.{field_constant}
use Rattle.wy_members.specs.Constants.{IsConstant, told, without_constants}

-- each value of the table is that of a constant variable
abbrev pub AreConstants : Table → List (Option Expression) → Type 0
AreConstants t all = (k : ℕ) (v : ConstantValue) → slice_get t.constants k ≡ Some (Some v) → IsConstant (without_constants t) all k v

-- the value of a field that the table has none of yet
abbrev pub news : Table → List (Option Expression) → ℕ → Option ConstantValue
news t all k = if is_some (field_constant t k) then None else told t all k

-- no further value follows
abbrev pub IsFinished : Table → List (Option Expression) → Type 0
IsFinished t all = (k : ℕ) → news t all k ≡ None

-- how many fields have no value
abbrev pub unknown : List (Option ConstantValue) → ℕ
unknown [] = 0
unknown (None ∷ rest) = suc (unknown rest)
unknown (Some v ∷ rest) = unknown rest

-- the table goes on from another: with the same rows, and with constants if the other has them alone
pub record GoesOn (all : List (Option Expression)) (t new : Table) : Type 0 where
  pub rows : without_constants new ≡ without_constants t
  pub constants : AreConstants t all → AreConstants new all
