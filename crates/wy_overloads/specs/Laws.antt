-- What makes subtyping and the choice of methods sound to rely on.
use Rattle.std.specs.Prelude.{◌≡◌, ℕ, List}
use Rattle.wy_kernel.specs.declared.types.Ty.{Ty}
use Rattle.wy_kernel.specs.Subtyping.{Below}
use Rattle.wy_kernel.specs.Table.{Table, IsTable}
use Rattle.wy_constant.specs.declared.rule.Rule.{Rule}
use Rattle.wy_overloads.specs.Choice.{Chosen, Refused}

-- of two types each below the other, each is the other
abbrev pub BelowIsAntisymmetric : Type 0
BelowIsAntisymmetric = (t : Table) (a b : Ty) → IsTable t → Below t.classes a b → Below t.classes b a → a ≡ b

abbrev pub OneIsChosen : Type 0
OneIsChosen = (t : Table) (type : Ty) (name : List ℕ) (arguments : List Ty) (j k : ℕ) → IsTable t → Chosen t type name arguments j → Chosen t type name arguments k → j ≡ k

abbrev pub OneRuleRefuses : Type 0
OneRuleRefuses = (t : Table) (type : Ty) (name : List ℕ) (arguments : List Ty) (a b : Rule) → Refused t type name arguments a → Refused t type name arguments b → a ≡ b

abbrev pub NoneIsChosenAndRefused : Type 0
NoneIsChosenAndRefused = (t : Table) (type : Ty) (name : List ℕ) (arguments : List Ty) (k : ℕ) (rule : Rule) → Chosen t type name arguments k → Refused t type name arguments rule → ⊥
