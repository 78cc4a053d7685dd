-- Meanings that differ in the places of texts alone.
use Rattle.std.specs.Prelude.{◌≡◌, ℕ, Bool, List, Option, Some, None, Err}
use Rattle.wy_kernel.specs.declared.types.Ty.{Ty}
use Rattle.wy_kernel.specs.Form as kernel
use Rattle.wy_kernel.specs.Form.{Place}
use Rattle.wy_kernel.specs.Table.{Table, ConstantValue}
use Rattle.wy_syntax.specs.Syntax.{Expression}
use Rattle.wy_constant.specs.Refusal.{Refusal}
use Rattle.wy_constant.specs.Scope.{Scope, FixedText}
use Rattle.wy_elab_expr.specs.Meaning.{Meaning, Known, Formed}
use Rattle.wy_elab_expr.specs.Operators.{Judgement}
use Rattle.wy_elab_expr.specs.Members.{Spot, spot}
use Rattle.wy_elab_expr.specs.Elaboration.{elaborated}
use Rattle.law_refusals.specs.Found.{IsFound, Denotes}

-- the same constant, or forms of one type
pub data AreAlike : Meaning → Meaning → Type 0 where
  known : {value : ConstantValue} {token : ℕ} → AreAlike (Known value token) (Known value token)
  formed : {e f : kernel.Expression} {ty : Ty} → AreAlike (Formed e ty) (Formed f ty)

-- variables of one type, both fixed or not
pub data SpotsAreAlike : Spot → Spot → Type 0 where
  spots : {p q : Place} {ty : Ty} {is_fixed : Bool} → SpotsAreAlike (spot p ty is_fixed) (spot q ty is_fixed)

-- no variable, or alike ones
pub data VariablesAreAlike : Option Spot → Option Spot → Type 0 where
  none : VariablesAreAlike None None
  some : {p q : Spot} → SpotsAreAlike p q → VariablesAreAlike (Some p) (Some q)

-- what an expression is found to be, and whether it is refused, does not depend on the texts before it
abbrev pub IsFoundOnce : Type 0
IsFoundOnce = (j : Judgement) (t : Table) (s : Scope) (e : Expression) (m n : Meaning) → IsFound j t s e m → IsFound j t s e n → AreAlike m n

abbrev pub IsDenotedOnce : Type 0
IsDenotedOnce = (j : Judgement) (t : Table) (s : Scope) (e : Expression) (p q : Option Spot) → Denotes j t s e p → Denotes j t s e q → VariablesAreAlike p q

abbrev pub IsRefusedAlways : Type 0
IsRefusedAlways = (j : Judgement) (t : Table) (s : Scope) (e : Expression) (before other : List FixedText) (x : Refusal) → elaborated j t s e before ≡ Err x → elaborated j t s e other ≡ Err x
