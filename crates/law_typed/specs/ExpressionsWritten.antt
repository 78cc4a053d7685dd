-- What the text of an expression can say: no name is the keyword `new`, no comparison is a compound assignment, and an array that is made without
-- elements has a size (JLS 3.9, 15.10.1, 15.26).
use Rattle.std.specs.Prelude.{◌≡◌, ℕ, false, List, codes}
use Rattle.wy_value.specs.Operator.{is_comparison}
use Rattle.wy_syntax.specs.Syntax.{Expression, Invoke, InvokeOn, SuperInvoke, NewArray, Update, Row, none, more, Initial, Elements}
use Rattle.law_typed.specs.Throughout.{Throughout, ThroughoutRow, ThroughoutInitial, ThroughoutElements}

abbrev pub IsName : List ℕ → Type 0
IsName name = name ≡ codes "new" → ⊥

abbrev pub IsSome : Row → Type 0
IsSome none = ⊥
IsSome (more e rest) = Unit {0}

-- a text can say the expression itself
abbrev pub IsSaid : Expression → Type 0
IsSaid (Invoke name args token) = IsName name
IsSaid (InvokeOn object name args token) = IsName name
IsSaid (SuperInvoke name args token) = IsName name
IsSaid (NewArray base base_token sizes brackets token) = IsSome sizes
IsSaid (Update op left value token) = is_comparison op ≡ false
IsSaid _ = Unit {0}

-- and so is each that stands in it
abbrev pub IsWritten : Expression → Type 0
IsWritten e = Throughout IsSaid e

abbrev pub AreWritten : Row → Type 0
AreWritten args = ThroughoutRow IsSaid args

abbrev pub InitialWritten : Initial → Type 0
InitialWritten i = ThroughoutInitial IsSaid i

abbrev pub ElementsWritten : Elements → Type 0
ElementsWritten all = ThroughoutElements IsSaid all
