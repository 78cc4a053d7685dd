-- Where the jumps of a body go: to the end of a statement around them (JLS 14.15, 14.16).
use Rattle.std.specs.Prelude.{◌≡◌, ◌⊎◌, ℕ, Bool, true, false, Option, Some, None}
use Rattle.wy_kernel.specs.Form.{Statement, Stmt, Act, While, Do, For, Labelled, Jump}
use Rattle.wy_kernel.specs.Program.{Program, Body}
use Rattle.law_structure.specs.Within.{IsIn, IsBodyOf, HasEnclosing}

-- the number of the statement that a `break` or a `continue` goes to the end of
abbrev pub target_of_act : Act → Option ℕ
target_of_act (Jump target) = Some target
target_of_act _ = None

abbrev pub target_of : Statement → Option ℕ
target_of (Stmt number site askable reach act) = target_of_act act

-- the statement that is the body of a loop, if this is a loop
abbrev pub inner_of_act : Act → Option Statement
inner_of_act (While test inner) = Some inner
inner_of_act (Do inner test) = Some inner
inner_of_act (For inits test updates inner) = Some inner
inner_of_act _ = None

abbrev pub inner_of : Statement → Option Statement
inner_of (Stmt number site askable reach act) = inner_of_act act

abbrev pub IsLoop : Statement → Type 0
IsLoop s = (inner : Statement) × (inner_of s ≡ Some inner)

abbrev pub is_labelled_act : Act → Bool
is_labelled_act (Labelled inner) = true
is_labelled_act _ = false

abbrev pub is_labelled : Statement → Bool
is_labelled (Stmt number site askable reach act) = is_labelled_act act

-- it is the body of a loop that stands in the block
abbrev pub IsBodyOfLoop : Statement → Statement → Type 0
IsBodyOfLoop block s = (loop : Statement) × IsIn loop block × (inner_of loop ≡ Some s)

-- a `break` goes to a loop or to a labelled statement, and a `continue` to the body of a loop
abbrev pub IsTarget : Statement → Statement → Type 0
IsTarget block s = IsLoop s ⊎ (is_labelled s ≡ true) ⊎ IsBodyOfLoop block s

-- the statement that a jump goes to the end of is around it
pub record GoesOut (block jump : Statement) (target : ℕ) : Type 0 where
  pub around : HasEnclosing block jump target
  pub is_target : IsTarget block around.outer

abbrev pub JumpsGoOut : Statement → Type 0
JumpsGoOut block = (s : Statement) (target : ℕ) → IsIn s block → target_of s ≡ Some target → GoesOut block s target

-- those of each body
abbrev pub AllJumpsGoOut : Program → Type 0
AllJumpsGoOut p = (b : Body) → IsBodyOf p b → JumpsGoOut b.block
