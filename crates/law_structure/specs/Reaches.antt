-- How far the tests of a body reach: to the end of their statement, or of one around it.
use Rattle.std.specs.Prelude.{◌≡◌, ℕ, Bool, true, false}
use Rattle.wy_kernel.specs.View.{NONE}
use Rattle.wy_kernel.specs.Form.{Part, absent, the, Statement, Stmt, Act, If, While, Do, For}
use Rattle.wy_kernel.specs.Program.{Program, Body}
use Rattle.law_structure.specs.Within.{IsIn, IsBodyOf, HasEnclosing}

abbrev pub is_there : Part → Bool
is_there absent = false
is_there (the e) = true

-- an `if`, a `while`, a `do`, or a `for` with a condition: what records a Test
abbrev pub is_testing_act : Act → Bool
is_testing_act (If test if_true if_false) = true
is_testing_act (While test inner) = true
is_testing_act (Do inner test) = true
is_testing_act (For inits test updates inner) = is_there test
is_testing_act _ = false

abbrev pub is_testing : Statement → Bool
is_testing (Stmt number site askable reach act) = is_testing_act act

abbrev pub statement_reach : Statement → ℕ
statement_reach (Stmt number site askable reach act) = reach

-- a test reaches to the end of a statement around it, or of its own, and what has no test reaches nowhere
pub record Reaches (block : Statement) : Type 0 where
  pub testing : (s : Statement) → IsIn s block → is_testing s ≡ true → HasEnclosing block s (statement_reach s)
  pub others : (s : Statement) → IsIn s block → is_testing s ≡ false → statement_reach s ≡ NONE

-- those of each body
abbrev pub AllReach : Program → Type 0
AllReach p = (b : Body) → IsBodyOf p b → Reaches b.block
