-- All statements of a program: those of the bodies and then of the initializers, each before those within it, in the order of the text.
use Rattle.std.specs.Prelude.{ℕ, Bool, ◌==◌, List, [], ◌∷◌, ◌++◌, Option, Some}
use Rattle.std.specs.Prelude.{None as Absent}
use Rattle.wy_kernel.specs.Form.{Statement, Stmt, Act, Block, Eval, Declare, If, While, Do, For, Labelled, Jump, Return, Throw, Try, Print, Other, nothing, this, Statements, done, first, Catches, uncaught, catch}
use Rattle.wy_kernel.specs.Program.{Program, Body}

abbrev pub number_of : Statement → ℕ
number_of (Stmt number site askable reach form) = number

abbrev pub has_number : ℕ → Statement → Bool
has_number n s = number_of s == n

abbrev mutual
  -- the statement and those within it
  pub statements : Statement → List Statement
  statements (Stmt number site askable reach form) = Stmt number site askable reach form ∷ statements_within form

  pub statements_within : Act → List Statement
  statements_within (Block parts) = statements_of_all parts
  statements_within (Eval value) = []
  statements_within (Declare local) = []
  statements_within (If test if_true if_false) = statements if_true ++ statements_of_other if_false
  statements_within (While test body) = statements body
  statements_within (Do body test) = statements body
  statements_within (For inits test updates body) = statements_of_all inits ++ (statements_of_all updates ++ statements body)
  statements_within (Labelled body) = statements body
  statements_within (Jump target) = []
  statements_within (Return value) = []
  statements_within (Throw value) = []
  statements_within (Try main catches last) = statements main ++ (statements_of_catches catches ++ statements_of_other last)
  statements_within (Print operand ty ends_line site) = []

  pub statements_of_other : Other → List Statement
  statements_of_other nothing = []
  statements_of_other (this s) = statements s

  pub statements_of_all : Statements → List Statement
  statements_of_all done = []
  statements_of_all (first s rest) = statements s ++ statements_of_all rest

  pub statements_of_catches : Catches → List Statement
  statements_of_catches uncaught = []
  statements_of_catches (catch class local site block rest) = statements block ++ statements_of_catches rest

abbrev pub statements_of_body : Option Body → List Statement
statements_of_body Absent = []
statements_of_body (Some b) = statements b.block

abbrev pub statements_of_bodies : List (Option Body) → List Statement
statements_of_bodies [] = []
statements_of_bodies (b ∷ rest) = statements_of_body b ++ statements_of_bodies rest

abbrev pub statements_of : Program → List Statement
statements_of p = statements_of_bodies p.bodies ++ statements_of_bodies p.init_bodies
