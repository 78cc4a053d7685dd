-- How far exactly the test of a statement reaches: to the end of the outermost statement around it that a jump in its guarded part goes to,
-- and to its own end where none does.
use Rattle.std.specs.Prelude.{◌≡◌, ℕ, ◌==◌, List, [], ◌∷◌, ◌++◌, find, unwrap_or, if◌then◌else◌}
use Rattle.std.specs.List.{list_any}
use Rattle.wy_kernel.specs.View.{NONE}
use Rattle.wy_kernel.specs.Form.{Statement, Stmt, Act, Block, Eval, Declare, If, While, Do, For, Labelled, Jump, Return, Throw, Try, Print, Other, nothing, this, Statements, done, first, Catches, uncaught, catch}
use Rattle.wy_kernel.specs.Program.{Program, Body}
use Rattle.wy_kernel.specs.Statements.{number_of}
use Rattle.wy_elab_body.specs.Jumps.{has_clause, targets, targets_of_other}
use Rattle.law_structure.specs.Within.{IsBodyOf}
use Rattle.law_structure.specs.Reaches.{is_there}

-- of the numbers of the statements around one, the outermost first, the first that is a target; or its own
abbrev pub outermost : List ℕ → List ℕ → ℕ → ℕ
outermost around goes_to own = unwrap_or (find (λ number. list_any (λ target. target == number) goes_to) around) own

abbrev mutual
  -- in a body of this number, with the number of the innermost `try` with a catch whose first block holds the statement, or of the body,
  -- and with those of the statements around it, the outermost first
  pub ReachesAsFar : ℕ → ℕ → List ℕ → Statement → Type 0
  ReachesAsFar body catcher around (Stmt number site askable reach act) = ActReachesAsFar body catcher around number reach act

  pub ActReachesAsFar : ℕ → ℕ → List ℕ → ℕ → ℕ → Act → Type 0
  ActReachesAsFar body catcher around number reach (Block parts) = (reach ≡ NONE) × AllReachAsFar body catcher (around ++ number ∷ []) parts
  ActReachesAsFar body catcher around number reach (Eval value) = reach ≡ NONE
  ActReachesAsFar body catcher around number reach (Declare local) = reach ≡ NONE
  ActReachesAsFar body catcher around number reach (If test if_true if_false) =
      (reach ≡ outermost around (targets body catcher if_true ++ targets_of_other body catcher if_false) number)
      × ReachesAsFar body catcher (around ++ number ∷ []) if_true × OtherReachesAsFar body catcher (around ++ number ∷ []) if_false
  ActReachesAsFar body catcher around number reach (While test inner) = (reach ≡ outermost around (targets body catcher inner) number) × ReachesAsFar body catcher (around ++ number ∷ []) inner
  ActReachesAsFar body catcher around number reach (Do inner test) = (reach ≡ outermost around (targets body catcher inner) number) × ReachesAsFar body catcher (around ++ number ∷ []) inner
  ActReachesAsFar body catcher around number reach (For inits test updates inner) =
      (reach ≡ (if is_there test then outermost around (targets body catcher inner) number else NONE))
      × AllReachAsFar body catcher (around ++ number ∷ []) inits × AllReachAsFar body catcher (around ++ number ∷ []) updates × ReachesAsFar body catcher (around ++ number ∷ []) inner
  ActReachesAsFar body catcher around number reach (Labelled inner) = (reach ≡ NONE) × ReachesAsFar body catcher (around ++ number ∷ []) inner
  ActReachesAsFar body catcher around number reach (Jump target) = reach ≡ NONE
  ActReachesAsFar body catcher around number reach (Return value) = reach ≡ NONE
  ActReachesAsFar body catcher around number reach (Throw value) = reach ≡ NONE
  ActReachesAsFar body catcher around number reach (Try main catches last) =
      (reach ≡ NONE) × ReachesAsFar body (if has_clause catches then number else catcher) (around ++ number ∷ []) main
      × CatchesReachAsFar body catcher (around ++ number ∷ []) catches × OtherReachesAsFar body catcher (around ++ number ∷ []) last
  ActReachesAsFar body catcher around number reach (Print operand ty ends_line site) = reach ≡ NONE

  pub OtherReachesAsFar : ℕ → ℕ → List ℕ → Other → Type 0
  OtherReachesAsFar body catcher around nothing = Unit {0}
  OtherReachesAsFar body catcher around (this s) = ReachesAsFar body catcher around s

  pub AllReachAsFar : ℕ → ℕ → List ℕ → Statements → Type 0
  AllReachAsFar body catcher around done = Unit {0}
  AllReachAsFar body catcher around (first s rest) = ReachesAsFar body catcher around s × AllReachAsFar body catcher around rest

  pub CatchesReachAsFar : ℕ → ℕ → List ℕ → Catches → Type 0
  CatchesReachAsFar body catcher around uncaught = Unit {0}
  CatchesReachAsFar body catcher around (catch class local site block rest) = ReachesAsFar body catcher around block × CatchesReachAsFar body catcher around rest

-- a body from its block on
abbrev pub BodyReachesAsFar : Statement → Type 0
BodyReachesAsFar block = ReachesAsFar (number_of block) (number_of block) [] block

-- those of each body
abbrev pub AllTestsReachAsFar : Program → Type 0
AllTestsReachAsFar p = (b : Body) → IsBodyOf p b → BodyReachesAsFar b.block
