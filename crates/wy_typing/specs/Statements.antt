-- Statements whose forms fit their types, in a body of a program by the types of its locals and by what it gives back (JLS 14).
use Rattle.std.specs.Prelude.{◌≡◌, ◌⊎◌, ℕ, ◌<◌, Bool, true, List, length, Option, Some, slice_get}
use Rattle.wy_kernel.specs.declared.types.Ty.{Ty}
use Rattle.wy_kernel.specs.declared.types.Ty.TheVariants.{Void}
use Rattle.wy_kernel.specs.Form.{Expression, Part, absent, the, Statement, Stmt, Act, Block, Eval, Declare, If, While, Do, For, Labelled, Jump, Return, Throw, Try, Print, Other, nothing, this, Statements, done, first, Catches, uncaught, catch}
use Rattle.wy_kernel.specs.Program.{Program}
use Rattle.wy_kernel.specs.Subtyping.{Below, class_type}
use Rattle.wy_kernel.specs.Builtin.{throwable_class}
use Rattle.wy_kernel.specs.View.{NONE}
use Rattle.wy_typing.specs.Types.{boolean_type, IsValueType, IsPrinted}
use Rattle.wy_typing.specs.Expressions.{HasType, Gives}

-- where the statements stand; result is the type of what the body gives back: Void for nothing, and none where it has no `return`
pub record Within : Type 0 where
  pub program : Program
  pub locals : List Ty
  pub result : Option Ty

abbrev pub IsOf : Within → Expression → Ty → Type 0
IsOf w e ty = HasType w.program w.locals e ty

abbrev pub IsNumbered : Within → ℕ → Type 0
IsNumbered w number = number < w.program.statements

-- the statement whose end ends the reach of a test, where there is a test
abbrev pub IsReach : Within → ℕ → Type 0
IsReach w reach = (reach ≡ NONE) ⊎ IsNumbered w reach

abbrev pub IsTest : Within → Part → Type 0
IsTest w absent = Unit {0}
IsTest w (the e) = IsOf w e boolean_type

-- a value that the body may give back, or its absence (JLS 14.17)
abbrev pub IsResult : Within → Part → Type 0
IsResult w absent = w.result ≡ Some Void
IsResult w (the e) = (ty : Ty) × (w.result ≡ Some ty) × IsValueType ty × Gives w.program w.locals e ty

-- `print` has an operand
abbrev pub IsOperand : Within → Part → Ty → Bool → Type 0
IsOperand w absent ty ends_line = (ty ≡ Void) × (ends_line ≡ true)
IsOperand w (the e) ty ends_line = IsPrinted ty × IsOf w e ty

-- the local of a clause of a `try` takes objects of its class, which is Throwable or below it (JLS 14.20)
pub record MayCatch (w : Within) (class local : ℕ) : Type 0 where
  pub known : class < length w.program.classes
  pub throwable : Below w.program.classes (class_type class) (class_type throwable_class)
  pub bound : slice_get w.locals local ≡ Some (class_type class)

abbrev mutual
  pub IsTyped : Within → Statement → Type 0
  IsTyped w (Stmt number site askable reach act) = IsNumbered w number × IsReach w reach × Acts w act

  pub Acts : Within → Act → Type 0
  Acts w (Block parts) = AllTyped w parts
  Acts w (Eval value) = (ty : Ty) × IsOf w value ty
  Acts w (Declare local) = local < length w.locals
  Acts w (If test if_true if_false) = IsOf w test boolean_type × IsTyped w if_true × OtherTyped w if_false
  Acts w (While test body) = IsOf w test boolean_type × IsTyped w body
  Acts w (Do body test) = IsTyped w body × IsOf w test boolean_type
  Acts w (For inits test updates body) = AllTyped w inits × IsTest w test × AllTyped w updates × IsTyped w body
  Acts w (Labelled body) = IsTyped w body
  Acts w (Jump target) = IsNumbered w target
  Acts w (Return value) = IsResult w value
  -- a Throwable, or null (JLS 14.18)
  Acts w (Throw value) = Gives w.program w.locals value (class_type throwable_class)
  Acts w (Try main catches last) = IsTyped w main × CatchesTyped w catches × OtherTyped w last
  Acts w (Print operand ty ends_line site) = IsOperand w operand ty ends_line

  pub OtherTyped : Within → Other → Type 0
  OtherTyped w nothing = Unit {0}
  OtherTyped w (this s) = IsTyped w s

  pub AllTyped : Within → Statements → Type 0
  AllTyped w done = Unit {0}
  AllTyped w (first s rest) = IsTyped w s × AllTyped w rest

  pub CatchesTyped : Within → Catches → Type 0
  CatchesTyped w uncaught = Unit {0}
  CatchesTyped w (catch class local site block rest) = MayCatch w class local × IsTyped w block × CatchesTyped w rest
