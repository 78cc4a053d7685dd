-- When the statements of a body fit the types of a program: those of all its forms, by the locals that the body has at its end.
use Rattle.std.specs.Prelude.{◌≡◌, ◌+◌, ◌≤◌, ℕ, Bool, List, map, length, Option, Some, None, Ok}
use Rattle.std.specs.List.{All, AllByRecursion, Contains}
use Rattle.wy_kernel.specs.declared.types.Ty.{Ty}
use Rattle.wy_kernel.specs.declared.types.Ty.TheVariants.{Void}
use Rattle.wy_kernel.specs.Form as kernel
use Rattle.wy_kernel.specs.Program.{Program, Local, library_statements}
use Rattle.wy_kernel.specs.Table.{IsTable, ConstantValue}
use Rattle.wy_syntax.specs.Syntax.{Braced}
use Rattle.wy_elab_expr.specs.Operators.{Judgement, Settles}
use Rattle.wy_elab_body.specs.declared.place.Place.{Place}
use Rattle.wy_elab_body.specs.Places.{block_places}
use Rattle.wy_elab_body.specs.Making.{Making, begun}
use Rattle.wy_elab_body.specs.Parts.{Outcome, NoValue, ValueOf, NoReturn}
use Rattle.wy_elab_body.specs.Jumps.{alone}
use Rattle.wy_elab_body.specs.Statements.{Setting, block}
use Rattle.wy_typing.specs.Types.{IsValueType}
use Rattle.wy_typing.specs.Statements.{IsTyped}
use Rattle.wy_typing.specs.Programs.{IsTypeIn}
use Rattle.law_typed.specs.ExpressionsTyped.{table_of, MethodsFit}
use Rattle.law_typed.specs.StatementsWritten.{BlockWritten}

-- what all bodies of a program are made by: its declarations, what they settle, and the places of all its statements
abbrev pub setting : Program → List (Option ConstantValue) → Judgement → List Place → Setting
setting p constants j all = record { judgement = j; table = table_of p constants; places = all }

pub record Makes (p : Program) (constants : List (Option ConstantValue)) (j : Judgement) (all : List Place) : Type 0 where
  pub table : IsTable (table_of p constants)
  pub settled : Settles (table_of p constants) j
  pub methods : MethodsFit p
  pub statements : p.statements ≡ library_statements + length all

-- a body may give back what its outcome says
abbrev pub result_of : Outcome → Option Ty
result_of NoValue = Some Void
result_of (ValueOf ty) = Some ty
result_of NoReturn = None

abbrev pub OutcomeFits : Outcome → Type 0
OutcomeFits NoValue = Unit {0}
OutcomeFits (ValueOf ty) = IsValueType ty
OutcomeFits NoReturn = Unit {0}

abbrev pub types : List Local → List Ty
types locals = map (λ (l : Local). l.ty) locals

abbrev pub AreAmong : List Place → List Place → Type 0
AreAmong all few = AllByRecursion (Contains all) few

-- a block that is the whole of a body becomes a statement whose forms fit the types of the locals that the body then has, where the texts that
-- forms hold are texts of the program
abbrev pub BlocksAreTyped : Type 0
BlocksAreTyped =
    (p : Program) (constants : List (Option ConstantValue)) (j : Judgement) (all : List Place) (outcome : Outcome) (class : ℕ) (has_this : Bool) (site n : ℕ) (b : Braced) (x : kernel.Statement) (after : Making)
    → Makes p constants j all → OutcomeFits outcome → BlockWritten b → AreAmong all (block_places b)
    → All (IsTypeIn p) (types (begun class has_this site).locals)
    → block (setting p constants j all) (alone n outcome) b (begun class has_this site) ≡ Ok (x, after) → length after.texts ≤ length p.fixed_texts
    → IsTyped (record { program = p; locals = types after.locals; result = result_of outcome }) x
