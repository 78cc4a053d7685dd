-- When the bodies of a whole program fit its methods: those of the library and those of the text.
use Rattle.std.specs.Prelude.{◌≡◌, ◌++◌, ℕ, false, [], Some, None, Ok, slice_get}
use Rattle.wy_kernel.specs.Program.{Program, Method, Body, first_source_class}
use Rattle.wy_kernel.specs.Table.{Table}
use Rattle.wy_kernel.specs.Builtin as builtin
use Rattle.wy_members.specs.Declarations.{CompilationUnit, classes_of, table}
use Rattle.wy_elab_expr.specs.Operators.{Judgement}
use Rattle.wy_elab_body.specs.Places.{places_of}
use Rattle.wy_elab_stmt.specs.Program.{program}
use Rattle.wy_typing.specs.Expressions.{IsMethod, HasBody}
use Rattle.wy_typing.specs.Programs.{IsBody, IsBodyOf}
use Rattle.law_typed.specs.StatementsTyped.{Makes}
use Rattle.law_typed.specs.Library.{HasLibrary}
use Rattle.law_program_parts.specs.Rows.{NamesAgree, AllStand, rows_from}
use Rattle.law_program_parts.specs.Shapes.{AllKeep}

-- the methods of the library, and those of a text behind them
abbrev pub HasRows : Table → CompilationUnit → Type 0
HasRows t unit = t.methods ≡ builtin.methods ++ rows_from unit first_source_class (classes_of unit)

-- in a program each method that isn't abstract has a body
abbrev pub MethodsHaveBodies : Type 0
MethodsHaveBodies =
    (j : Judgement) (t : Table) (unit : CompilationUnit) (tokens : ℕ) (p : Program) → HasRows t unit → AllKeep (classes_of unit) → program j t unit tokens ≡ Ok p
    → (k : ℕ) (m : Method) → IsMethod p k m → m.is_abstract ≡ false → HasBody p k

-- in a program whose text stands so, each body fits its method, and each initializer gives nothing back
pub record BodiesFit (p : Program) : Type 0 where
  pub bodies : (k : ℕ) (m : Method) (b : Body) → IsMethod p k m → slice_get p.bodies k ≡ Some (Some b) → IsBodyOf p m b
  pub initializers : (c : ℕ) (b : Body) → slice_get p.init_bodies c ≡ Some (Some b) → IsBody p [] None b

abbrev pub ProgramsAreTyped : Type 0
ProgramsAreTyped =
    (j : Judgement) (t : Table) (unit : CompilationUnit) (tokens : ℕ) (p : Program) → HasRows t unit → HasLibrary p → Makes p t.constants j (places_of t unit) → NamesAgree p unit
    → AllStand p t.constants (places_of t unit) first_source_class (classes_of unit) → program j t unit tokens ≡ Ok p → BodiesFit p

-- the table of a text has these methods
abbrev pub TablesHaveRows : Type 0
TablesHaveRows = (t : Table) (unit : CompilationUnit) → t.methods ≡ (table unit).methods → HasRows t unit
