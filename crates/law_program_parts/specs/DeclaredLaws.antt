-- What the declarations of every program that a text becomes are.
use Rattle.std.specs.Prelude.{◌≡◌, ◌≤◌, ℕ, Bool, true, false, List, length, Ok}
use Rattle.std.specs.List.{AllByRecursion, list_any}
use Rattle.wy_tree.specs.Ast.{Ast}
use Rattle.wy_tree.specs.Grammar.{WellFormed}
use Rattle.wy_kernel.specs.Program.{Program, first_source_class, library_statements}
use Rattle.wy_kernel.specs.Table.{BeginsWith, Table}
use Rattle.wy_syntax.specs.Syntax.{ClassSyntax}
use Rattle.wy_syntax.specs.Declarations.{unit}
use Rattle.wy_members.specs.Declarations.{CompilationUnit, classes_of, initializes_objects}
use Rattle.wy_library.specs.Library.{library_bodies}
use Rattle.wy_members.specs.Constants.{IsTableOf}
use Rattle.wy_elab_expr.specs.Operators.{Judgement}
use Rattle.wy_elab_body.specs.Places.{places_of}
use Rattle.wy_elab_stmt.specs.Elaborates.{Elaborates}
use Rattle.wy_elab_stmt.specs.Program.{program}
use Rattle.wy_typing.specs.Programs.{IsDeclared}
use Rattle.law_typed.specs.StatementsTyped.{Makes}
use Rattle.law_typed.specs.Library.{HasLibrary}
use Rattle.law_program_parts.specs.Rows.{AllStand, IsHeader}

-- they begin with the library's, name classes of the program, and no class is above itself
abbrev pub DeclarationsStand : Type 0
DeclarationsStand = (unit : CompilationUnit) (tokens : ℕ) (p : Program) → Elaborates unit tokens (Ok p) → IsDeclared p

-- its bodies begin with the library's, and the library's statements are among its own
pub record HasLibraryBodies (p : Program) : Type 0 where
  pub bodies : BeginsWith p.bodies library_bodies
  pub statements : library_statements ≤ p.statements

abbrev pub LibraryStands : Type 0
LibraryStands = (unit : CompilationUnit) (tokens : ℕ) (p : Program) → Elaborates unit tokens (Ok p) → HasLibraryBodies p

-- ---- places

-- there is one for the initializer of each class
abbrev pub InitializersHavePlaces : Type 0
InitializersHavePlaces = (unit : CompilationUnit) (tokens : ℕ) (p : Program) → Elaborates unit tokens (Ok p) → length p.init_bodies ≡ length p.classes

-- an interface has no instance initializer, and no instance field with a value
abbrev pub InitializesNothing : ClassSyntax → Bool → Type 0
InitializesNothing k true = list_any initializes_objects k.members ≡ false
InitializesNothing k false = Unit {0}

abbrev pub AllInterfacesAreBare : List ClassSyntax → Type 0
AllInterfacesAreBare ks = AllByRecursion (λ (k : ClassSyntax). InitializesNothing k k.is_interface) ks

-- there is one for the body of each method
abbrev pub BodiesHavePlaces : Type 0
BodiesHavePlaces = (unit : CompilationUnit) (tokens : ℕ) (p : Program) → AllInterfacesAreBare (classes_of unit) → Elaborates unit tokens (Ok p) → length p.bodies ≡ length p.methods

-- ---- well-formed trees

-- an interface has headers of methods alone
abbrev pub HasHeadersAlone : ClassSyntax → Bool → Type 0
HasHeadersAlone k true = AllByRecursion IsHeader k.members
HasHeadersAlone k false = Unit {0}

-- so has each of a well-formed tree (JLS 9.4)
abbrev pub InterfacesHaveHeadersAlone : Type 0
InterfacesHaveHeadersAlone = (tree : Ast) → WellFormed tree → AllByRecursion (λ (k : ClassSyntax). HasHeadersAlone k k.is_interface) (classes_of (unit 0 tree))

-- so there is a place for the body of each method of a tree
abbrev pub BodiesOfTreesHavePlaces : Type 0
BodiesOfTreesHavePlaces = (tree : Ast) → WellFormed tree → (tokens : ℕ) (p : Program) → Elaborates (unit 0 tree) tokens (Ok p) → length p.bodies ≡ length p.methods

-- ---- the library

-- a program whose text stands so has the whole library, and the text that the library's bodies hold
abbrev pub ProgramsHaveLibrary : Type 0
ProgramsHaveLibrary =
    (j : Judgement) (t : Table) (unit : CompilationUnit) (tokens : ℕ) (p : Program) → IsTableOf unit t → Makes p t.constants j (places_of t unit) → AllStand p t.constants (places_of t unit) first_source_class (classes_of unit)
    → program j t unit tokens ≡ Ok p → HasLibrary p
