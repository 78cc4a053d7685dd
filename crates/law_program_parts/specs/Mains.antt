-- The main of a program (JLS 12.1.4).
use Rattle.std.specs.Prelude.{◌≡◌, ◌≤◌, ℕ, true, [], ◌∷◌, length, Some, None, Ok}
use Rattle.std.specs.List.{Contains}
use Rattle.wy_tree.specs.Ast.{Ast}
use Rattle.wy_tree.specs.Grammar.{WellFormed}
use Rattle.wy_kernel.specs.declared.types.Ty.TheVariants.{Void, Of}
use Rattle.wy_kernel.specs.declared.types.Base.TheVariants.{Class as Named}
use Rattle.wy_kernel.specs.declared.types.MethodForm.TheVariants as kind
use Rattle.wy_kernel.specs.Program.{Program, Method, string_class}
use Rattle.wy_syntax.specs.Syntax.{Braced, Header, ClassSyntax}
use Rattle.wy_syntax.specs.Syntax as source
use Rattle.wy_syntax.specs.Declarations.{unit}
use Rattle.wy_members.specs.Broken.{IsSourceClass}
use Rattle.wy_members.specs.Declarations.{CompilationUnit, classes_of, form_of, method_row, result_type, table}
use Rattle.wy_elab_stmt.specs.Elaborates.{Elaborates}
use Rattle.wy_elab_stmt.specs.Program.{is_main}
use Rattle.wy_typing.specs.Expressions.{IsMethod}
use Rattle.wy_typing.specs.Programs.{HasMain}
use Rattle.law_program_parts.specs.TableLaws.{class_limit}

-- a class of the text has a main with a body, and the program's main is a method at the token of its name
pub record FindsMain (unit : CompilationUnit) (p : Program) : Type 0 where
  pub class : ClassSyntax
  pub header : Header
  pub block : Braced
  pub in_text : Contains (classes_of unit) class
  pub in_class : Contains class.members (source.Method header None (Some block))
  pub written : is_main unit header ≡ true
  pub method : Method
  pub found : IsMethod p p.main method
  pub at_name : method.site ≡ header.name.token

abbrev pub MainsAreFound : Type 0
MainsAreFound = (unit : CompilationUnit) (tokens : ℕ) (p : Program) → Elaborates unit tokens (Ok p) → FindsMain unit p

-- `static void` with one parameter, of type `String[]`
pub record RunsFirst (m : Method) : Type 0 where
  pub static : m.form ≡ kind.Static
  pub params : m.params ≡ Of (Named string_class) 1 ∷ []
  pub result : m.result ≡ Void

-- the method that is written as main, in a text of so many classes that each type has a code of its own
abbrev pub MainsRunFirst : Type 0
MainsRunFirst =
    (unit : CompilationUnit) (c : ℕ) (k : ClassSyntax) (h : Header) → length (table unit).classes ≤ class_limit → is_main unit h ≡ true → RunsFirst (method_row unit c k h h.name.name (result_type unit None) (form_of h))

-- what has its name at the token of a main is that main
abbrev pub MainsStandAlone : CompilationUnit → Type 0
MainsStandAlone unit =
    (k : ClassSyntax) (h : Header) (b : Braced) (m : Method) → Contains (classes_of unit) k → Contains k.members (source.Method h None (Some b)) → is_main unit h ≡ true → Contains (table unit).methods m → m.site ≡ h.name.token
    → (c : ℕ) × IsSourceClass unit c k × (m ≡ method_row unit c k h h.name.name (result_type unit None) (form_of h))

-- so the main of a well-formed tree is one, and has a body
abbrev pub TreesHaveMain : Type 0
TreesHaveMain = (tree : Ast) → WellFormed tree → MainsStandAlone (unit 0 tree) → length (table (unit 0 tree)).classes ≤ class_limit → (tokens : ℕ) (p : Program) → Elaborates (unit 0 tree) tokens (Ok p) → HasMain p
