-- When what an expression becomes fits the types of a program: in a scope whose variables are the locals of the body, by a judgement that the table
-- settles.
use Rattle.std.specs.Prelude.{◌≡◌, ◌⊎◌, ◌↔◌, ℕ, ◌≤◌, true, false, List, [], length, Option, Some, Ok, codes, slice_get}
use Rattle.std.specs.List.{All, AllByRecursion}
use Rattle.wy_kernel.specs.declared.types.Ty.{Ty}
use Rattle.wy_kernel.specs.declared.types.Ty.TheVariants.{Void}
use Rattle.wy_kernel.specs.declared.types.MethodForm.TheVariants as kind
use Rattle.wy_kernel.specs.Form as kernel
use Rattle.wy_kernel.specs.Program.{Program, Method}
use Rattle.wy_kernel.specs.Subtyping.{class_type}
use Rattle.wy_kernel.specs.Table.{Table, IsTable, ConstantValue}
use Rattle.wy_syntax.specs.Syntax.{Expression, Initial}
use Rattle.wy_constant.specs.Scope.{Scope, Variable, FixedText}
use Rattle.wy_elab_expr.specs.Operators.{Judgement, Settles}
use Rattle.wy_elab_expr.specs.Elaboration.{Typed, typed, initialized}
use Rattle.wy_typing.specs.Expressions.{HasType, Gives, IsMethod, HasBody, MakesReady}
use Rattle.wy_typing.specs.Programs.{IsTypeIn}
use Rattle.law_typed.specs.ExpressionsWritten.{IsWritten, InitialWritten}

-- the declarations of a program, with the values of its constant variables
abbrev pub table_of : Program → List (Option ConstantValue) → Table
table_of p constants = record { classes = p.classes; methods = p.methods; fields = p.fields; constants = constants }

-- it has a body wherever it is written: a constructor, a class's instance initializers, a static method, or one that is private (JLS 8.4.3,
-- 8.4.7, 8.6, 8.8)
abbrev pub IsNeverAbstract : Method → Type 0
IsNeverAbstract m = MakesReady m.form ⊎ (m.form ≡ kind.Static) ⊎ (m.is_private ≡ true)

-- what holds of the methods of a program whose declarations break no rule
pub record MethodsFit (p : Program) : Type 0 where
  pub bodies : (k : ℕ) (m : Method) → IsMethod p k m → m.is_abstract ≡ false → HasBody p k
  pub never_abstract : (k : ℕ) (m : Method) → IsMethod p k m → IsNeverAbstract m → m.is_abstract ≡ false
  pub constructors : (k : ℕ) (m : Method) → IsMethod p k m → (m.name ≡ codes "new") ↔ (m.form ≡ kind.Constructor)
  pub units : (k : ℕ) (m : Method) → IsMethod p k m → m.form ≡ kind.Fields → m.params ≡ []

-- the variables of the scope are among the locals, and `this` is the first of them
pub record Agrees (locals : List Ty) (s : Scope) : Type 0 where
  pub variables : AllByRecursion (λ (v : Variable). slice_get locals v.number ≡ Some v.ty) s.variables
  pub own : s.has_this ≡ true → slice_get locals 0 ≡ Some (class_type s.class)

-- expressions in the scope stand in a body with these locals
pub record Stands (p : Program) (constants : List (Option ConstantValue)) (j : Judgement) (locals : List Ty) (s : Scope) : Type 0 where
  pub table : IsTable (table_of p constants)
  pub settled : Settles (table_of p constants) j
  pub methods : MethodsFit p
  pub known : All (IsTypeIn p) locals
  pub scope : Agrees locals s

-- the form has the type; the type of a form without a value is void
abbrev pub HasItsType : Program → List Ty → kernel.Expression → Ty → Type 0
HasItsType p locals e ty = (a : Ty) × HasType p locals e a × ((a ≡ ty) ⊎ (ty ≡ Void))

-- what an expression is found to be has its type, where the texts that forms hold are texts of the program
abbrev pub ExpressionsAreTyped : Type 0
ExpressionsAreTyped =
    (p : Program) (constants : List (Option ConstantValue)) (j : Judgement) (locals : List Ty) (s : Scope) (e : Expression) (texts after : List FixedText) (x : Typed)
    → Stands p constants j locals s → IsWritten e → typed j (table_of p constants) s e texts ≡ Ok (x, after) → length after ≤ length p.fixed_texts
    → HasItsType p locals x.form x.ty

-- what a variable of a type of the program is given first may stand where its type is wanted
abbrev pub InitialsFit : Type 0
InitialsFit =
    (p : Program) (constants : List (Option ConstantValue)) (j : Judgement) (locals : List Ty) (s : Scope) (ty : Ty) (i : Initial) (token : ℕ) (texts after : List FixedText) (e : kernel.Expression)
    → Stands p constants j locals s → InitialWritten i → IsTypeIn p ty → initialized j (table_of p constants) s ty i token texts ≡ Ok (e, after) → length after ≤ length p.fixed_texts
    → Gives p locals e ty
