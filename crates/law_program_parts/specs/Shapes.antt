-- Which methods have bodies, whatever these are.
use Rattle.std.specs.Prelude.{◌≡◌, ℕ, Bool, true, false, List, [], ◌∷◌, Option, Some, None, Ok}
use Rattle.std.specs.List.{AllByRecursion}
use Rattle.wy_kernel.specs.Program.{Method, Body}
use Rattle.wy_syntax.specs.Syntax.{ClassSyntax}
use Rattle.wy_constant.specs.Scope.{FixedText}
use Rattle.wy_members.specs.Declarations.{CompilationUnit}
use Rattle.wy_elab_body.specs.Statements.{Setting}
use Rattle.wy_elab_stmt.specs.Program.{Bodies, bodies_from}
use Rattle.law_program_parts.specs.Rows.{MayLackBody, IsHeader, rows_from}

-- one without a body is abstract
abbrev pub RowStands : Method → Option Body → Type 0
RowStands m None = m.is_abstract ≡ true
RowStands m (Some b) = Unit {0}

abbrev pub RowsStand : List Method → List (Option Body) → Type 0
RowsStand [] [] = Unit {0}
RowsStand (m ∷ ms) (b ∷ bs) = RowStands m b × RowsStand ms bs
RowsStand _ _ = ⊥

abbrev pub DeclarationKeeps : ClassSyntax → Bool → Type 0
DeclarationKeeps k true = AllByRecursion IsHeader k.members
DeclarationKeeps k false = AllByRecursion (MayLackBody k) k.members

abbrev pub AllKeep : List ClassSyntax → Type 0
AllKeep ks = AllByRecursion (λ (k : ClassSyntax). DeclarationKeeps k k.is_interface) ks

-- there is a place for a body for each method of a text, in their order, and a method that isn't abstract has a body
abbrev pub BodiesStand : Type 0
BodiesStand =
    (w : Setting) (unit : CompilationUnit) (c : ℕ) (ks : List ClassSyntax) (texts after : List FixedText) (x : Bodies)
    → AllKeep ks → bodies_from w c ks texts ≡ Ok (x, after) → RowsStand (rows_from unit c ks) x.methods
