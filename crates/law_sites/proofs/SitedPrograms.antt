-- The bodies of every program that stand behind those of the library have their sites at tokens of its text.
use Rattle.std.proofs.Common.{arith, ◌≡◌, ◌<◌, ◌≤◌, refl, subst, ℕ, suc, List, [], ◌∷◌, ◌++◌, length}
use Rattle.std.specs.Prelude.{Some, None, slice_get, map}
use Rattle.std.proofs.ByRecursion.{All-append}
use Rattle.wy_kernel.specs.Program.{Program, Body, Class, first_source_class}
use Rattle.wy_kernel.specs.Builtin as builtin
use Rattle.wy_kernel.specs.Table.{Table}
use Rattle.wy_syntax.specs.Syntax.{ClassSyntax}
use Rattle.wy_constant.specs.Scope.{FixedText}
use Rattle.wy_members.specs.Declarations.{CompilationUnit, classes_of}
use Rattle.wy_elab_body.specs.Statements.{Setting}
use Rattle.wy_library.specs.Library.{library_bodies, library_init_bodies}
use Rattle.wy_elab_stmt.specs.Classes.{class_bodies}
use Rattle.wy_elab_stmt.specs.Program.{Bodies, and_more, no_bodies, bodies_from, setting, program_with}
use Rattle.law_structure.proofs.Elaborated.{MadeFrom}
use Rattle.law_structure.proofs.Yields.{Yields, given, then_found}
use Rattle.wy_typing.specs.Sites.{BodySited}
use Rattle.law_sites.proofs.Tokens.{ClassesTokens}
use Rattle.law_sites.proofs.TableRows.{at_place, behind_first}
use Rattle.law_sites.proofs.SitedClasses.{SomeBodySited, BodiesSited, ClassSited, class_bodies_sited}
use Rattle.law_sites.proofs.SitedLibrary.{IsAt, library_sited}

-- ---- all bodies

pub record AllBodiesSited (P : ℕ → Type 0) (b : Bodies) : Type 0 where
  pub methods : BodiesSited P b.methods
  pub initializers : BodiesSited P b.initializers

bodies_from_sited : (P : ℕ → Type 0) (w : Setting) (c : ℕ) (ks : List ClassSyntax) → ClassesTokens P ks → Yields (bodies_from w c ks) (AllBodiesSited P)
unfolding bodies_from
bodies_from_sited P w c [] h = given (AllBodiesSited P) no_bodies (record { methods = tt; initializers = tt })
bodies_from_sited P w c (k ∷ rest) h =
    then_found (class_bodies w c k) _ (ClassSited P) (AllBodiesSited P) (class_bodies_sited P w c k h.0) (λ x i.
    then_found (bodies_from w (suc c) rest) _ (AllBodiesSited P) (AllBodiesSited P) (bodies_from_sited P w (suc c) rest h.1) (λ xs y.
    given (AllBodiesSited P) (and_more x xs) (record { methods = All-append (SomeBodySited P) x.bodies xs.methods i.bodies y.methods; initializers = (i.initializer, y.initializers) })))

-- ---- the library

library_length : length library_bodies ≡ length builtin.methods
unfolding library_bodies builtin.methods builtin.first_methods
library_length = refl

without_bodies : (P : ℕ → Type 0) (ks : List Class) → BodiesSited P (map (λ (k : Class). None) ks)
without_bodies P [] = tt
without_bodies P (k ∷ rest) = (tt, without_bodies P rest)

library_init_sited : (P : ℕ → Type 0) → BodiesSited P library_init_bodies
unfolding library_init_bodies
library_init_sited P = without_bodies P builtin.classes

-- ---- the program

-- each body has its sites, and what is declared is what the table declares
pub record ProgramSited (P : ℕ → Type 0) (t : Table) (p : Program) : Type 0 where
  pub classes : p.classes ≡ t.classes
  pub methods : p.methods ≡ t.methods
  pub fields : p.fields ≡ t.fields
  pub bodies : (k : ℕ) (b : Body) → length builtin.methods ≤ k → slice_get p.bodies k ≡ Some (Some b) → BodySited P b
  pub initializers : (c : ℕ) (b : Body) → slice_get p.init_bodies c ≡ Some (Some b) → BodySited P b
  pub library : (k : ℕ) (b : Body) → k < length builtin.methods → slice_get p.bodies k ≡ Some (Some b) → BodySited (IsAt k) b

of_bodies : (P : ℕ → Type 0) (t : Table) (unit : CompilationUnit) (main : ℕ) (bs : Bodies) (texts : List FixedText) → AllBodiesSited P bs → ProgramSited P t (program_with t unit main bs texts)
of_bodies P t unit main bs texts h = record {
  classes = refl;
  methods = refl;
  fields = refl;
  bodies = λ k b le e. behind_first (SomeBodySited P) library_bodies bs.methods k (Some b) h.methods (omega (arith, library_length)) e;
  initializers = λ c b e. at_place (SomeBodySited P) (library_init_bodies ++ bs.initializers) c (Some b) (All-append (SomeBodySited P) library_init_bodies bs.initializers (library_init_sited P) h.initializers) e;
  library = λ k b less e. library_sited bs.methods k b (omega (arith, library_length)) e;
}

pub program_sited : (P : ℕ → Type 0) (unit : CompilationUnit) (p : Program) (m : MadeFrom unit p) → ClassesTokens P (classes_of unit) → ProgramSited P m.table p
program_sited P unit p m h =
    subst (ProgramSited P m.table) m.is (of_bodies P m.table unit m.main m.bodies m.after ((bodies_from_sited P (setting m.judgement m.table unit) first_source_class (classes_of unit) h).by m.texts m.after m.bodies m.made))
