-- A method is named as a constructor where it is one, and no initializers take arguments.
use Rattle.std.proofs.Common.{◌≡◌, ◌∙◌, refl, sym, ap, ℕ, ◌+◌, Bool, true, false, not, if◌then◌else◌, List, [], ◌∷◌}
use Rattle.std.specs.Prelude.{◌↔◌, codes, bytes_eq}
use Rattle.std.specs.List.{AllByRecursion}
use Rattle.std.proofs.lemmas.Slice.Eq.{bytes_eq-Decides}
use Rattle.wy_tree.specs.Ast.{Ast, tokens}
use Rattle.wy_kernel.specs.declared.types.MethodForm.{MethodForm}
use Rattle.wy_kernel.specs.declared.types.MethodForm.TheVariants as kind
use Rattle.wy_kernel.specs.Program.{Program, Method, first_source_class}
use Rattle.wy_kernel.specs.Builtin as builtin
use Rattle.wy_syntax.specs.declared.declaration.Modifier.TheVariants as modifier
use Rattle.wy_syntax.specs.Syntax.{Member, ClassSyntax}
use Rattle.wy_syntax.specs.Syntax as source
use Rattle.wy_syntax.specs.Declarations as syntax
use Rattle.wy_members.specs.Declarations.{CompilationUnit, classes_of, has, method_in, methods_of}
use Rattle.wy_typing.specs.Expressions.{IsMethod}
use Rattle.law_program_parts.specs.Rows.{rows_from}
use Rattle.law_program_parts.specs.Programs.{TablesHaveRows}
use Rattle.law_typed.specs.ExpressionsWritten.{IsName}
use Rattle.law_well_formed.specs.Written.{HasNoKeyword}
use Rattle.law_well_formed.proofs.Named.{no_name, named_worded}
use Rattle.wy_elab_stmt.specs.Elaborates.{Elaborates}
use Rattle.std.specs.Prelude.{Ok}
use Rattle.law_program_parts.proofs.BodiesLists.{all_at, at_all}
use Rattle.law_program_parts.proofs.Called.{Called, ClassCalled, unit_called}
use Rattle.law_program_parts.proofs.Classes.{OfRow, class_by, classes_by, methods_by}

-- named `new` where it is a constructor, and without parameters where it is a class's initializers
abbrev pub IsNamedSo : Method → Type 0
IsNamedSo m = ((m.name ≡ codes "new") ↔ (m.form ≡ kind.Constructor)) × (m.form ≡ kind.Fields → m.params ≡ [])

other_name : (n : List ℕ) → bytes_eq n (codes "new") ≡ false → IsName n
other_name n e same = let here : bytes_eq (codes "new") (codes "new") ≡ true = refl in let f : true ≡ false = sym here ∙ ap (λ (w : List ℕ). bytes_eq w (codes "new")) (sym same) ∙ e in absurd (cc)

-- ---- the methods of the library

fits_form : MethodForm → Bool → Bool
fits_form kind.Instance b = not b
fits_form kind.Constructor b = b
fits_form kind.Static b = not b
fits_form kind.Fields b = false

abbrev fits : Method → Bool
fits m = fits_form m.form (bytes_eq m.name (codes "new"))

named_so : (m : Method) (f : MethodForm) (b : Bool) → m.form ≡ f → bytes_eq m.name (codes "new") ≡ b → fits_form f b ≡ true → IsNamedSo m
unfolding fits_form
named_so m kind.Instance true e g h = absurd (cc)
named_so m kind.Instance false e g h = (((λ x. absurd (other_name m.name g x)), (λ x. absurd (cc))), (λ x. absurd (cc)))
named_so m kind.Constructor true e g h = (((λ x. e), (λ x. (bytes_eq-Decides m.name (codes "new")).0 g)), (λ x. absurd (cc)))
named_so m kind.Constructor false e g h = absurd (cc)
named_so m kind.Static true e g h = absurd (cc)
named_so m kind.Static false e g h = (((λ x. absurd (other_name m.name g x)), (λ x. absurd (cc))), (λ x. absurd (cc)))
named_so m kind.Fields b e g h = absurd (cc)

each_fits : (ms : List Method) → AllByRecursion (λ (m : Method). fits m ≡ true) ms → AllByRecursion IsNamedSo ms
each_fits [] h = tt
each_fits (m ∷ ms) h = (named_so m m.form (bytes_eq m.name (codes "new")) refl refl h.0, each_fits ms h.1)

library_named : AllByRecursion IsNamedSo builtin.methods
unfolding builtin.methods builtin.first_methods fits_form
library_named = each_fits builtin.methods (refl, (refl, (refl, (refl, (refl, (refl, (refl, (refl, (refl, (refl, (refl, (refl, (refl, (refl, (refl, (refl, (refl, (refl, (refl, (refl, (refl, (refl, (refl, (refl, (refl, (refl, (refl, (refl, (refl, (refl, (refl, (refl, (refl, (refl, (refl, (refl, tt))))))))))))))))))))))))))))))))))))

-- ---- the methods of a text

row_named : (unit : CompilationUnit) (c : ℕ) (k : ClassSyntax) (m : Member) → Called IsName m → OfRow IsNamedSo (method_in unit c k m)
row_named unit c k (source.Method h result body) named = (((λ x. absurd (named x)), (λ x. absurd (no_constructor (has modifier.Static h.modifiers) x))), (λ x. absurd (no_fields (has modifier.Static h.modifiers) x)))
  where
    no_constructor : (b : Bool) → (if b then kind.Static else kind.Instance) ≡ kind.Constructor → ⊥
    no_constructor true e = cc
    no_constructor false e = cc

    no_fields : (b : Bool) → (if b then kind.Static else kind.Instance) ≡ kind.Fields → ⊥
    no_fields true e = cc
    no_fields false e = cc
row_named unit c k (source.Constructor h own brace parts end) named = (((λ x. refl), (λ x. refl)), (λ x. absurd (cc)))
row_named unit c k (source.Initializer is_static block) named = tt
row_named unit c k (source.Fields modifiers ty ds) named = tt
row_named unit c k source.Member.Nothing named = tt
row_named unit c k source.Member.Unknown named = tt

class_named : (unit : CompilationUnit) (c : ℕ) (k : ClassSyntax) → ClassCalled IsName k → AllByRecursion IsNamedSo (methods_of unit c k)
class_named unit c k called =
    class_by IsNamedSo unit c k (((λ x. absurd (other_name (codes "<fields>") refl x)), (λ x. absurd (cc))), (λ x. refl)) (((λ x. refl), (λ x. refl)), (λ x. absurd (cc)))
    (all_at (λ (m : Member). OfRow IsNamedSo (method_in unit c k m)) k.members (λ i m e. row_named unit c k m (at_all (Called IsName) k.members i m called e)))

text_named : (t : Ast) → HasNoKeyword (tokens t) → AllByRecursion IsNamedSo (rows_from (syntax.unit 0 t) first_source_class (classes_of (syntax.unit 0 t)))
text_named t h =
    let u : CompilationUnit = syntax.unit 0 t in
    classes_by IsNamedSo u first_source_class (classes_of u) (λ i k e. class_named u (first_source_class + i) k (at_all (ClassCalled IsName) (classes_of u) i k (unit_called IsName no_name 0 t (named_worded t h)) e))

pub all_named : TablesHaveRows → (t : Ast) → HasNoKeyword (tokens t) → (count : ℕ) (p : Program) → Elaborates (syntax.unit 0 t) count (Ok p) → (k : ℕ) (m : Method) → IsMethod p k m → IsNamedSo m
all_named rows t h count p accepted = methods_by IsNamedSo rows (syntax.unit 0 t) count p accepted library_named (λ keeps. text_named t h)
