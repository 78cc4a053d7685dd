-- No constructor, no initializers, no static and no private method of a text is abstract.
use Rattle.std.proofs.Common.{◌≡◌, refl, inl, inr, ℕ, ◌+◌, Bool, true, false, ◌||◌, if◌then◌else◌}
use Rattle.std.specs.Prelude.{Some, None, ◌⊎◌}
use Rattle.std.specs.List.{AllByRecursion}
use Rattle.std.proofs.lemmas.Bool.{false_from_ne_true}
use Rattle.wy_tree.specs.Ast.{Ast}
use Rattle.wy_tree.specs.Grammar.{WellFormed}
use Rattle.wy_kernel.specs.declared.types.MethodForm.TheVariants as kind
use Rattle.wy_kernel.specs.Program.{Method, first_source_class}
use Rattle.wy_kernel.specs.Builtin as builtin
use Rattle.wy_syntax.specs.declared.declaration.Modifier.TheVariants as modifier
use Rattle.wy_syntax.specs.Syntax.{Member, ClassSyntax}
use Rattle.wy_syntax.specs.Syntax as source
use Rattle.wy_syntax.specs.Declarations as syntax
use Rattle.wy_members.specs.Declarations.{CompilationUnit, classes_of, has, is_abstract_in, method_in, methods_of}
use Rattle.wy_members.specs.Broken.{HasMember, IsSourceClass, body_too_much, abstract_constructor, static_without_body, private_without_body}
use Rattle.wy_members.specs.Refusal.{KeepsRules}
use Rattle.law_program_parts.specs.Rows.{IsHeader, rows_from}
use Rattle.law_program_parts.specs.Programs.{TablesHaveRows}
use Rattle.law_typed.specs.ExpressionsTyped.{IsNeverAbstract}
use Rattle.law_program_parts.specs.BodiesLaws.{NoneOfTheseIsAbstract}
use Rattle.law_program_parts.proofs.BodiesLists.{all_at, at_all}
use Rattle.law_program_parts.proofs.Headers.{HasHeaders, have_headers}
use Rattle.law_program_parts.proofs.Keeping.{implemented, has_members, is_written}
use Rattle.law_program_parts.proofs.Classes.{OfRow, class_by, classes_by, methods_by}

abbrev IsConcrete : Method → Type 0
IsConcrete m = IsNeverAbstract m → m.is_abstract ≡ false

-- ---- the methods of the library

library_concrete : AllByRecursion IsConcrete builtin.methods
unfolding builtin.methods builtin.first_methods
library_concrete = ((λ h. refl), ((λ h. refl), ((λ h. refl), ((λ h. refl), ((λ h. refl), ((λ h. refl), ((λ h. refl), ((λ h. refl), ((λ h. refl), ((λ h. refl), ((λ h. refl), ((λ h. refl), ((λ h. refl), ((λ h. refl), ((λ h. refl), ((λ h. refl), ((λ h. refl), ((λ h. refl), ((λ h. refl), ((λ h. refl), ((λ h. refl), ((λ h. refl), ((λ h. refl), ((λ h. refl), ((λ h. refl), ((λ h. refl), ((λ h. refl), ((λ h. refl), ((λ h. refl), ((λ h. refl), ((λ h. refl), ((λ h. refl), ((λ h. refl), ((λ h. refl), ((λ h. refl), ((λ h. refl), tt))))))))))))))))))))))))))))))))))))

-- ---- a member of a class

made_static : (b : Bool) → (if b then kind.Static else kind.Instance) ≡ kind.Static → b ≡ true
made_static true e = refl
made_static false e = absurd (cc)

not_ready : {A : Type 0} (b : Bool) → ((if b then kind.Static else kind.Instance) ≡ kind.Constructor) ⊎ ((if b then kind.Static else kind.Instance) ≡ kind.Fields) → A
not_ready true (inl e) = absurd (cc)
not_ready true (inr e) = absurd (cc)
not_ready false (inl e) = absurd (cc)
not_ready false (inr e) = absurd (cc)

in_class : (a b : Bool) → a ≡ false → (b ≡ true → ⊥) → (a || b) ≡ false
in_class true b e h = absurd (cc)
in_class false b e h = false_from_ne_true b h

member_concrete : (unit : CompilationUnit) → KeepsRules unit → (c : ℕ) (k : ClassSyntax) (m : Member) → (k.is_interface ≡ true → IsHeader m) → HasMember unit c k m → OfRow IsConcrete (method_in unit c k m)
member_concrete unit keeps c k (source.Method h result None) header there = by
  where
    by : OfRow IsConcrete (method_in unit c k (source.Method h result None))
    by (inl ready) = not_ready (has modifier.Static h.modifiers) ready
    by (inr (inl e)) = absurd (implemented unit keeps c h.name.token (static_without_body there refl (made_static (has modifier.Static h.modifiers) e)))
    by (inr (inr e)) = absurd (implemented unit keeps c h.name.token (private_without_body there refl e))
member_concrete unit keeps c k (source.Method h result (Some b)) header there = λ never. false_from_ne_true (is_abstract_in k h) (λ e. implemented unit keeps c h.name.token (body_too_much there refl e))
member_concrete unit keeps c k (source.Constructor h own brace parts end) header there =
    λ never. in_class k.is_interface (has modifier.Abstract h.modifiers) (false_from_ne_true k.is_interface header) (λ e. implemented unit keeps c h.name.token (abstract_constructor there refl e))
member_concrete unit keeps c k (source.Initializer is_static block) header there = tt
member_concrete unit keeps c k (source.Fields modifiers ty ds) header there = tt
member_concrete unit keeps c k source.Member.Nothing header there = tt
member_concrete unit keeps c k source.Member.Unknown header there = tt

-- ---- a class, and all of them

class_concrete : (unit : CompilationUnit) → KeepsRules unit → (c : ℕ) (k : ClassSyntax) → IsSourceClass unit c k → HasHeaders k → AllByRecursion IsConcrete (methods_of unit c k)
class_concrete unit keeps c k written headers =
    class_by IsConcrete unit c k (λ never. refl) (λ never. refl)
    (all_at (λ (m : Member). OfRow IsConcrete (method_in unit c k m)) k.members
    (λ i m e. member_concrete unit keeps c k m (λ f. at_all IsHeader k.members i m (headers f) e) (at_all (HasMember unit c k) k.members i m (has_members unit c k written) e)))

text_concrete : (t : Ast) → WellFormed t → KeepsRules (syntax.unit 0 t) → AllByRecursion IsConcrete (rows_from (syntax.unit 0 t) first_source_class (classes_of (syntax.unit 0 t)))
text_concrete t w keeps =
    let u : CompilationUnit = syntax.unit 0 t in
    classes_by IsConcrete u first_source_class (classes_of u) (λ i k e. class_concrete u keeps (first_source_class + i) k (is_written u i k e) (at_all HasHeaders (classes_of u) i k (have_headers t w) e))

pub none_abstract : TablesHaveRows → NoneOfTheseIsAbstract
none_abstract rows t w count p accepted = methods_by IsConcrete rows (syntax.unit 0 t) count p accepted library_concrete (text_concrete t w)
