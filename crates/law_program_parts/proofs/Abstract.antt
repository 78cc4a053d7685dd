-- The methods of interfaces are abstract.
use Rattle.std.proofs.Common.{◌≡◌, refl, sym, ◌∙◌, ap, subst, arith, ℕ, zero, suc, ◌<◌, inl, inr, Bool, true, false, ◌||◌, if◌then◌else◌, [], ◌∷◌, ◌++◌, Option, Some, nat_lt}
use Rattle.std.specs.Prelude.{slice_get, codes}
use Rattle.std.specs.List.{Contains, list_all, list_any, enumerate_from}
use Rattle.std.proofs.lemmas.Bool.Decides.{nat_tests}
use Rattle.std.proofs.lemmas.List.Elements.{Contains-append_cases}
use Rattle.wy_kernel.specs.declared.types.MethodForm.{MethodForm}
use Rattle.wy_kernel.specs.declared.types.MethodForm.TheVariants as kind
use Rattle.wy_kernel.specs.Program.{Class, Method, first_source_class}
use Rattle.wy_kernel.specs.Builtin as builtin
use Rattle.wy_syntax.specs.Syntax.{Member, ClassSyntax}
use Rattle.wy_syntax.specs.Syntax as syntax
use Rattle.wy_syntax.specs.declared.declaration.Modifier.TheVariants as modifier
use Rattle.wy_members.specs.Declarations.{CompilationUnit, classes_of, has, class_row, method_in, methods_in, methods_of, implied, fields_unit, implied_constructor, initializes_objects, is_constructor, class_by_class, table}
use Rattle.wy_members.proofs.Contained.{contained, placed, of_flat, of_numbered}
use Rattle.law_program_parts.proofs.RunningLists.{passing, of_chosen}
use Rattle.law_program_parts.proofs.Chains.{IsAt, same_row}
use Rattle.law_program_parts.proofs.Hierarchy.{library_no_interface, of_library, of_text}

all_in_library : list_all (λ (m : Method). nat_lt m.class 18) builtin.methods ≡ true
unfolding builtin.methods builtin.first_methods
all_in_library = refl

-- what is abstract where the class is an interface
abbrev IsAbstract : ClassSyntax → ℕ → Method → Type 0
IsAbstract k c m = m.form ≡ kind.Instance → (m.class ≡ c) × (k.is_interface ≡ true → m.is_abstract ≡ true)

declared_abstract : (unit : CompilationUnit) (c : ℕ) (k : ClassSyntax) (member : Member) (m : Method) → method_in unit c k member ≡ Some m → IsAbstract k c m
declared_abstract unit c k (syntax.Method h result body) m e form =
    let same : _ ≡ m = some_same e in
    (ap (λ (x : Method). x.class) (sym same), λ is. ap (λ (x : Method). x.is_abstract) (sym same) ∙ ap (λ b. b || has modifier.Abstract h.modifiers) is)
  where
    some_same : {a b : Method} → Some a ≡ Some b → a ≡ b
    some_same p = cc
declared_abstract unit c k (syntax.Constructor h own_call brace parts end) m e form = absurd (let other : kind.Constructor ≡ m.form = ap of_form e in let no : kind.Constructor ≡ kind.Instance = other ∙ form in cc)
  where
    of_form : Option Method → MethodForm
    of_form (Some x) = x.form
    of_form _ = kind.Constructor
declared_abstract unit c k _ m e form = absurd (cc)

one_implied : (b : Bool) (x m : Method) → (x.form ≡ kind.Instance → ⊥) → Contains (if b then x ∷ [] else []) m → m.form ≡ kind.Instance → ⊥
one_implied true x m other (zero, lt, is) form = other (ap (λ (y : Method). y.form) is ∙ form)
one_implied true x m other (suc k, lt, is) form = omega arith
one_implied false x m other (k, lt, is) form = omega arith

one_missing : (b : Bool) (x m : Method) → (x.form ≡ kind.Instance → ⊥) → Contains (if b then [] else x ∷ []) m → m.form ≡ kind.Instance → ⊥
one_missing true x m other (k, lt, is) form = omega arith
one_missing false x m other (zero, lt, is) form = other (ap (λ (y : Method). y.form) is ∙ form)
one_missing false x m other (suc k, lt, is) form = omega arith

class_abstract : (unit : CompilationUnit) (c : ℕ) (k : ClassSyntax) (m : Method) → Contains (methods_of unit c k) m → IsAbstract k c m
class_abstract unit c k m h form =
    elim (Contains-append_cases (fields_unit c k ++ implied_constructor c k) (methods_in unit c k k.members) m h) [
      | inl x ↦ elim (Contains-append_cases (fields_unit c k) (implied_constructor c k) m x) [
        | inl y ↦ absurd (one_implied (list_any initializes_objects k.members) (implied c k (codes "<fields>") kind.Fields) m (λ e. cc) y form)
        | inr y ↦ absurd (one_missing (k.is_interface || list_any is_constructor k.members) (implied c k (codes "new") kind.Constructor) m (λ e. cc) y form)
      ]
      | inr x ↦ (let w = of_chosen (method_in unit c k) k.members m x in declared_abstract unit c k w.0 m w.2 form)
    ]

pub interfaces_abstract : (unit : CompilationUnit) (k : ℕ) (m : Method) (row : Class) → slice_get (table unit).methods k ≡ Some m → m.form ≡ kind.Instance → IsAt (table unit).classes m.class row → row.is_interface ≡ true → m.is_abstract ≡ true
unfolding table
interfaces_abstract unit k m row found form at is =
    elim (Contains-append_cases builtin.methods (class_by_class (methods_of unit) unit) m (contained (table unit).methods k m found)) [
      | inl x ↦ (let w = placed builtin.methods m x in
          let less : nat_lt m.class 18 ≡ true = passing (λ (y : Method). nat_lt y.class 18) builtin.methods w.0 m all_in_library w.1 in
          let no : true ≡ false = sym is ∙ library_no_interface m.class row (of_library unit m.class row at (below less)) in absurd (cc))
      | inr x ↦ (let w = of_flat (λ (q : ℕ × ClassSyntax). methods_of unit q.0 q.1) (enumerate_from first_source_class (classes_of unit)) m x in
          let v = of_numbered first_source_class (classes_of unit) w.1.0 w.1.1 (contained (enumerate_from first_source_class (classes_of unit)) w.0 w.1 w.2) in
          let a = class_abstract unit w.1.0 w.1.1 m w.3 form in
          let there : IsAt (table unit).classes m.class (class_row unit w.1.1) = subst (λ n. IsAt (table unit).classes n (class_row unit w.1.1)) (v.2 ∙ sym a.0) (of_text unit v.0 w.1.1 v.1) in
          let same : row ≡ class_row unit w.1.1 = same_row (table unit).classes m.class row (class_row unit w.1.1) at there in
          a.1 (ap (λ (y : Class). y.is_interface) (sym same) ∙ is))
    ]
  where
    below : nat_lt m.class 18 ≡ true → m.class < 18
    below e = grind (arith, nat_tests)
