-- The table of a program whose declarations keep the rules knows the library.
use Rattle.std.proofs.Common.{◌≡◌, ◌∙◌, ap, sym, subst, refl, ℕ, ◌+◌, Bool, true, false, cond, List, [], ◌∷◌, ◌++◌, map, Option, Some, inl, inr}
use Rattle.std.specs.Prelude.{◌||◌, slice_get, codes, bytes_eq}
use Rattle.std.specs.Prelude.{None as Absent}
use Rattle.std.specs.List.{Contains, position_from}
use Rattle.std.proofs.lemmas.Slice.Eq.{bytes_eq-Decides}
use Rattle.wy_kernel.specs.Program.{Class, object_class}
use Rattle.wy_kernel.specs.Builtin as builtin
use Rattle.wy_kernel.specs.Table.{Table}
use Rattle.wy_syntax.specs.Syntax.{ClassSyntax}
use Rattle.wy_constant.specs.declared.rule.Rule.TheVariants as rule
use Rattle.wy_constant.specs.Fields.{is_class_named, class_named}
use Rattle.wy_members.specs.Declarations.{CompilationUnit, classes_of, class_row, class_rows, table}
use Rattle.wy_members.specs.Broken.{reserved_names, reserved}
use Rattle.wy_members.specs.Refusal.{KeepsRules}
use Rattle.wy_members.specs.Constants.{IsTableOf}
use Rattle.wy_elab_expr.specs.Members.{is_library_name}
use Rattle.law_refusals.proofs.Contained.{contains_here, contains_later}
use Rattle.law_refusals.proofs.Tests.{one_true}
use Rattle.law_refusals.specs.Laws.{TablesKnowTheLibrary}
use Rattle.law_refusals.proofs.AcceptedForms.{false_by}

classes_are : (unit : CompilationUnit) (t : Table) → IsTableOf unit t → t.classes ≡ builtin.classes ++ class_rows unit unit
unfolding table
classes_are unit t is = ap (λ (z : Table). z.classes) is.rows

-- ---- Object

object_row : (unit : CompilationUnit) → slice_get (builtin.classes ++ class_rows unit unit) object_class ≡ Some (builtin.extending Absent (codes "Object"))
unfolding builtin.classes
object_row unit = refl

object_is : (unit : CompilationUnit) (t : Table) → IsTableOf unit t → (k : Class) → slice_get t.classes object_class ≡ Some k → builtin.extending Absent (codes "Object") ≡ k
object_is unit t is k e =
    let row : slice_get t.classes object_class ≡ Some (builtin.extending Absent (codes "Object")) = ap (λ z. slice_get z object_class) (classes_are unit t is) ∙ object_row unit in
    cc

-- ---- names of the library

data IsOne (name : List ℕ) : Type 0 where
  integer : name ≡ codes "Integer" → IsOne name
  long : name ≡ codes "Long" → IsOne name
  math : name ≡ codes "Math" → IsOne name
  system : name ≡ codes "System" → IsOne name

one_of : (name : List ℕ) → is_library_name name ≡ true → IsOne name
one_of name e =
    let i : Bool = bytes_eq name (codes "Integer") in
    let l : Bool = bytes_eq name (codes "Long") in
    let m : Bool = bytes_eq name (codes "Math") in
    let s : Bool = bytes_eq name (codes "System") in
    last_of (i || l || m) s e (λ f. elim (one_true (i || l) m f) [
      | inl g ↦ elim (one_true i l g) [ inl h ↦ integer ((bytes_eq-Decides name (codes "Integer")).0 h) | inr h ↦ long ((bytes_eq-Decides name (codes "Long")).0 h) ]
      | inr h ↦ math ((bytes_eq-Decides name (codes "Math")).0 h)
    ]) (λ h. system ((bytes_eq-Decides name (codes "System")).0 h))
  where
    last_of : (x y : Bool) → (x || y) ≡ true → (x ≡ true → IsOne name) → (y ≡ true → IsOne name) → IsOne name
    last_of x y f g h = elim (one_true x y f) [ inl a ↦ g a | inr b ↦ h b ]

-- no class of the library has it
none_built : (name : List ℕ) (i : ℕ) → IsOne name → position_from (is_class_named name) i builtin.classes ≡ Absent
unfolding builtin.classes
none_built name i (integer e) = subst (λ (z : List ℕ). position_from (is_class_named z) i builtin.classes ≡ Absent) (sym e) refl
none_built name i (long e) = subst (λ (z : List ℕ). position_from (is_class_named z) i builtin.classes ≡ Absent) (sym e) refl
none_built name i (math e) = subst (λ (z : List ℕ). position_from (is_class_named z) i builtin.classes ≡ Absent) (sym e) refl
none_built name i (system e) = subst (λ (z : List ℕ). position_from (is_class_named z) i builtin.classes ≡ Absent) (sym e) refl

is_reserved : (name : List ℕ) → IsOne name → Contains reserved_names name
is_reserved name (system e) = contains_here (codes "Integer" ∷ codes "Long" ∷ codes "Math" ∷ []) (sym e)
is_reserved name (integer e) = contains_later (codes "System") name (codes "Integer" ∷ codes "Long" ∷ codes "Math" ∷ []) (contains_here (codes "Long" ∷ codes "Math" ∷ []) (sym e))
is_reserved name (long e) =
    contains_later (codes "System") name (codes "Integer" ∷ codes "Long" ∷ codes "Math" ∷ []) (contains_later (codes "Integer") name (codes "Long" ∷ codes "Math" ∷ []) (contains_here (codes "Math" ∷ []) (sym e)))
is_reserved name (math e) =
    contains_later (codes "System") name (codes "Integer" ∷ codes "Long" ∷ codes "Math" ∷ []) (contains_later (codes "Integer") name (codes "Long" ∷ codes "Math" ∷ [])
    (contains_later (codes "Long") name (codes "Math" ∷ []) (contains_here [] (sym e))))

-- neither has a class of the text
none_written : (unit : CompilationUnit) (ks : List ClassSyntax) (name : List ℕ) (i : ℕ) → ((k : ClassSyntax) → Contains ks k → bytes_eq k.name.name name ≡ false) → position_from (is_class_named name) i (map (class_row unit) ks) ≡ Absent
none_written unit [] name i h = refl
none_written unit (k ∷ ks) name i h =
    ap (λ (b : Bool). cond b (Some i) (position_from (is_class_named name) (i + 1) (map (class_row unit) ks))) (h k (contains_here ks refl)) ∙ none_written unit ks name (i + 1) (λ x in_ks. h x (contains_later k x ks in_ks))

passed : (b : Bool) (i : ℕ) (later : Option ℕ) → cond b (Some i) later ≡ Absent → (b ≡ false) × (later ≡ Absent)
passed true i later e = absurd (cc)
passed false i later e = (refl, e)

none_in_both : {X : Type 0} (p : X → Bool) (xs ys : List X) (i : ℕ) → position_from p i xs ≡ Absent → ((n : ℕ) → position_from p n ys ≡ Absent) → position_from p i (xs ++ ys) ≡ Absent
none_in_both p [] ys i e h = h i
none_in_both p (x ∷ xs) ys i e h =
    let f = passed (p x) i (position_from p (i + 1) xs) e in
    ap (λ (b : Bool). cond b (Some i) (position_from p (i + 1) (xs ++ ys))) f.0 ∙ none_in_both p xs ys (i + 1) f.1 h

free : (unit : CompilationUnit) → KeepsRules unit → (name : List ℕ) → IsOne name → (k : ClassSyntax) → Contains (classes_of unit) k → bytes_eq k.name.name name ≡ false
free unit keeps name is k in_unit =
    false_by (bytes_eq k.name.name name) (λ e. (
    let same = (bytes_eq-Decides k.name.name name).0 e in
    let P : List ℕ → Type 0 = λ z. Contains reserved_names z in
    keeps rule.Duplicate k.name.token (reserved in_unit (subst P (sym same) (is_reserved name is)))))

pub tables_know : TablesKnowTheLibrary
tables_know unit t keeps is = record {
  no_interface = λ k e. sym (ap (λ (z : Class). z.is_interface) (object_is unit t is k e));
  not_abstract = λ k e. sym (ap (λ (z : Class). z.is_abstract) (object_is unit t is k e));
  reserved = λ name e. (
      let one = one_of name e in
      ap (λ z. class_named z name) (classes_are unit t is)
      ∙ none_in_both (is_class_named name) builtin.classes (class_rows unit unit) 0 (none_built name 0 one) (λ n. none_written unit (classes_of unit) name n (free unit keeps name one)));
}
