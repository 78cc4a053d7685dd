-- The rows of a program's table are of its classes, and their parameters and fields have types of variables.
use Rattle.std.proofs.Common.{◌≡◌, ℕ, ◌+◌, ◌<◌, ◌≤◌, Bool, true, false, ◌&&◌, ◌||◌, List, [], ◌∷◌, ◌++◌, Option, Some, None, refl, sym, ◌∙◌, ap, subst, length, get_or, arith}
use Rattle.std.specs.Prelude.{map, flat_map, filter_map, nat_lt, unwrap_or, if◌then◌else◌, IfSome, codes}
use Rattle.std.specs.Str.{bytes_eq}
use Rattle.std.specs.List.{All, list_all, list_any, enumerate_from, cons_option}
use Rattle.std.proofs.lemmas.Bool.{and_parts}
use Rattle.std.proofs.lemmas.Bool.Decides.{nat_tests}
use Rattle.std.proofs.lemmas.List.{length-map, length-append}
use Rattle.std.proofs.lemmas.List.Elements.{All-nil, All-append, All-cons, All-map}
use Rattle.wy_kernel.specs.declared.types.Base.TheVariants as base
use Rattle.wy_kernel.specs.declared.types.Ty.{Ty}
use Rattle.wy_kernel.specs.declared.types.Ty.TheVariants.{Void, Null, Of}
use Rattle.wy_kernel.specs.declared.types.MethodForm.{MethodForm}
use Rattle.wy_kernel.specs.declared.types.MethodForm.TheVariants as kind
use Rattle.wy_kernel.specs.Program.{Method, Field, object_class, first_source_class}
use Rattle.wy_kernel.specs.Builtin as builtin
use Rattle.wy_kernel.specs.Table.{IsTypeOf, IsMethodOf, IsFieldOf}
use Rattle.wy_syntax.specs.Syntax.{WrittenType, Parameter, Header, Member, Fields, ClassSyntax}
use Rattle.wy_syntax.specs.Syntax as syntax
use Rattle.wy_members.specs.Declarations.{CompilationUnit, classes_of, class_names, written_names, name_of, denoted, class_or_object, base_type, type_with, types_of, result_type, method_row, method_in, methods_in, methods_of, implied, fields_unit, implied_constructor, field_row, fields_in, fields_of, class_by_class, table, initializes_objects, is_constructor}
use Rattle.wy_members.proofs.InRange.{many_classes, all_by_class, all_filtered, all_flat, class_below, denoted_below, many_names, result_in_range, type_in_range, types_in_range}
use Rattle.wy_members.proofs.Library.{how_many}
use Rattle.wy_members.proofs.Numbering.{position_below}
use Rattle.wy_typing.specs.Types.{IsVariableType}

-- a method of the program's classes, whose parameters have types of variables
pub record MethodStands (many : ℕ) (m : Method) : Type 0 where
  pub among : IsMethodOf many m
  pub params : All IsVariableType m.params

pub record FieldStands (many : ℕ) (f : Field) : Type 0 where
  pub among : IsFieldOf many f
  pub variable : IsVariableType f.ty

-- ---- lists

tested : {X : Type 0} (test : X → Bool) (P : X → Type 0) → ((x : X) → test x ≡ true → P x) → (xs : List X) → list_all test xs ≡ true → All P xs
tested test P sound [] e = All-nil P
tested test P sound (x ∷ xs) e = let parts = and_parts (test x) (list_all test xs) e in All-cons P x xs (sound x parts.0) (tested test P sound xs parts.1)

-- ---- types

types_are_variables : (unit : CompilationUnit) (params : List Parameter) → All IsVariableType (types_of unit params)
types_are_variables unit params = All-map IsVariableType (λ (p : Parameter). type_with unit p.ty p.brackets) params (λ k d lt. tt)

-- ---- methods

variable_test : Ty → Bool
variable_test (Of b brackets) = true
variable_test Void = false
variable_test Null = false

variable_tested : (ty : Ty) → variable_test ty ≡ true → IsVariableType ty
unfolding variable_test
variable_tested (Of b brackets) e = tt
variable_tested Void e = absurd (cc)
variable_tested Null e = absurd (cc)

params_test : Method → Bool
params_test m = list_all variable_test m.params

type_test : Ty → Bool
type_test (Of (base.Class c) brackets) = nat_lt c 18
type_test (Of (base.Primitive p) brackets) = true
type_test Void = true
type_test Null = true

type_tested : (many : ℕ) → 18 ≤ many → (ty : Ty) → type_test ty ≡ true → IsTypeOf many ty
unfolding type_test
type_tested many le (Of (base.Class c) brackets) e = grind (arith, nat_tests)
type_tested many le (Of (base.Primitive p) brackets) e = tt
type_tested many le Void e = tt
type_tested many le Null e = tt

method_test : Method → Bool
method_test m = nat_lt m.class 18 && (list_all type_test m.params && type_test m.result)

method_tested : (many : ℕ) → 18 ≤ many → (m : Method) → method_test m ≡ true → IsMethodOf many m
unfolding method_test
method_tested many le m e =
    let class = and_parts (nat_lt m.class 18) (list_all type_test m.params && type_test m.result) e in
    let rest = and_parts (list_all type_test m.params) (type_test m.result) class.1 in
    record {
      class = less m.class class.0;
      params = tested type_test (IsTypeOf many) (type_tested many le) m.params rest.0;
      result = type_tested many le m.result rest.1;
    }
  where
    less : (c : ℕ) → nat_lt c 18 ≡ true → c < many
    less c h = grind (arith, nat_tests)

library_methods : (many : ℕ) → 18 ≤ many → All (MethodStands many) builtin.methods
unfolding builtin.methods builtin.first_methods method_test type_test params_test variable_test
library_methods many le = tested (λ m. method_test m && params_test m) (MethodStands many) of_test builtin.methods refl
  where
    of_test : (m : Method) → (method_test m && params_test m) ≡ true → MethodStands many m
    of_test m e = record {
      among = method_tested many le m (and_parts (method_test m) (params_test m) e).0;
      params = tested variable_test IsVariableType variable_tested m.params (and_parts (method_test m) (params_test m) e).1;
    }

row_in_range : (unit : CompilationUnit) (c : ℕ) (k : ClassSyntax) (h : Header) (name : List ℕ) (ty : Ty) (form : MethodForm) → c < length (table unit).classes → IsTypeOf (length (table unit).classes) ty →
    MethodStands (length (table unit).classes) (method_row unit c k h name ty form)
row_in_range unit c k h name ty form lt of = record { among = record { class = lt; params = types_in_range unit h.params; result = of }; params = types_are_variables unit h.params }

implied_in_range : (unit : CompilationUnit) (c : ℕ) (k : ClassSyntax) (name : List ℕ) (form : MethodForm) → c < length (table unit).classes → All (MethodStands (length (table unit).classes)) (implied c k name form ∷ [])
implied_in_range unit c k name form lt =
    All-cons (MethodStands (length (table unit).classes)) (implied c k name form) [] (record { among = record { class = lt; params = λ i d less. absurd (omega arith); result = tt }; params = λ i d less. absurd (omega arith) }) (λ i d less. absurd (omega arith))

declared_in_range : (unit : CompilationUnit) (c : ℕ) (k : ClassSyntax) → c < length (table unit).classes → (m : Member) (row : Method) → method_in unit c k m ≡ Some row → MethodStands (length (table unit).classes) row
declared_in_range unit c k lt (syntax.Method h result body) row e = subst (MethodStands (length (table unit).classes)) (some_same e) (row_in_range unit c k h h.name.name (result_type unit result) _ lt (result_in_range unit result))
  where
    some_same : {a b : Method} → Some a ≡ Some b → a ≡ b
    some_same p = cc
declared_in_range unit c k lt (syntax.Constructor h own_call brace parts end) row e = subst (MethodStands (length (table unit).classes)) (some_same e) (row_in_range unit c k h (codes "new") Void _ lt tt)
  where
    some_same : {a b : Method} → Some a ≡ Some b → a ≡ b
    some_same p = cc
declared_in_range unit c k lt _ row e = cc

methods_of_in_range : (unit : CompilationUnit) (c : ℕ) (k : ClassSyntax) → c < length (table unit).classes → All (MethodStands (length (table unit).classes)) (methods_of unit c k)
methods_of_in_range unit c k lt =
    let P : Method → Type 0 = MethodStands (length (table unit).classes) in
    All-append P (fields_unit c k ++ implied_constructor c k) (methods_in unit c k k.members)
    (All-append P (fields_unit c k) (implied_constructor c k) (unit_rows (list_any initializes_objects k.members)) (constructor_rows (k.is_interface || list_any is_constructor k.members)))
    (all_filtered (method_in unit c k) P (declared_in_range unit c k lt) k.members)
  where
    unit_rows : (b : Bool) → All (MethodStands (length (table unit).classes)) (if b then implied c k (codes "<fields>") kind.Fields ∷ [] else [])
    unit_rows true = implied_in_range unit c k (codes "<fields>") kind.Fields lt
    unit_rows false = All-nil (MethodStands (length (table unit).classes))

    constructor_rows : (b : Bool) → All (MethodStands (length (table unit).classes)) (if b then [] else implied c k (codes "new") kind.Constructor ∷ [])
    constructor_rows true = All-nil (MethodStands (length (table unit).classes))
    constructor_rows false = implied_in_range unit c k (codes "new") kind.Constructor lt

pub methods_stand : (unit : CompilationUnit) (many : ℕ) → many ≡ length (table unit).classes → All (MethodStands many) (table unit).methods
unfolding table
methods_stand unit many e =
    let h = many_classes unit in
    All-append (MethodStands many) builtin.methods (class_by_class (methods_of unit) unit) (library_methods many (omega arith))
    (all_by_class (methods_of unit) (MethodStands many) many (λ i k lt. subst (λ n. All (MethodStands n) (methods_of unit i k)) (sym e) (methods_of_in_range unit i k (subst (λ n. i < n) e lt))) first_source_class (classes_of unit) (omega arith))

-- ---- fields

fields_of_in_range : (unit : CompilationUnit) (c : ℕ) (k : ClassSyntax) → c < length (table unit).classes → All (FieldStands (length (table unit).classes)) (fields_of unit c k)
fields_of_in_range unit c k lt = all_flat (fields_in unit c) (FieldStands (length (table unit).classes)) member k.members
  where
    member : (m : Member) → All (FieldStands (length (table unit).classes)) (fields_in unit c m)
    member (Fields ms ty declarators) = All-map (FieldStands (length (table unit).classes)) (field_row unit c ms ty) declarators (λ i d less. record { among = record { class = lt; ty = type_in_range unit ty (get_or declarators i d).brackets }; variable = tt })
    member _ = All-nil (FieldStands (length (table unit).classes))

library_fields : (many : ℕ) → 18 ≤ many → All (FieldStands many) builtin.fields
unfolding builtin.fields
library_fields many le = All-cons (FieldStands many) _ [] (record { among = record { class = omega arith; ty = omega arith }; variable = tt }) (All-nil (FieldStands many))

pub fields_stand : (unit : CompilationUnit) (many : ℕ) → many ≡ length (table unit).classes → All (FieldStands many) (table unit).fields
unfolding table
fields_stand unit many e =
    let h = many_classes unit in
    All-append (FieldStands many) builtin.fields (class_by_class (fields_of unit) unit) (library_fields many (omega arith))
    (all_by_class (fields_of unit) (FieldStands many) many (λ i k lt. subst (λ n. All (FieldStands n) (fields_of unit i k)) (sym e) (fields_of_in_range unit i k (subst (λ n. i < n) e lt))) first_source_class (classes_of unit) (omega arith))
