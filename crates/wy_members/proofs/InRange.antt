-- The numbers in the rows of a program's table are those of its classes, and a program that keeps the rules has a table of declarations.
use Rattle.std.proofs.Common.{◌≡◌, ℕ, ◌+◌, ◌<◌, ◌≤◌, Bool, true, false, ◌&&◌, ◌||◌, List, [], ◌∷◌, ◌++◌, Option, Some, None, refl, sym, ◌∙◌, ap, subst, length, get_or, arith}
use Rattle.std.specs.Prelude.{map, flat_map, filter_map, option_to_list, slice_get, nat_lt, unwrap_or, if◌then◌else◌, IfSome, codes}
use Rattle.std.specs.Str.{bytes_eq}
use Rattle.std.specs.List.{All, Contains, list_all, list_any, enumerate_from, cons_option}
use Rattle.std.proofs.lemmas.Bool.Decides.{nat_tests}
use Rattle.std.proofs.lemmas.List.{length-map, length-append}
use Rattle.std.proofs.lemmas.Option.{slice_get_within, get_or_from_slice_get}
use Rattle.std.proofs.lemmas.List.Elements.{All-append, All-cons, All-map, All-contains}
use Rattle.wy_kernel.specs.declared.types.Base.TheVariants as base
use Rattle.wy_kernel.specs.declared.types.Ty.{Ty}
use Rattle.wy_kernel.specs.declared.types.Ty.TheVariants.{Void, Null, Of}
use Rattle.wy_kernel.specs.declared.types.MethodForm.{MethodForm}
use Rattle.wy_kernel.specs.declared.types.MethodForm.TheVariants as kind
use Rattle.wy_kernel.specs.Program.{Class, Method, object_class, first_source_class}
use Rattle.wy_kernel.specs.Builtin as builtin
use Rattle.wy_kernel.specs.Subtyping.{direct_supertypes, named_above, IsAcyclic}
use Rattle.wy_kernel.specs.Table.{IsTable, IsTypeOf, IsMethodOf, IsFieldOf, NamesAmong, BeginsWith}
use Rattle.wy_syntax.specs.Syntax.{Named, WrittenType, Declarator, Placed, Parameter, Header, Member, Fields, ClassSyntax}
use Rattle.wy_syntax.specs.Syntax as syntax
use Rattle.wy_constant.specs.declared.rule.Rule.TheVariants as rule
use Rattle.wy_members.specs.Declarations.{CompilationUnit, classes_of, class_names, written_names, name_of, denoted, class_or_object, base_type, type_with, types_of, result_type, superclass, interfaces_of, class_row, class_rows, method_row, method_in, methods_in, methods_of, implied, fields_unit, implied_constructor, field_row, fields_in, fields_of, class_by_class, table, all_fields, initializes_objects, is_constructor}
use Rattle.wy_members.specs.Broken.{above_itself}
use Rattle.wy_members.specs.Refusal.{KeepsRules}
use Rattle.wy_members.proofs.Library.{how_many}
use Rattle.wy_members.proofs.Numbering.{position_below}

-- ---- lists

tested : {X : Type 0} (test : X → Bool) (P : X → Type 0) → ((x : X) → test x ≡ true → P x) → (xs : List X) → list_all test xs ≡ true → All P xs
tested test P sound [] e = λ k d lt. absurd (omega arith)
tested test P sound (x ∷ xs) e = All-cons P x xs (sound x (left (test x) (list_all test xs) e)) (tested test P sound xs (right (test x) (list_all test xs) e))
  where
    left : (a b : Bool) → (a && b) ≡ true → a ≡ true
    left true b h = refl
    left false b h = absurd (cc)

    right : (a b : Bool) → (a && b) ≡ true → b ≡ true
    right true b h = h
    right false b h = absurd (cc)

pub all_flat : {X Y : Type 0} (f : X → List Y) (P : Y → Type 0) → ((x : X) → All P (f x)) → (xs : List X) → All P (flat_map f xs)
all_flat f P h [] = λ k d lt. absurd (omega arith)
all_flat f P h (x ∷ xs) = All-append P (f x) (flat_map f xs) (h x) (all_flat f P h xs)

pub all_filtered : {X Y : Type 0} (f : X → Option Y) (P : Y → Type 0) → ((x : X) (y : Y) → f x ≡ Some y → P y) → (xs : List X) → All P (filter_map f xs)
all_filtered f P h [] = λ k d lt. absurd (omega arith)
all_filtered f P h (x ∷ xs) = by (f x) refl (all_filtered f P h xs)
  where
    by : (o : Option _) → f x ≡ o → All P (filter_map f xs) → All P (cons_option o (filter_map f xs))
    by None e rest = rest
    by (Some y) e rest = All-cons P y (filter_map f xs) (h x y e) rest

pub all_by_class : {Y : Type 0} (f : ℕ → ClassSyntax → List Y) (P : Y → Type 0) (many : ℕ) → ((i : ℕ) (k : ClassSyntax) → i < many → All P (f i k)) → (c : ℕ) (ks : List ClassSyntax) → c + length ks ≤ many →
    All P (flat_map (λ p. f p.0 p.1) (enumerate_from c ks))
all_by_class f P many h c [] le = λ k d lt. absurd (omega arith)
all_by_class f P many h c (x ∷ ks) le = All-append P (f c x) (flat_map (λ p. f p.0 p.1) (enumerate_from (c + 1) ks)) (h c x (omega arith)) (all_by_class f P many h (c + 1) ks (omega arith))

-- ---- names

pub many_classes : (unit : CompilationUnit) → length (table unit).classes ≡ 18 + length (classes_of unit)
unfolding table
many_classes unit = length-append builtin.classes (class_rows unit unit) ∙ ap (λ n. n + length (class_rows unit unit)) how_many.0 ∙ ap (λ n. 18 + n) (length-map (classes_of unit) (class_row unit))

pub many_names : (unit : CompilationUnit) → length (class_names unit) ≡ length (table unit).classes
many_names unit =
    length-append (map name_of builtin.classes) (written_names unit)
    ∙ ap (λ n. n + length (written_names unit)) (length-map builtin.classes name_of ∙ how_many.0)
    ∙ ap (λ n. 18 + n) (length-map (classes_of unit) (λ (k : ClassSyntax). k.name.name))
    ∙ sym (many_classes unit)

pub denoted_below : (unit : CompilationUnit) (name : List ℕ) → IfSome (denoted unit name) (λ c. c < length (table unit).classes)
unfolding denoted
denoted_below unit name = position_below (bytes_eq name) (class_names unit) (length (table unit).classes) (denoted unit name) (let e = many_names unit in omega arith) refl

pub class_below : (unit : CompilationUnit) (name : List ℕ) → class_or_object unit name < length (table unit).classes
class_below unit name = by (denoted unit name) (denoted_below unit name)
  where
    by : (o : Option ℕ) → IfSome o (λ c. c < length (table unit).classes) → unwrap_or o object_class < length (table unit).classes
    by None h = let e = many_classes unit in omega arith
    by (Some c) h = h

-- ---- types

pub type_in_range : (unit : CompilationUnit) (ty : WrittenType) (more : ℕ) → IsTypeOf (length (table unit).classes) (type_with unit ty more)
type_in_range unit ty more = by ty.base
  where
    by : (b : syntax.Base) → IsTypeOf (length (table unit).classes) (Of (base_type unit b) (ty.brackets + more))
    by (syntax.Basic p) = tt
    by (syntax.Class name) = class_below unit name

pub types_in_range : (unit : CompilationUnit) (params : List Parameter) → All (IsTypeOf (length (table unit).classes)) (types_of unit params)
types_in_range unit params = All-map (IsTypeOf (length (table unit).classes)) (λ (p : Parameter). type_with unit p.ty p.brackets) params (λ k d lt. type_in_range unit (get_or params k d).ty (get_or params k d).brackets)

pub result_in_range : (unit : CompilationUnit) (ty : Option WrittenType) → IsTypeOf (length (table unit).classes) (result_type unit ty)
result_in_range unit None = tt
result_in_range unit (Some ty) = type_in_range unit ty 0

-- ---- classes

unfoldable pub NamesBelow : ℕ → Class → Type 0
NamesBelow many k = All (λ d. d < many) (named_above (Some k))

library_names : (many : ℕ) → 18 ≤ many → All (NamesBelow many) builtin.classes
unfolding builtin.classes NamesBelow
library_names many le = tested (λ (k : Class). list_all (λ d. nat_lt d 18) (named_above (Some k))) (NamesBelow many) (λ k e. tested (λ d. nat_lt d 18) (λ d. d < many) (λ d h. grind (arith, nat_tests)) (named_above (Some k)) e) builtin.classes refl

row_names : (unit : CompilationUnit) (k : ClassSyntax) → NamesBelow (length (table unit).classes) (class_row unit k)
unfolding NamesBelow
row_names unit k = All-append (λ d. d < length (table unit).classes) (option_to_list (class_row unit k).above) (interfaces_of unit k.interfaces) (above k.is_interface) (all_filtered (λ (n : Named). denoted unit n.name) (λ d. d < length (table unit).classes) (λ n c e. at (denoted unit n.name) c e (denoted_below unit n.name)) k.interfaces)
  where
    at : (o : Option ℕ) (c : ℕ) → o ≡ Some c → IfSome o (λ d. d < length (table unit).classes) → c < length (table unit).classes
    at o c e h = subst (λ r. IfSome r (λ d. d < length (table unit).classes)) e h

    one : (c : ℕ) → c < length (table unit).classes → All (λ d. d < length (table unit).classes) (c ∷ [])
    one c lt = All-cons (λ d. d < length (table unit).classes) c [] lt (λ i d less. absurd (omega arith))

    super : (o : Option Named) → All (λ d. d < length (table unit).classes) (superclass unit o ∷ [])
    super None = one object_class (let e = many_classes unit in omega arith)
    super (Some n) = one (class_or_object unit n.name) (class_below unit n.name)

    above : (b : Bool) → All (λ d. d < length (table unit).classes) (option_to_list (if b then None else Some (superclass unit k.above)))
    above true = λ i d lt. absurd (omega arith)
    above false = super k.above

pub all_names : (unit : CompilationUnit) (many : ℕ) → many ≡ length (table unit).classes → All (NamesBelow many) (table unit).classes
unfolding table
all_names unit many e =
    let le : 18 ≤ many = let h = many_classes unit in omega arith in
    let P : ℕ → Class → Type 0 = λ n k. NamesBelow n k in
    All-append (NamesBelow many) builtin.classes (class_rows unit unit) (library_names many le) (All-map (NamesBelow many) (class_row unit) (classes_of unit) (λ k d lt. subst (λ n. P n (class_row unit (get_or (classes_of unit) k d))) (sym e) (row_names unit (get_or (classes_of unit) k d))))

none_named : {A : Type 0} (d : ℕ) → Contains [] d → A
none_named d (k, lt, e) = absurd (omega arith)

found_in : (cs : List Class) (c : ℕ) (row : Class) → slice_get cs c ≡ Some row → Contains cs row
found_in cs c row e = (c, slice_get_within cs c row e, get_or_from_slice_get cs c row row e)

pub among_all : (classes : List Class) → All (NamesBelow (length classes)) classes → NamesAmong classes
unfolding direct_supertypes NamesBelow
among_all classes all c d h = by (slice_get classes c) refl h
  where
    by : (o : Option Class) → slice_get classes c ≡ o → Contains (named_above o) d → d < length classes
    by None e g = none_named d g
    by (Some row) e g = All-contains (λ x. x < length classes) (named_above (Some row)) d (All-contains (NamesBelow (length classes)) classes row all (found_in classes c row e)) g

pub names_among : (unit : CompilationUnit) → NamesAmong (table unit).classes
names_among unit = among_all (table unit).classes (all_names unit (length (table unit).classes) refl)

pub acyclic : (unit : CompilationUnit) → KeepsRules unit → IsAcyclic (table unit).classes
unfolding direct_supertypes
acyclic unit keeps c d h s = by (slice_get (table unit).classes c) refl h
  where
    by : (o : Option Class) → slice_get (table unit).classes c ≡ o → Contains (named_above o) d → ⊥
    by None e g = none_named d g
    by (Some row) e g = keeps rule.Cycle row.site (above_itself {c = c} {row = row} e (d, h, s))

-- ---- methods

pub type_test : Ty → Bool
type_test (Of (base.Class c) brackets) = nat_lt c 18
type_test (Of (base.Primitive p) brackets) = true
type_test Void = true
type_test Null = true

pub type_tested : (many : ℕ) → 18 ≤ many → (ty : Ty) → type_test ty ≡ true → IsTypeOf many ty
unfolding type_test
type_tested many le (Of (base.Class c) brackets) e = grind (arith, nat_tests)
type_tested many le (Of (base.Primitive p) brackets) e = tt
type_tested many le Void e = tt
type_tested many le Null e = tt

pub method_test : Method → Bool
method_test m = nat_lt m.class 18 && (list_all type_test m.params && type_test m.result)

both_left : (a b : Bool) → (a && b) ≡ true → a ≡ true
both_left true b h = refl
both_left false b h = absurd (cc)

both_right : (a b : Bool) → (a && b) ≡ true → b ≡ true
both_right true b h = h
both_right false b h = absurd (cc)

method_tested : (many : ℕ) → 18 ≤ many → (m : Method) → method_test m ≡ true → IsMethodOf many m
unfolding method_test
method_tested many le m e =
    let class = both_left (nat_lt m.class 18) (list_all type_test m.params && type_test m.result) e in
    let rest = both_right (nat_lt m.class 18) (list_all type_test m.params && type_test m.result) e in
    record {
      class = less m.class class;
      params = tested type_test (IsTypeOf many) (type_tested many le) m.params (both_left (list_all type_test m.params) (type_test m.result) rest);
      result = type_tested many le m.result (both_right (list_all type_test m.params) (type_test m.result) rest);
    }
  where
    less : (c : ℕ) → nat_lt c 18 ≡ true → c < many
    less c h = grind (arith, nat_tests)

library_methods : (many : ℕ) → 18 ≤ many → All (IsMethodOf many) builtin.methods
unfolding builtin.methods builtin.first_methods method_test type_test
library_methods many le = tested method_test (IsMethodOf many) (method_tested many le) builtin.methods refl

row_in_range : (unit : CompilationUnit) (c : ℕ) (k : ClassSyntax) (h : Header) (name : List ℕ) (ty : Ty) (form : MethodForm) → c < length (table unit).classes → IsTypeOf (length (table unit).classes) ty →
    IsMethodOf (length (table unit).classes) (method_row unit c k h name ty form)
row_in_range unit c k h name ty form lt of = record { class = lt; params = types_in_range unit h.params; result = of }

implied_in_range : (unit : CompilationUnit) (c : ℕ) (k : ClassSyntax) (name : List ℕ) (form : MethodForm) → c < length (table unit).classes → All (IsMethodOf (length (table unit).classes)) (implied c k name form ∷ [])
implied_in_range unit c k name form lt =
    All-cons (IsMethodOf (length (table unit).classes)) (implied c k name form) [] (record { class = lt; params = λ i d less. absurd (omega arith); result = tt }) (λ i d less. absurd (omega arith))

nothing_of : {X : Type 0} (P : X → Type 0) → All P []
nothing_of P i d less = absurd (omega arith)

declared_in_range : (unit : CompilationUnit) (c : ℕ) (k : ClassSyntax) → c < length (table unit).classes → (m : Member) (row : Method) → method_in unit c k m ≡ Some row → IsMethodOf (length (table unit).classes) row
declared_in_range unit c k lt (syntax.Method h result body) row e = subst (IsMethodOf (length (table unit).classes)) (some_same e) (row_in_range unit c k h h.name.name (result_type unit result) _ lt (result_in_range unit result))
  where
    some_same : {a b : Method} → Some a ≡ Some b → a ≡ b
    some_same p = cc
declared_in_range unit c k lt (syntax.Constructor h own_call brace parts end) row e = subst (IsMethodOf (length (table unit).classes)) (some_same e) (row_in_range unit c k h (codes "new") Void _ lt tt)
  where
    some_same : {a b : Method} → Some a ≡ Some b → a ≡ b
    some_same p = cc
declared_in_range unit c k lt _ row e = cc

methods_of_in_range : (unit : CompilationUnit) (c : ℕ) (k : ClassSyntax) → c < length (table unit).classes → All (IsMethodOf (length (table unit).classes)) (methods_of unit c k)
methods_of_in_range unit c k lt =
    let P : Method → Type 0 = IsMethodOf (length (table unit).classes) in
    All-append P (fields_unit c k ++ implied_constructor c k) (methods_in unit c k k.members)
    (All-append P (fields_unit c k) (implied_constructor c k) (unit_rows (list_any initializes_objects k.members)) (constructor_rows (k.is_interface || list_any is_constructor k.members)))
    (all_filtered (method_in unit c k) P (declared_in_range unit c k lt) k.members)
  where
    unit_rows : (b : Bool) → All (IsMethodOf (length (table unit).classes)) (if b then implied c k (codes "<fields>") kind.Fields ∷ [] else [])
    unit_rows true = implied_in_range unit c k (codes "<fields>") kind.Fields lt
    unit_rows false = nothing_of (IsMethodOf (length (table unit).classes))

    constructor_rows : (b : Bool) → All (IsMethodOf (length (table unit).classes)) (if b then [] else implied c k (codes "new") kind.Constructor ∷ [])
    constructor_rows true = nothing_of (IsMethodOf (length (table unit).classes))
    constructor_rows false = implied_in_range unit c k (codes "new") kind.Constructor lt

methods_in_range : (unit : CompilationUnit) (many : ℕ) → many ≡ length (table unit).classes → All (IsMethodOf many) (table unit).methods
unfolding table
methods_in_range unit many e =
    let h = many_classes unit in
    All-append (IsMethodOf many) builtin.methods (class_by_class (methods_of unit) unit) (library_methods many (omega arith))
    (all_by_class (methods_of unit) (IsMethodOf many) many (λ i k lt. subst (λ n. All (IsMethodOf n) (methods_of unit i k)) (sym e) (methods_of_in_range unit i k (subst (λ n. i < n) e lt))) first_source_class (classes_of unit) (omega arith))

-- ---- fields

fields_of_in_range : (unit : CompilationUnit) (c : ℕ) (k : ClassSyntax) → c < length (table unit).classes → All (IsFieldOf (length (table unit).classes)) (fields_of unit c k)
fields_of_in_range unit c k lt = all_flat (fields_in unit c) (IsFieldOf (length (table unit).classes)) member k.members
  where
    member : (m : Member) → All (IsFieldOf (length (table unit).classes)) (fields_in unit c m)
    member (Fields ms ty declarators) = All-map (IsFieldOf (length (table unit).classes)) (field_row unit c ms ty) declarators (λ i d less. record { class = lt; ty = type_in_range unit ty (get_or declarators i d).brackets })
    member _ = nothing_of (IsFieldOf (length (table unit).classes))

library_fields : (many : ℕ) → 18 ≤ many → All (IsFieldOf many) builtin.fields
unfolding builtin.fields
library_fields many le = All-cons (IsFieldOf many) _ [] (record { class = omega arith; ty = omega arith }) (nothing_of (IsFieldOf many))

fields_in_range : (unit : CompilationUnit) (many : ℕ) → many ≡ length (table unit).classes → All (IsFieldOf many) (table unit).fields
unfolding table
fields_in_range unit many e =
    let h = many_classes unit in
    All-append (IsFieldOf many) builtin.fields (class_by_class (fields_of unit) unit) (library_fields many (omega arith))
    (all_by_class (fields_of unit) (IsFieldOf many) many (λ i k lt. subst (λ n. All (IsFieldOf n) (fields_of unit i k)) (sym e) (fields_of_in_range unit i k (subst (λ n. i < n) e lt))) first_source_class (classes_of unit) (omega arith))

-- ---- the table

begins_classes : (unit : CompilationUnit) → BeginsWith (table unit).classes builtin.classes
unfolding table
begins_classes unit = (class_rows unit unit, refl)

begins_methods : (unit : CompilationUnit) → BeginsWith (table unit).methods builtin.methods
unfolding table
begins_methods unit = (class_by_class (methods_of unit) unit, refl)

begins_fields : (unit : CompilationUnit) → BeginsWith (table unit).fields builtin.fields
unfolding table
begins_fields unit = (class_by_class (fields_of unit) unit, refl)

as_many : (unit : CompilationUnit) → length (table unit).constants ≡ length (table unit).fields
unfolding table
as_many unit = length-map (all_fields unit) (λ f. None)

pub is_table : (unit : CompilationUnit) → IsAcyclic (table unit).classes → length (table unit).classes < builtin.no_site → length (table unit).methods < builtin.no_site → length (table unit).fields < builtin.no_site → IsTable (table unit)
is_table unit straight classes methods fields = record {
  library_classes = begins_classes unit;
  library_methods = begins_methods unit;
  library_fields = begins_fields unit;
  supertypes_in_range = names_among unit;
  methods_in_range = methods_in_range unit (length (table unit).classes) refl;
  fields_in_range = fields_in_range unit (length (table unit).classes) refl;
  constants_of_fields = as_many unit;
  acyclic = straight;
  few_classes = classes;
  few_methods = methods;
  few_fields = fields;
}
