-- The part of a unit whose types are known has the rows of the unit's classes, and of what stands in it the rows that the unit gives.
use Rattle.std.proofs.Common.{◌≡◌, ℕ, ◌+◌, Bool, if◌then◌else◌, List, [], ◌∷◌, ◌++◌, Option, Some, refl, ap, map}
use Rattle.std.specs.Prelude.{None as Absent}
use Rattle.std.specs.Prelude.{filter_map, flat_map, unwrap_or}
use Rattle.std.specs.List.{enumerate_from}
use Rattle.wy_kernel.specs.declared.types.Base.{Base}
use Rattle.wy_kernel.specs.declared.types.Base.TheVariants as base
use Rattle.wy_kernel.specs.declared.types.Ty.{Ty}
use Rattle.wy_kernel.specs.declared.types.Ty.TheVariants.{Of}
use Rattle.wy_kernel.specs.declared.types.MethodForm.{MethodForm}
use Rattle.wy_kernel.specs.Program.{object_class, first_source_class}
use Rattle.wy_kernel.specs.Builtin as builtin
use Rattle.wy_syntax.specs.Syntax.{Named, WrittenType, Parameter, Header, Member, ClassSyntax, Declaration, Declared}
use Rattle.wy_syntax.specs.Syntax as syntax
use Rattle.wy_members.specs.Declarations.{CompilationUnit, classes_of, base_type, type_with, types_of, result_type, superclass, interfaces_of, class_row, class_rows, method_row, method_in, methods_of, fields_unit, implied_constructor, class_by_class, table}
use Rattle.wy_members.specs.Broken.{with_known_members, known_part}
use Rattle.wy_members.proofs.Knowns.{known_denotes}

module _ (unit : CompilationUnit) where
  base_same : (b : syntax.Base) → base_type (known_part unit) b ≡ base_type unit b
  base_same (syntax.Basic p) = refl
  base_same (syntax.Class name) = ap (λ o. base.Class (unwrap_or o object_class)) (known_denotes unit name)

  type_same : (ty : WrittenType) (more : ℕ) → type_with (known_part unit) ty more ≡ type_with unit ty more
  type_same ty more = ap (λ (b : Base). Of b (ty.brackets + more)) (base_same ty.base)

  types_same : (params : List Parameter) → types_of (known_part unit) params ≡ types_of unit params
  types_same [] = refl
  types_same (p ∷ rest) = λ i. type_same p.ty p.brackets i ∷ types_same rest i

  result_same : (ty : Option WrittenType) → result_type (known_part unit) ty ≡ result_type unit ty
  result_same Absent = refl
  result_same (Some ty) = type_same ty 0

  row_same : (c : ℕ) (k : ClassSyntax) (h : Header) (name : List ℕ) (a b : Ty) (form : MethodForm) → a ≡ b → method_row (known_part unit) c k h name a form ≡ method_row unit c k h name b form
  row_same c k h name a b form e = λ i. record (method_row unit c k h name b form) { params = types_same h.params i; result = e i }

  method_same : (c : ℕ) (k : ClassSyntax) (m : Member) → method_in (known_part unit) c k m ≡ method_in unit c k m
  method_same c k (syntax.Method h result body) = ap Some (row_same c k h h.name.name _ _ _ (result_same result))
  method_same c k (syntax.Constructor h own_call brace parts end) = ap Some (row_same c k h _ _ _ _ refl)
  method_same c k syntax.Member.Nothing = refl
  method_same c k (syntax.Initializer is_static block) = refl
  method_same c k (syntax.Fields ms ty declarators) = refl
  method_same c k syntax.Member.Unknown = refl

  methods_same : (c : ℕ) (k : ClassSyntax) → methods_of (known_part unit) c k ≡ methods_of unit c k
  methods_same c k = λ i. fields_unit c k ++ implied_constructor c k ++ filter_map (λ m. method_same c k m i) k.members

  pub known_methods_by_class : class_by_class (methods_of (known_part unit)) (known_part unit) ≡ class_by_class (methods_of unit) (known_part unit)
  known_methods_by_class = λ i. flat_map (λ p. methods_same p.0 p.1 i) (enumerate_from first_source_class (classes_of (known_part unit)))

  superclass_same : (o : Option Named) → superclass (known_part unit) o ≡ superclass unit o
  superclass_same Absent = refl
  superclass_same (Some n) = ap (λ o. unwrap_or o object_class) (known_denotes unit n.name)

  interfaces_same : (named : List Named) → interfaces_of (known_part unit) named ≡ interfaces_of unit named
  interfaces_same named = λ i. filter_map (λ (n : Named). known_denotes unit n.name i) named

  above_same : (is_interface : Bool) (o : Option Named) → (if is_interface then Absent else Some (superclass (known_part unit) o)) ≡ (if is_interface then Absent else Some (superclass unit o))
  above_same is_interface o = ap (λ c. if is_interface then Absent else Some c) (superclass_same o)

  class_same : (k : ClassSyntax) → class_row (known_part unit) k ≡ class_row unit k
  class_same k = λ i. record (class_row unit k) { above = above_same k.is_interface k.above i; interfaces = interfaces_same k.interfaces i }

  rows_same : (part : CompilationUnit) → class_rows (known_part unit) (map (with_known_members unit) part) ≡ class_rows unit part
  rows_same [] = refl
  rows_same (Declared k ∷ rest) = λ i. class_same k i ∷ rows_same rest i
  rows_same (syntax.Declaration.Nothing ∷ rest) = rows_same rest
  rows_same (syntax.Declaration.Unknown ∷ rest) = rows_same rest

pub known_classes : (unit : CompilationUnit) → (table (known_part unit)).classes ≡ (table unit).classes
unfolding table
known_classes unit = ap (λ rows. builtin.classes ++ rows) (rows_same unit unit)

pub known_methods_are : (unit : CompilationUnit) → (table (known_part unit)).methods ≡ builtin.methods ++ class_by_class (methods_of unit) (known_part unit)
unfolding table
known_methods_are unit = ap (λ rows. builtin.methods ++ rows) (known_methods_by_class unit)
