-- Each rule of elaboration makes forms that have their types.
use Rattle.std.proofs.Common.{◌≡◌, ℕ, zero, suc, Bool, true, false, refl, sym, subst, List, [], ◌∷◌, length, Option, Some, None, ◌⊎◌, inl, inr, if◌then◌else◌, ◌&&◌, ◌||◌, not, replicate}
use Rattle.std.specs.Prelude.{option_map, option_and_then, codes, bytes_eq}
use Rattle.wy_kernel.specs.declared.operator.Primitive.{Primitive}
use Rattle.wy_kernel.specs.declared.operator.Primitive.TheVariants as prim
use Rattle.wy_kernel.specs.declared.operator.BinOp.{BinOp}
use Rattle.wy_kernel.specs.declared.operator.BinOp.TheVariants as binary
use Rattle.wy_kernel.specs.declared.types.Base.{Base}
use Rattle.wy_kernel.specs.declared.types.Base.TheVariants.{Primitive as Basic, Class as Named}
use Rattle.wy_kernel.specs.declared.types.Ty.{Ty}
use Rattle.wy_kernel.specs.declared.types.Ty.TheVariants.{Void, Null, Of}
use Rattle.wy_kernel.specs.declared.form.LibOp.TheVariants as lib
use Rattle.wy_kernel.specs.Form as kernel
use Rattle.wy_kernel.specs.Program.{Program}
use Rattle.wy_kernel.specs.Subtyping.{to_object, primitive_type, class_type, object_type}
use Rattle.wy_kernel.specs.Table.{Table, IsTypeOf, ConstantValue}
use Rattle.wy_value.specs.Operator.{is_comparison}
use Rattle.wy_tree.specs.Seen.{Tok}
use Rattle.wy_syntax.specs.Syntax as source
use Rattle.wy_syntax.specs.Syntax.{WrittenType}
use Rattle.wy_constant.specs.declared.rule.Rule.TheVariants.{UnknownName, BadOperand, BadAssign, NotOffered}
use Rattle.wy_constant.specs.Scope.{Scope}
use Rattle.wy_constant.specs.Fields.{class_named}
use Rattle.wy_constant.specs.Constant.{literal}
use Rattle.wy_overloads.specs.Lineage.{HasTop}
use Rattle.wy_elab_expr.specs.Meaning.{Meaning, Known, Formed, type_of, text_type, Gets, give, ◌>>=◌, brought, formed}
use Rattle.wy_elab_expr.specs.Operators.{Judgement, is_void, is_text_type, number_type, primitive_in, fits_into, is_assignable, OperandTypes, operand_types}
use Rattle.wy_elab_expr.specs.Members.{Spot, spot, field_spot, qualified_spot, some_void, int_type, called, Object, OfClass, text_methods, value_of_methods, integer_methods, math_methods, is_library_name, library_call}
use Rattle.wy_elab_expr.specs.Elaboration.{named_type, type_with, type_written, literal_or_null, literal_meaning, ClassName, Stream, Input, Output, class_methods, is_of_texts, called_on_known, called_on_class, called_on, byte_read, printed_type, is_printed, Printed, printed, is_print, some_printed, print_operand, called_on_stream, is_index, element_of, element_at, element_spot, sizes_of, assigned_value, assigned, is_object_type, adds_text, updated_in, left_primitive, updated_by, updated, stepped_in, stepped, is_an_array, field_target, is_limit, class_target, just, Listing, or_type}
use Rattle.wy_typing.specs.Types as types
use Rattle.wy_typing.specs.Types.{IsValueType, IsVariableType, IsPrinted, Fits, Joins}
use Rattle.wy_typing.specs.Expressions as typing
use Rattle.wy_typing.specs.Expressions.{HasType, Gives, GivesAll, IsPlace}
use Rattle.wy_typing.specs.Programs.{IsTypeIn}
use Rattle.law_typed.specs.ExpressionsWritten.{IsName}
use Rattle.law_typed.specs.ExpressionsTyped.{table_of, Stands, HasItsType}
use Rattle.law_typed.proofs.Bringing.{top_of, the_same, nothing_there, none_of, both_true, Brings, brings_below, brings_promoted, not_void, index_of, promoted_of, is_primitive, primitive_value}
use Rattle.law_typed.proofs.Finding.{class_within}
use Rattle.law_typed.proofs.Operations.{either_true, not_true, below, IsExact, Updates, operands}
use Rattle.law_typed.proofs.Operating as operating
use Rattle.law_typed.proofs.Naming as naming
use Rattle.law_typed.proofs.Calling as calling
use Rattle.law_typed.proofs.Ranges.{array_of_known}
use Rattle.law_typed.proofs.Sequence.{Sound, next, given, none_found, under, so, if_either}

module _ (p : Program) (constants : List (Option ConstantValue)) (j : Judgement) (locals : List Ty) (s : Scope) (g : Stands p constants j locals s) where
  abbrev T : Table
  T = table_of p constants

  abbrev n : ℕ
  n = length p.fixed_texts

  abbrev pub Fit : Meaning → Type 0
  Fit = operating.Fit p constants j locals s g

  abbrev pub AllFit : List Meaning → Type 0
  AllFit = calling.AllFit p constants j locals s g

  abbrev pub SpotFits : Spot → Type 0
  SpotFits = naming.SpotFits p constants j locals s g

  abbrev pub Has : Ty → kernel.Expression → Type 0
  Has ty e = HasType p locals e ty

  abbrev pub GivesTo : Ty → kernel.Expression → Type 0
  GivesTo ty e = Gives p locals e ty

  top : HasTop p.classes
  top = top_of T g.table

  its : (e : kernel.Expression) (ty : Ty) → Has ty e → HasItsType p locals e ty
  its e ty h = (ty, h, inl refl)

  -- ---- written types and literals

  -- a type of so many pairs of brackets
  abbrev pub IsWith : ℕ → Ty → Type 0
  IsWith brackets ty = (b : Base) × (ty ≡ Of b brackets) × IsTypeIn p ty

  named_type_sound : (name : List ℕ) (o : Option ℕ) (brackets token : ℕ) → class_named T.classes name ≡ o → Sound n Unit (IsWith brackets) (named_type o brackets token)
  named_type_sound name (Some c) brackets token e = given (IsWith brackets) (Of (Named c) brackets) (λ u. (Named c, refl, record { variable = tt; known = class_within p.classes name c e }))
  named_type_sound name None brackets token e = none_found (IsWith brackets) UnknownName token

  pub type_with_sound : (base : source.Base) (brackets token : ℕ) → Sound n Unit (IsWith brackets) (type_with T base brackets token)
  type_with_sound (source.Basic q) brackets token = given (IsWith brackets) (Of (Basic q) brackets) (λ u. (Basic q, refl, record { variable = tt; known = tt }))
  type_with_sound (source.Class name) brackets token = named_type_sound name (class_named T.classes name) brackets token refl

  pub type_written_sound : (ty : WrittenType) → Sound n Unit (IsTypeIn p) (type_written T ty)
  unfolding type_written
  type_written_sound ty = so (IsWith ty.brackets) (IsTypeIn p) (type_with T ty.base ty.brackets ty.token) (type_with_sound ty.base ty.brackets ty.token) (λ u x h. h.2)

  literal_by : (o : Option ConstantValue) (token : ℕ) → Sound n Unit Fit (literal_or_null (option_map (λ c. Known c token) o))
  literal_by (Some c) token = given Fit (Known c token) (λ u. tt)
  literal_by None token = given Fit (Formed (kernel.Const kernel.Null) Null) (λ u. its (kernel.Const kernel.Null) Null typing.constant)

  pub literal_sound : (value : Tok) (token : ℕ) → Sound n Unit Fit (literal_meaning value token)
  unfolding literal_meaning
  literal_sound value token = literal_by (literal value) token

  -- ---- calls

  on_known : (o : Option ℕ) (name : List ℕ) (ms : List Meaning) (token : ℕ) → IsName name → Sound n (AllFit ms) Fit (called_on_known j T s o name ms token)
  on_known (Some c) name ms token ok = under Fit (called j T s OfClass (class_type c) name ms token) (λ h. (h, tt)) (calling.called_sound p constants j locals s g OfClass (class_type c) name ms token ok)
  on_known None name ms token ok = none_found Fit NotOffered token

  class_methods_sound : (class name : List ℕ) (ms : List Meaning) (token : ℕ) → Sound n (AllFit ms) Fit (library_call j (class_methods class) None name ms token)
  class_methods_sound class name ms token = by (bytes_eq class (codes "Integer")) (bytes_eq class (codes "Math")) (bytes_eq class (codes "String"))
    where
      by : (x y z : Bool) → Sound n (AllFit ms) Fit (library_call j (if x then integer_methods else (if y then math_methods else (if z then value_of_methods else []))) None name ms token)
      by true y z = under Fit (library_call j integer_methods None name ms token) (λ h. (h, refl)) (calling.library_sound p constants j locals s g [] integer_methods None name ms token (calling.integer_offered p constants j locals s g))
      by false true z = under Fit (library_call j math_methods None name ms token) (λ h. (h, refl)) (calling.library_sound p constants j locals s g [] math_methods None name ms token (calling.math_offered p constants j locals s g))
      by false false true = under Fit (library_call j value_of_methods None name ms token) (λ h. (h, refl)) (calling.library_sound p constants j locals s g [] value_of_methods None name ms token (calling.value_of_offered p constants j locals s g))
      by false false false = under Fit (library_call j [] None name ms token) (λ h. (h, refl)) (calling.library_sound p constants j locals s g [] [] None name ms token tt)

  pub on_class_sound : (class : ClassName) (name : List ℕ) (ms : List Meaning) (token : ℕ) → IsName name → Sound n (AllFit ms) Fit (called_on_class j T s class name ms token)
  unfolding called_on_class
  on_class_sound class name ms token ok =
      if_either Fit (is_of_texts class.name name) _ _ (λ e. none_found Fit _ token)
      (λ e. if_either Fit (is_library_name class.name || bytes_eq class.name (codes "String")) _ _ (λ f. class_methods_sound class.name name ms token)
      (λ f. on_known (class_named T.classes class.name) name ms token ok))

  pub on_sound : (m : Meaning) (name : List ℕ) (ms : List Meaning) (token : ℕ) → IsName name → Sound n (Fit m × AllFit ms) Fit (called_on j T s m name ms token)
  unfolding called_on
  on_sound m name ms token ok =
      if_either Fit (is_void (type_of m)) _ _ (λ e. none_found Fit BadOperand token)
      (λ e. if_either Fit (is_text_type (type_of m)) _ _
      (λ f. next (Has (type_of m)) (formed m) (λ object. library_call j text_methods (Some object) name ms token)
      (operating.formed_sound p constants j locals s g m (λ h. (h.0, not_void (type_of m) e)))
      (λ object. under Fit (library_call j text_methods (Some object) name ms token)
      (λ h. (let P : Ty → Type 0 = λ x. Has x object in (h.0.1, (text_type, refl, subst P (operating.is_text (type_of m) f) h.1))))
      (calling.library_sound p constants j locals s g (text_type ∷ []) text_methods (Some object) name ms token (calling.text_offered p constants j locals s g))))
      (λ f. next (Has (type_of m)) (formed m) (λ object. called j T s (Object object) (type_of m) name ms token)
      (operating.formed_sound p constants j locals s g m (λ h. (h.0, not_void (type_of m) e)))
      (λ object. under Fit (called j T s (Object object) (type_of m) name ms token) (λ h. (h.0.1, h.1)) (calling.called_sound p constants j locals s g (Object object) (type_of m) name ms token ok))))

  byte_sound : (name : List ℕ) (ms : List Meaning) (token : ℕ) → Sound n (AllFit ms) Fit (byte_read name ms token)
  byte_sound name [] token = if_either Fit (bytes_eq name (codes "read")) _ _ (λ e. given Fit (Formed (kernel.Lib lib.ReadByte kernel.none token) int_type) (λ h. its _ int_type (typing.offered types.read_byte typing.nothing))) (λ e. none_found Fit NotOffered token)
  byte_sound name (m ∷ ms) token = none_found Fit _ token

  -- what is printed
  abbrev pub PrintedFits : Printed → Type 0
  PrintedFits x = IsPrinted x.ty × Has x.ty x.form

  -- nothing, where only the end of a line is written
  abbrev pub OptionPrinted : List ℕ → Option Printed → Type 0
  OptionPrinted name None = bytes_eq name (codes "println") ≡ true
  OptionPrinted name (Some x) = PrintedFits x

  abbrev Prints : Ty → Type 0
  Prints a = IsPrinted (printed_type a) × Brings p.classes a (printed_type a) × IsExact a (printed_type a)

  prints : (a : Ty) → is_void a ≡ false → is_printed a ≡ true → Prints a
  prints Void v e = absurd (cc)
  prints Null v e = none_of e
  prints (Of (Named c) k) v e = (tt, inl (inl refl), inl refl)
  prints (Of (Basic prim.Byte) zero) v e = (tt, inr (prim.Byte, prim.Int, refl, refl, tt, tt), inr (prim.Int, refl))
  prints (Of (Basic prim.Short) zero) v e = (tt, inr (prim.Short, prim.Int, refl, refl, tt, tt), inr (prim.Int, refl))
  prints (Of (Basic prim.Char) (suc zero)) v e = none_of e
  prints (Of (Basic prim.Char) zero) v e = (tt, inl (inl refl), inl refl)
  prints (Of (Basic prim.Char) (suc (suc k))) v e = (tt, inl (inl refl), inl refl)
  prints (Of (Basic prim.Byte) (suc k)) v e = (tt, inl (inl refl), inl refl)
  prints (Of (Basic prim.Short) (suc k)) v e = (tt, inl (inl refl), inl refl)
  prints (Of (Basic prim.Bool) k) v e = (tt, inl (inl refl), inl refl)
  prints (Of (Basic prim.Int) k) v e = (tt, inl (inl refl), inl refl)
  prints (Of (Basic prim.Long) k) v e = (tt, inl (inl refl), inl refl)

  printed_sound : (m : Meaning) (token : ℕ) → Sound n (Fit m) PrintedFits (printed m token)
  unfolding printed
  printed_sound m token =
      if_either PrintedFits (is_void (type_of m)) _ _ (λ e. none_found PrintedFits BadOperand token)
      (λ e. if_either PrintedFits (is_printed (type_of m)) _ _
      (λ f. (let k = prints (type_of m) e f in
      next (Has (printed_type (type_of m))) (brought (printed_type (type_of m)) m) (λ x. give (record { form = x; ty = printed_type (type_of m) }))
      (operating.brought_having p constants j locals s g (printed_type (type_of m)) m k.2 (λ h. (h, (not_void (type_of m) e, inl k.1))))
      (λ x. given PrintedFits (record { form = x; ty = printed_type (type_of m) }) (λ h. (k.0, h.1)))))
      (λ f. none_found PrintedFits NotOffered token))

  pub print_operand_sound : (name : List ℕ) (ms : List Meaning) (token : ℕ) → Sound n (AllFit ms) (OptionPrinted name) (print_operand name ms token)
  unfolding print_operand
  print_operand_sound name [] token = if_either (OptionPrinted name) (bytes_eq name (codes "println")) _ _ (λ e. given (OptionPrinted name) None (λ h. e)) (λ e. none_found (OptionPrinted name) _ token)
  print_operand_sound name (m ∷ []) token =
      if_either (OptionPrinted name) (is_print name) _ _
      (λ e. next PrintedFits (printed m token) some_printed (under PrintedFits (printed m token) (λ h. h.0) (printed_sound m token)) (λ x. given (OptionPrinted name) (Some x) (λ h. h.1)))
      (λ e. none_found (OptionPrinted name) _ token)
  print_operand_sound name (m ∷ m2 ∷ ms) token = none_found (OptionPrinted name) _ token

  pub on_stream_sound : (stream : Stream) (name : List ℕ) (ms : List Meaning) (token : ℕ) → Sound n (AllFit ms) Fit (called_on_stream stream name ms token)
  on_stream_sound Input name ms token = if_either Fit (some_void ms) _ _ (λ e. none_found Fit BadOperand token) (λ e. byte_sound name ms token)
  on_stream_sound Output name ms token =
      next (OptionPrinted name) (print_operand name ms token) (λ x. give (Formed (kernel.Const kernel.Null) Void)) (print_operand_sound name ms token)
      (λ x. given Fit (Formed (kernel.Const kernel.Null) Void) (λ h. (Null, typing.constant, inr refl)))

  -- ---- elements and sizes of arrays

  -- an array of elements of the type
  abbrev pub IsArrayOf : Ty → Ty → Type 0
  IsArrayOf a ty = (b : Base) × (k : ℕ) × (a ≡ Of b (suc k)) × (ty ≡ Of b k)

  pub array_of : (a ty : Ty) → element_of a ≡ Some ty → IsArrayOf a ty
  array_of (Of b (suc k)) ty e = (b, k, refl, sym (the_same e))
  array_of (Of b zero) ty e = nothing_there e
  array_of Void ty e = nothing_there e
  array_of Null ty e = nothing_there e

  index_taken : (m : Meaning) → is_index (type_of m) ≡ true → operating.IsTaken p constants j locals s g int_type m
  index_taken m e = let k = index_of (type_of m) e in (primitive_value (type_of m) k.0 k.1, inl (brings_promoted p.classes (type_of m) k.0 prim.Int k.1 k.2))

  element_typed : (a ty : Ty) (x i : kernel.Expression) (token : ℕ) → IsArrayOf a ty → Has a x → Has int_type i → IsPlace p locals (kernel.Elem x i token) ty
  element_typed a ty x i token h u v =
      let P : Ty → Type 0 = λ y. Has y x in let Q : Ty → Type 0 = λ y. IsPlace p locals (kernel.Elem x i token) y in
      subst Q (sym h.3) (typing.element (subst P h.2 u) v)

  element_by : (o : Option Ty) (a i : Meaning) (token : ℕ) → element_of (type_of a) ≡ o → Sound n (Fit a × Fit i) SpotFits (element_at o a i token)
  element_by None a i token e = none_found SpotFits BadOperand token
  element_by (Some ty) a i token e =
      let k = array_of (type_of a) ty e in
      if_either SpotFits (is_index (type_of i)) _ _
      (λ f. next (Has (type_of a)) (formed a) (λ x. brought int_type i >>= λ y. give (spot (kernel.Elem x y token) ty false))
      (operating.formed_sound p constants j locals s g a (λ h. (h.0, subst IsValueType (sym k.2) tt)))
      (λ x. next (Has int_type) (brought int_type i) (λ y. give (spot (kernel.Elem x y token) ty false))
      (operating.brought_exact p constants j locals s g prim.Int i (λ h. (h.0.1, index_taken i f)))
      (λ y. given SpotFits (spot (kernel.Elem x y token) ty false) (λ h. element_typed (type_of a) ty x y token k h.0.1 h.1))))
      (λ f. none_found SpotFits BadOperand token)

  pub element_sound : (a i : Meaning) (token : ℕ) → Sound n (Fit a × Fit i) SpotFits (element_spot a i token)
  unfolding element_spot
  element_sound a i token = element_by (element_of (type_of a)) a i token refl

  pub sizes_sound : (ms : List Meaning) (token : ℕ) → Sound n (AllFit ms) (λ r. GivesAll p locals r (replicate (length ms) int_type)) (sizes_of ms token)
  unfolding sizes_of
  sizes_sound [] token = given (λ r. GivesAll p locals r []) kernel.none (λ h. typing.nothing)
  sizes_sound (m ∷ ms) token =
      if_either (λ r. GivesAll p locals r (replicate (length (m ∷ ms)) int_type)) (is_index (type_of m)) _ _
      (λ f. next (GivesTo int_type) (brought int_type m) (λ x. sizes_of ms token >>= λ xs. give (kernel.more x xs))
      (operating.brought_sound p constants j locals s g int_type m (λ h. (h.0, index_taken m f)))
      (λ x. next (λ r. GivesAll p locals r (replicate (length ms) int_type)) (sizes_of ms token) (λ xs. give (kernel.more x xs))
      (under (λ r. GivesAll p locals r (replicate (length ms) int_type)) (sizes_of ms token) (λ h. h.0.1) (sizes_sound ms token))
      (λ xs. given (λ r. GivesAll p locals r (replicate (length (m ∷ ms)) int_type)) (kernel.more x xs) (λ h. typing.and_more h.0.1 h.1))))
      (λ f. none_found (λ r. GivesAll p locals r (replicate (length (m ∷ ms)) int_type)) BadOperand token)

  -- ---- assignment

  pub assignable : (to : Ty) (m : Meaning) → is_assignable j to m ≡ true → operating.IsTaken p constants j locals s g to m
  unfolding is_assignable
  assignable to m e =
      let h = both_true (not (is_void (type_of m))) _ e in
      (not_void (type_of m) (not_true (is_void (type_of m)) h.0), taken_by (either_true (j.below (type_of m) to) (fits_into to m) h.1))
    where
      taken_by : (j.below (type_of m) to ≡ true) ⊎ (fits_into to m ≡ true) → Brings p.classes (type_of m) to ⊎ (fits_into to m ≡ true)
      taken_by (inl e) = inl (brings_below p.classes top (below T j g.settled (type_of m) to e))
      taken_by (inr e) = inr e

  pub assigned_value_sound : (ty : Ty) (m : Meaning) (token : ℕ) → Sound n (Fit m) (GivesTo ty) (assigned_value j ty m token)
  unfolding assigned_value
  assigned_value_sound ty m token =
      if_either (GivesTo ty) (is_void (type_of m)) _ _ (λ e. none_found (GivesTo ty) BadOperand token)
      (λ e. if_either (GivesTo ty) (is_assignable j ty m) _ _ (λ f. operating.brought_sound p constants j locals s g ty m (λ h. (h, assignable ty m f))) (λ f. none_found (GivesTo ty) BadAssign token))

  -- the variable that an expression is, if it is one
  abbrev pub OptionSpot : Option Spot → Type 0
  OptionSpot None = Unit {0}
  OptionSpot (Some x) = SpotFits x

  pub assigned_sound : (o : Option Spot) (m : Meaning) (token : ℕ) → Sound n (OptionSpot o × Fit m) Fit (assigned j o m token)
  unfolding assigned
  assigned_sound None m token = none_found Fit _ token
  assigned_sound (Some x) m token =
      if_either Fit (x.is_fixed && not (is_void (type_of m))) _ _ (λ e. none_found Fit BadAssign token)
      (λ e. next (GivesTo x.ty) (assigned_value j x.ty m token) (λ v. give (Formed (kernel.Set x.place v token) x.ty))
      (under (GivesTo x.ty) (assigned_value j x.ty m token) (λ h. h.1) (assigned_value_sound x.ty m token))
      (λ v. given Fit (Formed (kernel.Set x.place v token) x.ty) (λ h. its _ x.ty (typing.assigned h.0.0 h.1))))

  -- ---- compound assignment

  abbrev Adds : BinOp → Ty → Ty → Type 0
  Adds op a b = (op ≡ binary.Add) × Joins a b × Fits p.classes text_type a

  object_is : (a : Ty) → is_object_type a ≡ true → a ≡ object_type
  object_is (Of (Named zero) zero) e = refl
  object_is (Of (Named zero) (suc k)) e = none_of e
  object_is (Of (Named (suc c)) k) e = none_of e
  object_is (Of (Basic q) k) e = none_of e
  object_is Void e = none_of e
  object_is Null e = none_of e

  adds_by : (a b : Ty) → IsValueType b → (is_text_type a ≡ true) ⊎ (is_object_type a && is_text_type b ≡ true) → Adds binary.Add a b
  adds_by a b v (inl e) = let is = operating.is_text a e in (refl, inl (is, v), inl (sym is))
  adds_by a b v (inr e) =
      let h = both_true (is_object_type a) _ e in let is = object_is a h.0 in
      let P : Ty → Type 0 = λ x. Fits p.classes text_type x in
      (refl, inr (subst IsValueType (sym is) tt, operating.is_text b h.1), subst P (sym is) (inr (tt, to_object tt)))

  adds : (op : BinOp) (a b : Ty) → IsValueType b → adds_text op a b ≡ true → Adds op a b
  adds binary.Add a b v e = adds_by a b v (either_true (is_text_type a) _ e)
  adds _ a b v e = none_of e

  extended_typed : (op : BinOp) (x : Spot) (ty : Ty) (e : kernel.Expression) (token : ℕ) → Adds op x.ty ty → SpotFits x → Has ty e → Has x.ty (kernel.Upd x.place op (kernel.the e) ty x.ty None false token)
  extended_typed op x ty e token h u v = let P : BinOp → Type 0 = λ o. Has x.ty (kernel.Upd x.place o (kernel.the e) ty x.ty None false token) in subst P (sym h.0) (typing.extended u v h.1 h.2)

  updated_typed : (op : BinOp) (w : Primitive) (x : Spot) (ty : Ty) (e : kernel.Expression) (token : ℕ) → Updates T j g.settled op x.ty ty w → SpotFits x → Has ty e → Has x.ty (kernel.Upd x.place op (kernel.the e) ty x.ty (Some w) false token)
  updated_typed op w x ty e token h u v =
      let P : Ty → Ty → Type 0 = λ a b. Has a (kernel.Upd x.place op (kernel.the e) b a (Some w) false token) in
      let S : Ty → Type 0 = λ a. IsPlace p locals x.place a in let V : Ty → Type 0 = λ a. Has a e in
      subst (λ (a : Ty). P a ty) (sym h.2) (subst (λ (b : Ty). P (primitive_type h.0) b) (sym h.3) (typing.updated (subst S h.2 u) (subst V h.3 v) h.4))

  in_sound : (op : BinOp) (w : Option Primitive) (x : Spot) (m : Meaning) (token : ℕ) → IsValueType (type_of m) → ((e : kernel.Expression) → SpotFits x → Has (type_of m) e → Has x.ty (kernel.Upd x.place op (kernel.the e) (type_of m) x.ty w false token)) →
      Sound n (SpotFits x × Fit m) Fit (updated_in op w x m token)
  in_sound op w x m token v h =
      if_either Fit x.is_fixed _ _ (λ e. none_found Fit BadAssign token)
      (λ e. next (Has (type_of m)) (formed m) (λ y. give (Formed (kernel.Upd x.place op (kernel.the y) (type_of m) x.ty w false token) x.ty))
      (operating.formed_sound p constants j locals s g m (λ u. (u.1, v)))
      (λ y. given Fit (Formed (kernel.Upd x.place op (kernel.the y) (type_of m) x.ty w false token) x.ty) (λ u. its _ x.ty (h y u.0.0 u.1))))

  updates_by : (op : BinOp) (a b : Ty) (o : Option OperandTypes) (w : Primitive) → is_comparison op ≡ false → operand_types j T op a b ≡ o → option_and_then (λ (x : OperandTypes). primitive_in x.left) o ≡ Some w → Updates T j g.settled op a b w
  updates_by op a b None w c e f = nothing_there f
  updates_by op a b (Some o) w c e f = (operands T j g.settled op a b o e).updates c w (is_primitive o.left w f)

  by_sound : (op : BinOp) (o : Option Primitive) (x : Spot) (m : Meaning) (token : ℕ) → IsValueType (type_of m) → is_comparison op ≡ false → left_primitive j T op x.ty (type_of m) ≡ o → Sound n (SpotFits x × Fit m) Fit (updated_by o op x m token)
  by_sound op None x m token v c e = none_found Fit BadOperand token
  by_sound op (Some w) x m token v c e =
      in_sound op (Some w) x m token v (λ y u k. updated_typed op w x (type_of m) y token (updates_by op x.ty (type_of m) (operand_types j T op x.ty (type_of m)) w c refl e) u k)

  pub updated_sound : (op : BinOp) (o : Option Spot) (m : Meaning) (token : ℕ) → is_comparison op ≡ false → Sound n (OptionSpot o × Fit m) Fit (updated j T op o m token)
  unfolding updated
  updated_sound op None m token c = none_found Fit _ token
  updated_sound op (Some x) m token c =
      if_either Fit (is_void (type_of m)) _ _ (λ e. none_found Fit BadOperand token)
      (λ e. (let v = not_void (type_of m) e in
      if_either Fit (adds_text op x.ty (type_of m)) _ _
      (λ f. in_sound op None x m token v (λ y u k. extended_typed op x (type_of m) y token (adds op x.ty (type_of m) v f) u k))
      (λ f. by_sound op (left_primitive j T op x.ty (type_of m)) x m token v c refl)))

  step_op : (is_up : Bool) → ((if is_up then binary.Add else binary.Sub) ≡ binary.Add) ⊎ ((if is_up then binary.Add else binary.Sub) ≡ binary.Sub)
  step_op true = inl refl
  step_op false = inr refl

  step_by : (o : Option Primitive) (is_up gives_old : Bool) (x : Spot) (token : ℕ) → number_type x.ty ≡ o → Sound n (SpotFits x) Fit (stepped_in o (if is_up then binary.Add else binary.Sub) gives_old x token)
  step_by None is_up gives_old x token e = none_found Fit BadOperand token
  step_by (Some w) is_up gives_old x token e =
      let k = promoted_of x.ty w e in
      let P : Ty → Type 0 = λ a. Has a (kernel.Upd x.place (if is_up then binary.Add else binary.Sub) kernel.absent int_type a (Some w) gives_old token) in
      let S : Ty → Type 0 = λ a. IsPlace p locals x.place a in
      if_either Fit x.is_fixed _ _ (λ f. none_found Fit BadAssign token)
      (λ f. given Fit (Formed (kernel.Upd x.place (if is_up then binary.Add else binary.Sub) kernel.absent int_type x.ty (Some w) gives_old token) x.ty)
      (λ h. its _ x.ty (subst P (sym k.1) (typing.stepped (subst S k.1 h) (step_op is_up) k.2))))

  pub stepped_sound : (is_before is_up : Bool) (o : Option Spot) (token : ℕ) → Sound n (OptionSpot o) Fit (stepped is_before is_up o token)
  unfolding stepped
  stepped_sound is_before is_up None token = none_found Fit BadOperand token
  stepped_sound is_before is_up (Some x) token = step_by (number_type x.ty) is_up (not is_before) x token refl

  -- ---- targets

  pub some_sound : {H : Type 0} (m : Gets Spot) → Sound n H SpotFits m → Sound n H OptionSpot (just m)
  some_sound m h = next SpotFits m (λ x. give (Some x)) h (λ x. given OptionSpot (Some x) (λ u. u.1))

  pub field_target_sound : (m : Meaning) (name : List ℕ) (token : ℕ) → Sound n (Fit m) OptionSpot (field_target T s m name token)
  unfolding field_target
  field_target_sound m name token =
      if_either OptionSpot (is_an_array (type_of m) && bytes_eq name (codes "length")) _ _ (λ e. given OptionSpot None (λ u. tt))
      (λ e. some_sound (field_spot T s m (type_of m) name token) (naming.field_spot_sound p constants j locals s g m (type_of m) name token refl))

  pub class_target_sound : (class : ClassName) (name : List ℕ) (token : ℕ) → Sound n Unit OptionSpot (class_target T s class name token)
  unfolding class_target
  class_target_sound class name token =
      if_either OptionSpot (is_limit class.name name) _ _ (λ e. given OptionSpot None (λ u. tt))
      (λ e. some_sound (qualified_spot T s class.name name class.token token) (naming.qualified_spot_sound p constants j locals s g class.name name class.token token))

  -- ---- elements in braces

  abbrev pub ListingFits : Ty → Listing → Type 0
  ListingFits ty all = GivesAll p locals all.forms (replicate (length all.sites) ty)

  pub element_type_sound : (o : Option Ty) (a : Ty) (token : ℕ) → element_of a ≡ o → Sound n Unit (IsArrayOf a) (or_type o token)
  element_type_sound (Some ty) a token e = given (IsArrayOf a) ty (λ u. array_of a ty e)
  element_type_sound None a token e = none_found (IsArrayOf a) BadAssign token

  pub filled_typed : (a ty : Ty) (all : Listing) (token : ℕ) → IsTypeOf (length p.classes) a → IsArrayOf a ty → ListingFits ty all → Has a (kernel.NewArray a kernel.none all.forms all.sites token)
  filled_typed a ty all token known h k =
      let P : Ty → Type 0 = λ x. Has x (kernel.NewArray x kernel.none all.forms all.sites token) in
      let Q : Ty → Type 0 = λ x. ListingFits x all in let R : Ty → Type 0 = λ x. IsTypeOf (length p.classes) x in
      subst P (sym h.2) (typing.filled (array_of_known p constants g.table h.0 (suc h.1) h.1 (subst R h.2 known)) (subst Q h.3 k))

  pub element_known : (a ty : Ty) → IsTypeOf (length p.classes) a → IsArrayOf a ty → IsTypeIn p ty
  element_known a ty known h =
      let P : Ty → Type 0 = λ x. IsTypeIn p x in let R : Ty → Type 0 = λ x. IsTypeOf (length p.classes) x in
      subst P (sym h.3) (record { variable = tt; known = array_of_known p constants g.table h.0 (suc h.1) h.1 (subst R h.2 known) })

  pub more_brackets : (b : Base) (k m : ℕ) → IsTypeOf (length p.classes) (Of b k) → IsTypeOf (length p.classes) (Of b m)
  more_brackets b k m h = array_of_known p constants g.table b k m h
