-- Where operators, casts, assignments and elements are refused, their expression breaks the rule.
use Rattle.std.proofs.Common.{◌≡◌, ap, refl, ℕ, Bool, true, false, List, [], ◌∷◌, Option, Some, inl, inr}
use Rattle.std.specs.Prelude.{◌&&◌, not, if◌then◌else◌}
use Rattle.std.specs.Prelude.{None as Absent}
use Rattle.std.specs.List.{Contains}
use Rattle.wy_kernel.specs.declared.operator.Primitive.{Primitive}
use Rattle.wy_kernel.specs.declared.operator.UnOp.{UnOp}
use Rattle.wy_kernel.specs.declared.operator.BinOp.{BinOp}
use Rattle.wy_kernel.specs.declared.operator.BinOp.TheVariants.{Add, Sub}
use Rattle.wy_kernel.specs.declared.types.Ty.{Ty}
use Rattle.wy_kernel.specs.declared.types.Ty.TheVariants.{Void}
use Rattle.wy_kernel.specs.declared.form.CondForm.{CondForm}
use Rattle.wy_kernel.specs.Form as kernel
use Rattle.wy_kernel.specs.Table.{Table}
use Rattle.wy_syntax.specs.Syntax.{WrittenType, Expression, Row, Base, Unary, Binary, Choice, Cast, InstanceOf, Assign, Update, Step, Element, NewArray}
use Rattle.wy_constant.specs.declared.rule.Rule.{Rule}
use Rattle.wy_constant.specs.declared.rule.Rule.TheVariants.{BadOperand, BadAssign, BadCast}
use Rattle.wy_constant.specs.Refusal.{Refusal, refused}
use Rattle.wy_constant.specs.Scope.{Scope}
use Rattle.wy_elab_expr.specs.Meaning.{Meaning, Formed, type_of, Gets, give, refuse, ◌>>=◌, brought, formed}
use Rattle.wy_elab_expr.specs.Operators.{Judgement, Settles, OperandTypes, primitive_in, is_void, is_nullable, is_boolean, number_type, unary_type, unary_formed, unary_of, unary_known, operand_types, joins, joined, binary_known, binary_formed, binary_of, token_of, lazy_of, lazy_formed, choice_of, choice_formed, choice_result, known_or, cast_of, cast_form, cast_known, can_cast, instance_of, tested, is_assignable, truth_known, constant_of}
use Rattle.wy_elab_expr.specs.Members.{Spot, spot, int_type}
use Rattle.wy_elab_expr.specs.Elaboration.{assigned_value, assigned, updated, updated_in, updated_by, stepped, stepped_in, adds_text, left_primitive, element_spot, element_at, element_of, is_index, is_int_number, sizes_of}
use Rattle.wy_constant.specs.Constant.{combined, choice_constant}
use Rattle.wy_typing.specs.Types.{IsNullable}
use Rattle.law_refusals.specs.Operands.{IsIndex, CastsTo, MayAssign, Takes, TakesInto}
use Rattle.law_refusals.specs.Found.{IsFound, AreFound, Denotes, IsType}
use Rattle.law_refusals.specs.Breaches.{ExpressionBreaks, Needs, Decides, Assigns, Changes}
use Rattle.law_refusals.specs.Breaches as way
use Rattle.law_refusals.proofs.Walk.{Only, only_give, only_refuse, only_if, only_bind, only_brought, only_formed, only_known_or, walk}
use Rattle.law_refusals.proofs.Tests.{false_not_true, one_false, both_true, first_true, no_number, void_is, not_void, not_boolean, is_index_type, nullable_true}
use Rattle.law_refusals.proofs.Casts.{cast_true}
use Rattle.law_refusals.proofs.Contained.{contains_here, contains_later}
use Rattle.law_refusals.specs.ExpressionLaws.{Given}
use Rattle.law_refusals.proofs.Taken.{assign_true, one_taken, taken, taken_into, chosen}

abbrev pub Blamed : Judgement → Table → Scope → Expression → Refusal → Type 0
Blamed j t s e x = ExpressionBreaks j t s e x.rule x.token

none_given : {X : Type 0} {o : Option X} → o ≡ Absent → Given o → ⊥
none_given e g = let k : _ ≡ Some g.0 = g.1 in cc

pub only_refuse_if : {A : Type 0} {P : Refusal → Type 0} (b : Bool) (q r : Rule) {n : ℕ} → (b ≡ true → P (refused q n)) → (b ≡ false → P (refused r n)) → Only {A = A} P (refuse (if b then q else r) n)
only_refuse_if true q r f g = only_refuse (f refl)
only_refuse_if false q r f g = only_refuse (g refl)

-- ---- forms that are never refused

unary_never : {P : Refusal → Type 0} (op : UnOp) (p : Primitive) (m : Meaning) (token : ℕ) → Only P (unary_formed op (Some p) m token)
unary_never op p m token = search walk depth 12

binary_never : {P : Refusal → Type 0} (op : BinOp) (o : OperandTypes) (a b : Meaning) (token : ℕ) → Only P (binary_formed op (Some o) a b token)
binary_never op o a b token = search walk depth 12

joined_never : {P : Refusal → Type 0} (a b : Meaning) (token : ℕ) → Only P (joined a b token)
joined_never a b token = search walk depth 12

lazy_never : {P : Refusal → Type 0} (form : CondForm) (a b : Meaning) (token : ℕ) → Only P (lazy_formed form a b token)
lazy_never form a b token = search walk depth 12

choice_never : {P : Refusal → Type 0} (ty : Ty) (test a b : Meaning) (token : ℕ) → Only P (choice_formed (Some ty) test a b token)
choice_never ty test a b token = search walk depth 14

cast_never : {P : Refusal → Type 0} (to : Ty) (o : Option Primitive) (m : Meaning) (token : ℕ) → Only P (cast_form to o m token)
cast_never to (Some p) m token = search walk depth 12
cast_never to Absent m token = search walk depth 12

tested_never : {P : Refusal → Type 0} (ty : Ty) (m : Meaning) → Only P (tested ty m)
tested_never ty m = search walk depth 12

module _ (j : Judgement) (t : Table) (s : Scope) (g : Settles t j) where
  -- ---- one operand

  unary_by : (op : UnOp) (operand : Expression) (token : ℕ) (m : Meaning) → IsFound j t s operand m → (o : Option Primitive) → unary_type op (type_of m) ≡ o → Only (Blamed j t s (Unary op operand token)) (unary_formed op o m token)
  unary_by op operand token m f (Some p) e = unary_never op p m token
  unary_by op operand token m f Absent e = only_refuse (way.unary f (λ takes. none_given e (one_taken takes)))

  pub unary_only : (op : UnOp) (operand : Expression) (token : ℕ) (m : Meaning) → IsFound j t s operand m → Only (Blamed j t s (Unary op operand token)) (unary_of op m token)
  unfolding unary_of
  unary_only op operand token m f = only_known_or (unary_known op m) token (λ none. unary_by op operand token m f (unary_type op (type_of m)) refl)

  -- ---- two operands

  not_taken : {op : BinOp} {a b : Ty} → joins op a b ≡ false → operand_types j t op a b ≡ Absent → Takes t op a b → ⊥
  not_taken {op} {a} {b} none absent takes = elim (taken j t g takes) [ inl e ↦ (let f : joins op a b ≡ true = e in cc) | inr o ↦ none_given absent o ]

  binary_by : (op : BinOp) (left right : Expression) (token : ℕ) (a b : Meaning) → IsFound j t s left a → IsFound j t s right b → joins op (type_of a) (type_of b) ≡ false →
      (o : Option OperandTypes) → operand_types j t op (type_of a) (type_of b) ≡ o → Only (Blamed j t s (Binary op left right token)) (binary_formed op o a b token)
  binary_by op left right token a b f h none (Some o) e = binary_never op o a b token
  binary_by op left right token a b f h none Absent e = only_refuse (way.binary f h (not_taken none e))

  pub binary_only : (op : BinOp) (left right : Expression) (token : ℕ) (a b : Meaning) → IsFound j t s left a → IsFound j t s right b → Only (Blamed j t s (Binary op left right token)) (binary_of j t op a b token)
  unfolding binary_of
  binary_only op left right token a b f h =
      let formed_by : (joins op (type_of a) (type_of b) ≡ false) → Only (Blamed j t s (Binary op left right token)) (binary_formed op (operand_types j t op (type_of a) (type_of b)) a b token) =
      λ none. binary_by op left right token a b f h none (operand_types j t op (type_of a) (type_of b)) refl in
      only_known_or (binary_known op a b) (token_of a)
      (λ none. only_if {b = joins op (type_of a) (type_of b)} {m = joined a b token} {n = binary_formed op (operand_types j t op (type_of a) (type_of b)) a b token} (λ e. joined_never a b token) formed_by)

  lazy_blamed : {e left right : Expression} {token : ℕ} {a b : Meaning} → Decides e left token → Decides e right token → IsFound j t s left a → IsFound j t s right b →
      (is_boolean (type_of a) && is_boolean (type_of b)) ≡ false → ExpressionBreaks j t s e BadOperand token
  lazy_blamed {a = a} {b = b} d k f h none = elim (one_false (is_boolean (type_of a)) (is_boolean (type_of b)) none) [ inl e ↦ way.condition d f (not_boolean (type_of a) e) | inr e ↦ way.condition k h (not_boolean (type_of b) e) ]

  pub lazy_only : (e left right : Expression) (token : ℕ) (a b : Meaning) (form : CondForm) (f : Bool → Bool → Bool) → Decides e left token → Decides e right token → IsFound j t s left a → IsFound j t s right b →
      Only (Blamed j t s e) (lazy_of form f a b token)
  unfolding lazy_of
  lazy_only e left right token a b form f d k l r =
      only_known_or (combined f (truth_known a) (truth_known b)) (token_of a)
      (λ none. only_if {b = is_boolean (type_of a) && is_boolean (type_of b)} {m = lazy_formed form a b token} {n = refuse BadOperand token} (λ e. lazy_never form a b token) (λ e. only_refuse (lazy_blamed d k l r e)))

  choice_by : (test main other : Expression) (token : ℕ) (z a b : Meaning) → IsFound j t s main a → IsFound j t s other b →
      (o : Option Ty) → choice_result j t a (primitive_in (type_of a)) b (primitive_in (type_of b)) ≡ o → Only (Blamed j t s (Choice test main other token)) (choice_formed o z a b token)
  choice_by test main other token z a b f h (Some ty) e = choice_never ty z a b token
  choice_by test main other token z a b f h Absent e = only_refuse (way.choice f h (λ c. none_given e (chosen j t a b c)))

  pub choice_only : (test main other : Expression) (token : ℕ) (z a b : Meaning) → IsFound j t s test z → IsFound j t s main a → IsFound j t s other b → Only (Blamed j t s (Choice test main other token)) (choice_of j t z a b token)
  unfolding choice_of
  choice_only test main other token z a b d f h =
      only_known_or (choice_constant (truth_known z) (constant_of a) (constant_of b)) (token_of z)
      (λ none. only_if {b = is_boolean (type_of z)} {m = choice_formed (choice_result j t a (primitive_in (type_of a)) b (primitive_in (type_of b))) z a b token} {n = refuse BadOperand token}
      (λ e. choice_by test main other token z a b f h (choice_result j t a (primitive_in (type_of a)) b (primitive_in (type_of b))) refl) (λ e. only_refuse (way.condition way.test d (not_boolean (type_of z) e))))

  -- ---- casts and `instanceof`

  no_cast : {a b : Ty} → can_cast j t a b ≡ false → CastsTo t a b → ⊥
  no_cast {a} {b} e c = let f : can_cast j t a b ≡ true = cast_true j t g c in cc

  cast_valued : (ty : WrittenType) (operand : Expression) (token : ℕ) (to : Ty) (m : Meaning) → IsType t ty.base ty.brackets to → IsFound j t s operand m → is_void (type_of m) ≡ false →
      Only (Blamed j t s (Cast ty operand token)) (if can_cast j t (type_of m) to then cast_form to (primitive_in to) m token else refuse BadCast token)
  cast_valued ty operand token to m is f valued =
      only_if {b = can_cast j t (type_of m) to} {m = cast_form to (primitive_in to) m token} {n = refuse BadCast token}
      (λ e. cast_never to (primitive_in to) m token) (λ e. only_refuse (way.IsBadCast.cast is f (not_void (type_of m) valued) (no_cast e)))

  pub cast_only : (ty : WrittenType) (operand : Expression) (token : ℕ) (to : Ty) (m : Meaning) → IsType t ty.base ty.brackets to → IsFound j t s operand m → Only (Blamed j t s (Cast ty operand token)) (cast_of j t to m token)
  unfolding cast_of
  cast_only ty operand token to m is f =
      let inner : Gets Meaning = if can_cast j t (type_of m) to then cast_form to (primitive_in to) m token else refuse BadCast token in
      only_if {b = is_void (type_of m)} {m = refuse BadOperand token} {n = known_or (cast_known to m) token inner}
      (λ e. only_refuse (way.void_operand way.Needs.cast f (void_is (type_of m) e)))
      (λ valued. only_known_or (cast_known to m) token (λ none. cast_valued ty operand token to m is f valued))

  not_tested : {a to : Ty} → (is_nullable a && is_nullable to && can_cast j t a to) ≡ false → IsNullable a × IsNullable to × CastsTo t a to → ⊥
  not_tested {a} {to} e h =
      let f : (is_nullable a && is_nullable to && can_cast j t a to) ≡ true = both_true (both_true (nullable_true a h.0) (nullable_true to h.1)) (cast_true j t g h.2) in cc

  pub instance_only : (ty : WrittenType) (left : Expression) (token : ℕ) (to : Ty) (m : Meaning) → IsType t ty.base ty.brackets to → IsFound j t s left m → Only (Blamed j t s (InstanceOf left ty token)) (instance_of j t to m token)
  unfolding instance_of
  instance_only ty left token to m is f =
      let may : Bool = is_nullable (type_of m) && is_nullable to && can_cast j t (type_of m) to in
      only_if {b = is_void (type_of m)} {m = refuse BadOperand token} {n = if may then tested to m else refuse BadCast token}
      (λ e. only_refuse (way.void_operand way.Needs.tested f (void_is (type_of m) e)))
      (λ valued. only_if {b = may} {m = tested to m} {n = refuse BadCast token} (λ e. tested_never to m) (λ e. only_refuse (way.IsBadCast.tested is f (not_void (type_of m) valued) (not_tested e))))

  -- ---- assignment

  pub value_only : {P : Refusal → Type 0} (ty : Ty) (m : Meaning) (token : ℕ) → (type_of m ≡ Void → P (refused BadOperand token)) → ((type_of m ≡ Void → ⊥) → (MayAssign t ty m → ⊥) → P (refused BadAssign token)) →
      Only P (assigned_value j ty m token)
  unfolding assigned_value
  value_only ty m token void bad =
      only_if {b = is_void (type_of m)} {m = refuse BadOperand token} {n = if is_assignable j ty m then brought ty m else refuse BadAssign token}
      (λ e. only_refuse (void (void_is (type_of m) e)))
      (λ valued. only_if {b = is_assignable j ty m} {m = brought ty m} {n = refuse BadAssign token} (λ e. only_brought ty m)
      (λ e. only_refuse (bad (not_void (type_of m) valued) (λ may. let f : is_assignable j ty m ≡ true = assign_true j t g (not_void (type_of m) valued) may in cc))))

  set_value : (left value : Expression) (token : ℕ) (p : Spot) (m : Meaning) → Denotes j t s left (Some p) → IsFound j t s value m → Only (Blamed j t s (Assign left value token)) (assigned_value j p.ty m token)
  set_value left value token p m d f = value_only p.ty m token (λ v. way.void_operand way.Needs.assigned f v) (λ n b. way.value d f n b)

  pub assigned_only : (left value : Expression) (token : ℕ) (p : Option Spot) (m : Meaning) → Denotes j t s left p → IsFound j t s value m → Only (Blamed j t s (Assign left value token)) (assigned j p m token)
  unfolding assigned
  assigned_only left value token Absent m d f =
      only_refuse_if (is_void (type_of m)) BadOperand BadAssign (λ e. way.void_operand way.Needs.assigned f (void_is (type_of m) e)) (λ e. way.IsBadAssign.no_variable way.set d)
  assigned_only left value token (Some p) m d f =
      only_if {b = p.is_fixed && not (is_void (type_of m))} {m = refuse BadAssign token} {n = assigned_value j p.ty m token >>= λ e. give (Formed (kernel.Set p.place e token) p.ty)}
      (λ e. only_refuse (way.fixed (way.Changes.assigned way.set) d (first_true p.is_fixed (not (is_void (type_of m))) e)))
      (λ e. only_bind (set_value left value token p m d f) (λ a u v is. only_give))

  updated_in_only : (op : BinOp) (left value : Expression) (token : ℕ) (o : Option Primitive) (p : Spot) (m : Meaning) → Denotes j t s left (Some p) → Only (Blamed j t s (Update op left value token)) (updated_in op o p m token)
  updated_in_only op left value token o p m d =
      only_if {b = p.is_fixed} {m = refuse BadAssign token} {n = formed m >>= λ e. give (Formed (kernel.Upd p.place op (kernel.the e) (type_of m) p.ty o false token) p.ty)}
      (λ e. only_refuse (way.fixed (way.Changes.assigned way.Assigns.updated) d e))
      (λ e. only_bind (only_formed m) (λ a u v is. only_give))

  not_into : (op : BinOp) (a b : Ty) → adds_text op a b ≡ false → left_primitive j t op a b ≡ Absent → TakesInto op a b → ⊥
  not_into op a b plain e takes = elim (taken_into j t takes) [ inl h ↦ false_not_true plain h | inr o ↦ none_given e o ]

  updated_by_only : (op : BinOp) (left value : Expression) (token : ℕ) (p : Spot) (m : Meaning) → Denotes j t s left (Some p) → IsFound j t s value m → adds_text op p.ty (type_of m) ≡ false →
      (o : Option Primitive) → left_primitive j t op p.ty (type_of m) ≡ o → is_void (type_of m) ≡ false → Only (Blamed j t s (Update op left value token)) (updated_by o op p m token)
  updated_by_only op left value token p m d f none (Some q) e valued = updated_in_only op left value token (Some q) p m d
  updated_by_only op left value token p m d f none Absent e valued =
      only_refuse (way.update d f (not_into op p.ty (type_of m) none e))

  pub updated_only : (op : BinOp) (left value : Expression) (token : ℕ) (p : Option Spot) (m : Meaning) → Denotes j t s left p → IsFound j t s value m → Only (Blamed j t s (Update op left value token)) (updated j t op p m token)
  unfolding updated
  updated_only op left value token Absent m d f =
      only_refuse_if (is_void (type_of m)) BadOperand BadAssign (λ e. way.void_operand way.Needs.updated f (void_is (type_of m) e)) (λ e. way.IsBadAssign.no_variable way.Assigns.updated d)
  updated_only op left value token (Some p) m d f =
      let rest : Gets Meaning = if adds_text op p.ty (type_of m) then updated_in op Absent p m token else updated_by (left_primitive j t op p.ty (type_of m)) op p m token in
      only_if {b = is_void (type_of m)} {m = refuse BadOperand token} {n = rest}
      (λ e. only_refuse (way.void_operand way.Needs.updated f (void_is (type_of m) e)))
      (λ valued. only_if {b = adds_text op p.ty (type_of m)} {m = updated_in op Absent p m token} {n = updated_by (left_primitive j t op p.ty (type_of m)) op p m token}
      (λ e. updated_in_only op left value token Absent p m d)
      (λ e. updated_by_only op left value token p m d f e (left_primitive j t op p.ty (type_of m)) refl valued))

  -- ---- `++` and `--`

  stepped_in_only : (is_before is_up : Bool) (operand : Expression) (token : ℕ) (op : BinOp) (gives_old : Bool) (p : Spot) → Denotes j t s operand (Some p) →
      (o : Option Primitive) → number_type p.ty ≡ o → Only (Blamed j t s (Step is_before is_up operand token)) (stepped_in o op gives_old p token)
  stepped_in_only is_before is_up operand token op gives_old p d Absent e = only_refuse (way.IsBadOperand.no_number d (no_number p.ty e))
  stepped_in_only is_before is_up operand token op gives_old p d (Some wide) e = only_if {b = p.is_fixed} {m = refuse BadAssign token} {n = give (Formed (kernel.Upd p.place op kernel.absent int_type p.ty (Some wide) gives_old token) p.ty)}
      (λ e. only_refuse (way.fixed way.step d e)) (λ e. only_give)

  pub stepped_only : (is_before is_up : Bool) (operand : Expression) (token : ℕ) (p : Option Spot) → Denotes j t s operand p → Only (Blamed j t s (Step is_before is_up operand token)) (stepped is_before is_up p token)
  unfolding stepped
  stepped_only is_before is_up operand token Absent d = only_refuse (way.IsBadOperand.no_variable d)
  stepped_only is_before is_up operand token (Some p) d = stepped_in_only is_before is_up operand token (if is_up then Add else Sub) (not is_before) p d (number_type p.ty) refl

  -- ---- elements and sizes of arrays

  no_index : (ty : Ty) → is_index ty ≡ false → IsIndex ty → ⊥
  no_index ty e h = let f : is_index ty ≡ true = ap is_int_number (is_index_type ty h) in cc

  element_by : (array index : Expression) (token : ℕ) (a i : Meaning) → IsFound j t s array a → IsFound j t s index i → (o : Option Ty) → element_of (type_of a) ≡ o → Only (Blamed j t s (Element array index token)) (element_at o a i token)
  element_by array index token a i f h Absent e = only_refuse (way.no_array f e)
  element_by array index token a i f h (Some ty) e =
      only_if {b = is_index (type_of i)} {m = formed a >>= λ x. brought int_type i >>= λ y. give (spot (kernel.Elem x y token) ty false)} {n = refuse BadOperand token}
      (λ e. search walk depth 12) (λ e. only_refuse (way.index h (no_index (type_of i) e)))

  pub element_only : (array index : Expression) (token : ℕ) (a i : Meaning) → IsFound j t s array a → IsFound j t s index i → Only (Blamed j t s (Element array index token)) (element_spot a i token)
  unfolding element_spot
  element_only array index token a i f h = element_by array index token a i f h (element_of (type_of a)) refl

  sizes_among : (base : Base) (at brackets token : ℕ) (sizes : Row) (all ms : List Meaning) → AreFound j t s sizes all → ((m : Meaning) → Contains ms m → Contains all m) →
      Only (Blamed j t s (NewArray base at sizes brackets token)) (sizes_of ms token)
  unfolding sizes_of
  sizes_among base at brackets token sizes all [] f within = only_give
  sizes_among base at brackets token sizes all (m ∷ rest) f within =
      only_if {b = is_index (type_of m)} {m = brought int_type m >>= λ e. sizes_of rest token >>= λ es. give (kernel.more e es)} {n = refuse BadOperand token}
      (λ e. only_bind (only_brought int_type m) (λ x u v is. only_bind (sizes_among base at brackets token sizes all rest f (λ n h. within n (contains_later m n rest h))) (λ y w z are. only_give)))
      (λ e. only_refuse (way.size f (within m (contains_here rest refl)) (no_index (type_of m) e)))

  pub sizes_only : (base : Base) (at brackets token : ℕ) (sizes : Row) (ms : List Meaning) → AreFound j t s sizes ms → Only (Blamed j t s (NewArray base at sizes brackets token)) (sizes_of ms token)
  sizes_only base at brackets token sizes ms f = sizes_among base at brackets token sizes ms ms f (λ m h. h)
