-- Operators, casts and assignments are refused where their operands are none that they take.
use Rattle.std.proofs.Common.{◌≡◌, ap, sym, subst, refl, ℕ, zero, suc, Bool, true, false, List, ◌∷◌, Option, Some, ◌⊎◌, inl, inr}
use Rattle.std.specs.Prelude.{◌&&◌, not, option_and_then, if◌then◌else◌}
use Rattle.std.specs.Prelude.{None as Absent}
use Rattle.wy_kernel.specs.Form as kernel
use Rattle.wy_kernel.specs.declared.operator.Primitive.{Primitive}
use Rattle.wy_kernel.specs.declared.operator.Primitive.TheVariants as prim
use Rattle.wy_kernel.specs.declared.operator.UnOp.{UnOp}
use Rattle.wy_kernel.specs.declared.operator.BinOp.{BinOp}
use Rattle.wy_kernel.specs.declared.operator.BinOp.TheVariants.{Eq, Ne}
use Rattle.wy_kernel.specs.declared.types.Base.TheVariants.{Primitive as Basic, Class as Named}
use Rattle.wy_kernel.specs.declared.types.Ty.{Ty}
use Rattle.wy_kernel.specs.declared.types.Ty.TheVariants.{Void, Null, Of}
use Rattle.wy_kernel.specs.declared.form.CondForm.{CondForm}
use Rattle.wy_kernel.specs.Table.{Table, ConstantValue}
use Rattle.wy_value.specs.Operator.{is_equality, is_logical}
use Rattle.wy_constant.specs.declared.rule.Rule.TheVariants.{BadAssign}
use Rattle.wy_constant.specs.Constant.{combined, choice_constant}
use Rattle.wy_elab_expr.specs.Meaning.{Meaning, Known, Formed, type_of, give, refuse, ◌>>=◌, brought}
use Rattle.wy_elab_expr.specs.Operators.{Judgement, Settles, primitive_in, is_void, is_nullable, is_boolean, number_type, both_numbers, wide, booleans as both_booleans, boolean_type, OperandTypes, of_one_type, of_references, or_else, operand_types, joins, unary_type, unary_known, unary_formed, unary_of, binary_known, binary_formed, joined, binary_of, token_of, truth_known, constant_of, lazy_formed, lazy_of, choice_result, choice_formed, choice_of, can_cast, cast_known, cast_form, cast_of, tested, instance_of, is_assignable}
use Rattle.wy_elab_expr.specs.Members.{Spot, int_type}
use Rattle.wy_elab_expr.specs.Elaboration.{is_index, element_of, element_at, element_spot, sizes_of, assigned_value, assigned, adds_text, left_primitive, updated_in, updated_by, updated, stepped_in, stepped}
use Rattle.wy_typing.specs.Types.{IsNullable}
use Rattle.law_refusals.specs.Operands.{IsNumber, IsIndex, CastsTo, MayAssign, TakesOne, Takes, TakesInto, Chooses}
use Rattle.law_refusals.specs.Operands as operands
use Rattle.law_refusals.specs.ExpressionLaws.{Given}
use Rattle.law_refusals.proofs.Tests.{both_true, first_true, second_true, void_is, not_void, is_number, nullable_is, no_primitive}
use Rattle.law_refusals.proofs.Exact.{casts_exact, assignments_exact, unary_exact, binary_exact, updates_exact, choices_exact, boolean_is}
use Rattle.law_refusals.proofs.Never.{Never, never_refuse, never_if, never_then, never_else, never_bind, never_first, never_known_or}
use Rattle.law_refusals.proofs.Constants.{unary_fold, binary_fold, truth_is, combined_left, combined_right, choice_fold, cast_fold}

-- ---- tests

pub false_by : (b : Bool) → (b ≡ true → ⊥) → b ≡ false
false_by true h = absurd (h refl)
false_by false h = refl

pub absent_by : {X : Type 0} (o : Option X) → (Given o → ⊥) → o ≡ Absent
absent_by (Some x) h = absurd (h (x, refl))
absent_by Absent h = refl

pub not_boolean : (ty : Ty) → (ty ≡ boolean_type → ⊥) → is_boolean ty ≡ false
not_boolean ty h = false_by (is_boolean ty) (λ e. h (boolean_is ty e))

index_is : (ty : Ty) → is_index ty ≡ true → IsIndex ty
index_is (Of (Basic prim.Byte) zero) e = (tt, λ h. cc)
index_is (Of (Basic prim.Short) zero) e = (tt, λ h. cc)
index_is (Of (Basic prim.Char) zero) e = (tt, λ h. cc)
index_is (Of (Basic prim.Int) zero) e = (tt, λ h. cc)
index_is (Of (Basic prim.Long) zero) e = absurd (cc)
index_is (Of (Basic prim.Bool) zero) e = absurd (cc)
index_is (Of (Basic p) (suc n)) e = absurd (cc)
index_is (Of (Named c) n) e = absurd (cc)
index_is Void e = absurd (cc)
index_is Null e = absurd (cc)

not_index : (ty : Ty) → (IsIndex ty → ⊥) → is_index ty ≡ false
not_index ty h = false_by (is_index ty) (λ e. h (index_is ty e))

pub void_true : (m : Meaning) → type_of m ≡ Void → is_void (type_of m) ≡ true
void_true m e = ap is_void e

-- ---- operators

unary_known_takes : (op : UnOp) (m : Meaning) (v : ConstantValue) → unary_known op m ≡ Some v → TakesOne op (type_of m)
unary_known_takes op (Known c token) v e = unary_fold op c v e
unary_known_takes op (Formed form ty) v e = absurd (cc)

never_unary_formed : (op : UnOp) (o : Option Primitive) (m : Meaning) (token : ℕ) → o ≡ Absent → Never (unary_formed op o m token)
never_unary_formed op (Some p) m token e = absurd (cc)
never_unary_formed op Absent m token e = never_refuse

pub never_unary : (op : UnOp) (m : Meaning) (token : ℕ) → (TakesOne op (type_of m) → ⊥) → Never (unary_of op m token)
unfolding unary_of
never_unary op m token n =
    never_known_or (unary_known op m) token (λ v e. n (unary_known_takes op m v e))
    (never_unary_formed op (unary_type op (type_of m)) m token (absent_by (unary_type op (type_of m)) (λ h. n ((unary_exact op (type_of m)).0 h))))

binary_known_takes : (t : Table) (op : BinOp) (a b : Meaning) (v : ConstantValue) → binary_known op a b ≡ Some v → Takes t op (type_of a) (type_of b)
binary_known_takes t op (Known a x) (Known b y) v e = binary_fold t op a b v e
binary_known_takes t op (Known a x) (Formed form ty) v e = absurd (cc)
binary_known_takes t op (Formed form ty) b v e = absurd (cc)

never_binary_formed : (op : BinOp) (o : Option OperandTypes) (a b : Meaning) (token : ℕ) → o ≡ Absent → Never (binary_formed op o a b token)
never_binary_formed op (Some p) a b token e = absurd (cc)
never_binary_formed op Absent a b token e = never_refuse

never_choice_formed : (o : Option Ty) (z a b : Meaning) (token : ℕ) → o ≡ Absent → Never (choice_formed o z a b token)
never_choice_formed (Some ty) z a b token e = absurd (cc)
never_choice_formed Absent z a b token e = never_refuse

choice_known : (test : Option Bool) (a b : Meaning) (v : ConstantValue) → choice_constant test (constant_of a) (constant_of b) ≡ Some v → Chooses (type_of a) (type_of b)
unfolding choice_constant
choice_known (Some x) (Known a k) (Known b l) v e = choice_fold x a b v e
choice_known (Some x) (Known a k) (Formed form ty) v e = absurd (cc)
choice_known (Some x) (Formed form ty) b v e = absurd (cc)
choice_known Absent a b v e = absurd (cc)

test_known : (test : Option Bool) (a b : Option ConstantValue) (v : ConstantValue) → choice_constant test a b ≡ Some v → Given test
unfolding choice_constant
test_known (Some x) a b v e = (x, refl)
test_known Absent a b v e = absurd (cc)

pub never_lazy_left : (form : CondForm) (f : Bool → Bool → Bool) (a b : Meaning) (token : ℕ) → (type_of a ≡ boolean_type → ⊥) → Never (lazy_of form f a b token)
unfolding lazy_of
never_lazy_left form f a b token n =
    never_known_or (combined f (truth_known a) (truth_known b)) (token_of a) (λ v e. (let h = combined_left f (truth_known a) (truth_known b) v e in n (truth_is a h.0 h.1)))
    (never_else (is_boolean (type_of a) && is_boolean (type_of b)) (lazy_formed form a b token)
    (false_by (is_boolean (type_of a) && is_boolean (type_of b)) (λ e. n (boolean_is (type_of a) (first_true (is_boolean (type_of a)) (is_boolean (type_of b)) e)))) never_refuse)

pub never_lazy_right : (form : CondForm) (f : Bool → Bool → Bool) (a b : Meaning) (token : ℕ) → (type_of b ≡ boolean_type → ⊥) → Never (lazy_of form f a b token)
unfolding lazy_of
never_lazy_right form f a b token n =
    never_known_or (combined f (truth_known a) (truth_known b)) (token_of a) (λ v e. (let h = combined_right f (truth_known a) (truth_known b) v e in n (truth_is b h.0 h.1)))
    (never_else (is_boolean (type_of a) && is_boolean (type_of b)) (lazy_formed form a b token)
    (false_by (is_boolean (type_of a) && is_boolean (type_of b)) (λ e. n (boolean_is (type_of b) (second_true (is_boolean (type_of a)) (is_boolean (type_of b)) e)))) never_refuse)

pub never_choice_test : (j : Judgement) (t : Table) (z a b : Meaning) (token : ℕ) → (type_of z ≡ boolean_type → ⊥) → Never (choice_of j t z a b token)
unfolding choice_of
never_choice_test j t z a b token n =
    never_known_or (choice_constant (truth_known z) (constant_of a) (constant_of b)) (token_of z) (λ v e. (let h = test_known (truth_known z) (constant_of a) (constant_of b) v e in n (truth_is z h.0 h.1)))
    (never_else (is_boolean (type_of z)) _ (not_boolean (type_of z) n) never_refuse)

pub never_choice : (j : Judgement) (t : Table) (z a b : Meaning) (token : ℕ) → (Chooses (type_of a) (type_of b) → ⊥) → Never (choice_of j t z a b token)
unfolding choice_of
never_choice j t z a b token n =
    let found : Option Ty = choice_result j t a (primitive_in (type_of a)) b (primitive_in (type_of b)) in
    never_known_or (choice_constant (truth_known z) (constant_of a) (constant_of b)) (token_of z) (λ v e. n (choice_known (truth_known z) a b v e))
    (never_if {b = is_boolean (type_of z)} (λ e. never_choice_formed found z a b token (absent_by found (λ h. n ((choices_exact t j a b).0 h)))) (λ e. never_refuse))

-- ---- `+=` and its like

first_number : (o p : Option Primitive) (q : Primitive) → wide o p ≡ Some q → Given o
first_number (Some x) p q e = (x, refl)
first_number Absent p q e = absurd (cc)

second_number : (o p : Option Primitive) (q : Primitive) → wide o p ≡ Some q → Given p
second_number o (Some x) q e = (x, refl)
second_number (Some prim.Bool) Absent q e = absurd (cc)
second_number (Some prim.Byte) Absent q e = absurd (cc)
second_number (Some prim.Short) Absent q e = absurd (cc)
second_number (Some prim.Char) Absent q e = absurd (cc)
second_number (Some prim.Int) Absent q e = absurd (cc)
second_number (Some prim.Long) Absent q e = absurd (cc)
second_number Absent Absent q e = absurd (cc)

into_numbers : (op : BinOp) (a b : Ty) (q : Primitive) → both_numbers a b ≡ Some q → TakesInto op a b
into_numbers op a b q e =
    let h = first_number (number_type a) (number_type b) q e in
    let k = second_number (number_type a) (number_type b) q e in
    operands.TakesInto.numbers (is_number a h.0 h.1) (is_number b k.0 k.1)

into_booleans : (op : BinOp) (a b : Ty) → is_logical op ≡ true → (is_boolean a && is_boolean b) ≡ true → TakesInto op a b
into_booleans op a b l e =
    let C : Ty → Type 0 = λ z. TakesInto op z b in
    let D : Ty → Type 0 = λ z. TakesInto op boolean_type z in
    subst C (sym (boolean_is a (first_true (is_boolean a) (is_boolean b) e))) (subst D (sym (boolean_is b (second_true (is_boolean a) (is_boolean b) e))) (operands.TakesInto.booleans l))

abbrev LeftPrimitive : Option OperandTypes → Type 0
LeftPrimitive o = Given (option_and_then (λ z. primitive_in z.left) o)

no_left : LeftPrimitive Absent → ⊥
no_left h = let e : Absent ≡ Some h.0 = h.1 in cc

-- references are compared, and are no primitive values
no_reference : (j : Judgement) (t : Table) (a b : Ty) (x : Bool) → (is_nullable a && is_nullable b && can_cast j t a b) ≡ x → LeftPrimitive (if x then Some (record { left = a; right = b; outcome = boolean_type }) else Absent) → ⊥
no_reference j t a b true e h =
    let nullable = nullable_is a (first_true (is_nullable a) (is_nullable b) (first_true (is_nullable a && is_nullable b) (can_cast j t a b) e)) in
    let is : primitive_in a ≡ Some h.0 = h.1 in
    let none : primitive_in a ≡ Absent = no_primitive a nullable in
    cc
no_reference j t a b false e h = no_left h

boolean_into : (j : Judgement) (t : Table) (op : BinOp) (a b : Ty) → is_logical op ≡ true → (x : Bool) → (is_boolean a && is_boolean b) ≡ x →
    LeftPrimitive (or_else (of_one_type boolean_type (if x then Some prim.Bool else Absent)) (of_references j t a b)) → TakesInto op a b
boolean_into j t op a b l true e h = into_booleans op a b l e
boolean_into j t op a b l false e h = absurd (no_reference j t a b (is_nullable a && is_nullable b && can_cast j t a b) refl h)

equality_into : (j : Judgement) (t : Table) (op : BinOp) (a b : Ty) → is_logical op ≡ true → (o : Option Primitive) → both_numbers a b ≡ o →
    LeftPrimitive (or_else (of_one_type boolean_type o) (or_else (of_one_type boolean_type (both_booleans a b)) (of_references j t a b))) → TakesInto op a b
equality_into j t op a b l (Some q) e h = into_numbers op a b q e
equality_into j t op a b l Absent e h = boolean_into j t op a b l (is_boolean a && is_boolean b) refl h

-- `==` and `!=` are no operators of compound assignments, but would be judged alike
into_by : (j : Judgement) (t : Table) (op : BinOp) (a b : Ty) → (b ≡ Void → ⊥) → (x : Bool) → is_equality op ≡ x → (adds_text op a b ≡ true) ⊎ Given (left_primitive j t op a b) → TakesInto op a b
unfolding operand_types
into_by j t op a b v false e h = (updates_exact t j op a b e v).0 h
into_by j t Eq a b v true e (inl h) = absurd (cc)
into_by j t Ne a b v true e (inl h) = absurd (cc)
into_by j t Eq a b v true e (inr h) = equality_into j t Eq a b refl (both_numbers a b) refl h
into_by j t Ne a b v true e (inr h) = equality_into j t Ne a b refl (both_numbers a b) refl h
into_by j t _ a b v true e h = absurd (cc)

module _ (j : Judgement) (t : Table) (g : Settles t j) where
  into : (op : BinOp) (a b : Ty) → (b ≡ Void → ⊥) → (adds_text op a b ≡ true) ⊎ Given (left_primitive j t op a b) → TakesInto op a b
  into op a b v h = into_by j t op a b v (is_equality op) refl h

  pub never_binary : (op : BinOp) (a b : Meaning) (token : ℕ) → (Takes t op (type_of a) (type_of b) → ⊥) → Never (binary_of j t op a b token)
  unfolding binary_of
  never_binary op a b token n =
      let exact = (binary_exact t j g op (type_of a) (type_of b)).0 in
      never_known_or (binary_known op a b) (token_of a) (λ v e. n (binary_known_takes t op a b v e))
      (never_else (joins op (type_of a) (type_of b)) (joined a b token) (false_by (joins op (type_of a) (type_of b)) (λ e. n (exact (inl e))))
      (never_binary_formed op (operand_types j t op (type_of a) (type_of b)) a b token (absent_by (operand_types j t op (type_of a) (type_of b)) (λ h. n (exact (inr h))))))

  -- ---- casts

  pub never_cast_of_void : (to : Ty) (m : Meaning) (token : ℕ) → type_of m ≡ Void → Never (cast_of j t to m token)
  unfolding cast_of
  never_cast_of_void to m token e = never_then (is_void (type_of m)) _ (void_true m e) never_refuse

  pub never_cast : (to : Ty) (m : Meaning) (token : ℕ) → (CastsTo t (type_of m) to → ⊥) → Never (cast_of j t to m token)
  unfolding cast_of
  never_cast to m token n =
      never_if {b = is_void (type_of m)} (λ e. never_refuse)
      (λ e. never_known_or (cast_known to m) token (λ v k. n (cast_fold t to m v k))
      (never_else (can_cast j t (type_of m) to) (cast_form to (primitive_in to) m token) (false_by (can_cast j t (type_of m) to) (λ k. n ((casts_exact t j g (type_of m) to).0 k))) never_refuse))

  pub never_instance_of_void : (to : Ty) (m : Meaning) (token : ℕ) → type_of m ≡ Void → Never (instance_of j t to m token)
  unfolding instance_of
  never_instance_of_void to m token e = never_then (is_void (type_of m)) _ (void_true m e) never_refuse

  pub never_instance : (to : Ty) (m : Meaning) (token : ℕ) → (IsNullable (type_of m) × IsNullable to × CastsTo t (type_of m) to → ⊥) → Never (instance_of j t to m token)
  unfolding instance_of
  never_instance to m token n =
      let a : Bool = is_nullable (type_of m) in
      let b : Bool = is_nullable to in
      let d : Bool = can_cast j t (type_of m) to in
      never_if {b = is_void (type_of m)} (λ e. never_refuse)
      (λ e. never_else (a && b && d) (tested to m)
      (false_by (a && b && d) (λ k. n (nullable_is (type_of m) (first_true a b (first_true (a && b) d k)), nullable_is to (second_true a b (first_true (a && b) d k)), (casts_exact t j g (type_of m) to).0 (second_true (a && b) d k)))) never_refuse)

  -- ---- assignment

  pub never_value_of_void : (ty : Ty) (m : Meaning) (token : ℕ) → type_of m ≡ Void → Never (assigned_value j ty m token)
  unfolding assigned_value
  never_value_of_void ty m token e = never_then (is_void (type_of m)) _ (void_true m e) never_refuse

  pub never_value : (ty : Ty) (m : Meaning) (token : ℕ) → (type_of m ≡ Void → ⊥) → (MayAssign t ty m → ⊥) → Never (assigned_value j ty m token)
  unfolding assigned_value
  never_value ty m token valued n =
      never_if {b = is_void (type_of m)} (λ e. never_refuse)
      (λ e. never_else (is_assignable j ty m) (brought ty m) (false_by (is_assignable j ty m) (λ k. n ((assignments_exact t j g ty m valued).0 k))) never_refuse)

  pub never_assigned_none : (m : Meaning) (token : ℕ) → Never (assigned j Absent m token)
  unfolding assigned
  never_assigned_none m token = never_refuse

  pub never_assigned : (p : Spot) (m : Meaning) (token : ℕ) → Never (assigned_value j p.ty m token) → Never (assigned j (Some p) m token)
  unfolding assigned
  never_assigned p m token n = never_if {b = p.is_fixed && not (is_void (type_of m))} (λ e. never_refuse) (λ e. never_first (λ x. give (Formed (kernel.Set p.place x token) p.ty)) n)

  pub never_assigned_void : (o : Option Spot) (m : Meaning) (token : ℕ) → type_of m ≡ Void → Never (assigned j o m token)
  never_assigned_void (Some p) m token e = never_assigned p m token (never_value_of_void p.ty m token e)
  never_assigned_void Absent m token e = never_assigned_none m token

  fixed_by : (p : Spot) (m : Meaning) (token : ℕ) → p.is_fixed ≡ true → (b : Bool) → is_void (type_of m) ≡ b →
      Never (if p.is_fixed && not b then refuse BadAssign token else (assigned_value j p.ty m token >>= λ e. give (Formed (kernel.Set p.place e token) p.ty)))
  fixed_by p m token e true v = never_if {b = p.is_fixed && false} (λ k. never_refuse) (λ k. never_first (λ x. give (Formed (kernel.Set p.place x token) p.ty)) (never_value_of_void p.ty m token (void_is (type_of m) v)))
  fixed_by p m token e false v = never_then (p.is_fixed && true) _ (both_true e refl) never_refuse

  pub never_assigned_fixed : (p : Spot) (m : Meaning) (token : ℕ) → p.is_fixed ≡ true → Never (assigned j (Some p) m token)
  unfolding assigned
  never_assigned_fixed p m token e = fixed_by p m token e (is_void (type_of m)) refl

  pub never_updated_none : (op : BinOp) (m : Meaning) (token : ℕ) → Never (updated j t op Absent m token)
  unfolding updated
  never_updated_none op m token = never_refuse

  pub never_updated_void : (op : BinOp) (p : Spot) (m : Meaning) (token : ℕ) → type_of m ≡ Void → Never (updated j t op (Some p) m token)
  unfolding updated
  never_updated_void op p m token e = never_then (is_void (type_of m)) _ (void_true m e) never_refuse

  pub never_updated_of_void : (op : BinOp) (o : Option Spot) (m : Meaning) (token : ℕ) → type_of m ≡ Void → Never (updated j t op o m token)
  never_updated_of_void op (Some p) m token e = never_updated_void op p m token e
  never_updated_of_void op Absent m token e = never_updated_none op m token

  never_by_primitive : (o : Option Primitive) (op : BinOp) (p : Spot) (m : Meaning) (token : ℕ) → o ≡ Absent → Never (updated_by o op p m token)
  never_by_primitive (Some q) op p m token e = absurd (cc)
  never_by_primitive Absent op p m token e = never_refuse

  pub never_updated : (op : BinOp) (p : Spot) (m : Meaning) (token : ℕ) → (TakesInto op p.ty (type_of m) → ⊥) → Never (updated j t op (Some p) m token)
  unfolding updated
  never_updated op p m token n =
      never_if {b = is_void (type_of m)} (λ e. never_refuse)
      (λ e. never_else (adds_text op p.ty (type_of m)) (updated_in op Absent p m token) (false_by (adds_text op p.ty (type_of m)) (λ k. n (into op p.ty (type_of m) (not_void (type_of m) e) (inl k))))
      (never_by_primitive (left_primitive j t op p.ty (type_of m)) op p m token (absent_by (left_primitive j t op p.ty (type_of m)) (λ h. n (into op p.ty (type_of m) (not_void (type_of m) e) (inr h))))))

  never_in_fixed : (op : BinOp) (o : Option Primitive) (p : Spot) (m : Meaning) (token : ℕ) → p.is_fixed ≡ true → Never (updated_in op o p m token)
  never_in_fixed op o p m token e = never_then p.is_fixed _ e never_refuse

  never_by_fixed : (o : Option Primitive) (op : BinOp) (p : Spot) (m : Meaning) (token : ℕ) → p.is_fixed ≡ true → Never (updated_by o op p m token)
  never_by_fixed (Some q) op p m token e = never_in_fixed op (Some q) p m token e
  never_by_fixed Absent op p m token e = never_refuse

  pub never_updated_fixed : (op : BinOp) (p : Spot) (m : Meaning) (token : ℕ) → p.is_fixed ≡ true → Never (updated j t op (Some p) m token)
  unfolding updated
  never_updated_fixed op p m token e =
      never_if {b = is_void (type_of m)} (λ v. never_refuse)
      (λ v. never_if {b = adds_text op p.ty (type_of m)} (λ k. never_in_fixed op Absent p m token e) (λ k. never_by_fixed (left_primitive j t op p.ty (type_of m)) op p m token e))

-- ---- `++` and `--`

pub never_stepped_none : (is_before is_up : Bool) (token : ℕ) → Never (stepped is_before is_up Absent token)
unfolding stepped
never_stepped_none is_before is_up token = never_refuse

never_step_in : (o : Option Primitive) (op : BinOp) (old : Bool) (p : Spot) (token : ℕ) → o ≡ Absent → Never (stepped_in o op old p token)
never_step_in (Some q) op old p token e = absurd (cc)
never_step_in Absent op old p token e = never_refuse

pub never_stepped : (is_before is_up : Bool) (p : Spot) (token : ℕ) → (IsNumber p.ty → ⊥) → Never (stepped is_before is_up (Some p) token)
unfolding stepped
never_stepped is_before is_up p token n = never_step_in (number_type p.ty) _ (not is_before) p token (absent_by (number_type p.ty) (λ h. n (is_number p.ty h.0 h.1)))

never_step_fixed : (o : Option Primitive) (op : BinOp) (old : Bool) (p : Spot) (token : ℕ) → p.is_fixed ≡ true → Never (stepped_in o op old p token)
never_step_fixed (Some q) op old p token e = never_then p.is_fixed _ e never_refuse
never_step_fixed Absent op old p token e = never_refuse

pub never_stepped_fixed : (is_before is_up : Bool) (p : Spot) (token : ℕ) → p.is_fixed ≡ true → Never (stepped is_before is_up (Some p) token)
unfolding stepped
never_stepped_fixed is_before is_up p token e = never_step_fixed (number_type p.ty) _ (not is_before) p token e

-- ---- elements and sizes

never_element_at_none : (o : Option Ty) (a i : Meaning) (token : ℕ) → o ≡ Absent → Never (element_at o a i token)
never_element_at_none (Some ty) a i token e = absurd (cc)
never_element_at_none Absent a i token e = never_refuse

pub never_element_of_none : (a i : Meaning) (token : ℕ) → element_of (type_of a) ≡ Absent → Never (element_spot a i token)
unfolding element_spot
never_element_of_none a i token e = never_element_at_none (element_of (type_of a)) a i token e

never_element_at : (o : Option Ty) (a i : Meaning) (token : ℕ) → is_index (type_of i) ≡ false → Never (element_at o a i token)
never_element_at (Some ty) a i token e = never_else (is_index (type_of i)) _ e never_refuse
never_element_at Absent a i token e = never_refuse

pub never_element : (a i : Meaning) (token : ℕ) → (IsIndex (type_of i) → ⊥) → Never (element_spot a i token)
unfolding element_spot
never_element a i token n = never_element_at (element_of (type_of a)) a i token (not_index (type_of i) n)

-- some size is no index
pub data HasNoIndex : List Meaning → Type 0 where
  here : {m : Meaning} {rest : List Meaning} → (IsIndex (type_of m) → ⊥) → HasNoIndex (m ∷ rest)
  later : {m : Meaning} {rest : List Meaning} → HasNoIndex rest → HasNoIndex (m ∷ rest)

pub never_sizes : (ms : List Meaning) (token : ℕ) → HasNoIndex ms → Never (sizes_of ms token)
unfolding sizes_of
never_sizes _ token (here {m = m} n) = never_else (is_index (type_of m)) _ (not_index (type_of m) n) never_refuse
never_sizes _ token (later {m = m} {rest = rest} h) =
    never_if {b = is_index (type_of m)}
    (λ e. never_bind (brought int_type m) (λ x. sizes_of rest token >>= λ xs. give (kernel.more x xs)) (λ x u v is. never_first (λ xs. give (kernel.more x xs)) (never_sizes rest token h)))
    (λ e. never_refuse)
