-- Types by their kinds, as tests and as facts.
use Rattle.std.proofs.Common.{◌≡◌, ◌∙◌, ap, refl, zero, suc, Bool, true, false, Some, ◌⊎◌, inl, inr}
use Rattle.std.specs.Prelude.{◌&&◌, ◌||◌, not}
use Rattle.std.specs.Prelude.{None as Absent}
use Rattle.wy_kernel.specs.declared.operator.Primitive.{Primitive}
use Rattle.wy_kernel.specs.declared.operator.Primitive.TheVariants as prim
use Rattle.wy_kernel.specs.declared.types.Base.TheVariants.{Primitive as Basic, Class as Named}
use Rattle.wy_kernel.specs.declared.types.Ty.{Ty}
use Rattle.wy_kernel.specs.declared.types.Ty.TheVariants.{Void, Null, Of}
use Rattle.wy_elab_expr.specs.Meaning.{text_type}
use Rattle.wy_elab_expr.specs.Operators.{primitive_in, is_void, is_nullable, is_boolean, is_text_type, number_type, both_numbers, wide, boolean_type}
use Rattle.wy_typing.specs.Types.{IsValueType, IsNullable}
use Rattle.law_refusals.specs.Operands.{IsNumber, IsIndex}

-- ---- tests

pub both_true : {a b : Bool} → a ≡ true → b ≡ true → (a && b) ≡ true
both_true {a = true} e f = f
both_true {a = false} e f = absurd (cc)

pub first_true : (a b : Bool) → (a && b) ≡ true → a ≡ true
first_true true b e = refl
first_true false b e = absurd (cc)

pub second_true : (a b : Bool) → (a && b) ≡ true → b ≡ true
second_true true b e = e
second_true false b e = absurd (cc)

pub left_true : {a : Bool} (b : Bool) → a ≡ true → (a || b) ≡ true
left_true {a = true} b e = refl
left_true {a = false} b e = absurd (cc)

pub right_true : (a : Bool) {b : Bool} → b ≡ true → (a || b) ≡ true
right_true true e = refl
right_true false e = e

pub one_true : (a b : Bool) → (a || b) ≡ true → (a ≡ true) ⊎ (b ≡ true)
one_true true b e = inl refl
one_true false b e = inr e

pub one_false : (a b : Bool) → (a && b) ≡ false → (a ≡ false) ⊎ (b ≡ false)
one_false true b e = inr e
one_false false b e = inl refl

pub neither_true : (a b : Bool) → (a || b) ≡ false → (a ≡ false) × (b ≡ false)
neither_true true b e = absurd (cc)
neither_true false b e = (refl, e)

pub not_false : {b : Bool} → not b ≡ true → b ≡ false
not_false {b = true} e = absurd (cc)
not_false {b = false} e = refl

pub not_true : {b : Bool} → b ≡ false → not b ≡ true
not_true {b = true} e = absurd (cc)
not_true {b = false} e = refl

pub false_not_true : {b : Bool} → b ≡ false → b ≡ true → ⊥
false_not_true e f = cc

-- ---- kinds of types

pub has_number : (ty : Ty) → IsNumber ty → (p : Primitive) × (number_type ty ≡ Some p)
has_number (Of (Basic prim.Bool) zero) h = absurd h
has_number (Of (Basic prim.Byte) zero) h = (prim.Int, refl)
has_number (Of (Basic prim.Short) zero) h = (prim.Int, refl)
has_number (Of (Basic prim.Char) zero) h = (prim.Int, refl)
has_number (Of (Basic prim.Int) zero) h = (prim.Int, refl)
has_number (Of (Basic prim.Long) zero) h = (prim.Long, refl)
has_number (Of (Basic p) (suc n)) h = absurd h
has_number (Of (Named c) n) h = absurd h
has_number Void h = absurd h
has_number Null h = absurd h

pub is_number : (ty : Ty) (p : Primitive) → number_type ty ≡ Some p → IsNumber ty
is_number (Of (Basic prim.Bool) zero) p e = cc
is_number (Of (Basic prim.Byte) zero) p e = tt
is_number (Of (Basic prim.Short) zero) p e = tt
is_number (Of (Basic prim.Char) zero) p e = tt
is_number (Of (Basic prim.Int) zero) p e = tt
is_number (Of (Basic prim.Long) zero) p e = tt
is_number (Of (Basic p) (suc n)) q e = cc
is_number (Of (Named c) n) q e = cc
is_number Void q e = cc
is_number Null q e = cc

pub no_number : (ty : Ty) → number_type ty ≡ Absent → IsNumber ty → ⊥
no_number ty e h = let n = has_number ty h in let known : number_type ty ≡ Some n.0 = n.1 in cc

pub is_index_type : (ty : Ty) → IsIndex ty → number_type ty ≡ Some prim.Int
is_index_type (Of (Basic prim.Bool) zero) h = absurd h.0
is_index_type (Of (Basic prim.Byte) zero) h = refl
is_index_type (Of (Basic prim.Short) zero) h = refl
is_index_type (Of (Basic prim.Char) zero) h = refl
is_index_type (Of (Basic prim.Int) zero) h = refl
is_index_type (Of (Basic prim.Long) zero) h = absurd (h.1 refl)
is_index_type (Of (Basic p) (suc n)) h = absurd h.0
is_index_type (Of (Named c) n) h = absurd h.0
is_index_type Void h = absurd h.0
is_index_type Null h = absurd h.0

pub nullable_true : (ty : Ty) → IsNullable ty → is_nullable ty ≡ true
nullable_true Void (inr r) = absurd r
nullable_true Void (inl e) = absurd (cc)
nullable_true Null h = refl
nullable_true (Of (Named c) n) h = refl
nullable_true (Of (Basic p) (suc n)) h = refl
nullable_true (Of (Basic p) zero) (inr r) = absurd r
nullable_true (Of (Basic p) zero) (inl e) = absurd (cc)

pub nullable_is : (ty : Ty) → is_nullable ty ≡ true → IsNullable ty
nullable_is Void e = absurd (cc)
nullable_is Null e = inl refl
nullable_is (Of (Named c) n) e = inr tt
nullable_is (Of (Basic p) (suc n)) e = inr tt
nullable_is (Of (Basic p) zero) e = absurd (cc)

pub void_is : (ty : Ty) → is_void ty ≡ true → ty ≡ Void
void_is Void e = refl
void_is Null e = absurd (cc)
void_is (Of b n) e = absurd (cc)

pub void_false : (ty : Ty) → (ty ≡ Void → ⊥) → is_void ty ≡ false
void_false Void h = absurd (h refl)
void_false Null h = refl
void_false (Of b n) h = refl

pub not_void : (ty : Ty) → is_void ty ≡ false → ty ≡ Void → ⊥
not_void ty e v = let t : is_void ty ≡ true = ap is_void v in cc

pub is_value : (ty : Ty) → is_void ty ≡ false → IsValueType ty
is_value Void e = cc
is_value Null e = tt
is_value (Of b n) e = tt

pub value_false : (ty : Ty) → IsValueType ty → is_void ty ≡ false
value_false Void h = absurd h
value_false Null h = refl
value_false (Of b n) h = refl

pub not_boolean : (ty : Ty) → is_boolean ty ≡ false → ty ≡ boolean_type → ⊥
not_boolean ty e v = let t : is_boolean ty ≡ true = ap is_boolean v in cc

pub not_text : (ty : Ty) → is_text_type ty ≡ false → ty ≡ text_type → ⊥
not_text ty e v = let t : is_text_type ty ≡ true = ap is_text_type v in cc

pub text_is : (ty : Ty) → is_text_type ty ≡ true → ty ≡ text_type
text_is (Of (Named (suc zero)) zero) e = refl
text_is (Of (Named zero) zero) e = absurd (cc)
text_is (Of (Named (suc (suc c))) zero) e = absurd (cc)
text_is (Of (Named zero) (suc n)) e = absurd (cc)
text_is (Of (Named (suc zero)) (suc n)) e = absurd (cc)
text_is (Of (Named (suc (suc c))) (suc n)) e = absurd (cc)
text_is (Of (Basic p) n) e = absurd (cc)
text_is Void e = absurd (cc)
text_is Null e = absurd (cc)

pub no_primitive : (ty : Ty) → IsNullable ty → primitive_in ty ≡ Absent
no_primitive Void (inr r) = absurd r
no_primitive Void (inl e) = refl
no_primitive Null h = refl
no_primitive (Of (Named c) n) h = refl
no_primitive (Of (Basic p) (suc n)) h = refl
no_primitive (Of (Basic p) zero) (inr r) = absurd r
no_primitive (Of (Basic p) zero) (inl e) = absurd (cc)

pub number_in : (ty : Ty) → IsNumber ty → (p : Primitive) × (primitive_in ty ≡ Some p) × (p ≡ prim.Bool → ⊥)
number_in (Of (Basic prim.Bool) zero) h = absurd h
number_in (Of (Basic prim.Byte) zero) h = (prim.Byte, refl, λ e. cc)
number_in (Of (Basic prim.Short) zero) h = (prim.Short, refl, λ e. cc)
number_in (Of (Basic prim.Char) zero) h = (prim.Char, refl, λ e. cc)
number_in (Of (Basic prim.Int) zero) h = (prim.Int, refl, λ e. cc)
number_in (Of (Basic prim.Long) zero) h = (prim.Long, refl, λ e. cc)
number_in (Of (Basic p) (suc n)) h = absurd h
number_in (Of (Named c) n) h = absurd h
number_in Void h = absurd h
number_in Null h = absurd h

wide_some : (p q : Primitive) → (r : Primitive) × (wide (Some p) (Some q) ≡ Some r)
wide_some prim.Long q = (prim.Long, refl)
wide_some p prim.Long = (prim.Long, refl)
wide_some p q = (prim.Int, refl)

pub both_are : (a b : Ty) → IsNumber a → IsNumber b → (r : Primitive) × (both_numbers a b ≡ Some r)
both_are a b h k =
    let m = has_number a h in
    let n = has_number b k in
    let w = wide_some m.0 n.0 in
    (w.0, ap (λ z. wide z (number_type b)) m.1 ∙ ap (λ z. wide (Some m.0) z) n.1 ∙ w.1)
