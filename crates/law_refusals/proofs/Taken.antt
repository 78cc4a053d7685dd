-- What operators take, and what may be assigned, is what the tests let through.
use Rattle.std.proofs.Common.{◌≡◌, ◌∙◌, ap, refl, Bool, true, false, Option, Some, ◌⊎◌, inl, inr}
use Rattle.std.specs.Prelude.{◌&&◌, not, option_and_then, option_map, if◌then◌else◌}
use Rattle.std.specs.Prelude.{None as Absent}
use Rattle.wy_kernel.specs.declared.operator.Primitive.{Primitive}
use Rattle.wy_kernel.specs.declared.operator.Primitive.TheVariants as prim
use Rattle.wy_kernel.specs.declared.operator.UnOp.{UnOp}
use Rattle.wy_kernel.specs.declared.operator.UnOp.TheVariants.{Not, Plus, Minus, Flip}
use Rattle.wy_kernel.specs.declared.operator.BinOp.{BinOp}
use Rattle.wy_kernel.specs.declared.operator.BinOp.TheVariants.{Add, Sub, Mul, Div, Rem, Shl, Shr, Ushr, Lt, Gt, Le, Ge, Eq, Ne, And, Or, Xor}
use Rattle.wy_kernel.specs.declared.types.Ty.{Ty}
use Rattle.wy_kernel.specs.declared.types.Ty.TheVariants.{Void}
use Rattle.wy_kernel.specs.Subtyping.{primitive_type}
use Rattle.wy_kernel.specs.Table.{Table, Simple}
use Rattle.wy_value.specs.declared.value.Value.{Value}
use Rattle.wy_value.specs.Operator.{is_shift, is_equality, is_comparison, is_logical}
use Rattle.wy_elab_expr.specs.Meaning.{Meaning, Known, type_of}
use Rattle.wy_elab_expr.specs.Operators.{Judgement, Settles, primitive_in, is_void, is_nullable, is_text_type, number_type, both_numbers, boolean_type, OperandTypes, of_one_type, of_number, of_shift, booleans as both_booleans, or_else, of_references, is_bitwise, operand_types, joins, unary_type, is_assignable, fits_into, choice_result, common_type, value_known}
use Rattle.wy_elab_expr.specs.Elaboration.{adds_text, left_primitive}
use Rattle.wy_constant.specs.Constant.{choice_type, joint, fits}
use Rattle.wy_typing.specs.Types.{IsNullable, Joins}
use Rattle.law_refusals.specs.Operands.{IsNumber, CastsTo, MayAssign, by_type, by_value, TakesOne, Takes, TakesInto, Chooses}
use Rattle.law_refusals.specs.Operands as operands
use Rattle.law_refusals.specs.ExpressionLaws.{Given}
use Rattle.law_refusals.proofs.Tests.{both_true, left_true, right_true, has_number, both_are, nullable_true, void_false, value_false, no_primitive, number_in}
use Rattle.law_refusals.proofs.Casts.{cast_true}

-- ---- assignment

pub assign_true : (j : Judgement) (t : Table) → Settles t j → {to : Ty} {m : Meaning} → (type_of m ≡ Void → ⊥) → MayAssign t to m → is_assignable j to m ≡ true
unfolding is_assignable
assign_true j t g n (by_type {to = to} {m = m} below) = both_true (ap not (void_false (type_of m) n)) (left_true (fits_into to m) ((g.below (type_of m) to).1 below))
assign_true j t g n (by_value {p = p} {c = c} {token = token} fits) = both_true (ap not (void_false (type_of (Known (Simple c) token)) n)) (right_true (j.below (type_of (Known (Simple c) token)) (primitive_type p)) fits)

-- ---- one operand

not_that : (op : UnOp) (ty : Ty) → (op ≡ Not → ⊥) → unary_type op ty ≡ number_type ty
not_that Not ty n = absurd (n refl)
not_that Plus ty n = refl
not_that Minus ty n = refl
not_that Flip ty n = refl

pub one_taken : {op : UnOp} {ty : Ty} → TakesOne op ty → (p : Primitive) × (unary_type op ty ≡ Some p)
one_taken (operands.number {op = op} {a = a} n h) = let m = has_number a h in (m.0, not_that op a n ∙ m.1)
one_taken operands.boolean = (prim.Bool, refl)

-- ---- two operands

given_if : {X : Type 0} (b : Bool) (x y : Option X) → Given x → Given y → Given (if b then x else y)
given_if true x y h k = h
given_if false x y h k = k

given_first : (o other : Option OperandTypes) → Given o → Given (or_else o other)
given_first (Some x) other h = (x, refl)
given_first Absent other h = absurd (let e : Absent ≡ Some h.0 = h.1 in cc)

given_second : (o other : Option OperandTypes) → Given other → Given (or_else o other)
given_second (Some x) other h = (x, refl)
given_second Absent other h = h

given_of_one : (outcome : Ty) (o : Option Primitive) → Given o → Given (of_one_type outcome o)
given_of_one outcome (Some p) h = (_, refl)
given_of_one outcome Absent h = absurd (let e : Absent ≡ Some h.0 = h.1 in cc)

given_of_number : (o : Option Primitive) → Given o → Given (of_number o)
given_of_number (Some p) h = (_, refl)
given_of_number Absent h = absurd (let e : Absent ≡ Some h.0 = h.1 in cc)

given_of_shift : (o p : Option Primitive) → Given o → Given p → Given (of_shift o p)
given_of_shift (Some p) (Some q) h k = (_, refl)
given_of_shift Absent p h k = absurd (let e : Absent ≡ Some h.0 = h.1 in cc)
given_of_shift (Some o) Absent h k = absurd (let e : Absent ≡ Some k.0 = k.1 in cc)

pub numbers_taken : (j : Judgement) (t : Table) (op : BinOp) (a b : Ty) → IsNumber a → IsNumber b → Given (operand_types j t op a b)
unfolding operand_types
numbers_taken j t op a b h k =
    let both = both_are a b h k in
    given_if (is_shift op) _ _ (given_of_shift (number_type a) (number_type b) (has_number a h) (has_number b k))
    (given_if (is_equality op) _ _ (given_first (of_one_type boolean_type (both_numbers a b)) (or_else (of_one_type boolean_type (both_booleans a b)) (of_references j t a b)) (given_of_one boolean_type (both_numbers a b) both))
    (given_if (is_comparison op) _ _ (given_of_one boolean_type (both_numbers a b) both)
    (given_if (is_bitwise op) _ _ (given_first (of_number (both_numbers a b)) (of_one_type boolean_type (both_booleans a b)) (given_of_number (both_numbers a b) both)) (given_of_number (both_numbers a b) both))))

pub booleans_taken : (j : Judgement) (t : Table) (op : BinOp) → is_logical op ≡ true → Given (operand_types j t op boolean_type boolean_type)
unfolding operand_types
booleans_taken j t And e = (_, refl)
booleans_taken j t Or e = (_, refl)
booleans_taken j t Xor e = (_, refl)
booleans_taken j t Eq e = (_, refl)
booleans_taken j t Ne e = (_, refl)
booleans_taken j t Add e = absurd (cc)
booleans_taken j t Sub e = absurd (cc)
booleans_taken j t Mul e = absurd (cc)
booleans_taken j t Div e = absurd (cc)
booleans_taken j t Rem e = absurd (cc)
booleans_taken j t Shl e = absurd (cc)
booleans_taken j t Shr e = absurd (cc)
booleans_taken j t Ushr e = absurd (cc)
booleans_taken j t Lt e = absurd (cc)
booleans_taken j t Gt e = absurd (cc)
booleans_taken j t Le e = absurd (cc)
booleans_taken j t Ge e = absurd (cc)

given_true : {X : Type 0} (b : Bool) (x : X) → b ≡ true → Given (if b then Some x else Absent)
given_true true x e = (x, refl)
given_true false x e = absurd (cc)

references_given : (j : Judgement) (t : Table) → Settles t j → (a b : Ty) → IsNullable a → IsNullable b → CastsTo t a b → Given (of_references j t a b)
references_given j t g a b h k c = given_true _ _ (both_true (both_true (nullable_true a h) (nullable_true b k)) (cast_true j t g c))

references_taken : (j : Judgement) (t : Table) → Settles t j → (op : BinOp) (a b : Ty) → is_equality op ≡ true → IsNullable a → IsNullable b → CastsTo t a b → Given (operand_types j t op a b)
unfolding operand_types
references_taken j t g Eq a b e h k c = given_second (of_one_type boolean_type (both_numbers a b)) (or_else (of_one_type boolean_type (both_booleans a b)) (of_references j t a b)) (given_second (of_one_type boolean_type (both_booleans a b)) (of_references j t a b) (references_given j t g a b h k c))
references_taken j t g Ne a b e h k c = given_second (of_one_type boolean_type (both_numbers a b)) (or_else (of_one_type boolean_type (both_booleans a b)) (of_references j t a b)) (given_second (of_one_type boolean_type (both_booleans a b)) (of_references j t a b) (references_given j t g a b h k c))
references_taken j t g And a b e h k c = absurd (cc)
references_taken j t g Or a b e h k c = absurd (cc)
references_taken j t g Xor a b e h k c = absurd (cc)
references_taken j t g Add a b e h k c = absurd (cc)
references_taken j t g Sub a b e h k c = absurd (cc)
references_taken j t g Mul a b e h k c = absurd (cc)
references_taken j t g Div a b e h k c = absurd (cc)
references_taken j t g Rem a b e h k c = absurd (cc)
references_taken j t g Shl a b e h k c = absurd (cc)
references_taken j t g Shr a b e h k c = absurd (cc)
references_taken j t g Ushr a b e h k c = absurd (cc)
references_taken j t g Lt a b e h k c = absurd (cc)
references_taken j t g Gt a b e h k c = absurd (cc)
references_taken j t g Le a b e h k c = absurd (cc)
references_taken j t g Ge a b e h k c = absurd (cc)

joins_texts : (a b : Ty) → Joins a b → joins Add a b ≡ true
joins_texts a b (inl h) = both_true (both_true (ap (λ z. not (is_void z)) h.0) (ap not (value_false b h.1))) (left_true (is_text_type b) (ap is_text_type h.0))
joins_texts a b (inr h) = both_true (both_true (ap not (value_false a h.0)) (ap (λ z. not (is_void z)) h.1)) (right_true (is_text_type a) (ap is_text_type h.1))

-- two operands that are taken are joined, or have types to be brought to
pub taken : (j : Judgement) (t : Table) → Settles t j → {op : BinOp} {a b : Ty} → Takes t op a b → (joins op a b ≡ true) ⊎ Given (operand_types j t op a b)
taken j t g (operands.Takes.numbers {op = op} {a = a} {b = b} h k) = inr (numbers_taken j t op a b h k)
taken j t g (operands.Takes.booleans {op = op} e) = inr (booleans_taken j t op e)
taken j t g (operands.Takes.references {op = op} {a = a} {b = b} e h k c) = inr (references_taken j t g op a b e h k c)
taken j t g (operands.joined {a = a} {b = b} h) = inl (joins_texts a b h)

-- ---- compound assignment

given_map : {X Y : Type 0} (f : X → Option Y) (o : Option X) → (x : X) → o ≡ Some x → Given (f x) → Given (option_and_then f o)
given_map f (Some y) x e h = let same : y ≡ x = cc in (h.0, ap f same ∙ h.1)
given_map f Absent x e h = absurd (cc)

-- where two operands are numbers or booleans, the left one is brought to a primitive type
given_primitive : (j : Judgement) (t : Table) (op : BinOp) (a b : Ty) (o : OperandTypes) → operand_types j t op a b ≡ Some o → Given (primitive_in o.left) → Given (left_primitive j t op a b)
given_primitive j t op a b o e h = given_map (λ z. primitive_in z.left) (operand_types j t op a b) o e h

-- types whose left one is primitive
abbrev LeftPrimitive : Option OperandTypes → Type 0
LeftPrimitive o = (z : OperandTypes) × (o ≡ Some z) × Given (primitive_in z.left)

left_if : (b : Bool) (x y : Option OperandTypes) → LeftPrimitive x → LeftPrimitive y → LeftPrimitive (if b then x else y)
left_if true x y h k = h
left_if false x y h k = k

left_first : (o other : Option OperandTypes) → LeftPrimitive o → LeftPrimitive (or_else o other)
left_first (Some x) other h = h
left_first Absent other h = absurd (let e : Absent ≡ Some h.0 = h.1 in cc)

left_of_one : (outcome : Ty) (o : Option Primitive) → Given o → LeftPrimitive (of_one_type outcome o)
left_of_one outcome (Some p) h = (_, refl, (p, refl))
left_of_one outcome Absent h = absurd (let e : Absent ≡ Some h.0 = h.1 in cc)

left_of_number : (o : Option Primitive) → Given o → LeftPrimitive (of_number o)
left_of_number (Some p) h = (_, refl, (p, refl))
left_of_number Absent h = absurd (let e : Absent ≡ Some h.0 = h.1 in cc)

left_of_shift : (o p : Option Primitive) → Given o → Given p → LeftPrimitive (of_shift o p)
left_of_shift (Some p) (Some q) h k = (_, refl, (p, refl))
left_of_shift Absent p h k = absurd (let e : Absent ≡ Some h.0 = h.1 in cc)
left_of_shift (Some o) Absent h k = absurd (let e : Absent ≡ Some k.0 = k.1 in cc)

numbers_into : (j : Judgement) (t : Table) (op : BinOp) (a b : Ty) → IsNumber a → IsNumber b → LeftPrimitive (operand_types j t op a b)
unfolding operand_types
numbers_into j t op a b h k =
    let both = both_are a b h k in
    left_if (is_shift op) _ _ (left_of_shift (number_type a) (number_type b) (has_number a h) (has_number b k))
    (left_if (is_equality op) _ _ (left_first (of_one_type boolean_type (both_numbers a b)) (or_else (of_one_type boolean_type (both_booleans a b)) (of_references j t a b)) (left_of_one boolean_type (both_numbers a b) both))
    (left_if (is_comparison op) _ _ (left_of_one boolean_type (both_numbers a b) both)
    (left_if (is_bitwise op) _ _ (left_first (of_number (both_numbers a b)) (of_one_type boolean_type (both_booleans a b)) (left_of_number (both_numbers a b) both)) (left_of_number (both_numbers a b) both))))

booleans_into : (j : Judgement) (t : Table) (op : BinOp) → is_logical op ≡ true → LeftPrimitive (operand_types j t op boolean_type boolean_type)
unfolding operand_types
booleans_into j t And e = (_, refl, (prim.Bool, refl))
booleans_into j t Or e = (_, refl, (prim.Bool, refl))
booleans_into j t Xor e = (_, refl, (prim.Bool, refl))
booleans_into j t Eq e = (_, refl, (prim.Bool, refl))
booleans_into j t Ne e = (_, refl, (prim.Bool, refl))
booleans_into j t Add e = absurd (cc)
booleans_into j t Sub e = absurd (cc)
booleans_into j t Mul e = absurd (cc)
booleans_into j t Div e = absurd (cc)
booleans_into j t Rem e = absurd (cc)
booleans_into j t Shl e = absurd (cc)
booleans_into j t Shr e = absurd (cc)
booleans_into j t Ushr e = absurd (cc)
booleans_into j t Lt e = absurd (cc)
booleans_into j t Gt e = absurd (cc)
booleans_into j t Le e = absurd (cc)
booleans_into j t Ge e = absurd (cc)

left_given : (j : Judgement) (t : Table) (op : BinOp) (a b : Ty) → LeftPrimitive (operand_types j t op a b) → Given (left_primitive j t op a b)
left_given j t op a b h = given_primitive j t op a b h.0 h.1 h.2

pub taken_into : (j : Judgement) (t : Table) {op : BinOp} {a b : Ty} → TakesInto op a b → (adds_text op a b ≡ true) ⊎ Given (left_primitive j t op a b)
taken_into j t (operands.TakesInto.numbers {op = op} {a = a} {b = b} h k) = inr (left_given j t op a b (numbers_into j t op a b h k))
taken_into j t (operands.TakesInto.booleans {op = op} e) = inr (left_given j t op boolean_type boolean_type (booleans_into j t op e))
taken_into j t (operands.to_text {b = b} n) = inl refl
taken_into j t operands.to_object = inl refl

-- ---- `?:`

given_option_map : {X Y : Type 0} (f : X → Y) (o : Option X) → Given o → Given (option_map f o)
given_option_map f (Some x) h = (f x, refl)
given_option_map f Absent h = absurd (let e : Absent ≡ Some h.0 = h.1 in cc)

joint_given : (p q : Primitive) → (p ≡ prim.Bool → ⊥) → (q ≡ prim.Bool → ⊥) → Given (joint p q)
joint_given prim.Bool q m n = absurd (m refl)
joint_given p prim.Bool m n = absurd (n refl)
joint_given p q m n = (_, refl)

given_choice_type : (p : Primitive) (a : Option Value) (q : Primitive) (b : Option Value) → Given (joint p q) → Given (choice_type p a q b)
unfolding choice_type
given_choice_type p a q b h = given_if (fits p b) (Some p) (if fits q a then Some q else joint p q) (p, refl) (given_if (fits q a) (Some q) (joint p q) (q, refl) h)

chosen_primitives : (j : Judgement) (t : Table) (a b : Meaning) (p q : Primitive) → primitive_in (type_of a) ≡ Some p → primitive_in (type_of b) ≡ Some q → Given (joint p q) →
    Given (choice_result j t a (primitive_in (type_of a)) b (primitive_in (type_of b)))
chosen_primitives j t a b p q e f h =
    let given = given_option_map primitive_type (choice_type p (value_known a) q (value_known b)) (given_choice_type p (value_known a) q (value_known b) h) in
    (given.0, ap (λ z. choice_result j t a z b (primitive_in (type_of b))) e ∙ ap (λ z. choice_result j t a (Some p) b z) f ∙ given.1)

pub chosen_in : (j : Judgement) (t : Table) (a b : Meaning) {x y : Ty} → Chooses x y → type_of a ≡ x → type_of b ≡ y → Given (choice_result j t a (primitive_in (type_of a)) b (primitive_in (type_of b)))
chosen_in j t a b (operands.Chooses.numbers {a = x} {b = y} h k) e f =
    let m = number_in x h in
    let n = number_in y k in
    chosen_primitives j t a b m.0 n.0 (ap primitive_in e ∙ m.1) (ap primitive_in f ∙ n.1) (joint_given m.0 n.0 m.2 n.2)
chosen_in j t a b operands.Chooses.booleans e f = chosen_primitives j t a b prim.Bool prim.Bool (ap primitive_in e) (ap primitive_in f) (prim.Bool, refl)
chosen_in j t a b (operands.Chooses.references {a = x} {b = y} h k) e f =
    let given = given_true (is_nullable (type_of a) && is_nullable (type_of b)) (common_type j t (type_of a) (type_of b)) (both_true (ap is_nullable e ∙ nullable_true x h) (ap is_nullable f ∙ nullable_true y k)) in
    (given.0, ap (λ z. choice_result j t a z b (primitive_in (type_of b))) (ap primitive_in e ∙ no_primitive x h) ∙ ap (λ z. choice_result j t a Absent b z) (ap primitive_in f ∙ no_primitive y k) ∙ given.1)

pub chosen : (j : Judgement) (t : Table) (a b : Meaning) → Chooses (type_of a) (type_of b) → Given (choice_result j t a (primitive_in (type_of a)) b (primitive_in (type_of b)))
chosen j t a b c = chosen_in j t a b c refl refl
