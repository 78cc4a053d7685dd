-- What the tests let through is what may be cast, assigned, and taken by operators.
use Rattle.std.proofs.Common.{◌≡◌, sym, subst, refl, ℕ, zero, suc, Bool, true, false, Option, Some, ◌⊎◌, inl, inr}
use Rattle.std.specs.Prelude.{◌&&◌, ◌||◌, not, option_and_then, option_map, if◌then◌else◌}
use Rattle.std.specs.Prelude.{None as Absent}
use Rattle.wy_kernel.specs.declared.operator.Primitive.{Primitive}
use Rattle.wy_kernel.specs.declared.operator.Primitive.TheVariants as prim
use Rattle.wy_kernel.specs.declared.operator.UnOp.{UnOp}
use Rattle.wy_kernel.specs.declared.operator.UnOp.TheVariants.{Not, Plus, Minus, Flip}
use Rattle.wy_kernel.specs.declared.operator.BinOp.{BinOp}
use Rattle.wy_kernel.specs.declared.operator.BinOp.TheVariants.{Add, Sub, Mul, Div, Rem, Shl, Shr, Ushr, Lt, Gt, Le, Ge, Eq, Ne, And, Or, Xor}
use Rattle.wy_kernel.specs.declared.types.Base.{Base}
use Rattle.wy_kernel.specs.declared.types.Base.TheVariants.{Primitive as Basic, Class as Named}
use Rattle.wy_kernel.specs.declared.types.Ty.{Ty}
use Rattle.wy_kernel.specs.declared.types.Ty.TheVariants.{Void, Null, Of}
use Rattle.wy_kernel.specs.Form as plain
use Rattle.wy_kernel.specs.Program.{Class}
use Rattle.wy_kernel.specs.Subtyping.{IsReference, primitive_type, class_type, object_type}
use Rattle.wy_kernel.specs.Table.{Table, Simple, Text}
use Rattle.wy_value.specs.Operator.{is_equality, is_logical}
use Rattle.wy_constant.specs.Constant.{fits, joint, choice_type}
use Rattle.wy_elab_expr.specs.Meaning.{Meaning, Known, Formed, type_of}
use Rattle.wy_elab_expr.specs.Operators.{Judgement, Settles, primitive_in, is_void, is_nullable, is_boolean, is_text_type, number_type, both_numbers, wide, boolean_type, OperandTypes, of_one_type, of_number, of_shift, booleans as both_booleans, or_else, of_references, operand_types, joins, unary_type, class_of, is_interface, is_open, may_meet, is_related, can_cast, can_cast_by, can_cast_bases, can_cast_primitive, can_cast_reference, is_assignable, fits_into, choice_result, common_type, value_known}
use Rattle.wy_elab_expr.specs.Elaboration.{adds_text, is_object_type, left_primitive}
use Rattle.wy_elab_expr.proofs.Primitives.{primitive_is}
use Rattle.wy_typing.specs.Types.{IsNumber as IsNumeric, IsValueType, IsNullable, MayMeet}
use Rattle.wy_typing.specs.Types as types
use Rattle.law_refusals.specs.Operands.{IsNumber, CastsTo, MayAssign, by_type, by_value, TakesOne, Takes, TakesInto, Chooses}
use Rattle.law_refusals.specs.Operands as operands
use Rattle.law_refusals.specs.ExpressionLaws.{Given, CastsAreExact, AssignmentsAreExact, UnaryIsExact, BinaryIsExact, UpdatesAreExact, ChoicesAreExact}
use Rattle.law_refusals.proofs.Tests.{first_true, second_true, one_true, not_false, is_number, nullable_is, is_value, void_false, text_is}
use Rattle.law_refusals.proofs.Casts.{cast_true, reference_in_array}
use Rattle.law_refusals.proofs.Taken.{assign_true, one_taken, taken, taken_into, chosen}

-- ---- casts

row_of : (o : Option Class) → is_interface o ≡ true → (k : Class) × (o ≡ Some k) × (k.is_interface ≡ true)
row_of (Some k) e = (k, refl, e)
row_of Absent e = absurd (cc)

open_parts : (k : Class) → (k.is_interface || not k.is_final) ≡ true → (k.is_interface ≡ true) ⊎ (k.is_final ≡ false)
open_parts k e = elim (one_true k.is_interface (not k.is_final) e) [ inl h ↦ inl h | inr h ↦ inr (not_false h) ]

open_of : (o : Option Class) → is_open o ≡ true → (k : Class) × (o ≡ Some k) × ((k.is_interface ≡ true) ⊎ (k.is_final ≡ false))
open_of (Some k) e = (k, refl, open_parts k e)
open_of Absent e = absurd (cc)

reference_is : (a : Base) (m : ℕ) → is_nullable (Of a m) ≡ true → IsReference (Of a m)
reference_is (Named c) m e = tt
reference_is (Basic p) (suc m) e = tt
reference_is (Basic p) zero e = absurd (cc)

meets : (t : Table) (c d : ℕ) → (is_interface (class_of t c) && is_open (class_of t d)) ≡ true → MayMeet t.classes c d
meets t c d e =
    let k = row_of (class_of t c) (first_true (is_interface (class_of t c)) (is_open (class_of t d)) e) in
    let l = open_of (class_of t d) (second_true (is_interface (class_of t c)) (is_open (class_of t d)) e) in
    (k.0, l.0, k.1, l.1, k.2, l.2)

meet : (t : Table) (c d : ℕ) → may_meet t (Named c) (Named d) ≡ true → types.CastsTo t.classes (class_type c) (class_type d)
meet t c d e =
    elim (one_true (is_interface (class_of t c) && is_open (class_of t d)) (is_interface (class_of t d) && is_open (class_of t c)) e) [
      | inl h ↦ types.from_interface (meets t c d h)
      | inr h ↦ types.to_interface (meets t d c h)
    ]

-- a cast between references, and that they are some
record BasesCast (t : Table) (a b : Base) (m n : ℕ) : Type 0 where
  casts : types.CastsTo t.classes (Of a m) (Of b n)
  left : IsReference (Of a m)
  right : IsReference (Of b n)

meet_bases : (t : Table) (a b : Base) → may_meet t a b ≡ true → BasesCast t a b 0 0
meet_bases t (Named c) (Named d) e = record { casts = meet t c d e; left = tt; right = tt }
meet_bases t (Named c) (Basic q) e = absurd (cc)
meet_bases t (Basic p) b e = absurd (cc)

pub boolean_is : (ty : Ty) → is_boolean ty ≡ true → ty ≡ boolean_type
boolean_is (Of (Basic prim.Bool) zero) e = refl
boolean_is (Of (Basic prim.Byte) zero) e = absurd (cc)
boolean_is (Of (Basic prim.Short) zero) e = absurd (cc)
boolean_is (Of (Basic prim.Char) zero) e = absurd (cc)
boolean_is (Of (Basic prim.Int) zero) e = absurd (cc)
boolean_is (Of (Basic prim.Long) zero) e = absurd (cc)
boolean_is (Of (Basic prim.Bool) (suc n)) e = absurd (cc)
boolean_is (Of (Basic prim.Byte) (suc n)) e = absurd (cc)
boolean_is (Of (Basic prim.Short) (suc n)) e = absurd (cc)
boolean_is (Of (Basic prim.Char) (suc n)) e = absurd (cc)
boolean_is (Of (Basic prim.Int) (suc n)) e = absurd (cc)
boolean_is (Of (Basic prim.Long) (suc n)) e = absurd (cc)
boolean_is (Of (Named c) n) e = absurd (cc)
boolean_is Void e = absurd (cc)
boolean_is Null e = absurd (cc)

primitives_cast : (t : Table) (p q : Primitive) → can_cast_primitive p q ≡ true → CastsTo t (primitive_type p) (primitive_type q)
primitives_cast t prim.Bool prim.Bool e = operands.CastsTo.booleans
primitives_cast t prim.Bool q e = absurd (cc)
primitives_cast t p prim.Bool e = absurd (cc)
primitives_cast t p q e = operands.CastsTo.numbers tt tt

module _ (j : Judgement) (t : Table) (g : Settles t j) where
  related_is : (a b : Ty) → is_related j a b ≡ true → types.CastsTo t.classes a b × IsNullable a × IsNullable b
  related_is a b e =
      let both = first_true (is_nullable a && is_nullable b) (j.below a b || j.below b a) e in
      let one = second_true (is_nullable a && is_nullable b) (j.below a b || j.below b a) e in
      let left = nullable_is a (first_true (is_nullable a) (is_nullable b) both) in
      let right = nullable_is b (second_true (is_nullable a) (is_nullable b) both) in
      (elim (one_true (j.below a b) (j.below b a) one) [ inl h ↦ types.up left right ((g.below a b).0 h) | inr h ↦ types.down left right ((g.below b a).0 h) ], left, right)

  related_bases_is : (a b : Base) (m n : ℕ) → is_related j (Of a m) (Of b n) ≡ true → BasesCast t a b m n
  related_bases_is a b m n e =
      let both = first_true (is_nullable (Of a m) && is_nullable (Of b n)) (j.below (Of a m) (Of b n) || j.below (Of b n) (Of a m)) e in
      record {
        casts = (related_is (Of a m) (Of b n) e).0;
        left = reference_is a m (first_true (is_nullable (Of a m)) (is_nullable (Of b n)) both);
        right = reference_is b n (second_true (is_nullable (Of a m)) (is_nullable (Of b n)) both);
      }

  deeper_bases : (a b : Base) (m n : ℕ) → BasesCast t a b m n → BasesCast t a b (suc m) (suc n)
  deeper_bases a b m n h = record { casts = types.of_elements h.left h.right h.casts; left = reference_in_array a m; right = reference_in_array b n }

  bases_cast : (a b : Base) (m n : ℕ) → can_cast_bases j t a m b n ≡ true → BasesCast t a b m n
  bases_cast a b zero zero e = elim (one_true (is_related j (Of a 0) (Of b 0)) (may_meet t a b) e) [ inl h ↦ related_bases_is a b 0 0 h | inr h ↦ meet_bases t a b h ]
  bases_cast a b (suc m) (suc n) e =
      elim (one_true (is_related j (Of a (suc m)) (Of b (suc n))) (can_cast_bases j t a m b n) e) [ inl h ↦ related_bases_is a b (suc m) (suc n) h | inr h ↦ deeper_bases a b m n (bases_cast a b m n h) ]
  bases_cast a b zero (suc n) e = related_bases_is a b 0 (suc n) e
  bases_cast a b (suc m) zero e = related_bases_is a b (suc m) 0 e

  reference_casts : (a b : Ty) → can_cast_reference j t a b ≡ true → types.CastsTo t.classes a b
  reference_casts (Of a m) (Of b n) e = (bases_cast a b m n e).casts
  reference_casts (Of a m) Void e = (related_is (Of a m) Void e).0
  reference_casts (Of a m) Null e = (related_is (Of a m) Null e).0
  reference_casts Void b e = (related_is Void b e).0
  reference_casts Null b e = (related_is Null b e).0

  cast_by : (a b : Ty) (o p : Option Primitive) → primitive_in a ≡ o → primitive_in b ≡ p → can_cast_by j t a o b p ≡ true → CastsTo t a b
  cast_by a b (Some p) (Some q) e f h =
      let left : a ≡ primitive_type p = primitive_is a p (sym e) in
      let right : b ≡ primitive_type q = primitive_is b q (sym f) in
      let C : Ty → Type 0 = λ z. CastsTo t z b in
      let D : Ty → Type 0 = λ z. CastsTo t (primitive_type p) z in
      subst C (sym left) (subst D (sym right) (primitives_cast t p q h))
  cast_by a b Absent Absent e f h = operands.CastsTo.references (reference_casts a b h)
  cast_by a b (Some p) Absent e f h = absurd (cc)
  cast_by a b Absent (Some q) e f h = absurd (cc)

  cast_is : (a b : Ty) → can_cast j t a b ≡ true → CastsTo t a b
  unfolding can_cast
  cast_is a b e = cast_by a b (primitive_in a) (primitive_in b) refl refl e

  -- ---- assignment

  fits_is : (to : Ty) (m : Meaning) → fits_into to m ≡ true → MayAssign t to m
  fits_is (Of (Basic p) zero) (Known (Simple c) token) e = by_value e
  fits_is (Of (Basic p) zero) (Known (Text units) token) e = absurd (cc)
  fits_is (Of (Basic p) zero) (Formed form ty) e = absurd (cc)
  fits_is (Of (Basic p) (suc n)) m e = absurd (cc)
  fits_is (Of (Named c) n) m e = absurd (cc)
  fits_is Void m e = absurd (cc)
  fits_is Null m e = absurd (cc)

  assign_is : (to : Ty) (m : Meaning) → is_assignable j to m ≡ true → MayAssign t to m
  unfolding is_assignable
  assign_is to m e =
      elim (one_true (j.below (type_of m) to) (fits_into to m) (second_true (not (is_void (type_of m))) (j.below (type_of m) to || fits_into to m) e)) [
        | inl h ↦ by_type ((g.below (type_of m) to).0 h)
        | inr h ↦ fits_is to m h
      ]

-- ---- one operand

not_taken_by : (ty : Ty) (b : Bool) → is_boolean ty ≡ b → Given (if b then Some prim.Bool else Absent) → TakesOne Not ty
not_taken_by ty true e h = let P : Ty → Type 0 = λ z. TakesOne Not z in subst P (sym (boolean_is ty e)) operands.boolean
not_taken_by ty false e h = absurd (let k : Absent ≡ Some h.0 = h.1 in cc)

one_is : (op : UnOp) (ty : Ty) → Given (unary_type op ty) → TakesOne op ty
one_is Not ty h = not_taken_by ty (is_boolean ty) refl h
one_is Plus ty h = operands.number (λ e. cc) (is_number ty h.0 h.1)
one_is Minus ty h = operands.number (λ e. cc) (is_number ty h.0 h.1)
one_is Flip ty h = operands.number (λ e. cc) (is_number ty h.0 h.1)

-- ---- two operands

none_given : {X Y : Type 0} → Given {X = X} Absent → Y
none_given h = absurd (let k : Absent ≡ Some h.0 = h.1 in cc)

wide_parts : (o p : Option Primitive) → Given (wide o p) → Given o × Given p
wide_parts (Some p) (Some q) h = ((p, refl), (q, refl))
wide_parts Absent p h = none_given h
wide_parts (Some prim.Long) Absent h = none_given h
wide_parts (Some p) Absent h = none_given h

numbers_are : (a b : Ty) → Given (both_numbers a b) → IsNumber a × IsNumber b
numbers_are a b h =
    let parts = wide_parts (number_type a) (number_type b) h in
    (is_number a parts.0.0 parts.0.1, is_number b parts.1.0 parts.1.1)

of_number_part : (o : Option Primitive) → Given (of_number o) → Given o
of_number_part (Some p) h = (p, refl)
of_number_part Absent h = none_given h

of_one_part : (ty : Ty) (o : Option Primitive) → Given (of_one_type ty o) → Given o
of_one_part ty (Some p) h = (p, refl)
of_one_part ty Absent h = none_given h

of_shift_parts : (o p : Option Primitive) → Given (of_shift o p) → Given o × Given p
of_shift_parts (Some p) (Some q) h = ((p, refl), (q, refl))
of_shift_parts Absent p h = none_given h
of_shift_parts (Some p) Absent h = none_given h

or_parts : (o p : Option OperandTypes) → Given (or_else o p) → Given o ⊎ Given p
or_parts (Some x) p h = inl (x, refl)
or_parts Absent p h = inr h

numbers_taken : (t : Table) (op : BinOp) (a b : Ty) → Given (both_numbers a b) → Takes t op a b
numbers_taken t op a b h = let are = numbers_are a b h in operands.Takes.numbers are.0 are.1

booleans_by : (t : Table) (op : BinOp) (a b : Ty) (x : Bool) → (is_boolean a && is_boolean b) ≡ x → is_logical op ≡ true → Given (if x then Some prim.Bool else Absent) → Takes t op a b
booleans_by t op a b true e l h =
    let left = boolean_is a (first_true (is_boolean a) (is_boolean b) e) in
    let right = boolean_is b (second_true (is_boolean a) (is_boolean b) e) in
    let C : Ty → Type 0 = λ z. Takes t op z b in
    let D : Ty → Type 0 = λ z. Takes t op boolean_type z in
    subst C (sym left) (subst D (sym right) (operands.Takes.booleans l))
booleans_by t op a b false e l h = none_given h

booleans_taken : (t : Table) (op : BinOp) (a b : Ty) → is_logical op ≡ true → Given (of_one_type boolean_type (both_booleans a b)) → Takes t op a b
booleans_taken t op a b l h = booleans_by t op a b (is_boolean a && is_boolean b) refl l (of_one_part boolean_type (both_booleans a b) h)

bitwise_taken : (t : Table) (op : BinOp) (a b : Ty) → is_logical op ≡ true → Given (or_else (of_number (both_numbers a b)) (of_one_type boolean_type (both_booleans a b))) → Takes t op a b
bitwise_taken t op a b l h =
    elim (or_parts (of_number (both_numbers a b)) (of_one_type boolean_type (both_booleans a b)) h) [ inl k ↦ numbers_taken t op a b (of_number_part (both_numbers a b) k) | inr k ↦ booleans_taken t op a b l k ]

module _ (j : Judgement) (t : Table) (g : Settles t j) where
  references_by : (op : BinOp) (a b : Ty) (x : Bool) (o : OperandTypes) → (is_nullable a && is_nullable b && can_cast j t a b) ≡ x → is_equality op ≡ true → Given (if x then Some o else Absent) → Takes t op a b
  references_by op a b true o e l h =
      let both = first_true (is_nullable a && is_nullable b) (can_cast j t a b) e in
      operands.Takes.references l (nullable_is a (first_true (is_nullable a) (is_nullable b) both)) (nullable_is b (second_true (is_nullable a) (is_nullable b) both))
      (cast_is j t g a b (second_true (is_nullable a && is_nullable b) (can_cast j t a b) e))
  references_by op a b false o e l h = none_given h

  equal_taken : (op : BinOp) (a b : Ty) → is_equality op ≡ true → is_logical op ≡ true →
      Given (or_else (of_one_type boolean_type (both_numbers a b)) (or_else (of_one_type boolean_type (both_booleans a b)) (of_references j t a b))) → Takes t op a b
  equal_taken op a b e l h =
      elim (or_parts (of_one_type boolean_type (both_numbers a b)) (or_else (of_one_type boolean_type (both_booleans a b)) (of_references j t a b)) h) [
        | inl k ↦ numbers_taken t op a b (of_one_part boolean_type (both_numbers a b) k)
        | inr k ↦ elim (or_parts (of_one_type boolean_type (both_booleans a b)) (of_references j t a b) k) [
          | inl m ↦ booleans_taken t op a b l m
          | inr m ↦ references_by op a b (is_nullable a && is_nullable b && can_cast j t a b) (record { left = a; right = b; outcome = boolean_type }) refl e m
        ]
      ]

  types_taken : (op : BinOp) (a b : Ty) → Given (operand_types j t op a b) → Takes t op a b
  unfolding operand_types
  types_taken Shl a b h = let parts = of_shift_parts (number_type a) (number_type b) h in operands.Takes.numbers (is_number a parts.0.0 parts.0.1) (is_number b parts.1.0 parts.1.1)
  types_taken Shr a b h = let parts = of_shift_parts (number_type a) (number_type b) h in operands.Takes.numbers (is_number a parts.0.0 parts.0.1) (is_number b parts.1.0 parts.1.1)
  types_taken Ushr a b h = let parts = of_shift_parts (number_type a) (number_type b) h in operands.Takes.numbers (is_number a parts.0.0 parts.0.1) (is_number b parts.1.0 parts.1.1)
  types_taken Eq a b h = equal_taken Eq a b refl refl h
  types_taken Ne a b h = equal_taken Ne a b refl refl h
  types_taken Lt a b h = numbers_taken t Lt a b (of_one_part boolean_type (both_numbers a b) h)
  types_taken Gt a b h = numbers_taken t Gt a b (of_one_part boolean_type (both_numbers a b) h)
  types_taken Le a b h = numbers_taken t Le a b (of_one_part boolean_type (both_numbers a b) h)
  types_taken Ge a b h = numbers_taken t Ge a b (of_one_part boolean_type (both_numbers a b) h)
  types_taken And a b h = bitwise_taken t And a b refl h
  types_taken Or a b h = bitwise_taken t Or a b refl h
  types_taken Xor a b h = bitwise_taken t Xor a b refl h
  types_taken Add a b h = numbers_taken t Add a b (of_number_part (both_numbers a b) h)
  types_taken Sub a b h = numbers_taken t Sub a b (of_number_part (both_numbers a b) h)
  types_taken Mul a b h = numbers_taken t Mul a b (of_number_part (both_numbers a b) h)
  types_taken Div a b h = numbers_taken t Div a b (of_number_part (both_numbers a b) h)
  types_taken Rem a b h = numbers_taken t Rem a b (of_number_part (both_numbers a b) h)

texts_taken : (t : Table) (a b : Ty) → joins Add a b ≡ true → Takes t Add a b
texts_taken t a b e =
    let valued = first_true (not (is_void a) && not (is_void b)) (is_text_type a || is_text_type b) e in
    let one = second_true (not (is_void a) && not (is_void b)) (is_text_type a || is_text_type b) e in
    let left = is_value a (not_false (first_true (not (is_void a)) (not (is_void b)) valued)) in
    let right = is_value b (not_false (second_true (not (is_void a)) (not (is_void b)) valued)) in
    operands.joined (elim (one_true (is_text_type a) (is_text_type b) one) [ inl h ↦ inl (text_is a h, right) | inr h ↦ inr (left, text_is b h) ])

joined_taken : (t : Table) (op : BinOp) (a b : Ty) → joins op a b ≡ true → Takes t op a b
joined_taken t Add a b e = texts_taken t a b e
joined_taken t _ a b e = absurd (cc)

-- ---- compound assignment

object_is : (ty : Ty) → is_object_type ty ≡ true → ty ≡ object_type
object_is (Of (Named zero) zero) e = refl
object_is (Of (Named (suc c)) zero) e = absurd (cc)
object_is (Of (Named zero) (suc n)) e = absurd (cc)
object_is (Of (Named (suc c)) (suc n)) e = absurd (cc)
object_is (Of (Basic p) n) e = absurd (cc)
object_is Void e = absurd (cc)
object_is Null e = absurd (cc)

text_added : (a b : Ty) → IsValueType b → adds_text Add a b ≡ true → TakesInto Add a b
text_added a b n e =
    let C : Ty → Type 0 = λ z. TakesInto Add z b in
    let D : Ty → Type 0 = λ z. TakesInto Add object_type z in
    elim (one_true (is_text_type a) (is_object_type a && is_text_type b) e) [
      | inl h ↦ subst C (sym (text_is a h)) (operands.to_text n)
      | inr h ↦ subst C (sym (object_is a (first_true (is_object_type a) (is_text_type b) h))) (subst D (sym (text_is b (second_true (is_object_type a) (is_text_type b) h))) operands.to_object)
    ]

added : (op : BinOp) (a b : Ty) → IsValueType b → adds_text op a b ≡ true → TakesInto op a b
added Add a b n e = text_added a b n e
added _ a b n e = absurd (cc)

numbers_into : (op : BinOp) (a b : Ty) → Given (both_numbers a b) → TakesInto op a b
numbers_into op a b h = let are = numbers_are a b h in operands.TakesInto.numbers are.0 are.1

booleans_into_by : (op : BinOp) (a b : Ty) (x : Bool) → (is_boolean a && is_boolean b) ≡ x → is_logical op ≡ true → Given (if x then Some prim.Bool else Absent) → TakesInto op a b
booleans_into_by op a b true e l h =
    let left = boolean_is a (first_true (is_boolean a) (is_boolean b) e) in
    let right = boolean_is b (second_true (is_boolean a) (is_boolean b) e) in
    let C : Ty → Type 0 = λ z. TakesInto op z b in
    let D : Ty → Type 0 = λ z. TakesInto op boolean_type z in
    subst C (sym left) (subst D (sym right) (operands.TakesInto.booleans l))
booleans_into_by op a b false e l h = none_given h

bitwise_into : (op : BinOp) (a b : Ty) → is_logical op ≡ true → Given (or_else (of_number (both_numbers a b)) (of_one_type boolean_type (both_booleans a b))) → TakesInto op a b
bitwise_into op a b l h =
    elim (or_parts (of_number (both_numbers a b)) (of_one_type boolean_type (both_booleans a b)) h) [
      | inl k ↦ numbers_into op a b (of_number_part (both_numbers a b) k)
      | inr k ↦ booleans_into_by op a b (is_boolean a && is_boolean b) refl l (of_one_part boolean_type (both_booleans a b) k)
    ]

shift_into : (op : BinOp) (a b : Ty) → Given (of_shift (number_type a) (number_type b)) → TakesInto op a b
shift_into op a b h = let parts = of_shift_parts (number_type a) (number_type b) h in operands.TakesInto.numbers (is_number a parts.0.0 parts.0.1) (is_number b parts.1.0 parts.1.1)

types_into : (j : Judgement) (t : Table) (op : BinOp) (a b : Ty) → is_equality op ≡ false → Given (operand_types j t op a b) → TakesInto op a b
unfolding operand_types
types_into j t Shl a b n h = shift_into Shl a b h
types_into j t Shr a b n h = shift_into Shr a b h
types_into j t Ushr a b n h = shift_into Ushr a b h
types_into j t Eq a b n h = absurd (cc)
types_into j t Ne a b n h = absurd (cc)
types_into j t Lt a b n h = numbers_into Lt a b (of_one_part boolean_type (both_numbers a b) h)
types_into j t Gt a b n h = numbers_into Gt a b (of_one_part boolean_type (both_numbers a b) h)
types_into j t Le a b n h = numbers_into Le a b (of_one_part boolean_type (both_numbers a b) h)
types_into j t Ge a b n h = numbers_into Ge a b (of_one_part boolean_type (both_numbers a b) h)
types_into j t And a b n h = bitwise_into And a b refl h
types_into j t Or a b n h = bitwise_into Or a b refl h
types_into j t Xor a b n h = bitwise_into Xor a b refl h
types_into j t Add a b n h = numbers_into Add a b (of_number_part (both_numbers a b) h)
types_into j t Sub a b n h = numbers_into Sub a b (of_number_part (both_numbers a b) h)
types_into j t Mul a b n h = numbers_into Mul a b (of_number_part (both_numbers a b) h)
types_into j t Div a b n h = numbers_into Div a b (of_number_part (both_numbers a b) h)
types_into j t Rem a b n h = numbers_into Rem a b (of_number_part (both_numbers a b) h)

then_given : {X Y : Type 0} (f : X → Option Y) (o : Option X) → Given (option_and_then f o) → Given o
then_given f (Some x) h = (x, refl)
then_given f Absent h = none_given h

updates : (j : Judgement) (t : Table) (op : BinOp) (a b : Ty) → is_equality op ≡ false → (b ≡ Void → ⊥) → (adds_text op a b ≡ true) ⊎ Given (left_primitive j t op a b) → TakesInto op a b
updates j t op a b n valued (inl e) = added op a b (is_value b (void_false b valued)) e
updates j t op a b n valued (inr h) = types_into j t op a b n (then_given (λ o. primitive_in o.left) (operand_types j t op a b) h)

-- ---- `?:`

-- a constant that fits is an int, and what it fits is a number
fits_means : (p : Primitive) (m : Meaning) → fits p (value_known m) ≡ true → IsNumeric p × (primitive_in (type_of m) ≡ Some prim.Int)
fits_means prim.Byte (Known (Simple (plain.Int z)) token) e = (tt, refl)
fits_means prim.Short (Known (Simple (plain.Int z)) token) e = (tt, refl)
fits_means prim.Char (Known (Simple (plain.Int z)) token) e = (tt, refl)
fits_means prim.Bool (Known (Simple (plain.Int z)) token) e = absurd (cc)
fits_means prim.Int (Known (Simple (plain.Int z)) token) e = absurd (cc)
fits_means prim.Long (Known (Simple (plain.Int z)) token) e = absurd (cc)
fits_means p (Known (Simple plain.Null) token) e = absurd (cc)
fits_means p (Known (Simple (plain.Truth b)) token) e = absurd (cc)
fits_means p (Known (Simple (plain.Byte z)) token) e = absurd (cc)
fits_means p (Known (Simple (plain.Short z)) token) e = absurd (cc)
fits_means p (Known (Simple (plain.Char n)) token) e = absurd (cc)
fits_means p (Known (Simple (plain.Long z)) token) e = absurd (cc)
fits_means p (Known (Text units) token) e = absurd (cc)
fits_means p (Formed form ty) e = absurd (cc)

-- what a primitive type is that is there
at_primitive : (a : Ty) (p : Primitive) → primitive_in a ≡ Some p → IsNumeric p → IsNumber a
at_primitive a p e h = let same : a ≡ primitive_type p = primitive_is a p (sym e) in let C : Ty → Type 0 = λ z. IsNumber z in subst C (sym same) h

chosen_numbers : (a b : Ty) (p q : Primitive) → primitive_in a ≡ Some p → primitive_in b ≡ Some q → IsNumeric p → IsNumeric q → Chooses a b
chosen_numbers a b p q e f h k = operands.Chooses.numbers (at_primitive a p e h) (at_primitive b q f k)

chosen_booleans : (a b : Ty) → primitive_in a ≡ Some prim.Bool → primitive_in b ≡ Some prim.Bool → Chooses a b
chosen_booleans a b e f =
    let C : Ty → Type 0 = λ z. Chooses z b in
    let D : Ty → Type 0 = λ z. Chooses boolean_type z in
    subst C (sym (primitive_is a prim.Bool (sym e))) (subst D (sym (primitive_is b prim.Bool (sym f))) operands.Chooses.booleans)

joint_means : (a b : Ty) (p q : Primitive) → primitive_in a ≡ Some p → primitive_in b ≡ Some q → Given (joint p q) → Chooses a b
joint_means a b prim.Bool prim.Bool e f h = chosen_booleans a b e f
joint_means a b prim.Bool q e f h = none_given h
joint_means a b p prim.Bool e f h = none_given h
joint_means a b p q e f h = chosen_numbers a b p q e f tt tt

second_test : (a b : Meaning) (p q : Primitive) (x : Bool) → primitive_in (type_of a) ≡ Some p → primitive_in (type_of b) ≡ Some q → fits q (value_known a) ≡ x → Given (if x then Some q else joint p q) → Chooses (type_of a) (type_of b)
second_test a b p q true e f h k =
    let means = fits_means q a h in
    chosen_numbers (type_of a) (type_of b) prim.Int q means.1 f tt means.0
second_test a b p q false e f h k = joint_means (type_of a) (type_of b) p q e f k

first_test : (a b : Meaning) (p q : Primitive) (x : Bool) → primitive_in (type_of a) ≡ Some p → primitive_in (type_of b) ≡ Some q → fits p (value_known b) ≡ x → Given (if x then Some p else (if fits q (value_known a) then Some q else joint p q)) → Chooses (type_of a) (type_of b)
first_test a b p q true e f h k =
    let means = fits_means p b h in
    chosen_numbers (type_of a) (type_of b) p prim.Int e means.1 means.0 tt
first_test a b p q false e f h k = second_test a b p q (fits q (value_known a)) e f refl k

map_given : {X Y : Type 0} (f : X → Y) (o : Option X) → Given (option_map f o) → Given o
map_given f (Some x) h = (x, refl)
map_given f Absent h = none_given h

references_chosen : (a b : Ty) (x : Bool) (ty : Ty) → (is_nullable a && is_nullable b) ≡ x → Given (if x then Some ty else Absent) → Chooses a b
references_chosen a b true ty e h = operands.Chooses.references (nullable_is a (first_true (is_nullable a) (is_nullable b) e)) (nullable_is b (second_true (is_nullable a) (is_nullable b) e))
references_chosen a b false ty e h = none_given h

choice_by : (j : Judgement) (t : Table) (a b : Meaning) (o p : Option Primitive) → primitive_in (type_of a) ≡ o → primitive_in (type_of b) ≡ p → Given (choice_result j t a o b p) → Chooses (type_of a) (type_of b)
unfolding choice_type
choice_by j t a b (Some p) (Some q) e f h = first_test a b p q (fits p (value_known b)) e f refl (map_given primitive_type (choice_type p (value_known a) q (value_known b)) h)
choice_by j t a b Absent Absent e f h = references_chosen (type_of a) (type_of b) (is_nullable (type_of a) && is_nullable (type_of b)) (common_type j t (type_of a) (type_of b)) refl h
choice_by j t a b (Some p) Absent e f h = none_given h
choice_by j t a b Absent (Some q) e f h = none_given h

-- ---- the laws

pub casts_exact : CastsAreExact
casts_exact t j g a b = (cast_is j t g a b, cast_true j t g)

pub assignments_exact : AssignmentsAreExact
assignments_exact t j g ty m valued = (assign_is j t g ty m, assign_true j t g valued)

pub unary_exact : UnaryIsExact
unary_exact op ty = (one_is op ty, one_taken)

pub binary_exact : BinaryIsExact
binary_exact t j g op a b = (λ h. elim h [ inl e ↦ joined_taken t op a b e | inr o ↦ types_taken j t g op a b o ], taken j t g)

pub updates_exact : UpdatesAreExact
updates_exact t j op a b n valued = (updates j t op a b n valued, taken_into j t)

pub choices_exact : ChoicesAreExact
choices_exact t j a b = (choice_by j t a b (primitive_in (type_of a)) (primitive_in (type_of b)) refl refl, chosen j t a b)
