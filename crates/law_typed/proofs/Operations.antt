-- What operators and casts are allowed on, by the tests of elaboration.
use Rattle.std.proofs.Common.{◌≡◌, ℕ, zero, suc, Bool, true, false, refl, sym, ◌∙◌, ap, subst, Option, Some, None, ◌⊎◌, inl, inr, if◌then◌else◌, ◌&&◌, ◌||◌, not}
use Rattle.std.specs.Prelude.{slice_get}
use Rattle.wy_kernel.specs.declared.operator.Primitive.{Primitive}
use Rattle.wy_kernel.specs.declared.operator.Primitive.TheVariants as prim
use Rattle.wy_kernel.specs.declared.operator.BinOp.{BinOp}
use Rattle.wy_kernel.specs.declared.operator.BinOp.TheVariants as binary
use Rattle.wy_kernel.specs.declared.types.Base.{Base}
use Rattle.wy_kernel.specs.declared.types.Base.TheVariants.{Primitive as Basic, Class as Named}
use Rattle.wy_kernel.specs.declared.types.Ty.{Ty}
use Rattle.wy_kernel.specs.declared.types.Ty.TheVariants.{Void, Null, Of}
use Rattle.wy_kernel.specs.Program.{Class}
use Rattle.wy_kernel.specs.Subtyping.{IsReference, Below, primitive_type, class_type}
use Rattle.wy_kernel.specs.Table.{Table}
use Rattle.wy_value.specs.Operator.{is_shift, is_equality, is_comparison, is_logical}
use Rattle.wy_elab_expr.specs.Operators.{Judgement, Settles, primitive_in, is_nullable, number_type, both_numbers, booleans, class_of, is_interface, is_open, may_meet, is_related, can_cast_bases, can_cast_reference, can_cast_by, can_cast, OperandTypes, of_one_type, of_number, of_shift, or_else, of_references, operand_types}
use Rattle.wy_typing.specs.Types.{boolean_type, IsValueType, IsNullable, MayMeet, CastsTo, up, down, from_interface, to_interface, of_elements, Operates, on_numbers, shifting, comparing, on_booleans, on_references, UpdatesIn, as_numbers, as_shift, as_booleans}
use Rattle.law_typed.proofs.Bringing.{the_same, nothing_there, both_true, none_of, Brings, brings_same, nullable, nullable_value, nullable_primitive, promoted_of, is_promoted, promoted_number, brings_promoted, primitive_value, Together, together, together_promoted, together_left, together_right, booleans_of}

pub either_true : (a b : Bool) → a || b ≡ true → (a ≡ true) ⊎ (b ≡ true)
either_true true b e = inl refl
either_true false b e = inr e

pub not_true : (b : Bool) → not b ≡ true → b ≡ false
not_true true e = none_of e
not_true false e = refl

-- a value is brought to its own type, or to a primitive one
abbrev pub IsExact : Ty → Ty → Type 0
IsExact a to = (to ≡ a) ⊎ ((q : Primitive) × (to ≡ primitive_type q))

same_basic : (v w : Primitive) → primitive_type v ≡ primitive_type w → v ≡ w
same_basic v w e = cc

not_equality : (op : BinOp) → is_comparison op ≡ false → is_equality op ≡ false
not_equality binary.Eq e = e
not_equality binary.Ne e = e
not_equality _ e = refl

no_update : {A : Type 0} (b : Bool) → b ≡ true → b ≡ false → A
no_update b e f = absurd (cc)

module _ (t : Table) (j : Judgement) (settled : Settles t j) where
  pub below : (a b : Ty) → j.below a b ≡ true → Below t.classes a b
  below a b e = (settled.below a b).0 e

  -- ---- casts

  related_by : (a b : Ty) → IsNullable a → IsNullable b → (j.below a b ≡ true) ⊎ (j.below b a ≡ true) → CastsTo t.classes a b
  related_by a b h k (inl e) = up h k (below a b e)
  related_by a b h k (inr e) = down h k (below b a e)

  related : (a b : Ty) → is_related j a b ≡ true → CastsTo t.classes a b
  related a b e =
      let f = both_true (is_nullable a && is_nullable b) _ e in let g = both_true (is_nullable a) _ f.0 in
      related_by a b (nullable a g.0) (nullable b g.1) (either_true (j.below a b) (j.below b a) f.1)

  related_references : (a b : Ty) → is_related j a b ≡ true → (is_nullable a ≡ true) × (is_nullable b ≡ true)
  related_references a b e = let f = both_true (is_nullable a && is_nullable b) _ e in both_true (is_nullable a) _ f.0

  open_by : (l : Class) → (l.is_interface ≡ true) ⊎ (not l.is_final ≡ true) → (l.is_interface ≡ true) ⊎ (l.is_final ≡ false)
  open_by l (inl e) = inl e
  open_by l (inr e) = inr (not_true l.is_final e)

  meets : (c d : ℕ) (x y : Option Class) → slice_get t.classes c ≡ x → slice_get t.classes d ≡ y → is_interface x && is_open y ≡ true → MayMeet t.classes c d
  meets c d (Some k) (Some l) e f g =
      let h = both_true k.is_interface _ g in (k, l, e, f, h.0, open_by l (either_true l.is_interface (not l.is_final) h.1))
  meets c d (Some k) None e f g = let h = both_true k.is_interface _ g in none_of h.1
  meets c d None y e f g = none_of g

  meeting : (c d : ℕ) → (is_interface (class_of t c) && is_open (class_of t d) ≡ true) ⊎ (is_interface (class_of t d) && is_open (class_of t c) ≡ true) → CastsTo t.classes (class_type c) (class_type d)
  meeting c d (inl e) = from_interface (meets c d (class_of t c) (class_of t d) refl refl e)
  meeting c d (inr e) = to_interface (meets d c (class_of t d) (class_of t c) refl refl e)

  abbrev CastsReferences : Ty → Ty → Type 0
  CastsReferences a b = CastsTo t.classes a b × (is_nullable a ≡ true) × (is_nullable b ≡ true)

  bases_related : (a b : Ty) → is_related j a b ≡ true → CastsReferences a b
  bases_related a b e = let h = related_references a b e in (related a b e, h.0, h.1)

  bases_meet : (a b : Base) → (is_related j (Of a 0) (Of b 0) ≡ true) ⊎ (may_meet t a b ≡ true) → CastsReferences (Of a 0) (Of b 0)
  bases_meet a b (inl e) = bases_related (Of a 0) (Of b 0) e
  bases_meet (Named c) (Named d) (inr e) = (meeting c d (either_true (is_interface (class_of t c) && is_open (class_of t d)) _ e), refl, refl)
  bases_meet (Named c) (Basic q) (inr e) = none_of e
  bases_meet (Basic p) b (inr e) = none_of e

  reference_of : (a : Base) (m : ℕ) → is_nullable (Of a m) ≡ true → IsReference (Of a m)
  reference_of (Named c) m e = tt
  reference_of (Basic p) (suc m) e = tt
  reference_of (Basic p) zero e = none_of e

  array_nullable : (a : Base) (m : ℕ) → is_nullable (Of a (suc m)) ≡ true
  array_nullable (Named c) m = refl
  array_nullable (Basic p) m = refl

  elements_cast : (a : Base) (m : ℕ) (b : Base) (n : ℕ) → CastsReferences (Of a m) (Of b n) → CastsReferences (Of a (suc m)) (Of b (suc n))
  elements_cast a m b n h = (of_elements (reference_of a m h.1) (reference_of b n h.2) h.0, array_nullable a m, array_nullable b n)

  elements : (a : Base) (m : ℕ) (b : Base) (n : ℕ) → (is_related j (Of a (suc m)) (Of b (suc n)) ≡ true) ⊎ (can_cast_bases j t a m b n ≡ true) → (can_cast_bases j t a m b n ≡ true → CastsReferences (Of a m) (Of b n)) → CastsReferences (Of a (suc m)) (Of b (suc n))
  elements a m b n (inl e) h = bases_related (Of a (suc m)) (Of b (suc n)) e
  elements a m b n (inr e) h = elements_cast a m b n (h e)

  bases : (a : Base) (m : ℕ) (b : Base) (n : ℕ) → can_cast_bases j t a m b n ≡ true → CastsReferences (Of a m) (Of b n)
  bases a zero b zero e = bases_meet a b (either_true (is_related j (Of a 0) (Of b 0)) _ e)
  bases a (suc m) b (suc n) e = elements a m b n (either_true (is_related j (Of a (suc m)) (Of b (suc n))) _ e) (bases a m b n)
  bases a zero b (suc n) e = bases_related (Of a 0) (Of b (suc n)) e
  bases a (suc m) b zero e = bases_related (Of a (suc m)) (Of b 0) e

  references_cast : (a b : Ty) → can_cast_reference j t a b ≡ true → CastsTo t.classes a b
  references_cast (Of a m) (Of b n) e = (bases a m b n e).0
  references_cast (Of a m) Void e = related (Of a m) Void e
  references_cast (Of a m) Null e = related (Of a m) Null e
  references_cast Void b e = related Void b e
  references_cast Null b e = related Null b e

  by_primitives : (a b : Ty) (x y : Option Primitive) → primitive_in a ≡ x → primitive_in b ≡ y → x ≡ None → y ≡ None → can_cast_by j t a (primitive_in a) b (primitive_in b) ≡ true → can_cast_reference j t a b ≡ true
  by_primitives a b x y e f g h k =
      let P : Option Primitive → Option Primitive → Type 0 = λ v w. can_cast_by j t a v b w ≡ true in
      subst (λ (w : Option Primitive). P None w) (f ∙ h) (subst (λ (v : Option Primitive). P v (primitive_in b)) (e ∙ g) k)

  -- a cast between references that is allowed
  pub casts : (a b : Ty) → is_nullable a ≡ true → is_nullable b ≡ true → can_cast j t a b ≡ true → CastsTo t.classes a b
  unfolding can_cast
  casts a b h k e = references_cast a b (by_primitives a b (primitive_in a) (primitive_in b) refl refl (nullable_primitive a h) (nullable_primitive b k) e)

  -- ---- operators

  -- numbers or booleans, on which the operation of a compound assignment is done in this type
  abbrev pub Updates : BinOp → Ty → Ty → Primitive → Type 0
  Updates op a b w = (q : Primitive) × (r : Primitive) × (a ≡ primitive_type q) × (b ≡ primitive_type r) × UpdatesIn op q r w

  updates_as : (op : BinOp) (a b : Ty) (v w : Primitive) → primitive_type v ≡ primitive_type w → Updates op a b v → Updates op a b w
  updates_as op a b v w e h = subst (λ x. Updates op a b x) (same_basic v w e) h

  pub record Operands (op : BinOp) (a b : Ty) (o : OperandTypes) : Type 0 where
    pub operates : Operates t.classes op o.left o.right o.outcome
    pub left : Brings t.classes a o.left
    pub right : Brings t.classes b o.right
    pub left_value : IsValueType a
    pub right_value : IsValueType b
    pub left_exact : IsExact a o.left
    pub right_exact : IsExact b o.right
    pub updates : is_comparison op ≡ false → (w : Primitive) → o.left ≡ primitive_type w → Updates op a b w

  abbrev types : Ty → Ty → Ty → OperandTypes
  types left right outcome = record { left = left; right = right; outcome = outcome }

  by_types : (op : BinOp) (a b : Ty) (o : OperandTypes) (left right outcome : Ty) → types left right outcome ≡ o → Operands op a b (types left right outcome) → Operands op a b o
  by_types op a b o left right outcome e h = subst (λ x. Operands op a b x) e h

  on_both : (op : BinOp) (a b outcome : Ty) (w : Primitive) → Together a b w → Operates t.classes op (primitive_type w) (primitive_type w) outcome → (is_comparison op ≡ false → Updates op a b w) → Operands op a b (types (primitive_type w) (primitive_type w) outcome)
  on_both op a b outcome w h k u = record {
    operates = k;
    left = inr (h.0, w, h.2, refl, together_left h.4, promoted_number w (together_promoted h.4));
    right = inr (h.1, w, h.3, refl, together_right h.4, promoted_number w (together_promoted h.4));
    left_value = primitive_value a h.0 h.2;
    right_value = primitive_value b h.1 h.3;
    left_exact = inr (w, refl);
    right_exact = inr (w, refl);
    updates = λ c v is. updates_as op a b w v is (u c);
  }

  numbers_by : (op : BinOp) (a b : Ty) (o : OperandTypes) (x : Option Primitive) → is_shift op ≡ false → is_comparison op ≡ false → both_numbers a b ≡ x → of_number x ≡ Some o → Operands op a b o
  numbers_by op a b o None e f g h = nothing_there h
  numbers_by op a b o (Some w) e f g h =
      let z = together a b w g in by_types op a b o (primitive_type w) (primitive_type w) (primitive_type w) (the_same h) (on_both op a b (primitive_type w) w z (on_numbers e f (together_promoted z.4)) (λ c. (z.0, z.1, z.2, z.3, as_numbers e f z.4)))

  numbers : (op : BinOp) (a b : Ty) (o : OperandTypes) → is_shift op ≡ false → is_comparison op ≡ false → of_number (both_numbers a b) ≡ Some o → Operands op a b o
  numbers op a b o e f h = numbers_by op a b o (both_numbers a b) e f refl h

  compared_by : (op : BinOp) (a b : Ty) (o : OperandTypes) (x : Option Primitive) → is_comparison op ≡ true → both_numbers a b ≡ x → of_one_type boolean_type x ≡ Some o → Operands op a b o
  compared_by op a b o None f g h = nothing_there h
  compared_by op a b o (Some w) f g h =
      let z = together a b w g in by_types op a b o (primitive_type w) (primitive_type w) boolean_type (the_same h) (on_both op a b boolean_type w z (comparing f (together_promoted z.4)) (no_update (is_comparison op) f))

  compared : (op : BinOp) (a b : Ty) (o : OperandTypes) → is_comparison op ≡ true → of_one_type boolean_type (both_numbers a b) ≡ Some o → Operands op a b o
  compared op a b o f h = compared_by op a b o (both_numbers a b) f refl h

  truths_by : (op : BinOp) (a b : Ty) (o : OperandTypes) (x : Option Primitive) → is_logical op ≡ true → booleans a b ≡ x → of_one_type boolean_type x ≡ Some o → Operands op a b o
  truths_by op a b o None f g h = nothing_there h
  truths_by op a b o (Some w) f g h =
      let z = booleans_of a b w g in
      let is : types boolean_type boolean_type boolean_type ≡ o = ap (λ (p : Primitive). types (primitive_type p) (primitive_type p) boolean_type) (sym z.2) ∙ the_same h in
      by_types op a b o boolean_type boolean_type boolean_type is (record {
        operates = on_booleans f;
        left = inl (inl z.0);
        right = inl (inl z.1);
        left_value = primitive_value a prim.Bool z.0;
        right_value = primitive_value b prim.Bool z.1;
        left_exact = inr (prim.Bool, refl);
        right_exact = inr (prim.Bool, refl);
        updates = λ c v is. updates_as op a b prim.Bool v is (prim.Bool, prim.Bool, z.0, z.1, as_booleans f (not_equality op c));
      })

  truths : (op : BinOp) (a b : Ty) (o : OperandTypes) → is_logical op ≡ true → of_one_type boolean_type (booleans a b) ≡ Some o → Operands op a b o
  truths op a b o f h = truths_by op a b o (booleans a b) f refl h

  shifted_by : (op : BinOp) (a b : Ty) (o : OperandTypes) (x y : Option Primitive) → is_shift op ≡ true → number_type a ≡ x → number_type b ≡ y → of_shift x y ≡ Some o → Operands op a b o
  shifted_by op a b o (Some v) (Some w) e f g h =
      let z = promoted_of a v f in let u = promoted_of b w g in
      by_types op a b o (primitive_type v) (primitive_type w) (primitive_type v) (the_same h) (record {
        operates = shifting e (is_promoted z.2) (is_promoted u.2);
        left = brings_promoted t.classes a z.0 v z.1 z.2;
        right = brings_promoted t.classes b u.0 w u.1 u.2;
        left_value = primitive_value a z.0 z.1;
        right_value = primitive_value b u.0 u.1;
        left_exact = inr (v, refl);
        right_exact = inr (w, refl);
        updates = λ c x is. updates_as op a b v x is (z.0, u.0, z.1, u.1, as_shift e z.2 u.2);
      })
  shifted_by op a b o None y e f g h = nothing_there h
  shifted_by op a b o (Some v) None e f g h = nothing_there h

  shifted : (op : BinOp) (a b : Ty) (o : OperandTypes) → is_shift op ≡ true → of_shift (number_type a) (number_type b) ≡ Some o → Operands op a b o
  shifted op a b o e h = shifted_by op a b o (number_type a) (number_type b) e refl refl h

  referred_by : (op : BinOp) (a b : Ty) (o : OperandTypes) (x : Bool) → is_equality op ≡ true → is_nullable a && is_nullable b && can_cast j t a b ≡ x → (if x then Some (types a b boolean_type) else None) ≡ Some o → Operands op a b o
  referred_by op a b o false e f h = nothing_there h
  referred_by op a b o true e f h =
      let u = both_true (is_nullable a && is_nullable b) _ f in let z = both_true (is_nullable a) _ u.0 in
      by_types op a b o a b boolean_type (the_same h) (record {
        operates = on_references e (nullable a z.0) (nullable b z.1) (casts a b z.0 z.1 u.1);
        left = brings_same t.classes a;
        right = brings_same t.classes b;
        left_value = nullable_value a z.0;
        right_value = nullable_value b z.1;
        left_exact = inl refl;
        right_exact = inl refl;
        updates = λ c. no_update (is_equality op) e (not_equality op c);
      })

  referred : (op : BinOp) (a b : Ty) (o : OperandTypes) → is_equality op ≡ true → of_references j t a b ≡ Some o → Operands op a b o
  referred op a b o e h = referred_by op a b o (is_nullable a && is_nullable b && can_cast j t a b) e refl h

  either_of : {P : Type 0} (o : OperandTypes) (x y : Option OperandTypes) → or_else x y ≡ Some o → (x ≡ Some o → P) → (y ≡ Some o → P) → P
  either_of o (Some z) y e f g = f e
  either_of o None y e f g = g e

  equality : (op : BinOp) (a b : Ty) (o : OperandTypes) → is_equality op ≡ true → is_comparison op ≡ true → is_logical op ≡ true →
      or_else (of_one_type boolean_type (both_numbers a b)) (or_else (of_one_type boolean_type (booleans a b)) (of_references j t a b)) ≡ Some o → Operands op a b o
  equality op a b o e f g h =
      either_of o (of_one_type boolean_type (both_numbers a b)) _ h (compared op a b o f)
      (λ k. either_of o (of_one_type boolean_type (booleans a b)) _ k (truths op a b o g) (referred op a b o e))

  bitwise : (op : BinOp) (a b : Ty) (o : OperandTypes) → is_shift op ≡ false → is_comparison op ≡ false → is_logical op ≡ true →
      or_else (of_number (both_numbers a b)) (of_one_type boolean_type (booleans a b)) ≡ Some o → Operands op a b o
  bitwise op a b o e f g h = either_of o (of_number (both_numbers a b)) _ h (numbers op a b o e f) (truths op a b o g)

  -- what an operator is given fits it
  pub operands : (op : BinOp) (a b : Ty) (o : OperandTypes) → operand_types j t op a b ≡ Some o → Operands op a b o
  unfolding operand_types
  operands binary.Add a b o e = numbers binary.Add a b o refl refl e
  operands binary.Sub a b o e = numbers binary.Sub a b o refl refl e
  operands binary.Mul a b o e = numbers binary.Mul a b o refl refl e
  operands binary.Div a b o e = numbers binary.Div a b o refl refl e
  operands binary.Rem a b o e = numbers binary.Rem a b o refl refl e
  operands binary.Shl a b o e = shifted binary.Shl a b o refl e
  operands binary.Shr a b o e = shifted binary.Shr a b o refl e
  operands binary.Ushr a b o e = shifted binary.Ushr a b o refl e
  operands binary.Lt a b o e = compared binary.Lt a b o refl e
  operands binary.Gt a b o e = compared binary.Gt a b o refl e
  operands binary.Le a b o e = compared binary.Le a b o refl e
  operands binary.Ge a b o e = compared binary.Ge a b o refl e
  operands binary.Eq a b o e = equality binary.Eq a b o refl refl refl e
  operands binary.Ne a b o e = equality binary.Ne a b o refl refl refl e
  operands binary.And a b o e = bitwise binary.And a b o refl refl refl e
  operands binary.Or a b o e = bitwise binary.Or a b o refl refl refl e
  operands binary.Xor a b o e = bitwise binary.Xor a b o refl refl refl e
