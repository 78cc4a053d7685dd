-- Values of a type, and what the operators make of them.
use Rattle.std.proofs.Common.{◌≡◌, ℕ, zero, suc, Bool, true, false, List, ◌⊎◌, inl, inr, Some, refl, sym, ap, subst, ◌&&◌, int_eq}
use Rattle.std.specs.Prelude.{None as Absent}
use Rattle.std.specs.Prelude.{ℤ, pos, if◌then◌else◌}
use Rattle.std.specs.Int.{Width, w32, w64}
use Rattle.wy_kernel.specs.declared.operator.Primitive.{Primitive}
use Rattle.wy_kernel.specs.declared.operator.Primitive.TheVariants as prim
use Rattle.wy_kernel.specs.declared.operator.BinOp.{BinOp}
use Rattle.wy_kernel.specs.declared.operator.BinOp.TheVariants as op
use Rattle.wy_kernel.specs.declared.operator.UnOp.{UnOp}
use Rattle.wy_kernel.specs.declared.types.Base.{Base}
use Rattle.wy_kernel.specs.declared.types.Base.TheVariants.{Primitive as Basic, Class as Named}
use Rattle.wy_kernel.specs.declared.types.Ty.{Ty}
use Rattle.wy_kernel.specs.declared.types.Ty.TheVariants.{Void, Null as OfNull, Of}
use Rattle.wy_kernel.specs.Form.{Constant}
use Rattle.wy_kernel.specs.Form as form
use Rattle.wy_kernel.specs.Program.{Program, Class}
use Rattle.wy_kernel.specs.Subtyping.{IsReference, Below, same, transitive, declared, byte_short, short_int, int_long, char_int, of_null, to_object, of_arrays, primitive_type}
use Rattle.wy_value.specs.declared.value.Value.{Value}
use Rattle.wy_value.specs.declared.value.Value.TheVariants as val
use Rattle.wy_value.specs.Operator.{arithmetic, comparison, is_comparison, is_shift, is_division, on_numbers, binary_of, unary_of}
use Rattle.wy_value.specs.Conversion.{value_in, converted}
use Rattle.wy_steps.specs.Sets.{Sets}
use Rattle.wy_steps.specs.State.{Noted}
use Rattle.wy_steps.specs.Steps.{default_primitive, default_value}
use Rattle.wy_meaning.specs.Expression.{constant_value}
use Rattle.wy_meaning.specs.Place.{promoted, operated, primitive_of}
use Rattle.wy_typing.specs.Types.{boolean_type, char_type, int_type, long_type, IsVariableType, IsNullable, IsNumber, IsPromoted, constant_type, Fits, Operates, on_numbers as numbers, shifting, comparing, on_booleans, on_references, Promotes, of_byte, of_short, of_char, of_int, of_long, PromoteTogether, ints, long_left, long_right, UpdatesIn, as_numbers, as_shift, as_booleans}
use Rattle.law_typed_states.specs.Typed.{Is, MayStand, Refers}

-- neither a reference nor null
abbrev Plain : Ty → Type 0
Plain Void = Unit {0}
Plain OfNull = ⊥
Plain (Of (Basic q) zero) = Unit {0}
Plain (Of (Basic q) (suc n)) = ⊥
Plain (Of (Named c) n) = ⊥

plain_no_reference : (a : Ty) → Plain a → IsReference a → ⊥
plain_no_reference Void h r = r
plain_no_reference OfNull h r = h
plain_no_reference (Of (Basic q) zero) h r = r
plain_no_reference (Of (Basic q) (suc n)) h r = h
plain_no_reference (Of (Named c) n) h r = h

plain_no_array : (a : Base) (n : ℕ) → Plain (Of a (suc n)) → ⊥
plain_no_array (Basic q) n h = h
plain_no_array (Named c) n h = h

plain_above : (classes : List Class) (a b : Ty) → Below classes a b → Plain a → Plain b
plain_above classes a b same h = h
plain_above classes a b (transitive {b = c} k l) h = plain_above classes c b l (plain_above classes a c k h)
plain_above classes a b (declared k) h = absurd h
plain_above classes a b byte_short h = tt
plain_above classes a b short_int h = tt
plain_above classes a b int_long h = tt
plain_above classes a b char_int h = tt
plain_above classes a b (of_null r) h = absurd h
plain_above classes a b (to_object {a = c} r) h = absurd (plain_no_reference c h r)
plain_above classes a b (of_arrays {a = c} {m = m} r k l) h = absurd (plain_no_array c m h)

nullable_basic : (ty : Ty) (q : Primitive) → IsNullable ty → ty ≡ primitive_type q → ⊥
nullable_basic ty q (inl n) e = absurd (cc)
nullable_basic ty q (inr r) e = subst (λ t. IsReference t) e r

by_one : {to wide : Primitive} → Promotes to wide → PromoteTogether to prim.Int wide
by_one of_byte = ints of_byte of_int
by_one of_short = ints of_short of_int
by_one of_char = ints of_char of_int
by_one of_int = ints of_int of_int
by_one of_long = long_left of_int

-- one is added or taken away
pub stepped_as : {o : BinOp} {to wide : Primitive} → (o ≡ op.Add) ⊎ (o ≡ op.Sub) → Promotes to wide → UpdatesIn o to prim.Int wide
stepped_as (inl e) h = as_numbers (ap is_shift e) (ap is_comparison e) (by_one h)
stepped_as (inr e) h = as_numbers (ap is_shift e) (ap is_comparison e) (by_one h)

module _ {A : Sets} (p : Program) (noted : List (Noted A)) where
  abbrev I : Ty → Value → Type 0
  I ty v = Is p noted ty v

  pub constant_is : (v : Constant) → I (constant_type v) (constant_value v)
  unfolding constant_value
  constant_is form.Null = inl refl
  constant_is (form.Truth b) = refl
  constant_is (form.Byte z) = refl
  constant_is (form.Short z) = refl
  constant_is (form.Char n) = refl
  constant_is (form.Int z) = refl
  constant_is (form.Long z) = refl

  pub unary_is : (ty : Ty) (o : UnOp) (v : Value) → I ty v → I ty (unary_of o v)
  unary_is ty o (val.Int z) h = h
  unary_is ty o (val.Long z) h = h
  unary_is ty o (val.Bool b) h = h
  unary_is ty o _ h = h

  -- a value of a type of numbers that others are promoted to
  data Number : Primitive → Value → Type 0 where
    an_int : (z : ℤ) → Number prim.Int (val.Int z)
    a_long : (z : ℤ) → Number prim.Long (val.Long z)

  number : (q : Primitive) (v : Value) → IsPromoted q → I (primitive_type q) v → Number q v
  number prim.Int (val.Int z) p h = an_int z
  number prim.Long (val.Long z) p h = a_long z
  number prim.Int (val.Object k) p h = absurd h.stands.reference
  number prim.Int (val.Text k) p h = absurd h.reference
  number prim.Int (val.Fixed k) p h = absurd h.reference
  number prim.Int (val.Arm k) p h = absurd h
  number prim.Int val.Null p (inl h) = absurd (cc)
  number prim.Int val.Null p (inr h) = absurd h
  number prim.Long (val.Object k) p h = absurd h.stands.reference
  number prim.Long (val.Text k) p h = absurd h.reference
  number prim.Long (val.Fixed k) p h = absurd h.reference
  number prim.Long (val.Arm k) p h = absurd h
  number prim.Long val.Null p (inl h) = absurd (cc)
  number prim.Long val.Null p (inr h) = absurd h
  number prim.Bool _ p h = absurd p
  number prim.Byte _ p h = absurd p
  number prim.Short _ p h = absurd p
  number prim.Char _ p h = absurd p
  number prim.Int _ p h = absurd (cc)
  number prim.Long _ p h = absurd (cc)

  pub data Truth : Value → Type 0 where
    a_truth : (b : Bool) → Truth (val.Bool b)

  pub truth : (v : Value) → I boolean_type v → Truth v
  truth (val.Bool b) h = a_truth b
  truth (val.Object k) h = absurd h.stands.reference
  truth (val.Text k) h = absurd h.reference
  truth (val.Fixed k) h = absurd h.reference
  truth (val.Arm k) h = absurd h
  truth val.Null (inl h) = absurd (cc)
  truth val.Null (inr h) = absurd h
  truth _ h = absurd (cc)

  -- an operation on numbers that compares gives a boolean, and each other a number
  numbers_is : (width : Width) (make : ℤ → Value) (ty : Ty) (o : BinOp) (x y : ℤ) (v : Value) → ((z : ℤ) → I ty (make z)) → on_numbers width make o x y ≡ Some v → (is_comparison o ≡ false → I ty v) × (is_comparison o ≡ true → I boolean_type v)
  numbers_is width make ty o x y v h = go (is_comparison o) (is_division o && int_eq y (pos 0)) (arithmetic width o x y)
    where
      some : {a b : Value} → Some a ≡ Some b → (P : Value → Type 0) → P a → P b
      some {a = a} {b = b} e P p = let q : a ≡ b = cc e in subst P q p

      go : (c d : Bool) (z : ℤ) → (if c then Some (val.Bool (comparison o x y)) else (if d then Absent else Some (make z))) ≡ Some v → (c ≡ false → I ty v) × (c ≡ true → I boolean_type v)
      go true d z e = (λ n. absurd (cc n), λ t. some e (λ u. I boolean_type u) refl)
      go false true z e = absurd (cc e)
      go false false z e = (λ n. some e (λ u. I ty u) (h z), λ t. absurd (cc t))

  shifts_compare_nothing : (o : BinOp) → is_shift o ≡ true → is_comparison o ≡ false
  shifts_compare_nothing op.Shl h = refl
  shifts_compare_nothing op.Shr h = refl
  shifts_compare_nothing op.Ushr h = refl
  shifts_compare_nothing _ h = absurd (cc)

  truth_of : {b : Bool} (v : Value) → Some (val.Bool b) ≡ Some v → I boolean_type v
  truth_of {b = b} v e = let q : val.Bool b ≡ v = cc e in subst (λ u. I boolean_type u) q refl

  some_is : (ty : Ty) {u : Value} (v : Value) → I ty u → Some u ≡ Some v → I ty v
  some_is ty {u = u} v h e = let q : u ≡ v = cc e in subst (λ x. I ty x) q h

  of_numbers : (o : BinOp) (q : Primitive) (a b v : Value) → Number q a → Number q b → binary_of o a b ≡ Some v → (is_comparison o ≡ false → I (primitive_type q) v) × (is_comparison o ≡ true → I boolean_type v)
  of_numbers o q a b v (an_int x) (an_int y) e = numbers_is w32 (λ z. val.Int z) int_type o x y v (λ z. refl) e
  of_numbers o q a b v (a_long x) (a_long y) e = numbers_is w64 (λ z. val.Long z) long_type o x y v (λ z. refl) e

  of_shift : (o : BinOp) (q r : Primitive) (a b v : Value) → is_comparison o ≡ false → Number q a → Number r b → binary_of o a b ≡ Some v → I (primitive_type q) v
  of_shift o q r a b v n (an_int x) (an_int y) e = (numbers_is w32 (λ z. val.Int z) int_type o x y v (λ z. refl) e).0 n
  of_shift o q r a b v n (a_long x) (a_long y) e = (numbers_is w64 (λ z. val.Long z) long_type o x y v (λ z. refl) e).0 n
  of_shift o q r a b v n (an_int x) (a_long y) e = some_is int_type v refl e
  of_shift o q r a b v n (a_long x) (an_int y) e = some_is long_type v refl e

  of_truths : (o : BinOp) (a b v : Value) → Truth a → Truth b → binary_of o a b ≡ Some v → I boolean_type v
  of_truths o a b v (a_truth x) (a_truth y) e = truth_of v e

  of_references : (o : BinOp) (ty : Ty) (a b v : Value) → IsNullable ty → I ty a → binary_of o a b ≡ Some v → I boolean_type v
  of_references o ty val.Null b v n h e = truth_of v e
  of_references o ty (val.Object k) b v n h e = truth_of v e
  of_references o ty (val.Text k) b v n h e = truth_of v e
  of_references o ty (val.Fixed k) b v n h e = truth_of v e
  of_references o ty val.None b v n h e = truth_of v e
  of_references o ty (val.Byte z) b v n h e = truth_of v e
  of_references o ty (val.Short z) b v n h e = truth_of v e
  of_references o ty (val.Char z) b v n h e = truth_of v e
  of_references o ty (val.Int z) b v n h e = absurd (nullable_basic ty prim.Int n h)
  of_references o ty (val.Long z) b v n h e = absurd (nullable_basic ty prim.Long n h)
  of_references o ty (val.Bool z) b v n h e = absurd (nullable_basic ty prim.Bool n h)
  of_references o ty (val.Arm k) b v n h e = absurd h

  pub binary_is : (o : BinOp) (ta tb tc : Ty) (a b v : Value) → Operates p.classes o ta tb tc → I ta a → I tb b → binary_of o a b ≡ Some v → I tc v
  binary_is o ta tb tc a b v (numbers {p = q} s c p) ha hb e = (of_numbers o q a b v (number q a p ha) (number q b p hb) e).0 c
  binary_is o ta tb tc a b v (shifting {p = q} {q = r} s p p') ha hb e = of_shift o q r a b v (shifts_compare_nothing o s) (number q a p ha) (number r b p' hb) e
  binary_is o ta tb tc a b v (comparing {p = q} c p) ha hb e = (of_numbers o q a b v (number q a p ha) (number q b p hb) e).1 c
  binary_is o ta tb tc a b v (on_booleans l) ha hb e = of_truths o a b v (truth a ha) (truth b hb) e
  binary_is o ta tb tc a b v (on_references q n n' k) ha hb e = of_references o ta a b v n ha e

  value_in_is : (to : Primitive) (z : ℤ) → IsNumber to → I (primitive_type to) (value_in to z)
  value_in_is prim.Bool z h = absurd h
  value_in_is prim.Byte z h = refl
  value_in_is prim.Short z h = refl
  value_in_is prim.Char z h = refl
  value_in_is prim.Int z h = refl
  value_in_is prim.Long z h = refl

  no_number : (q : Primitive) → IsNumber q → primitive_type q ≡ boolean_type → ⊥
  no_number prim.Bool h e = absurd h
  no_number _ h e = absurd (cc)

  pub converted_is : (to q : Primitive) (v : Value) → IsNumber to → IsNumber q → I (primitive_type q) v → I (primitive_type to) (converted to v)
  converted_is to q (val.Byte z) t n h = value_in_is to z t
  converted_is to q (val.Short z) t n h = value_in_is to z t
  converted_is to q (val.Char z) t n h = value_in_is to (pos z) t
  converted_is to q (val.Int z) t n h = value_in_is to z t
  converted_is to q (val.Long z) t n h = value_in_is to z t
  converted_is to q (val.Bool b) t n h = absurd (no_number q n h)
  converted_is to q val.Null t n (inl h) = absurd (cc)
  converted_is to q val.Null t n (inr h) = absurd h
  converted_is to q (val.Object k) t n h = absurd h.stands.reference
  converted_is to q (val.Text k) t n h = absurd h.reference
  converted_is to q (val.Fixed k) t n h = absurd h.reference
  converted_is to q val.None t n h = absurd (cc)
  converted_is to q (val.Arm k) t n h = absurd h

  -- ---- a value where a type above its own is wanted

  pub stands_up : (found a b : Ty) → IsReference b → Below p.classes a b → MayStand p found a → MayStand p found b
  stands_up found a b r k h = record { reference = r; concrete = h.concrete; below = transitive h.below k }

  refers_up : (n : ℕ) (a b : Ty) → IsReference b → Below p.classes a b → Refers p noted a n → Refers p noted b n
  refers_up n a b r k h = record { event = h.event; there = h.there; is_new = h.is_new; stands = stands_up _ a b r k h.stands }

  low : (a b c : Ty) → IsReference b × Below p.classes a b → a ≡ c → Plain c → ⊥
  low a b c r e h = plain_no_reference b (plain_above p.classes a b r.1 (subst Plain (sym e) h)) r.0

  pub fits_is : (a b : Ty) (v : Value) → Fits p.classes a b → I a v → I b v
  fits_is a b v (inl e) h = subst (λ t. I t v) e h
  fits_is a b (val.Object k) (inr r) h = refers_up k a b r.0 r.1 h
  fits_is a b (val.Text k) (inr r) h = stands_up _ a b r.0 r.1 h
  fits_is a b (val.Fixed k) (inr r) h = stands_up _ a b r.0 r.1 h
  fits_is a b (val.Arm k) (inr r) h = absurd h
  fits_is a b val.Null (inr r) h = inr r.0
  fits_is a b val.None (inr r) h = absurd (low a b Void r h tt)
  fits_is a b (val.Bool x) (inr r) h = absurd (low a b boolean_type r h tt)
  fits_is a b (val.Byte x) (inr r) h = absurd (low a b (primitive_type prim.Byte) r h tt)
  fits_is a b (val.Short x) (inr r) h = absurd (low a b (primitive_type prim.Short) r h tt)
  fits_is a b (val.Char x) (inr r) h = absurd (low a b char_type r h tt)
  fits_is a b (val.Int x) (inr r) h = absurd (low a b int_type r h tt)
  fits_is a b (val.Long x) (inr r) h = absurd (low a b long_type r h tt)

  -- ---- defaults

  default_primitive_is : (q : Primitive) → I (primitive_type q) (default_primitive q)
  unfolding default_primitive
  default_primitive_is prim.Bool = refl
  default_primitive_is prim.Byte = refl
  default_primitive_is prim.Short = refl
  default_primitive_is prim.Char = refl
  default_primitive_is prim.Int = refl
  default_primitive_is prim.Long = refl

  pub default_is : (ty : Ty) → IsVariableType ty → I ty (default_value ty)
  unfolding default_value
  default_is Void h = absurd h
  default_is OfNull h = absurd h
  default_is (Of (Basic q) zero) h = default_primitive_is q
  default_is (Of (Basic q) (suc n)) h = inr tt
  default_is (Of (Named c) zero) h = inr tt
  default_is (Of (Named c) (suc n)) h = inr tt

  -- ---- compound assignments

  promotes_from : {q r : Primitive} → Promotes q r → IsNumber q × IsPromoted r
  promotes_from of_byte = (tt, tt)
  promotes_from of_short = (tt, tt)
  promotes_from of_char = (tt, tt)
  promotes_from of_int = (tt, tt)
  promotes_from of_long = (tt, tt)

  promoted_number : (q : Primitive) → IsPromoted q → IsNumber q
  promoted_number prim.Int h = tt
  promoted_number prim.Long h = tt
  promoted_number _ h = absurd h

  together : {q r wide : Primitive} → PromoteTogether q r wide → IsNumber q × IsNumber r × IsPromoted wide
  together (ints a b) = ((promotes_from a).0, (promotes_from b).0, tt)
  together (long_left b) = (tt, (promotes_from b).0, tt)
  together (long_right a) = ((promotes_from a).0, tt, tt)

  promoted_is : {q r : Primitive} (v : Value) → Promotes q r → I (primitive_type q) v → (s : Primitive) × Number s (promoted v)
  unfolding promoted
  promoted_is {q = q} v t h = distance v (λ z. converted_is prim.Int q v tt (promotes_from t).0 h)
    where
      distance : (v : Value) → (Unit {0} → I int_type (converted prim.Int v)) → (s : Primitive) × Number s (promoted v)
      distance (val.Long z) f = (prim.Long, a_long z)
      distance u f = (prim.Int, number prim.Int _ tt (f tt))

  -- the operation is done in the wider type, and its result brought to the type of the variable
  pub updated_is : (o : BinOp) (to from wide : Primitive) (a b x : Value) → UpdatesIn o to from wide → I (primitive_type to) a → I (primitive_type from) b → operated o wide a b ≡ Some x → I (primitive_type to) (primitive_of (primitive_type to) x)
  unfolding operated primitive_of promoted
  updated_is o to from wide a b x (as_numbers s c t) ha hb e =
      let n = together t in
      let l = number wide _ n.2 (converted_is wide to a (promoted_number wide n.2) n.0 ha) in
      let r = number wide _ n.2 (converted_is wide from b (promoted_number wide n.2) n.1 hb) in
      converted_is to wide x n.0 (promoted_number wide n.2) ((of_numbers o wide _ _ x l r (subst (λ q. binary_of o (converted wide a) (if q then promoted b else converted wide b) ≡ Some x) s e)).0 c)
  updated_is o to from wide a b x (as_shift s t u) ha hb e =
      let n = promotes_from t in
      let l = number wide _ n.1 (converted_is wide to a (promoted_number wide n.1) n.0 ha) in
      let r = promoted_is b u hb in
      converted_is to wide x n.0 (promoted_number wide n.1) (of_shift o wide r.0 _ _ x (shifts_compare_nothing o s) l r.1 (subst (λ q. binary_of o (converted wide a) (if q then promoted b else converted wide b) ≡ Some x) s e))
  updated_is o to from wide a b x (as_booleans l q) ha hb e = brought x (of_truths o a b x (truth a ha) (truth b hb) (plainly (is_shift o) a b (truth a ha) (truth b hb) e))
    where
      brought : (x : Value) → I boolean_type x → I boolean_type (converted prim.Bool x)
      brought x h = go x (truth x h)
        where
          go : (x : Value) → Truth x → I boolean_type (converted prim.Bool x)
          go x (a_truth y) = refl

      plainly : (c : Bool) (a b : Value) → Truth a → Truth b → binary_of o (converted prim.Bool a) (if c then promoted b else converted prim.Bool b) ≡ Some x → binary_of o a b ≡ Some x
      plainly true a b (a_truth y) (a_truth z) e = e
      plainly false a b (a_truth y) (a_truth z) e = e
