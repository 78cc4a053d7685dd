-- The forms of operations have their types, where those of their operands have theirs.
use Rattle.std.proofs.Common.{◌≡◌, ℕ, ℤ, zero, suc, Bool, true, false, refl, sym, ◌∙◌, ap, subst, List, length, Option, Some, None, arith, ◌⊎◌, inl, inr, if◌then◌else◌, ◌&&◌, not}
use Rattle.std.specs.Prelude.{slice_get, option_map, option_and_then}
use Rattle.wy_kernel.specs.declared.operator.Primitive.{Primitive}
use Rattle.wy_kernel.specs.declared.operator.Primitive.TheVariants as prim
use Rattle.wy_kernel.specs.declared.operator.UnOp.{UnOp}
use Rattle.wy_kernel.specs.declared.operator.UnOp.TheVariants as unary
use Rattle.wy_kernel.specs.declared.operator.BinOp.{BinOp}
use Rattle.wy_kernel.specs.declared.operator.BinOp.TheVariants as binary
use Rattle.wy_kernel.specs.declared.types.Base.TheVariants.{Primitive as Basic, Class as Named}
use Rattle.wy_kernel.specs.declared.types.Ty.{Ty}
use Rattle.wy_kernel.specs.declared.types.Ty.TheVariants.{Void, Null, Of}
use Rattle.wy_kernel.specs.declared.form.CondForm.{CondForm}
use Rattle.wy_kernel.specs.declared.form.CondForm.TheVariants as cond
use Rattle.wy_kernel.specs.Form.{Constant, Expression, Un, Bin, Cat, Cond, Cast, InstanceOf, Const}
use Rattle.wy_kernel.specs.Form as kernel
use Rattle.wy_kernel.specs.Program.{Program, Class, class_of_type}
use Rattle.wy_kernel.specs.Subtyping.{IsReference, Below, same, transitive, to_object, of_null, primitive_type, class_type, object_type}
use Rattle.wy_kernel.specs.Table.{Table, IsTypeOf, ConstantValue, Simple, Text}
use Rattle.wy_constant.specs.Scope.{Scope}
use Rattle.wy_constant.specs.Constant.{choice_constant, choice_type, fits, has_number, joint, combined}
use Rattle.wy_overloads.specs.Lineage.{HasTop}
use Rattle.wy_elab_expr.specs.Meaning.{Meaning, Known, Formed, type_of, text_type, Gets, give, ◌>>=◌, brought, formed, converted_form}
use Rattle.wy_elab_expr.specs.Operators.{Judgement, Settles, is_void, is_nullable, is_boolean, is_text_type, primitive_in, number_type, fits_into, unary_type, unary_known, unary_formed, unary_of, known_or, OperandTypes, operand_types, joins, joined, binary_known, binary_formed, binary_of, token_of, truth_known, lazy_form, lazy_formed, lazy_of, can_cast, can_cast_primitive, can_cast_by, cast_form, cast_known, cast_of, tested, instance_of, is_assignable, nearest_above, is_class_type, common_type, choice_result, choice_formed, choice_of}
use Rattle.wy_elab_expr.specs.Operators as elab
use Rattle.wy_constant.specs.declared.rule.Rule.TheVariants.{BadOperand, BadCast}
use Rattle.wy_typing.specs.Types.{boolean_type, IsNumber, IsValueType, IsNullable, IsVariableType, Fits, Joins}
use Rattle.wy_typing.specs.Expressions as typing
use Rattle.wy_typing.specs.Expressions.{HasType, Gives}
use Rattle.wy_typing.specs.Programs.{IsTypeIn}
use Rattle.law_typed.specs.ExpressionsTyped.{table_of, Stands, HasItsType}
use Rattle.law_typed.proofs.Bringing.{top_of, the_same, nothing_there, none_of, both_true, Brings, brings_below, brings_promoted, not_void, nullable, nullable_value, boolean_is, is_primitive, promoted_of, is_promoted, primitive_value}
use Rattle.wy_constant.specs.Fields.{superclass}
use Rattle.law_typed.proofs.Finding.{superclass_below}
use Rattle.law_typed.proofs.Operations.{either_true, not_true, below, casts, IsExact, operands}
use Rattle.law_typed.proofs.Ranges.{type_known, above_known, text_known}
use Rattle.law_typed.proofs.Texts.{is_listed}
use Rattle.law_typed.proofs.Forms.{constant_taken, text_taken, form_fitting, own_type, own_constant_form, form_taken, own_form, primitive_exact}
use Rattle.law_typed.proofs.Sequence.{Sound, next, given, none_found, so, if_either}

pub is_text : (a : Ty) → is_text_type a ≡ true → a ≡ text_type
is_text Void e = none_of e
is_text Null e = none_of e
is_text (Of (Named (suc zero)) zero) e = refl
is_text (Of (Named (suc zero)) (suc n)) e = none_of e
is_text (Of (Named zero) n) e = none_of e
is_text (Of (Named (suc (suc c))) n) e = none_of e
is_text (Of (Basic p) n) e = none_of e

module _ (p : Program) (constants : List (Option ConstantValue)) (j : Judgement) (locals : List Ty) (s : Scope) (g : Stands p constants j locals s) where
  abbrev T : Table
  T = table_of p constants

  abbrev n : ℕ
  n = length p.fixed_texts

  pub top : HasTop p.classes
  top = top_of T g.table

  -- what is found fits the types
  abbrev pub Fit : Meaning → Type 0
  Fit (Known value token) = Unit {0}
  Fit (Formed form ty) = HasItsType p locals form ty

  abbrev pub Has : Ty → Expression → Type 0
  Has ty e = HasType p locals e ty

  abbrev pub GivesTo : Ty → Expression → Type 0
  GivesTo ty e = Gives p locals e ty

  its : (e : Expression) (ty : Ty) → Has ty e → HasItsType p locals e ty
  its e ty h = (ty, h, inl refl)

  -- ---- what is brought to a type

  -- a value that may be brought to the type
  abbrev pub IsTaken : Ty → Meaning → Type 0
  IsTaken to m = IsValueType (type_of m) × (Brings p.classes (type_of m) to ⊎ (fits_into to m ≡ true))

  taken_form : (to ty : Ty) (e : Expression) → HasItsType p locals e ty → IsTaken to (Formed e ty) → GivesTo to (converted_form to ty e)
  taken_form to ty e h (v, inl b) = form_taken p locals to ty e (own_type p locals e ty v h) b
  taken_form to ty e h (v, inr f) = form_fitting p.classes top to e ty f

  pub brought_sound : {H : Type 0} (to : Ty) (m : Meaning) → (H → Fit m × IsTaken to m) → Sound n H (GivesTo to) (brought to m)
  unfolding brought
  brought_sound to (Known (Text units) token) h = record {
    grows = λ texts. (is_listed texts units token).0;
    finds = λ x texts lt. (let k = is_listed texts units token in typing.fitting (typing.text (omega (arith, k.1, lt))) (text_taken p.classes top to units token (h x).1.1));
  }
  brought_sound to (Known (Simple c) token) h = given (GivesTo to) _ (λ x. typing.fitting typing.constant (constant_taken p.classes top to c token (h x).1.1))
  brought_sound to (Formed e ty) h = given (GivesTo to) _ (λ x. taken_form to ty e (h x).0 (h x).1)

  pub formed_any : {H : Type 0} (m : Meaning) → (H → Fit m) → Sound n H (λ e. HasItsType p locals e (type_of m)) (formed m)
  unfolding brought
  formed_any (Known (Text units) token) h = record {
    grows = λ texts. (is_listed texts units token).0;
    finds = λ x texts lt. (let k = is_listed texts units token in its _ text_type (typing.text (omega (arith, k.1, lt))));
  }
  formed_any (Known (Simple c) token) h = given (λ e. HasItsType p locals e (type_of (Known (Simple c) token))) _ (λ x. its _ _ (own_constant_form p locals c token))
  formed_any (Formed e ty) h = given (λ e. HasItsType p locals e ty) _ (λ x. own_form p locals ty e (h x))

  -- a value in its own type
  pub formed_sound : {H : Type 0} (m : Meaning) → (H → Fit m × IsValueType (type_of m)) → Sound n H (Has (type_of m)) (formed m)
  formed_sound m h = so (λ e. HasItsType p locals e (type_of m)) (Has (type_of m)) (formed m) (formed_any m (λ x. (h x).0)) (λ x e k. own_type p locals e (type_of m) (h x).1 k)

  -- a primitive value in a primitive type
  pub brought_exact : {H : Type 0} (q : Primitive) (m : Meaning) → (H → Fit m × IsTaken (primitive_type q) m) → Sound n H (Has (primitive_type q)) (brought (primitive_type q) m)
  brought_exact q m h = so (GivesTo (primitive_type q)) (Has (primitive_type q)) (brought (primitive_type q) m) (brought_sound (primitive_type q) m h) (λ x e k. primitive_exact q k)

  pub brought_having : {H : Type 0} (to : Ty) (m : Meaning) → IsExact (type_of m) to → (H → Fit m × IsTaken to m) → Sound n H (Has to) (brought to m)
  brought_having {H} to m (inl is) h =
      let P : Ty → Type 0 = λ x. Sound n H (Has x) (brought x m) in subst P (sym is) (formed_sound m (λ x. ((h x).0, (h x).1.0)))
  brought_having {H} to m (inr q) h =
      let P : Ty → Type 0 = λ x. Sound n H (Has x) (brought x m) in
      let Q : Ty → Type 0 = λ x. Fit m × IsTaken x m in
      subst P (sym q.1) (brought_exact q.0 m (λ x. subst Q q.1 (h x)))

  -- a boolean stays as it is
  pub truth_taken : (m : Meaning) → is_boolean (type_of m) ≡ true → IsTaken boolean_type m
  truth_taken m e = (primitive_value (type_of m) prim.Bool (boolean_is (type_of m) e), inl (inl (inl (boolean_is (type_of m) e))))

  -- ---- unary operators

  pub known_sound : {H : Type 0} (o : Option ConstantValue) (token : ℕ) (other : Gets Meaning) → Sound n H Fit other → Sound n H Fit (known_or o token other)
  known_sound (Some c) token other h = given Fit _ (λ x. tt)
  known_sound None token other h = h

  abbrev UnaryFits : UnOp → Ty → Primitive → Type 0
  UnaryFits op a w = IsValueType a × Brings p.classes a (primitive_type w) × ((e : Expression) → Has (primitive_type w) e → Has (primitive_type w) (Un op e))

  negation_fits : (a : Ty) (w : Primitive) (b : Bool) → is_boolean a ≡ b → (if b then Some prim.Bool else None) ≡ Some w → UnaryFits unary.Not a w
  negation_fits a w false is e = nothing_there e
  negation_fits a w true is e =
      let a_is = boolean_is a is in
      let P : Primitive → Type 0 = λ x. UnaryFits unary.Not a x in
      subst P (the_same e) (primitive_value a prim.Bool a_is, inl (inl a_is), λ f h. typing.negated h)

  sign_fits : (op : UnOp) (a : Ty) (w : Primitive) → (op ≡ unary.Not → ⊥) → number_type a ≡ Some w → UnaryFits op a w
  sign_fits op a w other e =
      let h = promoted_of a w e in (primitive_value a h.0 h.1, brings_promoted p.classes a h.0 w h.1 h.2, λ f u. typing.signed other (is_promoted h.2) u)

  unary_fits : (op : UnOp) (a : Ty) (w : Primitive) → unary_type op a ≡ Some w → UnaryFits op a w
  unary_fits unary.Not a w e = negation_fits a w (is_boolean a) refl e
  unary_fits unary.Plus a w e = sign_fits unary.Plus a w (λ x. cc) e
  unary_fits unary.Minus a w e = sign_fits unary.Minus a w (λ x. cc) e
  unary_fits unary.Flip a w e = sign_fits unary.Flip a w (λ x. cc) e

  unary_by : (op : UnOp) (m : Meaning) (token : ℕ) (o : Option Primitive) → unary_type op (type_of m) ≡ o → Sound n (Fit m) Fit (unary_formed op o m token)
  unary_by op m token None e = none_found Fit BadOperand token
  unary_by op m token (Some w) e =
      let k = unary_fits op (type_of m) w e in
      next (Has (primitive_type w)) (brought (primitive_type w) m) (λ x. give (Formed (Un op x) (primitive_type w)))
      (brought_exact w m (λ h. (h, (k.0, inl k.1))))
      (λ x. given Fit (Formed (Un op x) (primitive_type w)) (λ h. its (Un op x) (primitive_type w) (k.2 x h.1)))

  pub unary_sound : (op : UnOp) (m : Meaning) (token : ℕ) → Sound n (Fit m) Fit (unary_of op m token)
  unfolding unary_of
  unary_sound op m token = known_sound (unary_known op m) token _ (unary_by op m token (unary_type op (type_of m)) refl)

  -- ---- binary operators

  joins_types : (a b : Ty) → (is_text_type a ≡ true) ⊎ (is_text_type b ≡ true) → IsValueType a → IsValueType b → Joins a b
  joins_types a b (inl e) h k = inl (is_text a e, k)
  joins_types a b (inr e) h k = inr (h, is_text b e)

  pub joins_fit : (op : BinOp) (a b : Ty) → joins op a b ≡ true → (op ≡ binary.Add) × Joins a b × IsValueType a × IsValueType b
  joins_fit binary.Add a b e =
      let f = both_true (not (is_void a) && not (is_void b)) _ e in
      let h = both_true (not (is_void a)) _ f.0 in
      let u = not_void a (not_true (is_void a) h.0) in let v = not_void b (not_true (is_void b) h.1) in
      (refl, joins_types a b (either_true (is_text_type a) (is_text_type b) f.1) u v, u, v)
  joins_fit _ a b e = none_of e

  joined_sound : (op : BinOp) (a b : Meaning) (token : ℕ) → joins op (type_of a) (type_of b) ≡ true → Sound n (Fit a × Fit b) Fit (joined a b token)
  joined_sound op a b token e =
      let k = joins_fit op (type_of a) (type_of b) e in
      next (Has (type_of a)) (formed a) (λ x. formed b >>= λ y. give (Formed (Cat x y (type_of a) (type_of b) token) text_type))
      (formed_sound a (λ h. (h.0, k.2)))
      (λ x. next (Has (type_of b)) (formed b) (λ y. give (Formed (Cat x y (type_of a) (type_of b) token) text_type))
      (formed_sound b (λ h. (h.0.1, k.3)))
      (λ y. given Fit (Formed (Cat x y (type_of a) (type_of b) token) text_type) (λ h. its _ text_type (typing.joined h.0.1 h.1 k.1))))

  binary_by : (op : BinOp) (o : Option OperandTypes) (a b : Meaning) (token : ℕ) → operand_types j T op (type_of a) (type_of b) ≡ o → Sound n (Fit a × Fit b) Fit (binary_formed op o a b token)
  binary_by op None a b token e = none_found Fit BadOperand token
  binary_by op (Some o) a b token e =
      let k = operands T j g.settled op (type_of a) (type_of b) o e in
      next (Has o.left) (brought o.left a) (λ x. brought o.right b >>= λ y. give (Formed (Bin op x y token) o.outcome))
      (brought_having o.left a k.left_exact (λ h. (h.0, (k.left_value, inl k.left))))
      (λ x. next (Has o.right) (brought o.right b) (λ y. give (Formed (Bin op x y token) o.outcome))
      (brought_having o.right b k.right_exact (λ h. (h.0.1, (k.right_value, inl k.right))))
      (λ y. given Fit (Formed (Bin op x y token) o.outcome) (λ h. its _ o.outcome (typing.operated h.0.1 h.1 k.operates))))

  pub binary_sound : (op : BinOp) (a b : Meaning) (token : ℕ) → Sound n (Fit a × Fit b) Fit (binary_of j T op a b token)
  unfolding binary_of
  binary_sound op a b token =
      known_sound (binary_known op a b) (token_of a) _
      (if_either Fit (joins op (type_of a) (type_of b)) _ _ (joined_sound op a b token) (λ e. binary_by op (operand_types j T op (type_of a) (type_of b)) a b token refl))

  -- ---- `&&` and `||`

  lazy_typed : (form : CondForm) (x y : Expression) (token : ℕ) → Has boolean_type x → Has boolean_type y → (form ≡ cond.Choice → ⊥) → Has boolean_type (lazy_form form x y token)
  lazy_typed cond.And x y token h k other = typing.both h k
  lazy_typed cond.Or x y token h k other = typing.either h k
  lazy_typed cond.Choice x y token h k other = absurd (other refl)

  lazy_by : (form : CondForm) (a b : Meaning) (token : ℕ) → (form ≡ cond.Choice → ⊥) → is_boolean (type_of a) && is_boolean (type_of b) ≡ true → Sound n (Fit a × Fit b) Fit (lazy_formed form a b token)
  lazy_by form a b token other e =
      let k = both_true (is_boolean (type_of a)) _ e in
      next (Has boolean_type) (brought boolean_type a) (λ x. brought boolean_type b >>= λ y. give (Formed (lazy_form form x y token) boolean_type))
      (brought_exact prim.Bool a (λ h. (h.0, truth_taken a k.0)))
      (λ x. next (Has boolean_type) (brought boolean_type b) (λ y. give (Formed (lazy_form form x y token) boolean_type))
      (brought_exact prim.Bool b (λ h. (h.0.1, truth_taken b k.1)))
      (λ y. given Fit (Formed (lazy_form form x y token) boolean_type) (λ h. its _ boolean_type (lazy_typed form x y token h.0.1 h.1 other))))

  pub lazy_sound : (form : CondForm) (f : Bool → Bool → Bool) (a b : Meaning) (token : ℕ) → (form ≡ cond.Choice → ⊥) → Sound n (Fit a × Fit b) Fit (lazy_of form f a b token)
  unfolding lazy_of
  lazy_sound form f a b token other =
      known_sound (combined f (truth_known a) (truth_known b)) (token_of a) _
      (if_either Fit (is_boolean (type_of a) && is_boolean (type_of b)) _ _ (lazy_by form a b token other) (λ e. none_found Fit BadOperand token))

  -- ---- `?:` of primitive values

  abbrev Converts : Primitive → Primitive → Type 0
  Converts q w = (q ≡ w) ⊎ (IsNumber q × IsNumber w)

  converts_brings : (a : Ty) (q w : Primitive) → a ≡ primitive_type q → Converts q w → Brings p.classes a (primitive_type w)
  converts_brings a q w is (inl e) = inl (inl (is ∙ ap primitive_type e))
  converts_brings a q w is (inr h) = inr (q, w, is, refl, h.0, h.1)

  has_number_of : (q : Primitive) (z : ℤ) → has_number q z ≡ true → IsNumber q
  has_number_of prim.Bool z e = none_of e
  has_number_of _ z e = tt

  number_known : (q r : Primitive) → Some q ≡ Some r → IsNumber q → IsNumber r
  number_known q r e h = subst IsNumber (the_same e) h

  -- a constant int that another type has
  int_known : (m : Meaning) (q r : Primitive) → fits q (elab.value_known m) ≡ true → primitive_in (type_of m) ≡ Some r → IsNumber q × IsNumber r
  int_known (Known (Simple (kernel.Int z)) token) q r e f = (has_number_of q z e, number_known prim.Int r f tt)
  int_known (Known (Simple kernel.Null) token) q r e f = none_of e
  int_known (Known (Simple (kernel.Truth b)) token) q r e f = none_of e
  int_known (Known (Simple (kernel.Byte z)) token) q r e f = none_of e
  int_known (Known (Simple (kernel.Short z)) token) q r e f = none_of e
  int_known (Known (Simple (kernel.Char z)) token) q r e f = none_of e
  int_known (Known (Simple (kernel.Long z)) token) q r e f = none_of e
  int_known (Known (Text units) token) q r e f = none_of e
  int_known (Formed form ty) q r e f = none_of e

  joint_converts : (q r w : Primitive) → joint q r ≡ Some w → Converts q w × Converts r w
  joint_converts prim.Bool prim.Bool w e = (inl (the_same e), inl (the_same e))
  joint_converts prim.Bool prim.Byte w e = nothing_there e
  joint_converts prim.Bool prim.Short w e = nothing_there e
  joint_converts prim.Bool prim.Char w e = nothing_there e
  joint_converts prim.Bool prim.Int w e = nothing_there e
  joint_converts prim.Bool prim.Long w e = nothing_there e
  joint_converts prim.Byte prim.Bool w e = nothing_there e
  joint_converts prim.Short prim.Bool w e = nothing_there e
  joint_converts prim.Char prim.Bool w e = nothing_there e
  joint_converts prim.Int prim.Bool w e = nothing_there e
  joint_converts prim.Long prim.Bool w e = nothing_there e
  joint_converts _ _ w e = let h : IsNumber w = subst IsNumber (the_same e) tt in (inr (tt, h), inr (tt, h))

  chosen_by : (a b : Meaning) (q r w : Primitive) (x y : Bool) → primitive_in (type_of a) ≡ Some q → primitive_in (type_of b) ≡ Some r → fits q (elab.value_known b) ≡ x → fits r (elab.value_known a) ≡ y →
      (if x then Some q else (if y then Some r else joint q r)) ≡ Some w → Converts q w × Converts r w
  chosen_by a b q r w true y ea eb f h e =
      let k = int_known b q r f eb in let is = the_same e in (inl is, inr (k.1, subst IsNumber is k.0))
  chosen_by a b q r w false true ea eb f h e =
      let k = int_known a r q h ea in let is = the_same e in (inr (k.1, subst IsNumber is k.0), inl is)
  chosen_by a b q r w false false ea eb f h e = joint_converts q r w e

  chosen_type : (a b : Meaning) (q r w : Primitive) → primitive_in (type_of a) ≡ Some q → primitive_in (type_of b) ≡ Some r → choice_type q (elab.value_known a) r (elab.value_known b) ≡ Some w → Converts q w × Converts r w
  unfolding choice_type
  chosen_type a b q r w ea eb e = chosen_by a b q r w (fits q (elab.value_known b)) (fits r (elab.value_known a)) ea eb refl refl e

  -- ---- `?:` of references

  -- a type of both
  abbrev IsCommon : Ty → Ty → Ty → Type 0
  IsCommon a b ty = Fits p.classes a ty × Fits p.classes b ty × IsValueType ty × IsTypeOf (length p.classes) ty

  of_nullable : (a : Ty) → IsNullable a → IsValueType a
  of_nullable Void (inl e) = absurd (cc)
  of_nullable Void (inr r) = r
  of_nullable Null h = tt
  of_nullable (Of b m) h = tt

  null_alone : (a : Ty) → Below p.classes a Null → Fits p.classes a Null
  null_alone a h = null_only a (brings_below p.classes top h)
    where
      null_only : (a : Ty) → Brings p.classes a Null → Fits p.classes a Null
      null_only a (inl f) = f
      null_only a (inr k) = let no : Null ≡ primitive_type k.1 = k.3 in absurd (cc)

  fits_nullable : (a b : Ty) → IsNullable b → Below p.classes a b → Fits p.classes a b
  fits_nullable a b (inl is) h =
      let P : Ty → Type 0 = λ x. Fits p.classes a x in let Q : Ty → Type 0 = λ x. Below p.classes a x in subst P (sym is) (null_alone a (subst Q is h))
  fits_nullable a b (inr r) h = inr (r, h)

  null_below : (b : Ty) → IsNullable b → Below p.classes Null b
  null_below b (inl is) = let P : Ty → Type 0 = λ x. Below p.classes Null x in subst P (sym is) same
  null_below b (inr r) = of_null r

  -- what is below no other is no null
  not_null : (a b : Ty) → IsNullable a → IsNullable b → j.below a b ≡ false → IsReference a
  not_null a b (inr r) k e = r
  not_null a b (inl is) k e =
      let P : Ty → Type 0 = λ x. Below p.classes x b in
      let yes' : j.below a b ≡ true = (g.settled.below a b).1 (subst P (sym is) (null_below b k)) in absurd (cc)

  object_common : (a b : Ty) → IsReference a → IsReference b → IsCommon a b object_type
  object_common a b r k = (inr (tt, to_object r), inr (tt, to_object k), tt, object_known)
    where
      object_known : IsTypeOf (length p.classes) object_type
      object_known = above_known p constants g.table text_type object_type tt (text_known p constants g.table) (to_object tt)

  above_is : (o : Option Class) → option_and_then (λ (k : Class). k.above) o ≡ superclass o
  above_is (Some k) = refl
  above_is None = refl

  nearest_by : (a b : Ty) (c : ℕ) (rest : Ty) (x : Bool) → IsReference a → IsReference b → IsTypeOf (length p.classes) a → Below p.classes a (class_type c) → j.below b (class_type c) ≡ x → IsCommon a b rest → IsCommon a b (if x then class_type c else rest)
  nearest_by a b c rest true r k known h e more = (inr (tt, h), inr (tt, below T j g.settled b (class_type c) e), tt, above_known p constants g.table a (class_type c) r known h)
  nearest_by a b c rest false r k known h e more = more

  nearest : (longest : ℕ) (a b : Ty) (o : Option ℕ) → IsReference a → IsReference b → IsTypeOf (length p.classes) a → ((c : ℕ) → o ≡ Some c → Below p.classes a (class_type c)) → IsCommon a b (nearest_above j T longest o b)
  unfolding nearest_above
  nearest zero a b o r k known h = object_common a b r k
  nearest (suc longest) a b None r k known h = object_common a b r k
  nearest (suc longest) a b (Some c) r k known h =
      nearest_by a b c _ (j.below b (class_type c)) r k known (h c refl) refl
      (nearest longest a b (option_and_then (λ (k : Class). k.above) (elab.class_of T c)) r k known
      (λ d e. transitive (h c refl) (superclass_below p.classes c d (sym (above_is (slice_get p.classes c)) ∙ e))))

  class_is : (a : Ty) → is_class_type T a ≡ true → a ≡ class_type (class_of_type a)
  unfolding class_of_type
  class_is (Of (Named c) zero) e = refl
  class_is (Of (Named c) (suc m)) e = none_of e
  class_is (Of (Basic q) m) e = none_of e
  class_is Void e = none_of e
  class_is Null e = none_of e

  nearest_class : (a b : Ty) (z : Bool) → IsReference a → IsReference b → IsTypeOf (length p.classes) a → is_class_type T a && is_class_type T b ≡ z → IsCommon a b (if z then nearest_above j T (length T.classes) (Some (class_of_type a)) b else object_type)
  nearest_class a b false r k known e = object_common a b r k
  nearest_class a b true r k known e =
      let h = both_true (is_class_type T a) _ e in
      let P : Ty → Type 0 = λ x. Below p.classes a x in
      nearest (length T.classes) a b (Some (class_of_type a)) r k known (λ c is. subst P (class_is a h.0 ∙ ap class_type (the_same is)) same)

  common_by : (a b : Ty) (x y : Bool) → IsNullable a → IsNullable b → IsTypeOf (length p.classes) a → IsTypeOf (length p.classes) b → j.below a b ≡ x → j.below b a ≡ y →
      IsCommon a b (if x then b else (if y then a else (if is_class_type T a && is_class_type T b then nearest_above j T (length T.classes) (Some (class_of_type a)) b else object_type)))
  common_by a b true y h k u v e f = (fits_nullable a b k (below T j g.settled a b e), inl refl, of_nullable b k, v)
  common_by a b false true h k u v e f = (inl refl, fits_nullable b a h (below T j g.settled b a f), of_nullable a h, u)
  common_by a b false false h k u v e f = nearest_class a b (is_class_type T a && is_class_type T b) (not_null a b h k e) (not_null b a k h f) u refl

  common : (a b : Ty) → IsNullable a → IsNullable b → IsTypeOf (length p.classes) a → IsTypeOf (length p.classes) b → IsCommon a b (common_type j T a b)
  common a b h k u v = common_by a b (j.below a b) (j.below b a) h k u v refl refl

  -- a value's type names a class of the program, if it names one
  pub type_in_range : (m : Meaning) → Fit m → IsValueType (type_of m) → IsTypeOf (length p.classes) (type_of m)
  type_in_range (Known (Text units) token) h v = text_known p constants g.table
  type_in_range (Known (Simple kernel.Null) token) h v = tt
  type_in_range (Known (Simple (kernel.Truth b)) token) h v = tt
  type_in_range (Known (Simple (kernel.Byte z)) token) h v = tt
  type_in_range (Known (Simple (kernel.Short z)) token) h v = tt
  type_in_range (Known (Simple (kernel.Char z)) token) h v = tt
  type_in_range (Known (Simple (kernel.Int z)) token) h v = tt
  type_in_range (Known (Simple (kernel.Long z)) token) h v = tt
  type_in_range (Formed e ty) h v = type_known p constants g.table locals g.known (own_type p locals e ty v h)

  -- what the two last operands are brought to
  pub record ChoiceFits (a b : Meaning) (ty : Ty) : Type 0 where
    pub left : IsTaken ty a
    pub right : IsTaken ty b
    pub value : IsValueType ty
    pub known : IsTypeOf (length p.classes) ty

  primitive_choice : (a b : Meaning) (q r : Primitive) (ty : Ty) (o : Option Primitive) → primitive_in (type_of a) ≡ Some q → primitive_in (type_of b) ≡ Some r → choice_type q (elab.value_known a) r (elab.value_known b) ≡ o → option_map primitive_type o ≡ Some ty → ChoiceFits a b ty
  primitive_choice a b q r ty None ea eb e f = nothing_there f
  primitive_choice a b q r ty (Some w) ea eb e f =
      let k = chosen_type a b q r w ea eb e in
      let a_is = is_primitive (type_of a) q ea in let b_is = is_primitive (type_of b) r eb in
      subst (λ (x : Ty). ChoiceFits a b x) (the_same f) (record {
        left = (primitive_value (type_of a) q a_is, inl (converts_brings (type_of a) q w a_is k.0));
        right = (primitive_value (type_of b) r b_is, inl (converts_brings (type_of b) r w b_is k.1));
        value = tt;
        known = tt;
      })

  reference_choice : (a b : Meaning) (ty : Ty) (x : Bool) → Fit a × Fit b → is_nullable (type_of a) && is_nullable (type_of b) ≡ x → (if x then Some (common_type j T (type_of a) (type_of b)) else None) ≡ Some ty → ChoiceFits a b ty
  reference_choice a b ty false h e f = nothing_there f
  reference_choice a b ty true h e f =
      let k = both_true (is_nullable (type_of a)) _ e in
      let va = nullable_value (type_of a) k.0 in let vb = nullable_value (type_of b) k.1 in
      let c = common (type_of a) (type_of b) (nullable (type_of a) k.0) (nullable (type_of b) k.1) (type_in_range a h.0 va) (type_in_range b h.1 vb) in
      subst (λ (x : Ty). ChoiceFits a b x) (the_same f) (record { left = (va, inl (inl c.0)); right = (vb, inl (inl c.1)); value = c.2; known = c.3 })

  choice_fits : (a b : Meaning) (ty : Ty) (x y : Option Primitive) → Fit a × Fit b → primitive_in (type_of a) ≡ x → primitive_in (type_of b) ≡ y → choice_result j T a x b y ≡ Some ty → ChoiceFits a b ty
  choice_fits a b ty (Some q) (Some r) h ea eb e = primitive_choice a b q r ty (choice_type q (elab.value_known a) r (elab.value_known b)) ea eb refl e
  choice_fits a b ty None None h ea eb e = reference_choice a b ty (is_nullable (type_of a) && is_nullable (type_of b)) h refl e
  choice_fits a b ty (Some q) None h ea eb e = nothing_there e
  choice_fits a b ty None (Some r) h ea eb e = nothing_there e

  choice_by : (test a b : Meaning) (token : ℕ) (o : Option Ty) → is_boolean (type_of test) ≡ true → (Fit a × Fit b → (ty : Ty) → o ≡ Some ty → ChoiceFits a b ty) → Sound n (Fit test × Fit a × Fit b) Fit (choice_formed o test a b token)
  choice_by test a b token None e k = none_found Fit BadOperand token
  choice_by test a b token (Some ty) e k =
      next (Has boolean_type) (brought boolean_type test) (λ z. brought ty a >>= λ x. brought ty b >>= λ y. give (Formed (Cond cond.Choice z (kernel.the x) (kernel.the y) token) ty))
      (brought_exact prim.Bool test (λ h. (h.0, truth_taken test e)))
      (λ z. next (GivesTo ty) (brought ty a) (λ x. brought ty b >>= λ y. give (Formed (Cond cond.Choice z (kernel.the x) (kernel.the y) token) ty))
      (brought_sound ty a (λ h. (h.0.1, (k (h.0.1, h.0.2) ty refl).left)))
      (λ x. next (GivesTo ty) (brought ty b) (λ y. give (Formed (Cond cond.Choice z (kernel.the x) (kernel.the y) token) ty))
      (brought_sound ty b (λ h. (h.0.0.2, (k (h.0.0.1, h.0.0.2) ty refl).right)))
      (λ y. given Fit (Formed (Cond cond.Choice z (kernel.the x) (kernel.the y) token) ty)
      (λ h. (let c = k (h.0.0.0.1, h.0.0.0.2) ty refl in its _ ty (typing.chosen h.0.0.1 c.value c.known h.0.1 h.1))))))

  pub choice_sound : (test a b : Meaning) (token : ℕ) → Sound n (Fit test × Fit a × Fit b) Fit (choice_of j T test a b token)
  unfolding choice_of
  choice_sound test a b token =
      known_sound (choice_constant (truth_known test) (elab.constant_of a) (elab.constant_of b)) (token_of test) _
      (if_either Fit (is_boolean (type_of test)) _ _
      (λ e. choice_by test a b token (choice_result j T a (primitive_in (type_of a)) b (primitive_in (type_of b))) e
      (λ h ty f. choice_fits a b ty (primitive_in (type_of a)) (primitive_in (type_of b)) h refl refl f))
      (λ e. none_found Fit BadOperand token))

  -- ---- casts

  cast_numbers : (q r : Primitive) → can_cast_primitive q r ≡ true → Converts q r
  cast_numbers prim.Bool prim.Bool e = inl refl
  cast_numbers prim.Bool prim.Byte e = none_of e
  cast_numbers prim.Bool prim.Short e = none_of e
  cast_numbers prim.Bool prim.Char e = none_of e
  cast_numbers prim.Bool prim.Int e = none_of e
  cast_numbers prim.Bool prim.Long e = none_of e
  cast_numbers prim.Byte prim.Bool e = none_of e
  cast_numbers prim.Short prim.Bool e = none_of e
  cast_numbers prim.Char prim.Bool e = none_of e
  cast_numbers prim.Int prim.Bool e = none_of e
  cast_numbers prim.Long prim.Bool e = none_of e
  cast_numbers _ _ e = inr (tt, tt)

  cast_primitive : (a to : Ty) (x : Option Primitive) (r : Primitive) → primitive_in a ≡ x → primitive_in to ≡ Some r → can_cast_by j T a x to (Some r) ≡ true → IsValueType a × Brings p.classes a to
  cast_primitive a to None r ea et e = none_of e
  cast_primitive a to (Some q) r ea et e =
      let a_is = is_primitive a q ea in let to_is = is_primitive to r et in
      let P : Ty → Type 0 = λ x. Brings p.classes a x in
      (primitive_value a q a_is, subst P (sym to_is) (converts_brings a q r a_is (cast_numbers q r e)))

  no_primitive : (a to : Ty) (x : Option Primitive) → primitive_in a ≡ x → can_cast_by j T a x to None ≡ true → primitive_in a ≡ None
  no_primitive a to None ea e = ea
  no_primitive a to (Some q) ea e = none_of e

  reference_in : (a : Ty) → IsValueType a → primitive_in a ≡ None → is_nullable a ≡ true
  reference_in Void v e = absurd v
  reference_in Null v e = refl
  reference_in (Of (Named c) m) v e = refl
  reference_in (Of (Basic q) (suc m)) v e = refl
  reference_in (Of (Basic q) zero) v e = absurd (cc)

  variable_reference : (a : Ty) → IsVariableType a → is_nullable a ≡ true → IsReference a
  variable_reference Void v e = absurd v
  variable_reference Null v e = absurd v
  variable_reference (Of (Named c) m) v e = tt
  variable_reference (Of (Basic q) (suc m)) v e = tt
  variable_reference (Of (Basic q) zero) v e = none_of e

  variable_value : (a : Ty) → IsVariableType a → IsValueType a
  variable_value Void v = v
  variable_value Null v = tt
  variable_value (Of b m) v = tt

  cast_by : (to : Ty) (o : Option Primitive) (m : Meaning) (token : ℕ) → IsValueType (type_of m) → primitive_in to ≡ o → can_cast_by j T (type_of m) (primitive_in (type_of m)) to o ≡ true → can_cast j T (type_of m) to ≡ true →
      Sound n (Fit m × IsTypeIn p to) Fit (cast_form to o m token)
  cast_by to (Some r) m token v e f allowed =
      let k = cast_primitive (type_of m) to (primitive_in (type_of m)) r refl e f in
      next (GivesTo to) (brought to m) (λ x. give (Formed x to))
      (brought_sound to m (λ h. (h.0, (k.0, inl k.1))))
      (λ x. given Fit (Formed x to) (λ h. (let P : Ty → Type 0 = λ y. Has y x in let Q : Ty → Type 0 = λ y. GivesTo y x in let is = is_primitive to r e in its x to (subst P (sym is) (primitive_exact r (subst Q is h.1))))))
  cast_by to None m token v e f allowed =
      let from = reference_in (type_of m) v (no_primitive (type_of m) to (primitive_in (type_of m)) refl f) in
      next (Has (type_of m)) (formed m) (λ x. give (Formed (Cast to x token) to))
      (formed_sound m (λ h. (h.0, v)))
      (λ x. given Fit (Formed (Cast to x token) to)
      (λ h. (let w = h.0.1 in let target = reference_in to (variable_value to w.variable) e in its _ to (typing.cast (variable_reference to w.variable target, w.known) h.1 (casts T j g.settled (type_of m) to from target allowed)))))

  allowed_by : (a to : Ty) → can_cast j T a to ≡ true → can_cast_by j T a (primitive_in a) to (primitive_in to) ≡ true
  unfolding can_cast
  allowed_by a to e = e

  pub cast_sound : (to : Ty) (m : Meaning) (token : ℕ) → Sound n (Fit m × IsTypeIn p to) Fit (cast_of j T to m token)
  unfolding cast_of
  cast_sound to m token =
      if_either Fit (is_void (type_of m)) _ _ (λ e. none_found Fit BadOperand token)
      (λ e. known_sound (cast_known to m) token _
      (if_either Fit (can_cast j T (type_of m) to) _ _
      (λ f. cast_by to (primitive_in to) m token (not_void (type_of m) e) refl (allowed_by (type_of m) to f) f)
      (λ f. none_found Fit BadCast token)))

  -- ---- `instanceof`

  tested_sound : (ty : Ty) (m : Meaning) → is_nullable (type_of m) && is_nullable ty && can_cast j T (type_of m) ty ≡ true → Sound n (Fit m × IsTypeIn p ty) Fit (tested ty m)
  tested_sound ty m e =
      let f = both_true (is_nullable (type_of m) && is_nullable ty) _ e in let h = both_true (is_nullable (type_of m)) _ f.0 in
      next (Has (type_of m)) (formed m) (λ x. give (Formed (InstanceOf ty x) boolean_type))
      (formed_sound m (λ u. (u.0, nullable_value (type_of m) h.0)))
      (λ x. given Fit (Formed (InstanceOf ty x) boolean_type) (λ u. its _ boolean_type (typing.tested (variable_reference ty u.0.1.variable h.1, u.0.1.known) u.1 (casts T j g.settled (type_of m) ty h.0 h.1 f.1))))

  pub instance_sound : (ty : Ty) (m : Meaning) (token : ℕ) → Sound n (Fit m × IsTypeIn p ty) Fit (instance_of j T ty m token)
  unfolding instance_of
  instance_sound ty m token =
      if_either Fit (is_void (type_of m)) _ _ (λ e. none_found Fit BadOperand token)
      (λ e. if_either Fit (is_nullable (type_of m) && is_nullable ty && can_cast j T (type_of m) ty) _ _ (tested_sound ty m) (λ f. none_found Fit BadCast token))
