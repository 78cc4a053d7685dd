-- Forms that a parent makes of what it is given stand where it wants them.
use Rattle.std.proofs.Common.{◌≡◌, ℕ, zero, suc, Bool, true, false, refl, sym, ◌∙◌, ap, subst, List, arith, ◌⊎◌, inl, inr, if◌then◌else◌}
use Rattle.wy_kernel.specs.declared.operator.Primitive.{Primitive}
use Rattle.wy_kernel.specs.declared.operator.Primitive.TheVariants as prim
use Rattle.wy_kernel.specs.declared.types.Base.TheVariants.{Primitive as Basic, Class as Named}
use Rattle.wy_kernel.specs.declared.types.Ty.{Ty}
use Rattle.wy_kernel.specs.declared.types.Ty.TheVariants.{Void, Null, Of}
use Rattle.wy_kernel.specs.Form.{Constant, Truth, Byte, Short, Char, Int, Long, Expression, Str, Conv, Const}
use Rattle.wy_kernel.specs.Form as kernel
use Rattle.wy_kernel.specs.Program.{Program, Class, same_primitive, primitive_code}
use Rattle.wy_kernel.specs.Subtyping.{IsReference, Below, primitive_type}
use Rattle.wy_kernel.specs.Table.{Simple, Text}
use Rattle.wy_constant.specs.Constant.{value_of, constant_fits, has_number}
use Rattle.wy_overloads.specs.Lineage.{HasTop}
use Rattle.wy_overloads.proofs.Straight.{Straight, equal, upward, widening, null, object, array, straight}
use Rattle.wy_elab_expr.specs.Meaning.{Known, Formed, type_of, text_type, converted_form, constant_for}
use Rattle.wy_elab_expr.specs.Operators.{fits_into}
use Rattle.wy_typing.specs.Types.{constant_type, IsNumber, IsValueType, Fits}
use Rattle.wy_typing.specs.Expressions as typing
use Rattle.wy_typing.specs.Expressions.{HasType, Gives}
use Rattle.law_typed.specs.ExpressionsTyped.{HasItsType}
use Rattle.law_typed.proofs.Bringing.{none_of, Brings}

-- ---- primitive types

same_primitives : (a b : Primitive) → same_primitive a b ≡ true → a ≡ b
unfolding same_primitive primitive_code
same_primitives prim.Bool prim.Bool e = refl
same_primitives prim.Bool _ e = none_of e
same_primitives prim.Byte prim.Byte e = refl
same_primitives prim.Byte _ e = none_of e
same_primitives prim.Short prim.Short e = refl
same_primitives prim.Short _ e = none_of e
same_primitives prim.Char prim.Char e = refl
same_primitives prim.Char _ e = none_of e
same_primitives prim.Int prim.Int e = refl
same_primitives prim.Int _ e = none_of e
same_primitives prim.Long prim.Long e = refl
same_primitives prim.Long _ e = none_of e

itself : (a : Primitive) → same_primitive a a ≡ true
unfolding same_primitive primitive_code
itself prim.Bool = refl
itself prim.Byte = refl
itself prim.Short = refl
itself prim.Char = refl
itself prim.Int = refl
itself prim.Long = refl

-- ---- conversions of forms

unchanged : (to : Ty) (e : Expression) → converted_form to to e ≡ e
unfolding converted_form
unchanged Void e = refl
unchanged Null e = refl
unchanged (Of (Named c) n) e = refl
unchanged (Of (Basic p) (suc n)) e = refl
unchanged (Of (Basic p) zero) e = ap (λ b. if b then e else Conv p e) (itself p)

reference_form : (to from : Ty) (e : Expression) → IsReference to → converted_form to from e ≡ e
unfolding converted_form
reference_form Void from e r = absurd r
reference_form Null from e r = absurd r
reference_form (Of (Named c) n) from e r = refl
reference_form (Of (Basic p) (suc n)) from e r = refl
reference_form (Of (Basic p) zero) from e r = absurd r

-- ---- constants

number_constant : (p : Primitive) (c : Constant) (q : Primitive) → IsNumber p → IsNumber q → constant_type c ≡ primitive_type q → constant_type (constant_for (primitive_type p) c) ≡ primitive_type p
number_constant prim.Bool c q h k e = absurd h
number_constant prim.Byte (Byte z) q h k e = refl
number_constant prim.Byte (Short z) q h k e = refl
number_constant prim.Byte (Char z) q h k e = refl
number_constant prim.Byte (Int z) q h k e = refl
number_constant prim.Byte (Long z) q h k e = refl
number_constant prim.Short (Byte z) q h k e = refl
number_constant prim.Short (Short z) q h k e = refl
number_constant prim.Short (Char z) q h k e = refl
number_constant prim.Short (Int z) q h k e = refl
number_constant prim.Short (Long z) q h k e = refl
number_constant prim.Char (Byte z) q h k e = refl
number_constant prim.Char (Short z) q h k e = refl
number_constant prim.Char (Char z) q h k e = refl
number_constant prim.Char (Int z) q h k e = refl
number_constant prim.Char (Long z) q h k e = refl
number_constant prim.Int (Byte z) q h k e = refl
number_constant prim.Int (Short z) q h k e = refl
number_constant prim.Int (Char z) q h k e = refl
number_constant prim.Int (Int z) q h k e = refl
number_constant prim.Int (Long z) q h k e = refl
number_constant prim.Long (Byte z) q h k e = refl
number_constant prim.Long (Short z) q h k e = refl
number_constant prim.Long (Char z) q h k e = refl
number_constant prim.Long (Int z) q h k e = refl
number_constant prim.Long (Long z) q h k e = refl
number_constant p kernel.Null q h k e = absurd (cc)
number_constant p (Truth b) q h k e = let is : prim.Bool ≡ q = cc in absurd (subst IsNumber (sym is) k)

own_constant : (c : Constant) → (constant_for (constant_type c) c ≡ c) ⊎ ((q : Primitive) × IsNumber q × (constant_type c ≡ primitive_type q))
own_constant kernel.Null = inl refl
own_constant (Truth b) = inl refl
own_constant (Byte z) = inr (prim.Byte, tt, refl)
own_constant (Short z) = inr (prim.Short, tt, refl)
own_constant (Char z) = inr (prim.Char, tt, refl)
own_constant (Int z) = inr (prim.Int, tt, refl)
own_constant (Long z) = inr (prim.Long, tt, refl)

plain_type : (c : Constant) (token : ℕ) → type_of (Known (Simple c) token) ≡ constant_type c
plain_type kernel.Null token = refl
plain_type (Truth b) token = refl
plain_type (Byte z) token = refl
plain_type (Short z) token = refl
plain_type (Char z) token = refl
plain_type (Int z) token = refl
plain_type (Long z) token = refl

null_for : (to : Ty) → constant_for to kernel.Null ≡ kernel.Null
null_for Void = refl
null_for Null = refl
null_for (Of (Named c) n) = refl
null_for (Of (Basic p) (suc n)) = refl
null_for (Of (Basic p) zero) = refl

primitive_straight : {A : Type 0} {classes : List Class} {a b : Ty} (q : Primitive) → a ≡ primitive_type q → IsReference b → Straight classes a b → A
primitive_straight q e r equal = let P : Ty → Type 0 = λ x. IsReference x in absurd (subst P e r)
primitive_straight q e r (upward s) = absurd (cc)
primitive_straight q e r (widening w) = absurd r
primitive_straight q e r (null n) = absurd (cc)
primitive_straight q e r object = absurd (cc)
primitive_straight q e r (array {a} {m} {n} lt) = let is : m ≡ 0 = cc in absurd (omega arith)

module _ (classes : List Class) (top : HasTop classes) where
  -- no primitive type is below a reference
  pub primitive_reference : {A : Type 0} (a b : Ty) (q : Primitive) → a ≡ primitive_type q → IsReference b → Below classes a b → A
  primitive_reference a b q e r h = primitive_straight q e r (straight classes top h)

  as_number : (to : Ty) (c : Constant) (p q : Primitive) → to ≡ primitive_type p → IsNumber p → IsNumber q → constant_type c ≡ primitive_type q → Fits classes (constant_type (constant_for to c)) to
  as_number to c p q is h k e = let P : Ty → Type 0 = λ x. Fits classes (constant_type (constant_for x c)) x in subst P (sym is) (inl (number_constant p c q h k e))

  as_own : (to : Ty) (c : Constant) → constant_type c ≡ to → (constant_for (constant_type c) c ≡ c) ⊎ ((q : Primitive) × IsNumber q × (constant_type c ≡ primitive_type q)) → Fits classes (constant_type (constant_for to c)) to
  as_own to c is (inl e) = let P : Ty → Type 0 = λ x. Fits classes (constant_type (constant_for x c)) x in subst P is (inl (ap constant_type e))
  as_own to c is (inr h) = as_number to c h.0 h.0 (sym is ∙ h.2) h.1 h.1 h.2

  as_reference : (to : Ty) (c : Constant) → IsReference to → Below classes (constant_type c) to → Fits classes (constant_type (constant_for to c)) to
  as_reference to kernel.Null r h = let P : Constant → Type 0 = λ x. Fits classes (constant_type x) to in subst P (sym (null_for to)) (inr (r, h))
  as_reference to (Truth b) r h = primitive_reference _ to prim.Bool refl r h
  as_reference to (Byte z) r h = primitive_reference _ to prim.Byte refl r h
  as_reference to (Short z) r h = primitive_reference _ to prim.Short refl r h
  as_reference to (Char z) r h = primitive_reference _ to prim.Char refl r h
  as_reference to (Int z) r h = primitive_reference _ to prim.Int refl r h
  as_reference to (Long z) r h = primitive_reference _ to prim.Long refl r h

  constant_brought : (to : Ty) (c : Constant) → Brings classes (constant_type c) to → Fits classes (constant_type (constant_for to c)) to
  constant_brought to c (inl (inl e)) = as_own to c e (own_constant c)
  constant_brought to c (inl (inr h)) = as_reference to c h.0 h.1
  constant_brought to c (inr h) = as_number to c h.1 h.0 h.3 h.5 h.4 h.2

  has_number_of : (p : Primitive) (z : _) → has_number p z ≡ true → IsNumber p
  has_number_of prim.Bool z e = none_of e
  has_number_of _ z e = tt

  fits_number_constant : (p : Primitive) (c : Constant) → constant_fits p (value_of c) ≡ true → IsNumber p × ((q : Primitive) × IsNumber q × (constant_type c ≡ primitive_type q))
  fits_number_constant p kernel.Null e = none_of e
  fits_number_constant p (Truth b) e = none_of e
  fits_number_constant p (Byte z) e = (has_number_of p z e, (prim.Byte, tt, refl))
  fits_number_constant p (Short z) e = (has_number_of p z e, (prim.Short, tt, refl))
  fits_number_constant p (Char z) e = (has_number_of p _ e, (prim.Char, tt, refl))
  fits_number_constant p (Int z) e = (has_number_of p z e, (prim.Int, tt, refl))
  fits_number_constant p (Long z) e = none_of e

  constant_fitting : (to : Ty) (c : Constant) (token : ℕ) → fits_into to (Known (Simple c) token) ≡ true → Fits classes (constant_type (constant_for to c)) to
  constant_fitting Void c token e = none_of e
  constant_fitting Null c token e = none_of e
  constant_fitting (Of (Named d) n) c token e = none_of e
  constant_fitting (Of (Basic p) (suc n)) c token e = none_of e
  constant_fitting (Of (Basic p) zero) c token e = let h = fits_number_constant p c e in as_number (Of (Basic p) zero) c p h.1.0 refl h.0 h.1.1 h.1.2

  pub constant_taken : (to : Ty) (c : Constant) (token : ℕ) → Brings classes (type_of (Known (Simple c) token)) to ⊎ (fits_into to (Known (Simple c) token) ≡ true) → Fits classes (constant_type (constant_for to c)) to
  constant_taken to c token (inl h) = let P : Ty → Type 0 = λ x. Brings classes x to in constant_brought to c (subst P (plain_type c token) h)
  constant_taken to c token (inr e) = constant_fitting to c token e

  text_fitting : {A : Type 0} (to : Ty) (units : List ℕ) (token : ℕ) → fits_into to (Known (Text units) token) ≡ true → A
  text_fitting Void units token e = none_of e
  text_fitting Null units token e = none_of e
  text_fitting (Of (Named d) n) units token e = none_of e
  text_fitting (Of (Basic p) (suc n)) units token e = none_of e
  text_fitting (Of (Basic p) zero) units token e = none_of e

  pub text_taken : (to : Ty) (units : List ℕ) (token : ℕ) → Brings classes text_type to ⊎ (fits_into to (Known (Text units) token) ≡ true) → Fits classes text_type to
  text_taken to units token (inl (inl h)) = h
  text_taken to units token (inl (inr h)) = let no : text_type ≡ primitive_type h.0 = h.2 in absurd (cc)
  text_taken to units token (inr e) = text_fitting to units token e

  pub form_fitting : {A : Type 0} (to : Ty) (form : Expression) (ty : Ty) → fits_into to (Formed form ty) ≡ true → A
  form_fitting Void form ty e = none_of e
  form_fitting Null form ty e = none_of e
  form_fitting (Of (Named d) n) form ty e = none_of e
  form_fitting (Of (Basic p) (suc n)) form ty e = none_of e
  form_fitting (Of (Basic p) zero) form ty e = none_of e

pub own_type : (p : Program) (locals : List Ty) (e : Expression) (ty : Ty) → IsValueType ty → HasItsType p locals e ty → HasType p locals e ty
own_type p locals e ty v (a, h, inl is) = let P : Ty → Type 0 = λ x. HasType p locals e x in subst P is h
own_type p locals e ty v (a, h, inr is) = absurd (subst IsValueType is v)

own_constant_type : (c : Constant) → (constant_for (constant_type c) c ≡ c) ⊎ ((q : Primitive) × IsNumber q × (constant_type c ≡ primitive_type q)) → constant_type (constant_for (constant_type c) c) ≡ constant_type c
own_constant_type c (inl e) = ap constant_type e
own_constant_type c (inr h) = ap (λ x. constant_type (constant_for x c)) h.2 ∙ number_constant h.0 c h.0 h.1 h.1 h.2 ∙ sym h.2

-- a constant in a form of its own type
pub own_constant_form : (p : Program) (locals : List Ty) (c : Constant) (token : ℕ) → HasType p locals (Const (constant_for (type_of (Known (Simple c) token)) c)) (type_of (Known (Simple c) token))
own_constant_form p locals c token =
    let P : Ty → Type 0 = λ x. HasType p locals (Const (constant_for x c)) x in
    let Q : Ty → Type 0 = λ x. HasType p locals (Const (constant_for (constant_type c) c)) x in
    subst P (sym (plain_type c token)) (subst Q (own_constant_type c (own_constant c)) typing.constant)

-- ---- forms

converted_by : (p : Program) (locals : List Ty) (to from : Primitive) (e : Expression) (b : Bool) → same_primitive to from ≡ b → IsNumber to → IsNumber from → HasType p locals e (primitive_type from) → HasType p locals (if b then e else Conv to e) (primitive_type to)
converted_by p locals to from e true is h k u = let P : Primitive → Type 0 = λ x. HasType p locals e (primitive_type x) in subst P (sym (same_primitives to from is)) u
converted_by p locals to from e false is h k u = typing.converted h k u

converted_number : (p : Program) (locals : List Ty) (to from : Primitive) (e : Expression) → IsNumber to → IsNumber from → HasType p locals e (primitive_type from) → HasType p locals (converted_form (primitive_type to) (primitive_type from) e) (primitive_type to)
unfolding converted_form
converted_number p locals to from e h k u = converted_by p locals to from e (same_primitive to from) refl h k u

pub form_taken : (p : Program) (locals : List Ty) (to from : Ty) (e : Expression) → HasType p locals e from → Brings p.classes from to → Gives p locals (converted_form to from e) to
form_taken p locals to from e h (inl (inl is)) =
    let P : Ty → Type 0 = λ x. Gives p locals (converted_form x from e) x in
    let Q : Expression → Type 0 = λ x. Gives p locals x from in
    subst P is (subst Q (sym (unchanged from e)) (typing.fitting h (inl refl)))
form_taken p locals to from e h (inl (inr r)) = let Q : Expression → Type 0 = λ x. Gives p locals x to in subst Q (sym (reference_form to from e r.0)) (typing.fitting h (inr r))
form_taken p locals to from e h (inr k) =
    let H : Ty → Type 0 = λ x. HasType p locals e x in
    let P : Ty → Ty → Type 0 = λ x y. Gives p locals (converted_form y x e) y in
    let u = converted_number p locals k.1 k.0 e k.5 k.4 (subst H k.2 h) in
    subst (λ (y : Ty). P from y) (sym k.3) (subst (λ (x : Ty). P x (primitive_type k.1)) (sym k.2) (typing.fitting u (inl refl)))

pub own_form : (p : Program) (locals : List Ty) (ty : Ty) (e : Expression) → HasItsType p locals e ty → HasItsType p locals (converted_form ty ty e) ty
own_form p locals ty e h = let Q : Expression → Type 0 = λ x. HasItsType p locals x ty in subst Q (sym (unchanged ty e)) h

-- what may stand where a primitive type is wanted has it
pub primitive_exact : {p : Program} {locals : List Ty} {e : Expression} (q : Primitive) → Gives p locals e (primitive_type q) → HasType p locals e (primitive_type q)
primitive_exact {p} {locals} {e} q (typing.fitting h (inl is)) = let P : Ty → Type 0 = λ x. HasType p locals e x in subst P is h
primitive_exact q (typing.fitting h (inr r)) = absurd r.0
