-- Constants have a value only where the operator takes operands of their types.
use Rattle.std.proofs.Common.{◌≡◌, sym, subst, refl, ℕ, zero, Bool, true, false, List, Option, Some, ◌⊎◌, inl, inr}
use Rattle.std.specs.Prelude.{◌&&◌, option_map, option_and_then, if◌then◌else◌}
use Rattle.std.specs.Prelude.{None as Absent}
use Rattle.wy_kernel.specs.declared.operator.Primitive.{Primitive}
use Rattle.wy_kernel.specs.declared.operator.Primitive.TheVariants as prim
use Rattle.wy_kernel.specs.declared.operator.UnOp.{UnOp}
use Rattle.wy_kernel.specs.declared.operator.UnOp.TheVariants.{Not, Plus, Minus, Flip}
use Rattle.wy_kernel.specs.declared.operator.BinOp.{BinOp}
use Rattle.wy_kernel.specs.declared.operator.BinOp.TheVariants.{Add, Eq, Ne}
use Rattle.wy_kernel.specs.declared.types.Base.TheVariants.{Primitive as Basic}
use Rattle.wy_kernel.specs.declared.types.Ty.{Ty}
use Rattle.wy_kernel.specs.declared.types.Ty.TheVariants.{Of}
use Rattle.wy_kernel.specs.Form.{Constant}
use Rattle.wy_kernel.specs.Form as plain
use Rattle.wy_kernel.specs.Subtyping.{Below, primitive_type}
use Rattle.wy_kernel.specs.Subtyping as below
use Rattle.wy_kernel.specs.Table.{Table, ConstantValue, Simple, Text}
use Rattle.wy_value.specs.declared.value.Value.{Value}
use Rattle.wy_value.specs.Operator.{is_shift, is_equality, fits_unary, fits_binary, unary_of as unary_result, binary_of as binary_result}
use Rattle.wy_value.specs.Conversion.{can_convert, converted}
use Rattle.wy_constant.specs.Constant.{value_of, simple, promoted, beside, unary_value, binary_value, operated, on_texts, binary_constant, unary_constant, combined, converted_value, primitive_of, joint_type, choice_type, choice_constant}
use Rattle.wy_elab_expr.specs.Meaning.{Meaning, Known, Formed, constant_type, type_of, text_type}
use Rattle.wy_elab_expr.specs.Operators.{boolean_type, truth_known, cast_known, is_text_type}
use Rattle.wy_typing.specs.Types.{IsValueType}
use Rattle.wy_typing.specs.Types as types
use Rattle.law_refusals.specs.Operands.{IsNumber, CastsTo, TakesOne, Takes, Chooses}
use Rattle.law_refusals.specs.Operands as operands
use Rattle.law_refusals.specs.ExpressionLaws.{Given}
use Rattle.law_refusals.proofs.Tests.{first_true, second_true, text_is}

constant_valued : (c : ConstantValue) → IsValueType (constant_type c)
constant_valued (Simple plain.Null) = tt
constant_valued (Simple (plain.Truth b)) = tt
constant_valued (Simple (plain.Byte z)) = tt
constant_valued (Simple (plain.Short z)) = tt
constant_valued (Simple (plain.Char n)) = tt
constant_valued (Simple (plain.Int z)) = tt
constant_valued (Simple (plain.Long z)) = tt
constant_valued (Text units) = tt

text_to_text : (t : Table) → CastsTo t text_type text_type
text_to_text t = operands.CastsTo.references (types.up (inr tt) (inr tt) below.same)

-- ---- steps

mapped : {X Y : Type 0} (f : X → Y) (o : Option X) (y : Y) → option_map f o ≡ Some y → Given o
mapped f (Some x) y e = (x, refl)
mapped f Absent y e = absurd (cc)

followed : {X Y : Type 0} (f : X → Option Y) (o : Option X) (y : Y) → option_and_then f o ≡ Some y → Given o
followed f (Some x) y e = (x, refl)
followed f Absent y e = absurd (cc)

if_some : {X : Type 0} (b : Bool) (o : Option X) → Given (if b then o else Absent) → b ≡ true
if_some true o h = refl
if_some false o h = absurd (let e : Absent ≡ Some h.0 = h.1 in cc)

nothing_given : {X : Type 0} → Given {X = X} Absent → ⊥
nothing_given {X} h = let e : Absent ≡ Some h.0 = h.1 in cc

-- ---- unary operators

unary_fits : (op : UnOp) (c : Constant) → fits_unary op (promoted (value_of c)) ≡ true → TakesOne op (constant_type (Simple c))
unary_fits Not plain.Null e = absurd (cc)
unary_fits Not (plain.Truth b) e = operands.TakesOne.boolean
unary_fits Not _ e = absurd (cc)
unary_fits Plus plain.Null e = absurd (cc)
unary_fits Plus (plain.Truth b) e = absurd (cc)
unary_fits Plus _ e = operands.TakesOne.number (λ h. cc) tt
unary_fits Minus plain.Null e = absurd (cc)
unary_fits Minus (plain.Truth b) e = absurd (cc)
unary_fits Minus _ e = operands.TakesOne.number (λ h. cc) tt
unary_fits Flip plain.Null e = absurd (cc)
unary_fits Flip (plain.Truth b) e = absurd (cc)
unary_fits Flip _ e = operands.TakesOne.number (λ h. cc) tt

pub unary_fold : (op : UnOp) (c v : ConstantValue) → unary_constant op c ≡ Some v → TakesOne op (constant_type c)
unfolding unary_constant
unary_fold op (Simple c) v e =
    unary_fits op c (if_some (fits_unary op (promoted (value_of c))) (Some (unary_result op (promoted (value_of c)))) (mapped simple (unary_value op (promoted (value_of c))) v e))
unary_fold op (Text units) v e = absurd (cc)

-- ---- binary operators

second_wrong : (x : Bool) → (x && false) ≡ true → ⊥
second_wrong x e = let h : false ≡ true = second_true x false e in cc

first_wrong : (x : Bool) → (x && false && true) ≡ true → ⊥
first_wrong x e = second_wrong x (first_true (x && false) true e)

first_of_all : (x : Bool) → (x && true && true) ≡ true → x ≡ true
first_of_all x e = first_true x true (first_true (x && true) true e)

-- the operands fit, each promoted by itself or beside the other
abbrev Fit : BinOp → Constant → Constant → Type 0
Fit op a b = (fits_binary op (promoted (value_of a)) (promoted (value_of b)) ≡ true) ⊎ (fits_binary op (beside (value_of b) (value_of a)) (beside (value_of a) (value_of b)) ≡ true)

either : {X Y Z : Type 0} → (X → Z) → (Y → Z) → X ⊎ Y → Z
either f g (inl x) = f x
either f g (inr y) = g y

fit_takes : (t : Table) (op : BinOp) (a b : Constant) → Fit op a b → Takes t op (constant_type (Simple a)) (constant_type (Simple b))
fit_takes t op plain.Null plain.Null e = operands.Takes.references (either (first_of_all (is_equality op)) (first_of_all (is_equality op)) e) (inl refl) (inl refl) (operands.CastsTo.references (types.up (inl refl) (inl refl) below.same))
fit_takes t op (plain.Truth p) (plain.Truth q) e = operands.Takes.booleans (either (λ h. h) (λ h. h) e)
fit_takes t op plain.Null _ e = absurd (either (second_wrong (is_equality op && true)) (second_wrong (is_equality op && true)) e)
fit_takes t op _ plain.Null e = absurd (either (first_wrong (is_equality op)) (first_wrong (is_equality op)) e)
fit_takes t op (plain.Truth p) _ e = absurd (either (second_wrong (is_equality op && false)) (second_wrong (is_equality op && false)) e)
fit_takes t op _ (plain.Truth q) e = absurd (either (second_wrong (is_equality op && false)) (second_wrong (is_equality op && false)) e)
fit_takes t op _ _ e = operands.Takes.numbers tt tt

value_fits : (op : BinOp) (x y v : Value) → binary_value op x y ≡ Some v → fits_binary op x y ≡ true
value_fits op x y v e = if_some (fits_binary op x y) (binary_result op x y) (v, e)

operated_by : (op : BinOp) (a b : Constant) (v : Value) → (s : Bool) →
    (if s then binary_value op (promoted (value_of a)) (promoted (value_of b)) else binary_value op (beside (value_of b) (value_of a)) (beside (value_of a) (value_of b))) ≡ Some v → Fit op a b
operated_by op a b v true e = inl (value_fits op (promoted (value_of a)) (promoted (value_of b)) v e)
operated_by op a b v false e = inr (value_fits op (beside (value_of b) (value_of a)) (beside (value_of a) (value_of b)) v e)

simple_fold : (t : Table) (op : BinOp) (a b : Constant) → Given (operated op (value_of a) (value_of b)) → Takes t op (constant_type (Simple a)) (constant_type (Simple b))
simple_fold t op a b h = fit_takes t op a b (operated_by op a b h.0 (is_shift op) h.1)

text_takes : (t : Table) (op : BinOp) → is_equality op ≡ true → Takes t op text_type text_type
text_takes t op e = operands.Takes.references e (inr tt) (inr tt) (text_to_text t)

text_text : (t : Table) (op : BinOp) (a b : List ℕ) (v : ConstantValue) → on_texts op (Text a) (Text b) ≡ Some v → Takes t op text_type text_type
unfolding on_texts
text_text t Add a b v e = operands.Takes.joined (inl (refl, tt))
text_text t Eq a b v e = text_takes t Eq refl
text_text t Ne a b v e = text_takes t Ne refl
text_text t _ a b v e = absurd (cc)

text_simple : (t : Table) (op : BinOp) (a : List ℕ) (c : Constant) (v : ConstantValue) → on_texts op (Text a) (Simple c) ≡ Some v → Takes t op text_type (constant_type (Simple c))
unfolding on_texts
text_simple t Add a c v e = operands.Takes.joined (inl (refl, constant_valued (Simple c)))
text_simple t _ a c v e = absurd (cc)

simple_text : (t : Table) (op : BinOp) (c : Constant) (b : List ℕ) (v : ConstantValue) → on_texts op (Simple c) (Text b) ≡ Some v → Takes t op (constant_type (Simple c)) text_type
unfolding on_texts
simple_text t Add c b v e = operands.Takes.joined (inr (constant_valued (Simple c), refl))
simple_text t _ c b v e = absurd (cc)

pub binary_fold : (t : Table) (op : BinOp) (a b v : ConstantValue) → binary_constant op a b ≡ Some v → Takes t op (constant_type a) (constant_type b)
unfolding binary_constant
binary_fold t op (Simple a) (Simple b) v e = simple_fold t op a b (mapped simple (operated op (value_of a) (value_of b)) v e)
binary_fold t op (Simple a) (Text b) v e = simple_text t op a b v e
binary_fold t op (Text a) (Simple b) v e = text_simple t op a b v e
binary_fold t op (Text a) (Text b) v e = text_text t op a b v e

-- ---- `&&`, `||` and `?:`

pub truth_is : (m : Meaning) (b : Bool) → truth_known m ≡ Some b → type_of m ≡ boolean_type
truth_is (Known (Simple (plain.Truth p)) token) b e = refl
truth_is (Known (Simple _) token) b e = absurd (cc)
truth_is (Known (Text units) token) b e = absurd (cc)
truth_is (Formed form ty) b e = absurd (cc)

pub combined_left : (f : Bool → Bool → Bool) (a b : Option Bool) (v : ConstantValue) → combined f a b ≡ Some v → Given a
combined_left f (Some a) b v e = (a, refl)
combined_left f Absent b v e = absurd (cc)

pub combined_right : (f : Bool → Bool → Bool) (a b : Option Bool) (v : ConstantValue) → combined f a b ≡ Some v → Given b
combined_right f a (Some b) v e = (b, refl)
combined_right f (Some a) Absent v e = absurd (cc)
combined_right f Absent Absent v e = absurd (cc)

simple_chooses : (a b : Constant) → Given (joint_type (value_of a) (primitive_of (value_of a)) (value_of b) (primitive_of (value_of b))) → Chooses (constant_type (Simple a)) (constant_type (Simple b))
unfolding choice_type
simple_chooses plain.Null b h = absurd (nothing_given h)
simple_chooses (plain.Truth p) (plain.Truth q) h = operands.Chooses.booleans
simple_chooses a plain.Null h = absurd (nothing_given h)
simple_chooses (plain.Truth p) _ h = absurd (nothing_given h)
simple_chooses _ (plain.Truth q) h = absurd (nothing_given h)
simple_chooses _ _ h = operands.Chooses.numbers tt tt

pub choice_fold : (test : Bool) (a b v : ConstantValue) → choice_constant (Some test) (Some a) (Some b) ≡ Some v → Chooses (constant_type a) (constant_type b)
unfolding choice_constant
choice_fold test (Simple a) (Simple b) v e =
    simple_chooses a b (followed (λ p. option_map simple (converted_value p (if test then value_of a else value_of b))) (joint_type (value_of a) (primitive_of (value_of a)) (value_of b) (primitive_of (value_of b))) v e)
choice_fold test (Text a) (Text b) v e = operands.Chooses.references (inr tt) (inr tt)
choice_fold test (Simple a) (Text b) v e = absurd (cc)
choice_fold test (Text a) (Simple b) v e = absurd (cc)

-- ---- casts

converts : (t : Table) (p : Primitive) (c : Constant) → can_convert p (value_of c) ≡ true → CastsTo t (constant_type (Simple c)) (primitive_type p)
converts t prim.Bool (plain.Truth b) e = operands.CastsTo.booleans
converts t prim.Bool _ e = absurd (cc)
converts t p (plain.Truth b) e = absurd (cc)
converts t p plain.Null e = absurd (cc)
converts t p _ e = operands.CastsTo.numbers tt tt

text_casts : (t : Table) (to : Ty) (units : List ℕ) (v : ConstantValue) → (if is_text_type to then Some (Text units) else Absent) ≡ Some v → CastsTo t text_type to
text_casts t to units v e =
    let same = text_is to (if_some (is_text_type to) (Some (Text units)) (v, e)) in
    subst (λ (z : Ty). CastsTo t text_type z) (sym same) (text_to_text t)

simple_casts : (t : Table) (p : Primitive) (c : Constant) → Given (converted_value p (value_of c)) → CastsTo t (constant_type (Simple c)) (primitive_type p)
simple_casts t p c h = converts t p c (if_some (can_convert p (value_of c)) (Some (converted p (value_of c))) h)

pub cast_fold : (t : Table) (to : Ty) (m : Meaning) (v : ConstantValue) → cast_known to m ≡ Some v → CastsTo t (type_of m) to
cast_fold t (Of (Basic p) zero) (Known (Simple c) token) v e = simple_casts t p c (mapped simple (converted_value p (value_of c)) v e)
cast_fold t (Of (Basic p) zero) (Known (Text units) token) v e = absurd (cc)
cast_fold t (Of (Basic p) zero) (Formed form ty) v e = absurd (cc)
cast_fold t to (Known (Simple c) token) v e = absurd (cc)
cast_fold t to (Known (Text units) token) v e = text_casts t to units v e
cast_fold t to (Formed form ty) v e = absurd (cc)
