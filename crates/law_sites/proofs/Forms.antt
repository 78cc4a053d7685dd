-- Forms and operations have no other sites than what they are made of, besides their own.
use Rattle.std.proofs.Common.{◌≡◌, ap, subst, ℕ, zero, Bool, true, false, ◌&&◌, if◌then◌else◌, List, [], ◌∷◌}
use Rattle.std.specs.Prelude.{Option, Some, None}
use Rattle.wy_kernel.specs.declared.operator.Primitive.{Primitive}
use Rattle.wy_kernel.specs.declared.operator.UnOp.{UnOp}
use Rattle.wy_kernel.specs.declared.operator.BinOp.{BinOp}
use Rattle.wy_kernel.specs.declared.types.Base.TheVariants.{Primitive as Basic}
use Rattle.wy_kernel.specs.declared.types.Ty.{Ty}
use Rattle.wy_kernel.specs.declared.types.Ty.TheVariants.{Of}
use Rattle.wy_kernel.specs.declared.form.CondForm.{CondForm}
use Rattle.wy_kernel.specs.declared.form.CondForm.TheVariants as cond
use Rattle.wy_kernel.specs.Form.{Expression, Const, Str, Un, Bin, Conv, Cast, InstanceOf, Cond, Cat, the}
use Rattle.wy_kernel.specs.Program.{same_primitive}
use Rattle.wy_kernel.specs.Table.{Table, ConstantValue, Simple, Text}
use Rattle.wy_constant.specs.declared.rule.Rule.TheVariants.{BadOperand, BadCast}
use Rattle.wy_constant.specs.Scope.{FixedText}
use Rattle.wy_elab_expr.specs.Meaning.{Meaning, Known, Formed, type_of, Gets, refuse, listed, text_number, converted_form, constant_for, brought, formed}
use Rattle.wy_elab_expr.specs.Operators.{Judgement, is_void, is_nullable, is_boolean, can_cast, unary_type, unary_known, unary_formed, known_or, unary_of, OperandTypes, operand_types, joins, binary_known, token_of, binary_formed, joined, binary_of, lazy_form, lazy_formed, lazy_of, choice_formed, choice_of, cast_known, cast_form, cast_of, tested, instance_of, boolean_type}
use Rattle.law_structure.proofs.Yields.{Yields, found_ok, ok_same, given, refused_found, then_found, of_choice}
use Rattle.wy_typing.specs.Sites.{Sited}

-- P holds of each site in the form that is found; of a constant no form is made yet
abbrev pub MeaningSited : (ℕ → Type 0) → Meaning → Type 0
MeaningSited P (Known value token) = Unit {0}
MeaningSited P (Formed form ty) = Sited P form

abbrev pub MeaningsSited : (ℕ → Type 0) → List Meaning → Type 0
MeaningsSited P [] = Unit {0}
MeaningsSited P (m ∷ ms) = MeaningSited P m × MeaningsSited P ms

abbrev pub GetsSited : (ℕ → Type 0) → Gets Meaning → Type 0
GetsSited P f = Yields f (MeaningSited P)

-- ---- forms of meanings

pub converted_sited : (P : ℕ → Type 0) (to from : Ty) (e : Expression) → Sited P e → Sited P (converted_form to from e)
unfolding converted_form
converted_sited P (Of (Basic to) zero) (Of (Basic from) zero) e h = elim (same_primitive to from) as (λ b. Sited P (if b then e else Conv to e)) [ true ↦ h | false ↦ h ]
converted_sited P to from e h = h

text_found : (P : ℕ → Type 0) (f : List FixedText → ℕ × List FixedText) → Yields (λ texts. found_ok (Str (f texts).0, (f texts).1)) (Sited P)
text_found P f = record { by = λ s after x e. let same : Str (f s).0 ≡ x = ap (λ (p : Expression × List FixedText). p.0) (ok_same (Str (f s).0, (f s).1) (x, after) e) in subst (Sited P) same tt }

pub brought_sited : (P : ℕ → Type 0) (to : Ty) (m : Meaning) → MeaningSited P m → Yields (brought to m) (Sited P)
unfolding brought
brought_sited P to (Known (Text units) token) h = text_found P (λ texts. (text_number (listed texts units token) units, listed texts units token))
brought_sited P to (Known (Simple c) token) h = given (Sited P) (Const (constant_for to c)) tt
brought_sited P to (Formed form from) h = given (Sited P) (converted_form to from form) (converted_sited P to from form h)

pub formed_sited : (P : ℕ → Type 0) (m : Meaning) → MeaningSited P m → Yields (formed m) (Sited P)
formed_sited P m h = brought_sited P (type_of m) m h

-- ---- operators

known_sited : (P : ℕ → Type 0) (c : Option ConstantValue) (token : ℕ) (other : Gets Meaning) → GetsSited P other → GetsSited P (known_or c token other)
known_sited P (Some c) token other h = given (MeaningSited P) (Known c token) tt
known_sited P None token other h = h

unary_formed_sited : (P : ℕ → Type 0) (op : UnOp) (p : Option Primitive) (m : Meaning) (token : ℕ) → MeaningSited P m → GetsSited P (unary_formed op p m token)
unary_formed_sited P op None m token h = refused_found (MeaningSited P) BadOperand token
unary_formed_sited P op (Some p) m token h = then_found (brought _ m) _ (Sited P) (MeaningSited P) (brought_sited P _ m h) (λ e i. given (MeaningSited P) (Formed (Un op e) _) i)

pub unary_sited : (P : ℕ → Type 0) (op : UnOp) (m : Meaning) (token : ℕ) → MeaningSited P m → GetsSited P (unary_of op m token)
unfolding unary_of
unary_sited P op m token h = known_sited P (unary_known op m) token _ (unary_formed_sited P op (unary_type op (type_of m)) m token h)

binary_formed_sited : (P : ℕ → Type 0) (op : BinOp) (types : Option OperandTypes) (a b : Meaning) (token : ℕ) → P token → MeaningSited P a → MeaningSited P b → GetsSited P (binary_formed op types a b token)
binary_formed_sited P op None a b token here h i = refused_found (MeaningSited P) BadOperand token
binary_formed_sited P op (Some types) a b token here h i =
    then_found (brought types.left a) _ (Sited P) (MeaningSited P) (brought_sited P types.left a h) (λ x hx.
    then_found (brought types.right b) _ (Sited P) (MeaningSited P) (brought_sited P types.right b i) (λ y hy. given (MeaningSited P) (Formed (Bin op x y token) types.outcome) (here, hx, hy)))

joined_sited : (P : ℕ → Type 0) (a b : Meaning) (token : ℕ) → P token → MeaningSited P a → MeaningSited P b → GetsSited P (joined a b token)
joined_sited P a b token here h i =
    then_found (formed a) _ (Sited P) (MeaningSited P) (formed_sited P a h) (λ x hx.
    then_found (formed b) _ (Sited P) (MeaningSited P) (formed_sited P b i) (λ y hy. given (MeaningSited P) (Formed (Cat x y (type_of a) (type_of b) token) _) (here, hx, hy)))

pub binary_sited : (P : ℕ → Type 0) (j : Judgement) (t : Table) (op : BinOp) (a b : Meaning) (token : ℕ) → P token → MeaningSited P a → MeaningSited P b → GetsSited P (binary_of j t op a b token)
unfolding binary_of
binary_sited P j t op a b token here h i =
    known_sited P (binary_known op a b) (token_of a) _
    (of_choice (joins op (type_of a) (type_of b)) (joined a b token) (binary_formed op (operand_types j t op (type_of a) (type_of b)) a b token) (MeaningSited P)
    (joined_sited P a b token here h i) (binary_formed_sited P op (operand_types j t op (type_of a) (type_of b)) a b token here h i))

lazy_form_sited : (P : ℕ → Type 0) (form : CondForm) (x y : Expression) (token : ℕ) → P token → Sited P x → Sited P y → Sited P (lazy_form form x y token)
lazy_form_sited P cond.And x y token here h i = (here, h, i, tt)
lazy_form_sited P cond.Or x y token here h i = (here, h, tt, i)
lazy_form_sited P cond.Choice x y token here h i = (here, h, tt, i)

pub lazy_sited : (P : ℕ → Type 0) (form : CondForm) (f : Bool → Bool → Bool) (a b : Meaning) (token : ℕ) → P token → MeaningSited P a → MeaningSited P b → GetsSited P (lazy_of form f a b token)
unfolding lazy_of
lazy_sited P form f a b token here h i =
    known_sited P _ (token_of a) _
    (of_choice (is_boolean (type_of a) && is_boolean (type_of b)) (lazy_formed form a b token) (refuse BadOperand token) (MeaningSited P)
    (then_found (brought boolean_type a) _ (Sited P) (MeaningSited P) (brought_sited P boolean_type a h) (λ x hx.
    then_found (brought boolean_type b) _ (Sited P) (MeaningSited P) (brought_sited P boolean_type b i) (λ y hy.
    given (MeaningSited P) (Formed (lazy_form form x y token) boolean_type) (lazy_form_sited P form x y token here hx hy))))
    (refused_found (MeaningSited P) BadOperand token))

choice_formed_sited : (P : ℕ → Type 0) (ty : Option Ty) (test a b : Meaning) (token : ℕ) → P token → MeaningSited P test → MeaningSited P a → MeaningSited P b → GetsSited P (choice_formed ty test a b token)
choice_formed_sited P None test a b token here g h i = refused_found (MeaningSited P) BadOperand token
choice_formed_sited P (Some ty) test a b token here g h i =
    then_found (brought boolean_type test) _ (Sited P) (MeaningSited P) (brought_sited P boolean_type test g) (λ z hz.
    then_found (brought ty a) _ (Sited P) (MeaningSited P) (brought_sited P ty a h) (λ x hx.
    then_found (brought ty b) _ (Sited P) (MeaningSited P) (brought_sited P ty b i) (λ y hy.
    given (MeaningSited P) (Formed (Cond cond.Choice z (the x) (the y) token) ty) (here, hz, hx, hy))))

pub choice_sited : (P : ℕ → Type 0) (j : Judgement) (t : Table) (test a b : Meaning) (token : ℕ) → P token → MeaningSited P test → MeaningSited P a → MeaningSited P b → GetsSited P (choice_of j t test a b token)
unfolding choice_of
choice_sited P j t test a b token here g h i =
    known_sited P _ (token_of test) _
    (of_choice (is_boolean (type_of test)) _ (refuse BadOperand token) (MeaningSited P) (choice_formed_sited P _ test a b token here g h i) (refused_found (MeaningSited P) BadOperand token))

cast_form_sited : (P : ℕ → Type 0) (to : Ty) (p : Option Primitive) (m : Meaning) (token : ℕ) → P token → MeaningSited P m → GetsSited P (cast_form to p m token)
cast_form_sited P to (Some p) m token here h = then_found (brought to m) _ (Sited P) (MeaningSited P) (brought_sited P to m h) (λ e i. given (MeaningSited P) (Formed e to) i)
cast_form_sited P to None m token here h = then_found (formed m) _ (Sited P) (MeaningSited P) (formed_sited P m h) (λ e i. given (MeaningSited P) (Formed (Cast to e token) to) (here, i))

pub cast_sited : (P : ℕ → Type 0) (j : Judgement) (t : Table) (to : Ty) (m : Meaning) (token : ℕ) → P token → MeaningSited P m → GetsSited P (cast_of j t to m token)
unfolding cast_of
cast_sited P j t to m token here h =
    of_choice (is_void (type_of m)) (refuse BadOperand token) _ (MeaningSited P) (refused_found (MeaningSited P) BadOperand token)
    (known_sited P (cast_known to m) token _
    (of_choice (can_cast j t (type_of m) to) _ (refuse BadCast token) (MeaningSited P) (cast_form_sited P to _ m token here h) (refused_found (MeaningSited P) BadCast token)))

pub instance_sited : (P : ℕ → Type 0) (j : Judgement) (t : Table) (ty : Ty) (m : Meaning) (token : ℕ) → MeaningSited P m → GetsSited P (instance_of j t ty m token)
unfolding instance_of
instance_sited P j t ty m token h =
    of_choice (is_void (type_of m)) (refuse BadOperand token) _ (MeaningSited P) (refused_found (MeaningSited P) BadOperand token)
    (of_choice (is_nullable (type_of m) && is_nullable ty && can_cast j t (type_of m) ty) (tested ty m) (refuse BadCast token) (MeaningSited P)
    (then_found (formed m) _ (Sited P) (MeaningSited P) (formed_sited P m h) (λ e i. given (MeaningSited P) (Formed (InstanceOf ty e) boolean_type) i))
    (refused_found (MeaningSited P) BadCast token))
