-- What the forms `&&`, `||` and `?:` of an expression have as their sites are the signs of what is written.
use Rattle.std.proofs.Common.{◌≡◌, ap, subst, ℕ, zero, Bool, true, false, ◌&&◌, if◌then◌else◌, List, [], ◌∷◌}
use Rattle.std.specs.Prelude.{Option, Some, None}
use Rattle.wy_kernel.specs.declared.operator.Primitive.{Primitive}
use Rattle.wy_kernel.specs.declared.operator.UnOp.{UnOp}
use Rattle.wy_kernel.specs.declared.operator.BinOp.{BinOp}
use Rattle.wy_kernel.specs.declared.types.Base.TheVariants.{Primitive as Basic}
use Rattle.wy_kernel.specs.declared.types.Ty.{Ty}
use Rattle.wy_kernel.specs.declared.types.Ty.TheVariants.{Of}
use Rattle.wy_kernel.specs.declared.form.CondForm.{CondForm}
use Rattle.wy_kernel.specs.declared.form.CondForm.TheVariants as cond
use Rattle.wy_kernel.specs.Form.{Expression, Const, Str, Read, Set, Upd, Un, Bin, Conv, Cast, InstanceOf, Cond, New, NewArray, Call, Cat, Lib, Place, Local, Static, Field, Elem, Part, absent, the, Row, none, more}
use Rattle.wy_kernel.specs.Program.{same_primitive}
use Rattle.wy_kernel.specs.Table.{Table, ConstantValue, Simple, Text}
use Rattle.wy_constant.specs.declared.rule.Rule.TheVariants.{BadOperand, BadCast}
use Rattle.wy_constant.specs.Scope.{FixedText}
use Rattle.wy_elab_expr.specs.Meaning.{Meaning, Known, Formed, type_of, Gets, refuse, ◌>>=◌, listed, text_number, converted_form, constant_for, brought, formed}
use Rattle.wy_elab_expr.specs.Operators.{Judgement, is_void, is_nullable, is_boolean, can_cast, unary_type, unary_known, unary_formed, known_or, unary_of, OperandTypes, operand_types, joins, binary_known, token_of, binary_formed, joined, binary_of, lazy_form, lazy_formed, lazy_of, choice_formed, choice_of, cast_known, cast_form, cast_of, tested, instance_of, boolean_type}
use Rattle.law_structure.proofs.Yields.{Yields, found_ok, ok_same, given, refused_found, then_found, of_choice}
use Rattle.law_structure.proofs.Sound.{Numbers}

abbrev mutual
  -- S has the sites that such forms may have
  pub Clear : Numbers → Expression → Type 0
  Clear S (Const value) = Unit {0}
  Clear S (Str text) = Unit {0}
  Clear S (Read place) = ClearPlace S place
  Clear S (Set place value site) = ClearPlace S place × Clear S value
  Clear S (Upd place op value value_ty ty wide gives_old site) = ClearPlace S place × ClearPart S value
  Clear S (Un op operand) = Clear S operand
  Clear S (Bin op left right site) = Clear S left × Clear S right
  Clear S (Conv to operand) = Clear S operand
  Clear S (Cast ty operand site) = Clear S operand
  Clear S (InstanceOf ty operand) = Clear S operand
  Clear S (Cond form test if_true if_false site) = S site × Clear S test × ClearPart S if_true × ClearPart S if_false
  Clear S (New class constructor args site) = ClearRow S args
  Clear S (NewArray ty dims elements element_sites site) = ClearRow S dims × ClearRow S elements
  Clear S (Call form method receiver ty args site) = ClearPart S receiver × ClearRow S args
  Clear S (Cat left right left_ty right_ty site) = Clear S left × Clear S right
  Clear S (Lib op args site) = ClearRow S args

  pub ClearPlace : Numbers → Place → Type 0
  ClearPlace S (Local index) = Unit {0}
  ClearPlace S (Static field site) = Unit {0}
  ClearPlace S (Field object field site) = Clear S object
  ClearPlace S (Elem array index site) = Clear S array × Clear S index

  pub ClearPart : Numbers → Part → Type 0
  ClearPart S absent = Unit {0}
  ClearPart S (the e) = Clear S e

  pub ClearRow : Numbers → Row → Type 0
  ClearRow S none = Unit {0}
  ClearRow S (more e rest) = Clear S e × ClearRow S rest

abbrev pub ClearMeaning : Numbers → Meaning → Type 0
ClearMeaning S (Known value token) = Unit {0}
ClearMeaning S (Formed form ty) = Clear S form

abbrev pub AllClear : Numbers → List Meaning → Type 0
AllClear S [] = Unit {0}
AllClear S (m ∷ rest) = ClearMeaning S m × AllClear S rest

abbrev pub ClearGets : Numbers → Gets Meaning → Type 0
ClearGets S f = Yields f (ClearMeaning S)

-- ---- forms of meanings

pub converted_clear : (S : Numbers) (to from : Ty) (e : Expression) → Clear S e → Clear S (converted_form to from e)
unfolding converted_form
converted_clear S (Of (Basic to) zero) (Of (Basic from) zero) e h = elim (same_primitive to from) as (λ b. Clear S (if b then e else Conv to e)) [ true ↦ h | false ↦ h ]
converted_clear S to from e h = h

text_found : (S : Numbers) (f : List FixedText → ℕ × List FixedText) → Yields (λ texts. found_ok (Str (f texts).0, (f texts).1)) (Clear S)
text_found S f = record { by = λ s after x e. let same : Str (f s).0 ≡ x = ap (λ (p : Expression × List FixedText). p.0) (ok_same (Str (f s).0, (f s).1) (x, after) e) in subst (Clear S) same tt }

pub brought_clear : (S : Numbers) (to : Ty) (m : Meaning) → ClearMeaning S m → Yields (brought to m) (Clear S)
unfolding brought
brought_clear S to (Known (Text units) token) h = text_found S (λ texts. (text_number (listed texts units token) units, listed texts units token))
brought_clear S to (Known (Simple c) token) h = given (Clear S) (Const (constant_for to c)) tt
brought_clear S to (Formed form from) h = given (Clear S) (converted_form to from form) (converted_clear S to from form h)

pub formed_clear : (S : Numbers) (m : Meaning) → ClearMeaning S m → Yields (formed m) (Clear S)
formed_clear S m h = brought_clear S (type_of m) m h

-- what is made of a form that is brought or formed
pub of_form : {A : Type 0} (S : Numbers) (f : Gets Expression) (g : Expression → Gets A) (P : A → Type 0) → Yields f (Clear S) → ((e : Expression) → Clear S e → Yields (g e) P) → Yields (f >>= g) P
of_form S f g P h i = then_found f g (Clear S) P h i

-- ---- operators

known_clear : (S : Numbers) (c : Option ConstantValue) (token : ℕ) (other : Gets Meaning) → ClearGets S other → ClearGets S (known_or c token other)
known_clear S (Some c) token other h = given (ClearMeaning S) (Known c token) tt
known_clear S None token other h = h

unary_formed_clear : (S : Numbers) (op : UnOp) (p : Option Primitive) (m : Meaning) (token : ℕ) → ClearMeaning S m → ClearGets S (unary_formed op p m token)
unary_formed_clear S op None m token h = refused_found (ClearMeaning S) BadOperand token
unary_formed_clear S op (Some p) m token h = of_form S (brought _ m) _ (ClearMeaning S) (brought_clear S _ m h) (λ e i. given (ClearMeaning S) (Formed (Un op e) _) i)

pub unary_clear : (S : Numbers) (op : UnOp) (m : Meaning) (token : ℕ) → ClearMeaning S m → ClearGets S (unary_of op m token)
unfolding unary_of
unary_clear S op m token h = known_clear S (unary_known op m) token _ (unary_formed_clear S op (unary_type op (type_of m)) m token h)

binary_formed_clear : (S : Numbers) (op : BinOp) (types : Option OperandTypes) (a b : Meaning) (token : ℕ) → ClearMeaning S a → ClearMeaning S b → ClearGets S (binary_formed op types a b token)
binary_formed_clear S op None a b token h i = refused_found (ClearMeaning S) BadOperand token
binary_formed_clear S op (Some types) a b token h i =
    of_form S (brought types.left a) _ (ClearMeaning S) (brought_clear S types.left a h) (λ x hx.
    of_form S (brought types.right b) _ (ClearMeaning S) (brought_clear S types.right b i) (λ y hy. given (ClearMeaning S) (Formed (Bin op x y token) types.outcome) (hx, hy)))

joined_clear : (S : Numbers) (a b : Meaning) (token : ℕ) → ClearMeaning S a → ClearMeaning S b → ClearGets S (joined a b token)
joined_clear S a b token h i =
    of_form S (formed a) _ (ClearMeaning S) (formed_clear S a h) (λ x hx.
    of_form S (formed b) _ (ClearMeaning S) (formed_clear S b i) (λ y hy. given (ClearMeaning S) (Formed (Cat x y (type_of a) (type_of b) token) _) (hx, hy)))

pub binary_clear : (S : Numbers) (j : Judgement) (t : Table) (op : BinOp) (a b : Meaning) (token : ℕ) → ClearMeaning S a → ClearMeaning S b → ClearGets S (binary_of j t op a b token)
unfolding binary_of
binary_clear S j t op a b token h i =
    known_clear S (binary_known op a b) (token_of a) _
    (of_choice (joins op (type_of a) (type_of b)) (joined a b token) (binary_formed op (operand_types j t op (type_of a) (type_of b)) a b token) (ClearMeaning S)
    (joined_clear S a b token h i) (binary_formed_clear S op (operand_types j t op (type_of a) (type_of b)) a b token h i))

lazy_form_clear : (S : Numbers) (form : CondForm) (x y : Expression) (token : ℕ) → S token → Clear S x → Clear S y → Clear S (lazy_form form x y token)
lazy_form_clear S cond.And x y token s h i = (s, h, i, tt)
lazy_form_clear S cond.Or x y token s h i = (s, h, tt, i)
lazy_form_clear S cond.Choice x y token s h i = (s, h, tt, i)

pub lazy_clear : (S : Numbers) (form : CondForm) (f : Bool → Bool → Bool) (a b : Meaning) (token : ℕ) → S token → ClearMeaning S a → ClearMeaning S b → ClearGets S (lazy_of form f a b token)
unfolding lazy_of
lazy_clear S form f a b token s h i =
    known_clear S _ (token_of a) _
    (of_choice (is_boolean (type_of a) && is_boolean (type_of b)) (lazy_formed form a b token) (refuse BadOperand token) (ClearMeaning S)
    (of_form S (brought boolean_type a) _ (ClearMeaning S) (brought_clear S boolean_type a h) (λ x hx.
    of_form S (brought boolean_type b) _ (ClearMeaning S) (brought_clear S boolean_type b i) (λ y hy.
    given (ClearMeaning S) (Formed (lazy_form form x y token) boolean_type) (lazy_form_clear S form x y token s hx hy))))
    (refused_found (ClearMeaning S) BadOperand token))

choice_formed_clear : (S : Numbers) (ty : Option Ty) (test a b : Meaning) (token : ℕ) → S token → ClearMeaning S test → ClearMeaning S a → ClearMeaning S b → ClearGets S (choice_formed ty test a b token)
choice_formed_clear S None test a b token s g h i = refused_found (ClearMeaning S) BadOperand token
choice_formed_clear S (Some ty) test a b token s g h i =
    of_form S (brought boolean_type test) _ (ClearMeaning S) (brought_clear S boolean_type test g) (λ z hz.
    of_form S (brought ty a) _ (ClearMeaning S) (brought_clear S ty a h) (λ x hx.
    of_form S (brought ty b) _ (ClearMeaning S) (brought_clear S ty b i) (λ y hy.
    given (ClearMeaning S) (Formed (Cond cond.Choice z (the x) (the y) token) ty) (s, hz, hx, hy))))

pub choice_clear : (S : Numbers) (j : Judgement) (t : Table) (test a b : Meaning) (token : ℕ) → S token → ClearMeaning S test → ClearMeaning S a → ClearMeaning S b → ClearGets S (choice_of j t test a b token)
unfolding choice_of
choice_clear S j t test a b token s g h i =
    known_clear S _ (token_of test) _
    (of_choice (is_boolean (type_of test)) _ (refuse BadOperand token) (ClearMeaning S) (choice_formed_clear S _ test a b token s g h i) (refused_found (ClearMeaning S) BadOperand token))

cast_form_clear : (S : Numbers) (to : Ty) (p : Option Primitive) (m : Meaning) (token : ℕ) → ClearMeaning S m → ClearGets S (cast_form to p m token)
cast_form_clear S to (Some p) m token h = of_form S (brought to m) _ (ClearMeaning S) (brought_clear S to m h) (λ e i. given (ClearMeaning S) (Formed e to) i)
cast_form_clear S to None m token h = of_form S (formed m) _ (ClearMeaning S) (formed_clear S m h) (λ e i. given (ClearMeaning S) (Formed (Cast to e token) to) i)

pub cast_clear : (S : Numbers) (j : Judgement) (t : Table) (to : Ty) (m : Meaning) (token : ℕ) → ClearMeaning S m → ClearGets S (cast_of j t to m token)
unfolding cast_of
cast_clear S j t to m token h =
    of_choice (is_void (type_of m)) (refuse BadOperand token) _ (ClearMeaning S) (refused_found (ClearMeaning S) BadOperand token)
    (known_clear S (cast_known to m) token _
    (of_choice (can_cast j t (type_of m) to) _ (refuse BadCast token) (ClearMeaning S) (cast_form_clear S to _ m token h) (refused_found (ClearMeaning S) BadCast token)))

pub instance_clear : (S : Numbers) (j : Judgement) (t : Table) (ty : Ty) (m : Meaning) (token : ℕ) → ClearMeaning S m → ClearGets S (instance_of j t ty m token)
unfolding instance_of
instance_clear S j t ty m token h =
    of_choice (is_void (type_of m)) (refuse BadOperand token) _ (ClearMeaning S) (refused_found (ClearMeaning S) BadOperand token)
    (of_choice (is_nullable (type_of m) && is_nullable ty && can_cast j t (type_of m) ty) (tested ty m) (refuse BadCast token) (ClearMeaning S)
    (of_form S (formed m) _ (ClearMeaning S) (formed_clear S m h) (λ e i. given (ClearMeaning S) (Formed (InstanceOf ty e) boolean_type) i))
    (refused_found (ClearMeaning S) BadCast token))
