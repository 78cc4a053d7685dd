-- What is made of forms has no more `&&`, `||` and `?:` than they, by site, besides its own.
use Rattle.std.proofs.Common.{◌≡◌, ap, subst, ℕ, zero, Bool, true, false, ◌&&◌, if◌then◌else◌, List, [], ◌∷◌, ◌++◌}
use Rattle.std.specs.Prelude.{Option, Some, None}
use Rattle.wy_kernel.specs.declared.operator.Primitive.{Primitive}
use Rattle.wy_kernel.specs.declared.operator.UnOp.{UnOp}
use Rattle.wy_kernel.specs.declared.operator.BinOp.{BinOp}
use Rattle.wy_kernel.specs.declared.types.Base.TheVariants.{Primitive as Basic}
use Rattle.wy_kernel.specs.declared.types.Ty.{Ty}
use Rattle.wy_kernel.specs.declared.types.Ty.TheVariants.{Of}
use Rattle.wy_kernel.specs.declared.form.CondForm.{CondForm}
use Rattle.wy_kernel.specs.declared.form.CondForm.TheVariants as cond
use Rattle.wy_kernel.specs.Form.{Expression, Const, Str, Un, Bin, Conv, Cast, InstanceOf, Cond, Cat, Place, Part, the, Row}
use Rattle.wy_kernel.specs.Program.{same_primitive}
use Rattle.wy_kernel.specs.Table.{Table, ConstantValue, Simple, Text}
use Rattle.wy_constant.specs.declared.rule.Rule.TheVariants.{BadOperand, BadCast}
use Rattle.wy_constant.specs.Scope.{FixedText}
use Rattle.wy_elab_expr.specs.Meaning.{Meaning, Known, Formed, type_of, Gets, refuse, ◌>>=◌, listed, text_number, converted_form, constant_for, brought, formed}
use Rattle.wy_elab_expr.specs.Operators.{Judgement, is_void, is_nullable, is_boolean, can_cast, unary_type, unary_known, unary_formed, known_or, unary_of, OperandTypes, operand_types, joins, binary_known, token_of, binary_formed, joined, binary_of, lazy_form, lazy_formed, lazy_of, choice_formed, choice_of, cast_known, cast_form, cast_of, tested, instance_of, boolean_type}
use Rattle.law_structure.proofs.Yields.{Yields, found_ok, ok_same, given, refused_found, then_found, of_choice}
use Rattle.law_structure.specs.Sites.{deciding, deciding_in_place, deciding_in_part, deciding_in_row}
use Rattle.law_sites.proofs.Fewer.{Fewer, few_none, few_both, few_behind, few_between}

-- no more of each site than the list has
abbrev pub Few : List ℕ → Expression → Type 0
Few ks e = Fewer (deciding e) ks

abbrev pub FewPlace : List ℕ → Place → Type 0
FewPlace ks p = Fewer (deciding_in_place p) ks

abbrev pub FewPart : List ℕ → Part → Type 0
FewPart ks p = Fewer (deciding_in_part p) ks

abbrev pub FewRow : List ℕ → Row → Type 0
FewRow ks r = Fewer (deciding_in_row r) ks

abbrev pub sites_found : Meaning → List ℕ
sites_found (Known value token) = []
sites_found (Formed form ty) = deciding form

abbrev pub all_sites : List Meaning → List ℕ
all_sites [] = []
all_sites (m ∷ rest) = sites_found m ++ all_sites rest

abbrev pub FewMeaning : List ℕ → Meaning → Type 0
FewMeaning ks m = Fewer (sites_found m) ks

abbrev pub AllFew : List ℕ → List Meaning → Type 0
AllFew ks ms = Fewer (all_sites ms) ks

abbrev pub FewGets : List ℕ → Gets Meaning → Type 0
FewGets ks f = Yields f (FewMeaning ks)

-- ---- forms of meanings

pub converted_few : (ks : List ℕ) (to from : Ty) (e : Expression) → Few ks e → Few ks (converted_form to from e)
unfolding converted_form
converted_few ks (Of (Basic to) zero) (Of (Basic from) zero) e h = elim (same_primitive to from) as (λ b. Few ks (if b then e else Conv to e)) [ true ↦ h | false ↦ h ]
converted_few ks to from e h = h

text_found : (ks : List ℕ) (f : List FixedText → ℕ × List FixedText) → Yields (λ texts. found_ok (Str (f texts).0, (f texts).1)) (Few ks)
text_found ks f = record { by = λ s after x e. let same : Str (f s).0 ≡ x = ap (λ (p : Expression × List FixedText). p.0) (ok_same (Str (f s).0, (f s).1) (x, after) e) in subst (Few ks) same (few_none ks) }

pub brought_few : (ks : List ℕ) (to : Ty) (m : Meaning) → FewMeaning ks m → Yields (brought to m) (Few ks)
unfolding brought
brought_few ks to (Known (Text units) token) h = text_found ks (λ texts. (text_number (listed texts units token) units, listed texts units token))
brought_few ks to (Known (Simple c) token) h = given (Few ks) (Const (constant_for to c)) (few_none ks)
brought_few ks to (Formed form from) h = given (Few ks) (converted_form to from form) (converted_few ks to from form h)

pub formed_few : (ks : List ℕ) (m : Meaning) → FewMeaning ks m → Yields (formed m) (Few ks)
formed_few ks m h = brought_few ks (type_of m) m h

-- what is made of a form that is brought or formed
pub of_form : {A : Type 0} (ks : List ℕ) (f : Gets Expression) (g : Expression → Gets A) (P : A → Type 0) → Yields f (Few ks) → ((e : Expression) → Few ks e → Yields (g e) P) → Yields (f >>= g) P
of_form ks f g P h i = then_found f g (Few ks) P h i

-- ---- operators

known_few : (ks : List ℕ) (c : Option ConstantValue) (token : ℕ) (other : Gets Meaning) → FewGets ks other → FewGets ks (known_or c token other)
known_few ks (Some c) token other h = given (FewMeaning ks) (Known c token) (few_none ks)
known_few ks None token other h = h

unary_formed_few : (ks : List ℕ) (op : UnOp) (p : Option Primitive) (m : Meaning) (token : ℕ) → FewMeaning ks m → FewGets ks (unary_formed op p m token)
unary_formed_few ks op None m token h = refused_found (FewMeaning ks) BadOperand token
unary_formed_few ks op (Some p) m token h = of_form ks (brought _ m) _ (FewMeaning ks) (brought_few ks _ m h) (λ e i. given (FewMeaning ks) (Formed (Un op e) _) i)

pub unary_few : (ks : List ℕ) (op : UnOp) (m : Meaning) (token : ℕ) → FewMeaning ks m → FewGets ks (unary_of op m token)
unfolding unary_of
unary_few ks op m token h = known_few ks (unary_known op m) token _ (unary_formed_few ks op (unary_type op (type_of m)) m token h)

binary_formed_few : (ks ls : List ℕ) (op : BinOp) (types : Option OperandTypes) (a b : Meaning) (token : ℕ) → FewMeaning ks a → FewMeaning ls b → FewGets (ks ++ ls) (binary_formed op types a b token)
binary_formed_few ks ls op None a b token h i = refused_found (FewMeaning (ks ++ ls)) BadOperand token
binary_formed_few ks ls op (Some types) a b token h i =
    of_form ks (brought types.left a) _ (FewMeaning (ks ++ ls)) (brought_few ks types.left a h) (λ x hx.
    of_form ls (brought types.right b) _ (FewMeaning (ks ++ ls)) (brought_few ls types.right b i) (λ y hy. given (FewMeaning (ks ++ ls)) (Formed (Bin op x y token) types.outcome) (few_both hx hy)))

joined_few : (ks ls : List ℕ) (a b : Meaning) (token : ℕ) → FewMeaning ks a → FewMeaning ls b → FewGets (ks ++ ls) (joined a b token)
joined_few ks ls a b token h i =
    of_form ks (formed a) _ (FewMeaning (ks ++ ls)) (formed_few ks a h) (λ x hx.
    of_form ls (formed b) _ (FewMeaning (ks ++ ls)) (formed_few ls b i) (λ y hy. given (FewMeaning (ks ++ ls)) (Formed (Cat x y (type_of a) (type_of b) token) _) (few_both hx hy)))

pub binary_few : (ks ls : List ℕ) (j : Judgement) (t : Table) (op : BinOp) (a b : Meaning) (token : ℕ) → FewMeaning ks a → FewMeaning ls b → FewGets (ks ++ ls) (binary_of j t op a b token)
unfolding binary_of
binary_few ks ls j t op a b token h i =
    known_few (ks ++ ls) (binary_known op a b) (token_of a) _
    (of_choice (joins op (type_of a) (type_of b)) (joined a b token) (binary_formed op (operand_types j t op (type_of a) (type_of b)) a b token) (FewMeaning (ks ++ ls))
    (joined_few ks ls a b token h i) (binary_formed_few ks ls op (operand_types j t op (type_of a) (type_of b)) a b token h i))

lazy_form_few : (ks ls : List ℕ) (form : CondForm) (x y : Expression) (token : ℕ) → Few ks x → Few ls y → Few (ks ++ token ∷ ls) (lazy_form form x y token)
lazy_form_few ks ls cond.And x y token h i = few_between token h (few_behind i)
lazy_form_few ks ls cond.Or x y token h i = few_between token h i
lazy_form_few ks ls cond.Choice x y token h i = few_between token h i

-- the sign stands between the operands
pub lazy_few : (ks ls : List ℕ) (form : CondForm) (f : Bool → Bool → Bool) (a b : Meaning) (token : ℕ) → FewMeaning ks a → FewMeaning ls b → FewGets (ks ++ token ∷ ls) (lazy_of form f a b token)
unfolding lazy_of
lazy_few ks ls form f a b token h i =
    known_few (ks ++ token ∷ ls) _ (token_of a) _
    (of_choice (is_boolean (type_of a) && is_boolean (type_of b)) (lazy_formed form a b token) (refuse BadOperand token) (FewMeaning (ks ++ token ∷ ls))
    (of_form ks (brought boolean_type a) _ (FewMeaning (ks ++ token ∷ ls)) (brought_few ks boolean_type a h) (λ x hx.
    of_form ls (brought boolean_type b) _ (FewMeaning (ks ++ token ∷ ls)) (brought_few ls boolean_type b i) (λ y hy.
    given (FewMeaning (ks ++ token ∷ ls)) (Formed (lazy_form form x y token) boolean_type) (lazy_form_few ks ls form x y token hx hy))))
    (refused_found (FewMeaning (ks ++ token ∷ ls)) BadOperand token))

choice_formed_few : (ks ls ms : List ℕ) (ty : Option Ty) (test a b : Meaning) (token : ℕ) → FewMeaning ks test → FewMeaning ls a → FewMeaning ms b → FewGets (ks ++ token ∷ (ls ++ ms)) (choice_formed ty test a b token)
choice_formed_few ks ls ms None test a b token g h i = refused_found (FewMeaning (ks ++ token ∷ (ls ++ ms))) BadOperand token
choice_formed_few ks ls ms (Some ty) test a b token g h i =
    let P : Meaning → Type 0 = FewMeaning (ks ++ token ∷ (ls ++ ms)) in
    of_form ks (brought boolean_type test) _ P (brought_few ks boolean_type test g) (λ z hz.
    of_form ls (brought ty a) _ P (brought_few ls ty a h) (λ x hx.
    of_form ms (brought ty b) _ P (brought_few ms ty b i) (λ y hy.
    given P (Formed (Cond cond.Choice z (the x) (the y) token) ty) (few_between token hz (few_both hx hy)))))

pub choice_few : (ks ls ms : List ℕ) (j : Judgement) (t : Table) (test a b : Meaning) (token : ℕ) → FewMeaning ks test → FewMeaning ls a → FewMeaning ms b → FewGets (ks ++ token ∷ (ls ++ ms)) (choice_of j t test a b token)
unfolding choice_of
choice_few ks ls ms j t test a b token g h i =
    let P : Meaning → Type 0 = FewMeaning (ks ++ token ∷ (ls ++ ms)) in
    known_few (ks ++ token ∷ (ls ++ ms)) _ (token_of test) _
    (of_choice (is_boolean (type_of test)) _ (refuse BadOperand token) P (choice_formed_few ks ls ms _ test a b token g h i) (refused_found P BadOperand token))

cast_form_few : (ks : List ℕ) (to : Ty) (p : Option Primitive) (m : Meaning) (token : ℕ) → FewMeaning ks m → FewGets ks (cast_form to p m token)
cast_form_few ks to (Some p) m token h = of_form ks (brought to m) _ (FewMeaning ks) (brought_few ks to m h) (λ e i. given (FewMeaning ks) (Formed e to) i)
cast_form_few ks to None m token h = of_form ks (formed m) _ (FewMeaning ks) (formed_few ks m h) (λ e i. given (FewMeaning ks) (Formed (Cast to e token) to) i)

pub cast_few : (ks : List ℕ) (j : Judgement) (t : Table) (to : Ty) (m : Meaning) (token : ℕ) → FewMeaning ks m → FewGets ks (cast_of j t to m token)
unfolding cast_of
cast_few ks j t to m token h =
    of_choice (is_void (type_of m)) (refuse BadOperand token) _ (FewMeaning ks) (refused_found (FewMeaning ks) BadOperand token)
    (known_few ks (cast_known to m) token _
    (of_choice (can_cast j t (type_of m) to) _ (refuse BadCast token) (FewMeaning ks) (cast_form_few ks to _ m token h) (refused_found (FewMeaning ks) BadCast token)))

pub instance_few : (ks : List ℕ) (j : Judgement) (t : Table) (ty : Ty) (m : Meaning) (token : ℕ) → FewMeaning ks m → FewGets ks (instance_of j t ty m token)
unfolding instance_of
instance_few ks j t ty m token h =
    of_choice (is_void (type_of m)) (refuse BadOperand token) _ (FewMeaning ks) (refused_found (FewMeaning ks) BadOperand token)
    (of_choice (is_nullable (type_of m) && is_nullable ty && can_cast j t (type_of m) ty) (tested ty m) (refuse BadCast token) (FewMeaning ks)
    (of_form ks (formed m) _ (FewMeaning ks) (formed_few ks m h) (λ e i. given (FewMeaning ks) (Formed (InstanceOf ty e) boolean_type) i))
    (refused_found (FewMeaning ks) BadCast token))
