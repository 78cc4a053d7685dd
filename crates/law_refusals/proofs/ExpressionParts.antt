-- Refusals of parts are refusals of the whole, and what is found is found.
use Rattle.std.proofs.Common.{◌≡◌, ◌∙◌, ap, sym, subst, refl, ℕ, Bool, true, false, List, [], ◌∷◌, Option, Some, Result, Ok, Err}
use Rattle.std.specs.Prelude.{◌||◌, is_some, if◌then◌else◌}
use Rattle.std.specs.Prelude.{None as Absent}
use Rattle.std.specs.List.{Contains}
use Rattle.wy_kernel.specs.declared.types.Ty.{Ty}
use Rattle.wy_kernel.specs.Table.{Table}
use Rattle.wy_syntax.specs.Syntax.{Expression, Row, none, more, Base, Field, InvokeOn, Group, Name, SuperField, Element, Wrong}
use Rattle.wy_syntax.specs.Syntax as source
use Rattle.wy_constant.specs.declared.rule.Rule.TheVariants.{UnknownName, BadAssign}
use Rattle.wy_constant.specs.Refusal.{Refusal, refused}
use Rattle.wy_constant.specs.Scope.{Scope, FixedText}
use Rattle.wy_constant.specs.Fields.{class_named}
use Rattle.wy_elab_expr.specs.Meaning.{Meaning, Gets, give, onward, ◌>>=◌}
use Rattle.wy_elab_expr.specs.Operators.{Judgement}
use Rattle.wy_elab_expr.specs.Members.{Spot}
use Rattle.wy_elab_expr.specs.Elaboration.{ClassName, elaborated, elaborated_all, target, is_place, class_in, stream_in, type_with, named_type, or_type}
use Rattle.law_refusals.specs.Found.{IsFound, AreFound, Denotes, IsType, IsNoType, listed, operands, Within, itself, inside}
use Rattle.law_refusals.specs.Found as found
use Rattle.law_refusals.specs.ExpressionLaws.{IsBroken, IsWhole}
use Rattle.law_refusals.proofs.Walk.{Only, only_give, only_refuse, only_weaker}
use Rattle.law_refusals.proofs.Contained.{only_one, contains_here, contains_later}
use Rattle.law_refusals.proofs.Forms.{Blamed}

-- ---- steps that give something

pub record Gives {A B : Type 0} (m : Gets A) (f : A → Gets B) (u v : List FixedText) (b : B) : Type 0 where
  pub value : A
  pub between : List FixedText
  pub first : m u ≡ Ok (value, between)
  pub second : f value between ≡ Ok (b, v)

gives_by : {A B : Type 0} (m : Gets A) (f : A → Gets B) (u v : List FixedText) (b : B) (r : Result (A × List FixedText) Refusal) → m u ≡ r → onward f r ≡ Ok (b, v) → Gives m f u v b
gives_by m f u v b (Ok p) e h = record { value = p.0; between = p.1; first = e; second = h }
gives_by m f u v b (Err x) e h = absurd (cc)

pub gives : {A B : Type 0} (m : Gets A) (f : A → Gets B) (u v : List FixedText) (b : B) → (m >>= f) u ≡ Ok (b, v) → Gives m f u v b
gives m f u v b e = gives_by m f u v b (m u) refl e

given_is : {A : Type 0} (a b : A) (u v : List FixedText) → give a u ≡ Ok (b, v) → a ≡ b
given_is {A} a b u v e =
    let pair : (a, u) ≡ (b, v) = cc in
    ap (λ (z : A × List FixedText). z.0) pair

-- ---- types

type_named : {P : Refusal → Type 0} (t : Table) (name : List ℕ) (brackets token : ℕ) → (IsNoType t (source.Class name) → P (refused UnknownName token)) → (o : Option ℕ) → class_named t.classes name ≡ o → Only P (named_type o brackets token)
type_named t name brackets token f (Some c) e = only_give
type_named t name brackets token f Absent e = only_refuse (f (found.unknown e))

pub type_only : {P : Refusal → Type 0} (t : Table) (base : Base) (brackets token : ℕ) → (IsNoType t base → P (refused UnknownName token)) → Only P (type_with t base brackets token)
type_only t (source.Basic p) brackets token f = only_give
type_only t (source.Class name) brackets token f = type_named t name brackets token f (class_named t.classes name) refl

named_found : (t : Table) (name : List ℕ) (brackets token : ℕ) (u v : List FixedText) (ty : Ty) → (o : Option ℕ) → class_named t.classes name ≡ o → named_type o brackets token u ≡ Ok (ty, v) → IsType t (source.Class name) brackets ty
named_found t name brackets token u v ty (Some c) e h = let same = given_is _ ty u v h in subst (λ (z : Ty). IsType t (source.Class name) brackets z) same (found.IsType.of_class e)
named_found t name brackets token u v ty Absent e h = absurd (cc)

pub type_found : (t : Table) (base : Base) (brackets token : ℕ) (u v : List FixedText) (ty : Ty) → type_with t base brackets token u ≡ Ok (ty, v) → IsType t base brackets ty
type_found t (source.Basic p) brackets token u v ty h = let same = given_is _ ty u v h in subst (λ (z : Ty). IsType t (source.Basic p) brackets z) same found.of_primitive
type_found t (source.Class name) brackets token u v ty h = named_found t name brackets token u v ty (class_named t.classes name) refl h

pub or_type_found : (o : Option Ty) (token : ℕ) (u v : List FixedText) (ty : Ty) → or_type o token u ≡ Ok (ty, v) → o ≡ Some ty
or_type_found (Some z) token u v ty h = ap (λ y. Some y) (given_is z ty u v h)
or_type_found Absent token u v ty h = absurd (cc)

pub or_type_only : {P : Refusal → Type 0} (o : Option Ty) (token : ℕ) → (o ≡ Absent → P (refused BadAssign token)) → Only P (or_type o token)
or_type_only (Some z) token f = only_give
or_type_only Absent token f = only_refuse (f refl)

-- ---- operands

pub field_operand : (t : Table) (s : Scope) (object : Expression) (name : List ℕ) (token : ℕ) → class_in t s object ≡ Absent → Contains (operands t s (Field object name token)) object
field_operand t s object name token e = subst (λ (o : Option ClassName). Contains (if is_some o then [] else object ∷ []) object) (sym e) (only_one object)

behind : {X : Type 0} (b : Bool) (y x : X) (xs : List X) → Contains xs x → Contains (if b then xs else y ∷ xs) x
behind true y x xs h = h
behind false y x xs h = contains_later y x xs h

pub argument_operand : (t : Table) (s : Scope) (object : Expression) (name : List ℕ) (args : Row) (token : ℕ) (part : Expression) → Contains (listed args) part → Contains (operands t s (InvokeOn object name args token)) part
argument_operand t s object name args token part h = behind (is_some (stream_in t s object) || is_some (class_in t s object)) object part (listed args) h

pub object_operand : (t : Table) (s : Scope) (object : Expression) (name : List ℕ) (args : Row) (token : ℕ) → stream_in t s object ≡ Absent → class_in t s object ≡ Absent → Contains (operands t s (InvokeOn object name args token)) object
object_operand t s object name args token e h =
    subst (λ (b : Bool). Contains (if b then listed args else object ∷ listed args) object) (sym (ap (λ o. is_some o || is_some (class_in t s object)) e ∙ ap (λ o. is_some o) h)) (contains_here (listed args) refl)

-- ---- variables

-- an expression that can't be a variable denotes none
pub no_target : (j : Judgement) (t : Table) (s : Scope) (e : Expression) (texts : List FixedText) → is_place e ≡ false → target j t s e texts ≡ Ok (Absent, texts)
unfolding target
no_target j t s (Name name token) texts h = absurd (cc)
no_target j t s (Group inner token) texts h = no_target j t s inner texts h
no_target j t s (Field object name token) texts h = absurd (cc)
no_target j t s (SuperField name token) texts h = absurd (cc)
no_target j t s (Element array index token) texts h = absurd (cc)
no_target j t s _ texts h = refl

stepped_by : (j : Judgement) (t : Table) (s : Scope) (e : Expression) (p : Option Spot) (u v : List FixedText) → (b : Bool) → is_place e ≡ b →
    (if b then target j t s e else elaborated j t s e >>= λ m. give Absent) u ≡ Ok (p, v) → Denotes j t s e p
stepped_by j t s e p u v true h is = record { before = u; after = v; found = is }
stepped_by j t s e p u v false h is =
    let g = gives (elaborated j t s e) (λ m. give Absent) u v p is in
    let same : Absent ≡ p = given_is Absent p g.between v g.second in
    record { before = u; after = u; found = no_target j t s e u h ∙ ap (λ z. Ok (z, u)) same }

pub step_denotes : (j : Judgement) (t : Table) (s : Scope) (e : Expression) (p : Option Spot) (u v : List FixedText) →
    (if is_place e then target j t s e else elaborated j t s e >>= λ m. give Absent) u ≡ Ok (p, v) → Denotes j t s e p
step_denotes j t s e p u v is = stepped_by j t s e p u v (is_place e) refl is

pub is_found : {j : Judgement} {t : Table} {s : Scope} {e : Expression} {m : Meaning} (u v : List FixedText) → elaborated j t s e u ≡ Ok (m, v) → IsFound j t s e m
is_found u v h = record { before = u; after = v; found = h }

pub is_denoted : {j : Judgement} {t : Table} {s : Scope} {e : Expression} {p : Option Spot} (u v : List FixedText) → target j t s e u ≡ Ok (p, v) → Denotes j t s e p
is_denoted u v h = record { before = u; after = v; found = h }

pub are_found : (j : Judgement) (t : Table) (s : Scope) (r : Row) (ms : List Meaning) (u v : List FixedText) → elaborated_all j t s r u ≡ Ok (ms, v) → AreFound j t s r ms
unfolding elaborated_all
are_found j t s none ms u v h = let same : [] ≡ ms = given_is [] ms u v h in subst (λ (z : List Meaning). AreFound j t s none z) same found.none_found
are_found j t s (more e rest) ms u v h =
    let g = gives (elaborated j t s e) (λ m. elaborated_all j t s rest >>= λ ms. give (m ∷ ms)) u v ms h in
    let k = gives (elaborated_all j t s rest) (λ ms. give (g.value ∷ ms)) g.between v ms g.second in
    let same : g.value ∷ k.value ≡ ms = given_is (g.value ∷ k.value) ms k.between v k.second in
    subst (λ (z : List Meaning). AreFound j t s (more e rest) z) same (found.more_found (is_found u g.between g.first) (are_found j t s rest k.value g.between k.between k.first))

-- ---- the whole

module _ (j : Judgement) (t : Table) (s : Scope) where
  abbrev pub At : Expression → Refusal → Type 0
  At e x = IsBroken j t s e x.rule x.token

  pub by_itself : (e : Expression) (x : Refusal) → Blamed j t s e x → At e x
  by_itself e x b = record { part = e; within = itself; breaks = b }

  pub by_operand : (e part : Expression) (x : Refusal) → Contains (operands t s e) part → At part x → At e x
  by_operand e part x h b = record { part = b.part; within = inside h b.within; breaks = b.breaks }

  pub whole_operand : (e part : Expression) → IsWhole t s e → Contains (operands t s e) part → IsWhole t s part
  whole_operand e part w h x = w (inside h x)

  -- refusals of an expression are right
  abbrev pub Explains : Expression → Type 0
  Explains e = IsWhole t s e → Only (At e) (elaborated j t s e)

  abbrev pub ExplainsTarget : Expression → Type 0
  ExplainsTarget e = IsWhole t s e → Only (At e) (target j t s e)

  -- one of these breaks the rule
  pub record Among (parts : List Expression) (x : Refusal) : Type 0 where
    pub part : Expression
    pub stands : Contains parts part
    pub broken : At part x

  abbrev pub AreWhole : List Expression → Type 0
  AreWhole parts = (part : Expression) → Contains parts part → IsWhole t s part

  abbrev pub ExplainsAll : Row → Type 0
  ExplainsAll r = AreWhole (listed r) → Only (Among (listed r)) (elaborated_all j t s r)

  pub of_form : {A : Type 0} {m : Gets A} (e : Expression) → Only (Blamed j t s e) m → Only (At e) m
  of_form e o = only_weaker (by_itself e) o

  pub of_operand : (e part : Expression) → Contains (operands t s e) part → Explains part → IsWhole t s e → Only (At e) (elaborated j t s part)
  of_operand e part h f w = only_weaker (λ x b. by_operand e part x h b) (f (whole_operand e part w h))

  pub of_target : (e part : Expression) → Contains (operands t s e) part → ExplainsTarget part → IsWhole t s e → Only (At e) (target j t s part)
  of_target e part h f w = only_weaker (λ x b. by_operand e part x h b) (f (whole_operand e part w h))

  pub of_row : (e : Expression) (r : Row) → ((part : Expression) → Contains (listed r) part → Contains (operands t s e) part) → ExplainsAll r → IsWhole t s e → Only (At e) (elaborated_all j t s r)
  of_row e r h f w = only_weaker (λ x b. by_operand e b.part x (h b.part b.stands) b.broken) (f (λ part c. whole_operand e part w (h part c)))
