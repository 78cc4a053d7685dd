-- What an expression is found to be, and whether it is refused, does not depend on the texts before it.
use Rattle.std.proofs.Common.{◌≡◌, ◌∙◌, ap, subst, refl, ℕ, ◌+◌, List, length, Option, Some, Result, Ok, Err}
use Rattle.std.specs.Prelude.{◌&&◌, ◌||◌}
use Rattle.std.specs.Prelude.{None as Absent}
use Rattle.wy_kernel.specs.Form as kernel
use Rattle.wy_kernel.specs.declared.types.Ty.{Ty}
use Rattle.wy_kernel.specs.declared.form.CondForm.TheVariants as cond
use Rattle.wy_kernel.specs.Subtyping.{class_type}
use Rattle.wy_kernel.specs.Table.{Table}
use Rattle.wy_syntax.specs.Syntax.{Base, Expression, Literal, Name, This, Group, Invoke, Field, InvokeOn, SuperField, SuperInvoke, Element, NewObject, NewArray, NewList, Unary, Step, Binary, Both, Either, InstanceOf, Cast, Choice, Assign, Update, Wrong, Row, none, more, Initial, Value, Listed, Elements, no_more, element}
use Rattle.wy_syntax.specs.Syntax as source
use Rattle.wy_constant.specs.Refusal.{Refusal}
use Rattle.wy_constant.specs.Scope.{Scope, FixedText}
use Rattle.wy_constant.specs.Fields.{class_named}
use Rattle.wy_elab_expr.specs.Meaning.{Meaning, Known, Formed, Gets, give, ◌>>=◌}
use Rattle.wy_elab_expr.specs.Operators.{Judgement, cast_of, instance_of}
use Rattle.wy_elab_expr.specs.Members.{Spot, qualified_name, field_read, created}
use Rattle.wy_elab_expr.specs.Elaboration.{ClassName, Stream, class_in, stream_in, named_type, type_with, type_written, literal_meaning, literal_or_null, is_place, class_for_new, with_brackets, or_type, element_of, called_on, called_on_class, called_on_stream, class_target, field_target, Listing, elaborated, elaborated_all, target, elements_of, initialized}
use Rattle.law_refusals.specs.Alike.{AreAlike, SpotsAreAlike, VariablesAreAlike, known, IsFoundOnce, IsDenotedOnce, IsRefusedAlways}
use Rattle.law_refusals.specs.Alike as alike
use Rattle.law_refusals.proofs.Likewise.{Same, both_given, both_refused, Alike, Any, any, like_give, like_refuse, like_if, like_bind, like_step, like_row}
use Rattle.law_refusals.proofs.LikeForms.{AllAlike, nil, cons, like_unary, like_binary, like_lazy, like_choice, like_cast, like_instance, like_value, like_assigned, like_updated, like_stepped, like_element, like_sizes, same_length}
use Rattle.law_refusals.proofs.LikeFields.{like_spot, like_read, like_named, like_qualified, like_class_target, like_field, like_field_target, like_super, Equal, like_plain, like_super_call, like_call_on, like_call_on_class, like_stream, like_created}

record EqualTypes (a b : Ty) : Type 0 where
  same : a ≡ b

record AnyListing (x y : Listing) : Type 0 where

alike_self : (m : Meaning) → AreAlike m m
alike_self (Known value token) = known
alike_self (Formed form ty) = alike.formed

one_literal : (o : Option Meaning) → Alike AreAlike (literal_or_null o) (literal_or_null o)
one_literal (Some m) = like_give (alike_self m)
one_literal Absent = like_give alike.formed

named_by : (o : Option ℕ) (brackets token : ℕ) → Alike EqualTypes (named_type o brackets token) (named_type o brackets token)
named_by (Some c) brackets token = like_give (record { same = refl })
named_by Absent brackets token = like_refuse

one_type : (t : Table) (base : Base) (brackets token : ℕ) → Alike EqualTypes (type_with t base brackets token) (type_with t base brackets token)
one_type t (source.Basic p) brackets token = like_give (record { same = refl })
one_type t (source.Class name) brackets token = named_by (class_named t.classes name) brackets token

one_or_type : (o : Option Ty) (token : ℕ) → Alike EqualTypes (or_type o token) (or_type o token)
one_or_type (Some ty) token = like_give (record { same = refl })
one_or_type Absent token = like_refuse

one_class : (o : Option ℕ) (token : ℕ) → Alike Equal (class_for_new o token) (class_for_new o token)
one_class (Some c) token = like_give (record { same = refl })
one_class Absent token = like_refuse

formed_of : {e f : kernel.Expression} {a b : Ty} → a ≡ b → AreAlike (Formed e a) (Formed f b)
formed_of {e} {f} {a} same = let Q : Ty → Type 0 = λ z. AreAlike (Formed e a) (Formed f z) in subst Q same alike.formed

array_type : (a b : Ty) (ms ns : List Meaning) (brackets : ℕ) → EqualTypes a b → AllAlike ms ns → with_brackets a (length ms + brackets) ≡ with_brackets b (length ns + brackets)
array_type a b ms ns brackets e r = ap (λ z. with_brackets z (length ms + brackets)) e.same ∙ ap (λ z. with_brackets b (z + brackets)) (same_length r)

or_type_by : (a b : Ty) (token : ℕ) → EqualTypes a b → Alike EqualTypes (or_type (element_of a) token) (or_type (element_of b) token)
or_type_by a b token e = let Q : Ty → Type 0 = λ z. Alike EqualTypes (or_type (element_of a) token) (or_type (element_of z) token) in subst Q e.same (one_or_type (element_of a) token)

module _ (j : Judgement) (t : Table) (s : Scope) where
  abbrev One : Expression → Type 0
  One e = Alike AreAlike (elaborated j t s e) (elaborated j t s e)

  abbrev OneTarget : Expression → Type 0
  OneTarget e = Alike VariablesAreAlike (target j t s e) (target j t s e)

  abbrev OneRow : Row → Type 0
  OneRow r = Alike AllAlike (elaborated_all j t s r) (elaborated_all j t s r)

  abbrev OneInitial : Initial → Type 0
  OneInitial i = (ty : Ty) (n : ℕ) → Alike Any (initialized j t s ty i n) (initialized j t s ty i n)

  abbrev OneElements : Elements → Type 0
  OneElements elements = (ty : Ty) → Alike AnyListing (elements_of j t s ty elements) (elements_of j t s ty elements)

  just_one : {m : Gets Spot} → Alike SpotsAreAlike m m → Alike VariablesAreAlike (m >>= λ p. give (Some p)) (m >>= λ p. give (Some p))
  just_one h = like_bind {R = SpotsAreAlike} h (λ p q r. like_give (alike.some r))

  just_one_by : {m n : Gets Spot} → Alike SpotsAreAlike m n → Alike VariablesAreAlike (m >>= λ p. give (Some p)) (n >>= λ p. give (Some p))
  just_one_by h = like_bind {R = SpotsAreAlike} h (λ p q r. like_give (alike.some r))

  dot_by : (object : Expression) (name : List ℕ) (token : ℕ) → One object → (o : Option ClassName) →
      Alike AreAlike (elim o as (λ _. Gets Meaning) [ Some c ↦ qualified_name t s c.name name c.token token | Absent ↦ (elaborated j t s object >>= λ m. field_read t s m name token) ])
      (elim o as (λ _. Gets Meaning) [ Some c ↦ qualified_name t s c.name name c.token token | Absent ↦ (elaborated j t s object >>= λ m. field_read t s m name token) ])
  dot_by object name token h (Some c) = like_qualified t s c.name name c.token token
  dot_by object name token h Absent = like_bind {R = AreAlike} h (λ m n r. like_field t s name token r)

  dot_target_by : (object : Expression) (name : List ℕ) (token : ℕ) → One object → (o : Option ClassName) →
      Alike VariablesAreAlike (elim o as (λ _. Gets (Option Spot)) [ Some c ↦ class_target t s c name token | Absent ↦ (elaborated j t s object >>= λ m. field_target t s m name token) ])
      (elim o as (λ _. Gets (Option Spot)) [ Some c ↦ class_target t s c name token | Absent ↦ (elaborated j t s object >>= λ m. field_target t s m name token) ])
  dot_target_by object name token h (Some c) = like_class_target t s c name token
  dot_target_by object name token h Absent = like_bind {R = AreAlike} h (λ m n r. like_field_target t s name token r)

  call_by : (object : Expression) (name : List ℕ) (args : Row) (token : ℕ) → One object → OneRow args → (o : Option ClassName) →
      Alike AreAlike (elim o as (λ _. Gets Meaning) [
        | Some c ↦ (elaborated_all j t s args >>= λ arguments. called_on_class j t s c name arguments token)
        | Absent ↦ (elaborated j t s object >>= λ m. elaborated_all j t s args >>= λ arguments. called_on j t s m name arguments token)
      ]) (elim o as (λ _. Gets Meaning) [
        | Some c ↦ (elaborated_all j t s args >>= λ arguments. called_on_class j t s c name arguments token)
        | Absent ↦ (elaborated j t s object >>= λ m. elaborated_all j t s args >>= λ arguments. called_on j t s m name arguments token)
      ])
  call_by object name args token h k (Some c) = like_bind {R = AllAlike} k (λ ms ns r. like_call_on_class j t s c name token r)
  call_by object name args token h k Absent = like_bind {R = AreAlike} h (λ m n r. like_bind {R = AllAlike} k (λ ms ns q. like_call_on j t s name token r q))

  stream_by : (object : Expression) (name : List ℕ) (args : Row) (token : ℕ) → One object → OneRow args → (o : Option Stream) →
      Alike AreAlike (elim o as (λ _. Gets Meaning) [
        | Some stream ↦ (elaborated_all j t s args >>= λ arguments. called_on_stream stream name arguments token)
        | Absent ↦ elim (class_in t s object) as (λ _. Gets Meaning) [
          | Some c ↦ (elaborated_all j t s args >>= λ arguments. called_on_class j t s c name arguments token)
          | Absent ↦ (elaborated j t s object >>= λ m. elaborated_all j t s args >>= λ arguments. called_on j t s m name arguments token)
        ]
      ]) (elim o as (λ _. Gets Meaning) [
        | Some stream ↦ (elaborated_all j t s args >>= λ arguments. called_on_stream stream name arguments token)
        | Absent ↦ elim (class_in t s object) as (λ _. Gets Meaning) [
          | Some c ↦ (elaborated_all j t s args >>= λ arguments. called_on_class j t s c name arguments token)
          | Absent ↦ (elaborated j t s object >>= λ m. elaborated_all j t s args >>= λ arguments. called_on j t s m name arguments token)
        ]
      ])
  stream_by object name args token h k (Some stream) = like_bind {R = AllAlike} k (λ ms ns r. like_stream stream name token r)
  stream_by object name args token h k Absent = call_by object name args token h k (class_in t s object)

  cast_by : (to other : Ty) (token : ℕ) {m n : Meaning} → EqualTypes to other → AreAlike m n → Alike AreAlike (cast_of j t to m token) (cast_of j t other n token)
  cast_by to other token {m} {n} e h = let Q : Ty → Type 0 = λ z. Alike AreAlike (cast_of j t to m token) (cast_of j t z n token) in subst Q e.same (like_cast j t to token h)

  instance_by : (to other : Ty) (token : ℕ) {m n : Meaning} → EqualTypes to other → AreAlike m n → Alike AreAlike (instance_of j t to m token) (instance_of j t other n token)
  instance_by to other token {m} {n} e h = let Q : Ty → Type 0 = λ z. Alike AreAlike (instance_of j t to m token) (instance_of j t z n token) in subst Q e.same (like_instance j t to token h)

  created_by : (c d token : ℕ) {ms ns : List Meaning} → Equal c d → AllAlike ms ns → Alike AreAlike (created j t s c ms token) (created j t s d ns token)
  created_by c d token {ms} {ns} e h = let Q : ℕ → Type 0 = λ z. Alike AreAlike (created j t s c ms token) (created j t s z ns token) in subst Q e.same (like_created j t s c token h)

  elements_by : (a b : Ty) (elements : Elements) → EqualTypes a b → OneElements elements → Alike AnyListing (elements_of j t s a elements) (elements_of j t s b elements)
  elements_by a b elements e h = let Q : Ty → Type 0 = λ z. Alike AnyListing (elements_of j t s a elements) (elements_of j t s z elements) in subst Q e.same (h a)

  mutual
    unfolding elaborated elaborated_all target elements_of initialized literal_meaning type_written

    pub one : (e : Expression) → One e
    one (Literal value token) = one_literal _
    one (Name name token) = like_named t s name token
    one (This token) = like_if s.has_this (like_give alike.formed) like_refuse
    one (Group inner token) = one inner
    one (Invoke name args token) = like_bind {R = AllAlike} (one_row args) (λ ms ns r. like_plain j t s (class_type s.class) name token r)
    one (Field object name token) = dot_by object name token (one object) (class_in t s object)
    one (InvokeOn object name args token) = stream_by object name args token (one object) (one_row args) (stream_in t s object)
    one (SuperField name token) = like_bind {R = SpotsAreAlike} (like_super t s name token) (λ p q r. like_give (like_read r))
    one (SuperInvoke name args token) = like_bind {R = AllAlike} (one_row args) (λ ms ns r. like_super_call j t s _ name token r)
    one (Element array index token) =
        like_bind {R = AreAlike} (one array) (λ a b r. like_bind {R = AreAlike} (one index) (λ i k q. like_bind {R = SpotsAreAlike} (like_element token r q) (λ x y z. like_give (like_read z))))
    one (NewObject class args token) = like_bind {R = Equal} (one_class (class_named t.classes class.name) class.token) (λ c d e. like_bind {R = AllAlike} (one_row args) (λ ms ns r. created_by c d token e r))
    one (NewArray base at sizes brackets token) =
        like_bind {R = EqualTypes} (one_type t base 0 at) (λ a b e. like_bind {R = AllAlike} (one_row sizes) (λ ms ns r. like_row (like_sizes token r) (λ x y. like_give (formed_of (array_type a b ms ns brackets e r)))))
    one (NewList base at brackets elements brace token) =
        like_bind {R = EqualTypes} (one_type t base brackets at)
        (λ a b e. like_bind {R = EqualTypes} (or_type_by a b brace e) (λ c d f. like_bind {R = AnyListing} (elements_by c d elements f (one_elements elements)) (λ x y z. like_give (formed_of e.same))))
    one (Unary op operand token) = like_bind {R = AreAlike} (one operand) (λ m n r. like_unary op token r)
    one (Step is_before is_up operand token) =
        like_bind {R = VariablesAreAlike} (like_if (is_place operand) (one_target operand) (like_bind {R = AreAlike} (one operand) (λ m n r. like_give alike.none))) (λ p q r. like_stepped is_before is_up token r)
    one (Binary op left right token) = like_bind {R = AreAlike} (one left) (λ a b r. like_bind {R = AreAlike} (one right) (λ c d q. like_binary j t op token r q))
    one (Both left right token) = like_bind {R = AreAlike} (one left) (λ a b r. like_bind {R = AreAlike} (one right) (λ c d q. like_lazy cond.And (λ x y. x && y) token r q))
    one (Either left right token) = like_bind {R = AreAlike} (one left) (λ a b r. like_bind {R = AreAlike} (one right) (λ c d q. like_lazy cond.Or (λ x y. x || y) token r q))
    one (InstanceOf left ty token) = like_bind {R = AreAlike} (one left) (λ m n r. like_bind {R = EqualTypes} (one_type t ty.base ty.brackets ty.token) (λ a b e. instance_by a b token e r))
    one (Cast ty operand token) = like_bind {R = EqualTypes} (one_type t ty.base ty.brackets ty.token) (λ a b e. like_bind {R = AreAlike} (one operand) (λ m n r. cast_by a b token e r))
    one (Choice test main other token) =
        like_bind {R = AreAlike} (one test) (λ a b r. like_bind {R = AreAlike} (one main) (λ c d q. like_bind {R = AreAlike} (one other) (λ e f p. like_choice j t token r q p)))
    one (Assign left value token) = like_bind {R = VariablesAreAlike} (one_target left) (λ p q r. like_bind {R = AreAlike} (one value) (λ m n h. like_assigned j token r h))
    one (Update op left value token) = like_bind {R = VariablesAreAlike} (one_target left) (λ p q r. like_bind {R = AreAlike} (one value) (λ m n h. like_updated j t op token r h))
    one Wrong = like_refuse

    pub one_target : (e : Expression) → OneTarget e
    one_target (Name name token) = just_one (like_spot t s name token)
    one_target (Group inner token) = one_target inner
    one_target (Field object name token) = dot_target_by object name token (one object) (class_in t s object)
    one_target (SuperField name token) = just_one (like_super t s name token)
    one_target (Element array index token) = like_bind {R = AreAlike} (one array) (λ a b r. like_bind {R = AreAlike} (one index) (λ i k q. just_one_by (like_element token r q)))
    one_target _ = like_give alike.none

    one_row : (r : Row) → OneRow r
    one_row none = like_give nil
    one_row (more e rest) = like_bind {R = AreAlike} (one e) (λ m n r. like_bind {R = AllAlike} (one_row rest) (λ ms ns q. like_give (cons r q)))

    one_initial : (i : Initial) → OneInitial i
    one_initial (Value e) ty n = like_bind {R = AreAlike} (one e) (λ a b r. like_value j ty n r)
    one_initial (Listed elements brace) ty n = like_bind {R = EqualTypes} (one_or_type (element_of ty) brace) (λ a b e. like_bind {R = AnyListing} (elements_by a b elements e (one_elements elements)) (λ x y z. like_give any))

    one_elements : (elements : Elements) → OneElements elements
    one_elements no_more ty = like_give (record {})
    one_elements (element before first rest) ty = like_step (one_initial first ty before) (λ x y. like_bind {R = AnyListing} (one_elements rest ty) (λ z w q. like_give (record {})))

-- ---- the laws

given_alike : {A : Type 0} (R : A → A → Type 0) (a b : A) (u v : List FixedText) (x y : Result (A × List FixedText) Refusal) → Same R x y → x ≡ Ok (a, u) → y ≡ Ok (b, v) → R a b
given_alike {A} R a b u v _ _ (both_given {a = c} {b = d} {u = w} {v = z} r) e f =
    let left : (c, w) ≡ (a, u) = cc in
    let right : (d, z) ≡ (b, v) = cc in
    let Q : A → Type 0 = λ y. R y d in
    let P : A → Type 0 = λ y. R a y in
    subst P (ap (λ (y : A × List FixedText). y.0) right) (subst Q (ap (λ (y : A × List FixedText). y.0) left) r)
given_alike R a b u v _ _ both_refused e f = absurd (cc)

refused_alike : {A : Type 0} (R : A → A → Type 0) (x y : Result (A × List FixedText) Refusal) (z : Refusal) → Same R x y → x ≡ Err z → y ≡ Err z
refused_alike R _ _ z (both_given r) e = absurd (cc)
refused_alike R _ _ z both_refused e = e

pub found_once : IsFoundOnce
found_once j t s e m n f g = given_alike AreAlike m n f.after g.after (elaborated j t s e f.before) (elaborated j t s e g.before) ((one j t s e).at f.before g.before) f.found g.found

pub denoted_once : IsDenotedOnce
denoted_once j t s e p q f g = given_alike VariablesAreAlike p q f.after g.after (target j t s e f.before) (target j t s e g.before) ((one_target j t s e).at f.before g.before) f.found g.found

pub refused_always : IsRefusedAlways
refused_always j t s e before other x h = refused_alike AreAlike (elaborated j t s e before) (elaborated j t s e other) x ((one j t s e).at before other) h
