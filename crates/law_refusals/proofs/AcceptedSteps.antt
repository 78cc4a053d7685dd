-- An expression is refused where what it does with its operands is: they are found to be what they are found to be, whatever texts stand before them.
use Rattle.std.proofs.Common.{◌≡◌, ap, sym, subst, refl, ℕ, Bool, List, ◌∷◌, Option, Some, Ok}
use Rattle.std.specs.Prelude.{if◌then◌else◌}
use Rattle.std.specs.Prelude.{None as Absent}
use Rattle.wy_kernel.specs.Form as kernel
use Rattle.wy_kernel.specs.declared.types.Base.TheVariants.{Class as Named}
use Rattle.wy_kernel.specs.declared.types.Ty.{Ty}
use Rattle.wy_kernel.specs.declared.types.Ty.TheVariants.{Of}
use Rattle.wy_kernel.specs.Subtyping.{class_type}
use Rattle.wy_kernel.specs.Table.{Table}
use Rattle.wy_syntax.specs.Syntax.{WrittenType, Base, Expression, Name, Invoke, InvokeOn, SuperInvoke, NewObject, NewArray, NewList, Step, InstanceOf, Cast, Row, Initial, Value, Listed, Elements, element}
use Rattle.wy_syntax.specs.Syntax as source
use Rattle.wy_constant.specs.Scope.{Scope, FixedText}
use Rattle.wy_constant.specs.Fields.{class_named}
use Rattle.wy_elab_expr.specs.Meaning.{Meaning, Formed, Gets, give, ◌>>=◌}
use Rattle.wy_elab_expr.specs.Operators.{Judgement}
use Rattle.wy_elab_expr.specs.Members.{Spot, Nothing, Super, called, created}
use Rattle.wy_elab_expr.specs.Elaboration.{ClassName, Stream, class_in, stream_in, named_type, type_with, type_written, is_place, class_for_new, or_type, element_of, above, stepped, called_on, called_on_class, called_on_stream, Listing, listing, elaborated, elaborated_all, target, elements_of, initialized}
use Rattle.law_refusals.specs.Alike.{AreAlike, SpotsAreAlike, VariablesAreAlike}
use Rattle.law_refusals.specs.Alike as alike
use Rattle.law_refusals.specs.Found.{IsFound, AreFound, none_found, more_found, Denotes, IsType, of_primitive, IsNoType, IsAmong, here, later, Fills, deeper}
use Rattle.law_refusals.specs.Found as found
use Rattle.law_refusals.specs.Calls.{IsObject}
use Rattle.law_refusals.proofs.ExpressionParts.{is_found, is_denoted, are_found, step_denotes, type_found, or_type_found}
use Rattle.law_refusals.proofs.Once.{found_once, denoted_once}
use Rattle.law_refusals.proofs.LikeForms.{AllAlike, nil, cons}
use Rattle.law_refusals.proofs.Never.{Never, never_refuse, never_bind, never_first, never_unbuilt, never_built}

-- ---- types

one_class : (t : Table) (name : List ℕ) (c d : ℕ) → class_named t.classes name ≡ Some c → class_named t.classes name ≡ Some d → c ≡ d
one_class t name c d e f = cc

pub type_once : (t : Table) {b : Base} {n : ℕ} {x y : Ty} → IsType t b n x → IsType t b n y → x ≡ y
type_once t found.of_primitive found.of_primitive = refl
type_once t (found.IsType.of_class {name = name} {c = c} {brackets = n} e) (found.IsType.of_class {c = d} f) = ap (λ (z : ℕ). Of (Named z) n) (one_class t name c d e f)

never_unnamed : (o : Option ℕ) (brackets token : ℕ) → o ≡ Absent → Never (named_type o brackets token)
never_unnamed (Some c) brackets token e = absurd (cc)
never_unnamed Absent brackets token e = never_refuse

pub never_type : (t : Table) (b : Base) (brackets token : ℕ) → IsNoType t b → Never (type_with t b brackets token)
never_type t (source.Basic p) brackets token n = elim n [ ]
never_type t (source.Class name) brackets token (found.unknown e) = never_unnamed (class_named t.classes name) brackets token e

pub class_unknown : (t : Table) (name : List ℕ) → IsNoType t (source.Class name) → class_named t.classes name ≡ Absent
class_unknown t name (found.unknown e) = e

pub never_class : (o : Option ℕ) (token : ℕ) → o ≡ Absent → Never (class_for_new o token)
never_class (Some c) token e = absurd (cc)
never_class Absent token e = never_refuse

pub class_found : (o : Option ℕ) (token c : ℕ) (u v : List FixedText) → class_for_new o token u ≡ Ok (c, v) → o ≡ Some c
class_found (Some k) token c u v h =
    let pair : (k, u) ≡ (c, v) = cc in
    ap (λ (z : ℕ × List FixedText). Some z.0) pair
class_found Absent token c u v h = absurd (cc)

-- ---- names before a dot

-- what names a class is no stream
class_is_no_stream : (t : Table) (s : Scope) (e : Expression) (class : ClassName) → class_in t s e ≡ Some class → stream_in t s e ≡ Absent
class_is_no_stream t s (Name name token) class h = refl
class_is_no_stream t s _ class h = absurd (cc)

-- ---- variables

pub record IsLike (p q : Spot) : Type 0 where
  pub ty : q.ty ≡ p.ty
  pub is_fixed : q.is_fixed ≡ p.is_fixed

like_spots : {p q : Spot} → SpotsAreAlike p q → IsLike p q
like_spots alike.spots = record { ty = refl; is_fixed = refl }

spot_of : {p : Spot} {o : Option Spot} → VariablesAreAlike (Some p) o → (q : Spot) × (o ≡ Some q) × IsLike p q
spot_of (alike.some {q = q} h) = (q, refl, like_spots h)

none_of : {o : Option Spot} → VariablesAreAlike Absent o → o ≡ Absent
none_of alike.none = refl

module _ (j : Judgement) (t : Table) (s : Scope) where
  abbrev pub Refused : Expression → Type 0
  Refused e = Never (elaborated j t s e)

  -- ---- operands and arguments

  pub all_once : {r : Row} {ms ns : List Meaning} → AreFound j t s r ms → AreFound j t s r ns → AllAlike ms ns
  all_once found.none_found found.none_found = nil
  all_once (found.more_found {e = e} {m = m} f fs) (found.more_found {m = n} h hs) = cons (found_once j t s e m n f h) (all_once fs hs)

  pub by_operand : {B : Type 0} {e : Expression} {m : Meaning} (f : Meaning → Gets B) → IsFound j t s e m → ((n : Meaning) → AreAlike m n → Never (f n)) → Never (elaborated j t s e >>= f)
  by_operand {e = e} {m = m} f h n = never_bind (elaborated j t s e) f (λ a u v is. n a (found_once j t s e m a h (is_found u v is)))

  pub by_second : {A B : Type 0} {e : Expression} {m : Meaning} (first : Gets A) (f : A → Meaning → Gets B) → IsFound j t s e m → ((a : A) (n : Meaning) → AreAlike m n → Never (f a n)) → Never (first >>= λ a. elaborated j t s e >>= λ n. f a n)
  by_second {e = e} first f h n = never_bind first (λ a. elaborated j t s e >>= λ x. f a x) (λ a u v is. by_operand (f a) h (n a))

  pub by_arguments : {B : Type 0} (args : Row) (f : List Meaning → Gets B) → ((ns : List Meaning) → AreFound j t s args ns → Never (f ns)) → Never (elaborated_all j t s args >>= f)
  by_arguments args f n = never_bind (elaborated_all j t s args) f (λ ns u v is. n ns (are_found j t s args ns u v is))

  -- ---- calls

  pub never_invoke : (name : List ℕ) (args : Row) (token : ℕ) → ((ns : List Meaning) → AreFound j t s args ns → Never (called j t s Nothing (class_type s.class) name ns token)) → Refused (Invoke name args token)
  unfolding elaborated
  never_invoke name args token n = by_arguments args (λ ns. called j t s Nothing (class_type s.class) name ns token) n

  pub never_super_invoke : (name : List ℕ) (args : Row) (token : ℕ) → ((ns : List Meaning) → AreFound j t s args ns → Never (called j t s Super (class_type (above t s)) name ns token)) → Refused (SuperInvoke name args token)
  unfolding elaborated
  never_super_invoke name args token n = by_arguments args (λ ns. called j t s Super (class_type (above t s)) name ns token) n

  pub never_new : (class : source.Named) (args : Row) (token : ℕ) → ((c : ℕ) (ns : List Meaning) → class_named t.classes class.name ≡ Some c → AreFound j t s args ns → Never (created j t s c ns token)) → Refused (NewObject class args token)
  unfolding elaborated
  never_new class args token n =
      never_bind (class_for_new (class_named t.classes class.name) class.token) (λ c. elaborated_all j t s args >>= λ ns. created j t s c ns token)
      (λ c u v is. by_arguments args (λ ns. created j t s c ns token) (λ ns f. n c ns (class_found (class_named t.classes class.name) class.token c u v is) f))

  abbrev Call : Expression → List ℕ → Row → ℕ → Option Stream → Option ClassName → Gets Meaning
  Call object name args token o q = elim o as (λ _. Gets Meaning) [
    | Some stream ↦ (elaborated_all j t s args >>= λ ns. called_on_stream stream name ns token)
    | Absent ↦ elim q as (λ _. Gets Meaning) [
      | Some c ↦ (elaborated_all j t s args >>= λ ns. called_on_class j t s c name ns token)
      | Absent ↦ (elaborated j t s object >>= λ m. elaborated_all j t s args >>= λ ns. called_on j t s m name ns token)
    ]
  ]

  module _ (object : Expression) (name : List ℕ) (args : Row) (token : ℕ) where
    call_on_any : (o : Option Stream) (q : Option ClassName) → ((stream : Stream) (ns : List Meaning) → stream_in t s object ≡ Some stream → AreFound j t s args ns → Never (called_on_stream stream name ns token)) →
        ((c : ClassName) (ns : List Meaning) → class_in t s object ≡ Some c → AreFound j t s args ns → Never (called_on_class j t s c name ns token)) →
        ((m : Meaning) (ns : List Meaning) → IsObject t s object → IsFound j t s object m → AreFound j t s args ns → Never (called_on j t s m name ns token)) →
        stream_in t s object ≡ o → class_in t s object ≡ q → Never (Call object name args token o q)
    call_on_any (Some stream) q f g h e i = by_arguments args (λ ns. called_on_stream stream name ns token) (λ ns fs. f stream ns e fs)
    call_on_any Absent (Some c) f g h e i = by_arguments args (λ ns. called_on_class j t s c name ns token) (λ ns fs. g c ns i fs)
    call_on_any Absent Absent f g h e i =
        never_bind (elaborated j t s object) (λ m. elaborated_all j t s args >>= λ ns. called_on j t s m name ns token)
        (λ m u v is. by_arguments args (λ ns. called_on j t s m name ns token) (λ ns fs. h m ns (record { no_class = i; no_stream = e }) (is_found u v is) fs))

    -- on a stream, a class or an object
    pub never_call : ((stream : Stream) (ns : List Meaning) → stream_in t s object ≡ Some stream → AreFound j t s args ns → Never (called_on_stream stream name ns token)) →
        ((c : ClassName) (ns : List Meaning) → class_in t s object ≡ Some c → AreFound j t s args ns → Never (called_on_class j t s c name ns token)) →
        ((m : Meaning) (ns : List Meaning) → IsObject t s object → IsFound j t s object m → AreFound j t s args ns → Never (called_on j t s m name ns token)) → Refused (InvokeOn object name args token)
    unfolding elaborated
    never_call f g h = call_on_any (stream_in t s object) (class_in t s object) f g h refl refl

    pub never_on_stream : (stream : Stream) → stream_in t s object ≡ Some stream → ((ns : List Meaning) → AreFound j t s args ns → Never (called_on_stream stream name ns token)) → Refused (InvokeOn object name args token)
    never_on_stream stream e n =
        never_call
        (λ x ns i fs. (let same : x ≡ stream = cc in let P : Stream → Type 0 = λ z. Never (called_on_stream z name ns token) in subst P (sym same) (n ns fs)))
        (λ c ns i fs. (let none : stream_in t s object ≡ Absent = class_is_no_stream t s object c i in let no : ⊥ = cc in absurd no))
        (λ m ns is f fs. (let none : stream_in t s object ≡ Absent = is.no_stream in let no : ⊥ = cc in absurd no))

    pub never_on_class : (class : ClassName) → class_in t s object ≡ Some class → ((ns : List Meaning) → AreFound j t s args ns → Never (called_on_class j t s class name ns token)) → Refused (InvokeOn object name args token)
    never_on_class class e n =
        never_call
        (λ x ns i fs. (let none : stream_in t s object ≡ Absent = class_is_no_stream t s object class e in let no : ⊥ = cc in absurd no))
        (λ c ns i fs. (let same : c ≡ class = cc in let P : ClassName → Type 0 = λ z. Never (called_on_class j t s z name ns token) in subst P (sym same) (n ns fs)))
        (λ m ns is f fs. (let none : class_in t s object ≡ Absent = is.no_class in let no : ⊥ = cc in absurd no))

    pub never_on_object : (m : Meaning) → IsObject t s object → IsFound j t s object m → ((n : Meaning) (ns : List Meaning) → AreAlike m n → AreFound j t s args ns → Never (called_on j t s n name ns token)) → Refused (InvokeOn object name args token)
    never_on_object m is f n =
        never_call
        (λ x ns i fs. (let none : stream_in t s object ≡ Absent = is.no_stream in let no : ⊥ = cc in absurd no))
        (λ c ns i fs. (let none : class_in t s object ≡ Absent = is.no_class in let no : ⊥ = cc in absurd no))
        (λ a ns other h fs. n a ns (found_once j t s object m a f h) fs)

  -- ---- variables

  pub into_spot : {B : Type 0} {e : Expression} {p : Spot} (f : Option Spot → Gets B) → Denotes j t s e (Some p) → ((q : Spot) → IsLike p q → Never (f (Some q))) → Never (target j t s e >>= f)
  into_spot {e = e} {p = p} f d n =
      never_bind (target j t s e) f
      (λ o u v is. (let h = spot_of (denoted_once j t s e (Some p) o d (is_denoted u v is)) in let P : Option Spot → Type 0 = λ z. Never (f z) in subst P (sym h.1) (n h.0 h.2)))

  pub into_none : {B : Type 0} {e : Expression} (f : Option Spot → Gets B) → Denotes j t s e Absent → Never (f Absent) → Never (target j t s e >>= f)
  into_none {e = e} f d n =
      never_bind (target j t s e) f
      (λ o u v is. (let h = none_of (denoted_once j t s e Absent o d (is_denoted u v is)) in let P : Option Spot → Type 0 = λ z. Never (f z) in subst P (sym h) n))

  pub never_step : (is_before is_up : Bool) (operand : Expression) (token : ℕ) → ((o : Option Spot) → Denotes j t s operand o → Never (stepped is_before is_up o token)) → Refused (Step is_before is_up operand token)
  unfolding elaborated
  never_step is_before is_up operand token n =
      never_bind (if is_place operand then target j t s operand else elaborated j t s operand >>= λ m. give Absent) (λ o. stepped is_before is_up o token)
      (λ o u v is. n o (step_denotes j t s operand o u v is))

  pub step_spot : (is_before is_up : Bool) (operand : Expression) (token : ℕ) (p : Spot) → Denotes j t s operand (Some p) → ((q : Spot) → IsLike p q → Never (stepped is_before is_up (Some q) token)) → Refused (Step is_before is_up operand token)
  step_spot is_before is_up operand token p d n =
      never_step is_before is_up operand token
      (λ o k. (let h = spot_of (denoted_once j t s operand (Some p) o d k) in let P : Option Spot → Type 0 = λ z. Never (stepped is_before is_up z token) in subst P (sym h.1) (n h.0 h.2)))

  pub step_none : (is_before is_up : Bool) (operand : Expression) (token : ℕ) → Denotes j t s operand Absent → Never (stepped is_before is_up Absent token) → Refused (Step is_before is_up operand token)
  step_none is_before is_up operand token d n =
      never_step is_before is_up operand token
      (λ o k. (let h = none_of (denoted_once j t s operand Absent o d k) in let P : Option Spot → Type 0 = λ z. Never (stepped is_before is_up z token) in subst P (sym h) n))

  -- ---- written types

  pub by_type : {B : Type 0} (ty : WrittenType) {to : Ty} (f : Ty → Gets B) → IsType t ty.base ty.brackets to → Never (f to) → Never (type_written t ty >>= f)
  unfolding type_written
  by_type ty f is n =
      never_bind (type_with t ty.base ty.brackets ty.token) f
      (λ a u v e. (let same = type_once t is (type_found t ty.base ty.brackets ty.token u v a e) in let P : Ty → Type 0 = λ z. Never (f z) in subst P same n))

  pub never_written : (ty : WrittenType) → IsNoType t ty.base → Never (type_written t ty)
  unfolding type_written
  never_written ty n = never_type t ty.base ty.brackets ty.token n

  pub never_class_created : (class : source.Named) (args : Row) (token : ℕ) → IsNoType t (source.Class class.name) → Refused (NewObject class args token)
  unfolding elaborated
  never_class_created class args token n = never_first (λ c. elaborated_all j t s args >>= λ ns. created j t s c ns token) (never_class (class_named t.classes class.name) class.token (class_unknown t class.name n))

  -- ---- array initializers

  never_among : (ty : Ty) (first : Initial) (before : ℕ) (elements : Elements) → IsAmong before first elements → Never (initialized j t s ty first before) → Never (elements_of j t s ty elements)
  unfolding elements_of
  never_among ty first before _ (found.here {rest = rest}) n = never_first (λ e. elements_of j t s ty rest >>= λ all. give (listing (kernel.more e all.forms) (before ∷ all.sites))) n
  never_among ty first before _ (found.later {other = other} {front = front} {rest = rest} h) n =
      never_bind (initialized j t s ty front other) (λ e. elements_of j t s ty rest >>= λ all. give (listing (kernel.more e all.forms) (other ∷ all.sites)))
      (λ e u v is. never_first (λ all. give (listing (kernel.more e all.forms) (other ∷ all.sites))) (never_among ty first before rest h n))

  pub never_filled : {inner_type : Ty} {inner : Initial} {at : ℕ} {ty : Ty} {i : Initial} {n : ℕ} → Fills inner_type inner at ty i n → Never (initialized j t s inner_type inner at) → Never (initialized j t s ty i n)
  unfolding initialized
  never_filled found.Fills.itself n = n
  never_filled (found.deeper {ty = ty} {of_elements = of_elements} {elements = elements} {brace = brace} {before = before} {first = first} e among fills) n =
      let built : Listing → Gets kernel.Expression = λ all. give (kernel.NewArray ty kernel.none all.forms all.sites brace) in
      never_bind (or_type (element_of ty) brace) (λ inner. elements_of j t s inner elements >>= built)
      (λ inner u v is. (
      let other : element_of ty ≡ Some inner = or_type_found (element_of ty) brace u v inner is in
      let same : of_elements ≡ inner = cc in
      let P : Ty → Type 0 = λ z. Never (elements_of j t s z elements) in
      never_first built (subst P same (never_among of_elements first before elements among (never_filled fills n)))))

  -- braces that are refused as an initializer are refused as an array creation
  pub never_listed : (base : Base) (at brackets : ℕ) (elements : Elements) (brace token : ℕ) (ty : Ty) → IsType t base brackets ty → Never (initialized j t s ty (Listed elements brace) brace) → Refused (NewList base at brackets elements brace token)
  unfolding elaborated initialized
  never_listed base at brackets elements brace token ty is n =
      let built : Ty → Listing → Gets Meaning = λ z all. give (Formed (kernel.NewArray z kernel.none all.forms all.sites token) z) in
      never_bind (type_with t base brackets at) (λ z. or_type (element_of z) brace >>= λ inner. elements_of j t s inner elements >>= built z)
      (λ z u v e. (
      let same : ty ≡ z = type_once t is (type_found t base brackets at u v z e) in
      let parts = never_unbuilt (or_type (element_of ty) brace) (λ inner. elements_of j t s inner elements) (λ all. kernel.NewArray ty kernel.none all.forms all.sites brace) n in
      let P : Ty → Type 0 = λ y. Never (or_type (element_of y) brace >>= λ inner. elements_of j t s inner elements >>= built y) in
      subst P same (never_built (or_type (element_of ty) brace) (λ inner. elements_of j t s inner elements) (built ty) parts)))
