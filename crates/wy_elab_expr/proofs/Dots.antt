-- Fields and calls by what stands before the dot.
use Rattle.std.proofs.Common.{◌≡◌, ◌∙◌, ap, sym, subst, ℕ, List, map, Option, Some, None, Result, Ok}
use Rattle.std.specs.Prelude.{option_map, string_bytes}
use Rattle.std.specs.declared.alloc.Global.{Global}
use Rattle.std.specs.declared.boxed.Box.{Box}
use Rattle.std.specs.declared.string.String.{String}
use Rattle.std.specs.declared.vec.Vec.{Vec}
use Rattle.wy_kernel.specs.Table.{Table}
use Rattle.wy_syntax.specs.declared.expression.Expression as memory_expression
use Rattle.wy_syntax.specs.declared.expression.Expression.TheVariants as form
use Rattle.wy_syntax.specs.View.{expression_of, row_of}
use Rattle.wy_syntax.proofs.ExpressionViews.{view_invoke_on}
use Rattle.wy_syntax.specs.Syntax as source
use Rattle.wy_syntax.specs.Syntax.{Expression, Row}
use Rattle.wy_constant.specs.declared.rule.TypeError.{TypeError}
use Rattle.wy_constant.specs.declared.rule.TypeError.TheVariants as error
use Rattle.wy_constant.specs.Refusal.{Refusal, Fails}
use Rattle.wy_constant.specs.Scope.{Scope, FixedText}
use Rattle.wy_elab_expr.specs.declared.meaning.Meaning as memory
use Rattle.wy_elab_expr.specs.declared.spot.Spot as memory_spot
use Rattle.wy_elab_expr.specs.Meaning.{Meaning, Gets, onward, ◌>>=◌}
use Rattle.wy_elab_expr.specs.Operators.{Judgement}
use Rattle.wy_elab_expr.specs.Members.{Spot, qualified_name, field_read}
use Rattle.wy_elab_expr.specs.Elaboration.{ClassName, Stream, class_in, stream_in, class_target, field_target, called_on, called_on_class, called_on_stream, elaborated, elaborated_all, elements_of, initialized, target}
use Rattle.wy_elab_expr.specs.Views.{GetsTo, meaning_of, spot_of}

given_by : {X A : Type 0} (see : X → A) (result : Result X TypeError) (later : List FixedText) (x y : Result (A × List FixedText) Refusal) → x ≡ y → GetsTo see result later y → GetsTo see result later x
given_by {X} {A} see result later x y is given =
    let P : Result (A × List FixedText) Refusal → Type 0 = λ z. GetsTo see result later z in subst P (sym is) given

-- a refusal of the first part is one of the whole
fails_first : {A B : Type 0} (e : TypeError) (x : Result (A × List FixedText) Refusal) (f : A → Gets B) (y : Result (B × List FixedText) Refusal) → y ≡ onward f x → Fails e x → Fails e y
fails_first error.NoMemory x f y is refusal = tt
fails_first (error.Broken rule token) x f y is refusal = is ∙ ap (onward f) refusal

-- ---- fields

field_by : Judgement → Table → Scope → Expression → List ℕ → ℕ → Option ClassName → Gets Meaning
field_by j t s object name token o =
    elim o as (λ _. Gets Meaning) [ Some c ↦ qualified_name t s c.name name c.token token | None ↦ (elaborated j t s object >>= λ m. field_read t s m name token) ]

pub read_of_class : (j : Judgement) (t : Table) (s : Scope) (texts later : List FixedText) (object : Expression) (name : List ℕ) (token : ℕ) (c : ClassName) (result : Result memory.Meaning TypeError) →
    Some c ≡ class_in t s object → GetsTo meaning_of result later (qualified_name t s c.name name c.token token texts) → GetsTo meaning_of result later (elaborated j t s (source.Field object name token) texts)
unfolding elaborated target elements_of initialized elaborated_all field_by
read_of_class j t s texts later object name token c result class given =
    given_by meaning_of result later (elaborated j t s (source.Field object name token) texts) (qualified_name t s c.name name c.token token texts)
    (ap (λ o. field_by j t s object name token o texts) (sym class)) given

field_of_object : (j : Judgement) (t : Table) (s : Scope) (texts : List FixedText) (object : Expression) (name : List ℕ) (token : ℕ) → class_in t s object ≡ None →
    elaborated j t s (source.Field object name token) texts ≡ (elaborated j t s object >>= λ m. field_read t s m name token) texts
unfolding elaborated target elements_of initialized elaborated_all field_by
field_of_object j t s texts object name token none = ap (λ o. field_by j t s object name token o texts) none

pub read_stops : (j : Judgement) (t : Table) (s : Scope) (texts : List FixedText) (object : Expression) (name : List ℕ) (token : ℕ) (failure : TypeError) → None ≡ class_in t s object →
    Fails failure (elaborated j t s object texts) → Fails failure (elaborated j t s (source.Field object name token) texts)
read_stops j t s texts object name token failure none =
    fails_first failure (elaborated j t s object texts) (λ m. field_read t s m name token) (elaborated j t s (source.Field object name token) texts)
    (field_of_object j t s texts object name token (sym none))

pub read_goes : (j : Judgement) (t : Table) (s : Scope) (texts middle later : List FixedText) (object : Expression) (name : List ℕ) (token : ℕ) (m : Meaning) (result : Result memory.Meaning TypeError) → None ≡ class_in t s object →
    elaborated j t s object texts ≡ Ok (m, middle) → GetsTo meaning_of result later (field_read t s m name token middle) → GetsTo meaning_of result later (elaborated j t s (source.Field object name token) texts)
read_goes j t s texts middle later object name token m result none found given =
    given_by meaning_of result later (elaborated j t s (source.Field object name token) texts) (field_read t s m name token middle)
    (field_of_object j t s texts object name token (sym none)
    ∙ ap (onward (λ x. field_read t s x name token)) found) given

place_by : Judgement → Table → Scope → Expression → List ℕ → ℕ → Option ClassName → Gets (Option Spot)
place_by j t s object name token o =
    elim o as (λ _. Gets (Option Spot)) [ Some c ↦ class_target t s c name token | None ↦ (elaborated j t s object >>= λ m. field_target t s m name token) ]

pub target_of_class : (j : Judgement) (t : Table) (s : Scope) (texts later : List FixedText) (object : Expression) (name : List ℕ) (token : ℕ) (c : ClassName) (result : Result (Option memory_spot.Spot) TypeError) →
    Some c ≡ class_in t s object → GetsTo (λ p. option_map spot_of p) result later (class_target t s c name token texts) → GetsTo (λ p. option_map spot_of p) result later (target j t s (source.Field object name token) texts)
unfolding elaborated target elements_of initialized elaborated_all place_by
target_of_class j t s texts later object name token c result class given =
    given_by (λ p. option_map spot_of p) result later (target j t s (source.Field object name token) texts) (class_target t s c name token texts)
    (ap (λ o. place_by j t s object name token o texts) (sym class)) given

target_of_object : (j : Judgement) (t : Table) (s : Scope) (texts : List FixedText) (object : Expression) (name : List ℕ) (token : ℕ) → class_in t s object ≡ None →
    target j t s (source.Field object name token) texts ≡ (elaborated j t s object >>= λ m. field_target t s m name token) texts
unfolding elaborated target elements_of initialized elaborated_all place_by
target_of_object j t s texts object name token none = ap (λ o. place_by j t s object name token o texts) none

pub target_stops : (j : Judgement) (t : Table) (s : Scope) (texts : List FixedText) (object : Expression) (name : List ℕ) (token : ℕ) (failure : TypeError) → None ≡ class_in t s object →
    Fails failure (elaborated j t s object texts) → Fails failure (target j t s (source.Field object name token) texts)
target_stops j t s texts object name token failure none =
    fails_first failure (elaborated j t s object texts) (λ m. field_target t s m name token) (target j t s (source.Field object name token) texts)
    (target_of_object j t s texts object name token (sym none))

pub target_goes : (j : Judgement) (t : Table) (s : Scope) (texts middle later : List FixedText) (object : Expression) (name : List ℕ) (token : ℕ) (m : Meaning) (result : Result (Option memory_spot.Spot) TypeError) → None ≡ class_in t s object →
    elaborated j t s object texts ≡ Ok (m, middle) → GetsTo (λ p. option_map spot_of p) result later (field_target t s m name token middle) → GetsTo (λ p. option_map spot_of p) result later (target j t s (source.Field object name token) texts)
target_goes j t s texts middle later object name token m result none found given =
    given_by (λ p. option_map spot_of p) result later (target j t s (source.Field object name token) texts) (field_target t s m name token middle)
    (target_of_object j t s texts object name token (sym none)
    ∙ ap (onward (λ x. field_target t s x name token)) found) given

-- ---- calls

call_behind : Judgement → Table → Scope → Expression → List ℕ → Row → ℕ → Option ClassName → Gets Meaning
call_behind j t s object name args token o =
    elim o as (λ _. Gets Meaning) [
      | Some c ↦ (elaborated_all j t s args >>= λ arguments. called_on_class j t s c name arguments token)
      | None ↦ (elaborated j t s object >>= λ m. elaborated_all j t s args >>= λ arguments. called_on j t s m name arguments token)
    ]

call_by : Judgement → Table → Scope → Expression → List ℕ → Row → ℕ → Option Stream → Gets Meaning
call_by j t s object name args token o =
    elim o as (λ _. Gets Meaning) [
      | Some stream ↦ (elaborated_all j t s args >>= λ arguments. called_on_stream stream name arguments token)
      | None ↦ call_behind j t s object name args token (class_in t s object)
    ]

stream_call : (j : Judgement) (t : Table) (s : Scope) (texts : List FixedText) (object : Expression) (name : List ℕ) (args : Row) (token : ℕ) (stream : Stream) → Some stream ≡ stream_in t s object →
    elaborated j t s (source.InvokeOn object name args token) texts ≡ onward (λ arguments. called_on_stream stream name arguments token) (elaborated_all j t s args texts)
unfolding elaborated target elements_of initialized elaborated_all call_by call_behind
stream_call j t s texts object name args token stream before = ap (λ o. call_by j t s object name args token o texts) (sym before)

class_call : (j : Judgement) (t : Table) (s : Scope) (texts : List FixedText) (object : Expression) (name : List ℕ) (args : Row) (token : ℕ) (c : ClassName) → None ≡ stream_in t s object → Some c ≡ class_in t s object →
    elaborated j t s (source.InvokeOn object name args token) texts ≡ onward (λ arguments. called_on_class j t s c name arguments token) (elaborated_all j t s args texts)
unfolding elaborated target elements_of initialized elaborated_all call_by call_behind
class_call j t s texts object name args token c before class =
    ap (λ o. call_by j t s object name args token o texts) (sym before)
    ∙ ap (λ o. call_behind j t s object name args token o texts) (sym class)

call_on_object : (j : Judgement) (t : Table) (s : Scope) (texts : List FixedText) (object : Expression) (name : List ℕ) (args : Row) (token : ℕ) → stream_in t s object ≡ None → class_in t s object ≡ None →
    elaborated j t s (source.InvokeOn object name args token) texts ≡ (elaborated j t s object >>= λ m. elaborated_all j t s args >>= λ arguments. called_on j t s m name arguments token) texts
unfolding elaborated target elements_of initialized elaborated_all call_by call_behind
call_on_object j t s texts object name args token before class =
    ap (λ o. call_by j t s object name args token o texts) before
    ∙ ap (λ o. call_behind j t s object name args token o texts) class

pub stream_stops : (j : Judgement) (t : Table) (s : Scope) (texts : List FixedText) (object : Expression) (name : List ℕ) (args : Row) (token : ℕ) (stream : Stream) (failure : TypeError) → Some stream ≡ stream_in t s object →
    Fails failure (elaborated_all j t s args texts) → Fails failure (elaborated j t s (source.InvokeOn object name args token) texts)
stream_stops j t s texts object name args token stream failure before =
    fails_first failure (elaborated_all j t s args texts) (λ arguments. called_on_stream stream name arguments token) (elaborated j t s (source.InvokeOn object name args token) texts)
    (stream_call j t s texts object name args token stream before)

pub class_stops : (j : Judgement) (t : Table) (s : Scope) (texts : List FixedText) (object : Expression) (name : List ℕ) (args : Row) (token : ℕ) (c : ClassName) (failure : TypeError) → None ≡ stream_in t s object → Some c ≡ class_in t s object →
    Fails failure (elaborated_all j t s args texts) → Fails failure (elaborated j t s (source.InvokeOn object name args token) texts)
class_stops j t s texts object name args token c failure before class =
    fails_first failure (elaborated_all j t s args texts) (λ arguments. called_on_class j t s c name arguments token) (elaborated j t s (source.InvokeOn object name args token) texts)
    (class_call j t s texts object name args token c before class)

pub stream_goes : (j : Judgement) (t : Table) (s : Scope) (texts middle later : List FixedText) (object : Expression) (name : List ℕ) (args : Row) (token : ℕ) (stream : Stream) (ms : List Meaning) (result : Result memory.Meaning TypeError) →
    Some stream ≡ stream_in t s object → elaborated_all j t s args texts ≡ Ok (ms, middle) →
    GetsTo meaning_of result later (called_on_stream stream name ms token middle) → GetsTo meaning_of result later (elaborated j t s (source.InvokeOn object name args token) texts)
stream_goes j t s texts middle later object name args token stream ms result before found given =
    given_by meaning_of result later (elaborated j t s (source.InvokeOn object name args token) texts) (called_on_stream stream name ms token middle)
    (stream_call j t s texts object name args token stream before
    ∙ ap (onward (λ arguments. called_on_stream stream name arguments token)) found) given

pub class_goes : (j : Judgement) (t : Table) (s : Scope) (texts middle later : List FixedText) (object : Expression) (name : List ℕ) (args : Row) (token : ℕ) (c : ClassName) (ms : List Meaning) (result : Result memory.Meaning TypeError) →
    None ≡ stream_in t s object → Some c ≡ class_in t s object → elaborated_all j t s args texts ≡ Ok (ms, middle) →
    GetsTo meaning_of result later (called_on_class j t s c name ms token middle) → GetsTo meaning_of result later (elaborated j t s (source.InvokeOn object name args token) texts)
class_goes j t s texts middle later object name args token c ms result before class found given =
    given_by meaning_of result later (elaborated j t s (source.InvokeOn object name args token) texts) (called_on_class j t s c name ms token middle)
    (class_call j t s texts object name args token c before class
    ∙ ap (onward (λ arguments. called_on_class j t s c name arguments token)) found) given

pub object_fails : (j : Judgement) (t : Table) (s : Scope) (texts : List FixedText) (object : Expression) (name : List ℕ) (args : Row) (token : ℕ) (failure : TypeError) → None ≡ stream_in t s object → None ≡ class_in t s object →
    Fails failure (elaborated j t s object texts) → Fails failure (elaborated j t s (source.InvokeOn object name args token) texts)
object_fails j t s texts object name args token failure before class =
    fails_first failure (elaborated j t s object texts) (λ m. elaborated_all j t s args >>= λ arguments. called_on j t s m name arguments token) (elaborated j t s (source.InvokeOn object name args token) texts)
    (call_on_object j t s texts object name args token (sym before) (sym class))

object_found : (j : Judgement) (t : Table) (s : Scope) (texts middle : List FixedText) (object : Expression) (name : List ℕ) (args : Row) (token : ℕ) (m : Meaning) → None ≡ stream_in t s object → None ≡ class_in t s object →
    elaborated j t s object texts ≡ Ok (m, middle) → elaborated j t s (source.InvokeOn object name args token) texts ≡ onward (λ arguments. called_on j t s m name arguments token) (elaborated_all j t s args middle)
object_found j t s texts middle object name args token m before class found =
    call_on_object j t s texts object name args token (sym before) (sym class)
    ∙ ap (onward (λ x. elaborated_all j t s args >>= λ arguments. called_on j t s x name arguments token)) found

pub object_stops : (j : Judgement) (t : Table) (s : Scope) (texts middle : List FixedText) (object : Expression) (name : List ℕ) (args : Row) (token : ℕ) (m : Meaning) (failure : TypeError) → None ≡ stream_in t s object → None ≡ class_in t s object →
    elaborated j t s object texts ≡ Ok (m, middle) → Fails failure (elaborated_all j t s args middle) → Fails failure (elaborated j t s (source.InvokeOn object name args token) texts)
object_stops j t s texts middle object name args token m failure before class found =
    fails_first failure (elaborated_all j t s args middle) (λ arguments. called_on j t s m name arguments token) (elaborated j t s (source.InvokeOn object name args token) texts)
    (object_found j t s texts middle object name args token m before class found)

pub object_goes : (j : Judgement) (t : Table) (s : Scope) (texts middle after later : List FixedText) (object : Expression) (name : List ℕ) (args : Row) (token : ℕ) (m : Meaning) (ms : List Meaning) (result : Result memory.Meaning TypeError) →
    None ≡ stream_in t s object → None ≡ class_in t s object → elaborated j t s object texts ≡ Ok (m, middle) → elaborated_all j t s args middle ≡ Ok (ms, after) →
    GetsTo meaning_of result later (called_on j t s m name ms token after) → GetsTo meaning_of result later (elaborated j t s (source.InvokeOn object name args token) texts)
object_goes j t s texts middle after later object name args token m ms result before class first found given =
    given_by meaning_of result later (elaborated j t s (source.InvokeOn object name args token) texts) (called_on j t s m name ms token after)
    (object_found j t s texts middle object name args token m before class first
    ∙ ap (onward (λ arguments. called_on j t s m name arguments token)) found) given

-- ---- a call as it lies in memory

pub call_seen : (e object_seen : memory_expression.Expression) (object : Box memory_expression.Expression Global) (name : String Global) (args : Vec memory_expression.Expression Global) (token : ℕ) (word : List ℕ) (listed : List memory_expression.Expression) →
    e ≡ form.InvokeOn object name args token → object_seen ≡ object.value → word ≡ string_bytes name → listed ≡ args.items →
    expression_of e ≡ source.InvokeOn (expression_of object_seen) word (row_of (map expression_of listed)) token
call_seen e object_seen object name args token word listed is here spelled all =
    ap expression_of is ∙ view_invoke_on object name args token
    ∙ ap (λ z. source.InvokeOn (expression_of z) (string_bytes name) (row_of (map expression_of args.items)) token) (sym here)
    ∙ ap (λ z. source.InvokeOn (expression_of object_seen) z (row_of (map expression_of args.items)) token) (sym spelled)
    ∙ ap (λ z. source.InvokeOn (expression_of object_seen) word (row_of (map expression_of z)) token) (sym all)

pub call_found : (j : Judgement) (t : Table) (s : Scope) (texts later : List FixedText) (e : memory_expression.Expression) (seen : Expression) (result : Result memory.Meaning TypeError) → expression_of e ≡ seen →
    GetsTo meaning_of result later (elaborated j t s seen texts) → GetsTo meaning_of result later (elaborated j t s (expression_of e) texts)
call_found j t s texts later e seen result is =
    given_by meaning_of result later (elaborated j t s (expression_of e) texts) (elaborated j t s seen texts) (ap (λ z. elaborated j t s z texts) is)
