-- What a part of an expression is refused for, the whole is refused for.
use Rattle.std.proofs.Common.{sym, subst, ℕ, Bool, true, false, List, [], ◌∷◌, Option, Some, ◌⊎◌, inl, inr}
use Rattle.std.specs.Prelude.{◌&&◌, ◌||◌, is_some, if◌then◌else◌}
use Rattle.std.specs.Prelude.{None as Absent}
use Rattle.std.specs.List.{Contains}
use Rattle.std.proofs.lemmas.List.Elements.{Contains-append_cases}
use Rattle.wy_kernel.specs.Form as kernel
use Rattle.wy_kernel.specs.declared.operator.BinOp.{BinOp}
use Rattle.wy_kernel.specs.declared.types.Ty.{Ty}
use Rattle.wy_kernel.specs.declared.form.CondForm.TheVariants as cond
use Rattle.wy_kernel.specs.Subtyping.{class_type}
use Rattle.wy_kernel.specs.Table.{Table}
use Rattle.wy_syntax.specs.Syntax.{Expression, Literal, Name, This, Group, Invoke, Field, InvokeOn, SuperField, SuperInvoke, Element, NewObject, NewArray, NewList, Unary, Step, Binary, Both, Either, InstanceOf, Cast, Choice, Assign, Update, Wrong, Row, none, more, Initial, Value, Listed, Elements, no_more, element}
use Rattle.wy_constant.specs.Scope.{Scope}
use Rattle.wy_constant.specs.Fields.{class_named}
use Rattle.wy_elab_expr.specs.Meaning.{Meaning, Gets, give, ◌>>=◌}
use Rattle.wy_elab_expr.specs.Operators.{Judgement, unary_of, binary_of, lazy_of, choice_of, cast_of, instance_of}
use Rattle.wy_elab_expr.specs.Members.{Spot, qualified_name, field_read, Nothing, Super, called, created}
use Rattle.wy_elab_expr.specs.Elaboration.{ClassName, Stream, class_in, stream_in, type_with, type_written, is_place, class_for_new, or_type, element_of, above, element_spot, read, stepped, assigned, assigned_value, updated, called_on, called_on_class, called_on_stream, Listing, listing, elaborated, elaborated_all, target, elements_of, initialized}
use Rattle.law_refusals.specs.Found.{listed, values_in, values_of, operands, Within}
use Rattle.law_refusals.specs.Found as found
use Rattle.law_refusals.proofs.Contained.{contains_none, contains_cases}
use Rattle.law_refusals.specs.Laws.{KnowsLibrary}
use Rattle.law_refusals.proofs.Never.{Never, never_refuse, never_bind, never_first, never_spot}
use Rattle.law_refusals.proofs.Targets.{reads}

one_of_one : {X : Type 0} (P : X → Type 0) (x y : X) → Contains (x ∷ []) y → P y → P x
one_of_one P x y h p = elim (contains_cases x y [] h) [ inl e ↦ subst P (sym e) p | inr k ↦ absurd (contains_none k) ]

first_or : {X : Type 0} (P : X → Type 0) (x y : X) (xs : List X) → Contains (x ∷ xs) y → P y → P x ⊎ Contains xs y
first_or P x y xs h p = elim (contains_cases x y xs h) [ inl e ↦ inl (subst P (sym e) p) | inr k ↦ inr k ]

module _ (j : Judgement) (t : Table) (l : KnowsLibrary t) (s : Scope) (part : Expression) where
  -- the part is refused, and so is this expression
  abbrev pub Refuses : Expression → Type 0
  Refuses e = Never (elaborated j t s e)

  pub never_row : (r : Row) → Contains (listed r) part → Refuses part → Never (elaborated_all j t s r)
  unfolding elaborated_all
  never_row none h n = absurd (contains_none h)
  never_row (more e rest) h n =
      elim (first_or Refuses e part (listed rest) h n) [
        | inl first ↦ never_first (λ m. elaborated_all j t s rest >>= λ ms. give (m ∷ ms)) first
        | inr k ↦ never_bind (elaborated j t s e) (λ m. elaborated_all j t s rest >>= λ ms. give (m ∷ ms)) (λ m u v is. never_first (λ ms. give (m ∷ ms)) (never_row rest k n))
      ]

  mutual
    unfolding elements_of initialized

    never_elements : (elements : Elements) → Contains (values_in elements) part → Refuses part → (ty : Ty) → Never (elements_of j t s ty elements)
    never_elements no_more h n ty = absurd (contains_none h)
    never_elements (element before given rest) h n ty =
        let onward : kernel.Expression → Gets Listing = λ e. elements_of j t s ty rest >>= λ all. give (listing (kernel.more e all.forms) (before ∷ all.sites)) in
        elim (Contains-append_cases (values_of given) (values_in rest) part h) [
          | inl k ↦ never_first onward (never_initial given k n ty before)
          | inr k ↦ never_bind (initialized j t s ty given before) onward (λ e u v is. never_first (λ all. give (listing (kernel.more e all.forms) (before ∷ all.sites))) (never_elements rest k n ty))
        ]

    pub never_initial : (i : Initial) → Contains (values_of i) part → Refuses part → (ty : Ty) (token : ℕ) → Never (initialized j t s ty i token)
    never_initial (Value e) h n ty token = never_first (λ m. assigned_value j ty m token) (one_of_one Refuses e part h n)
    never_initial (Listed elements brace) h n ty token = never_bind (or_type (element_of ty) brace) _ (λ inner u v is. never_first _ (never_elements elements h n inner))

  -- ---- two and three operands

  never_two : (a b : Expression) (f : Meaning → Meaning → Gets Meaning) → Contains (a ∷ b ∷ []) part → Refuses part → Never (elaborated j t s a >>= λ x. elaborated j t s b >>= λ y. f x y)
  never_two a b f h n =
      elim (first_or Refuses a part (b ∷ []) h n) [
        | inl first ↦ never_first (λ x. elaborated j t s b >>= λ y. f x y) first
        | inr k ↦ never_bind (elaborated j t s a) (λ x. elaborated j t s b >>= λ y. f x y) (λ x u v is. never_first (λ y. f x y) (one_of_one Refuses b part k n))
      ]

  never_three : (a b c : Expression) (f : Meaning → Meaning → Meaning → Gets Meaning) → Contains (a ∷ b ∷ c ∷ []) part → Refuses part →
      Never (elaborated j t s a >>= λ x. elaborated j t s b >>= λ y. elaborated j t s c >>= λ z. f x y z)
  never_three a b c f h n =
      elim (first_or Refuses a part (b ∷ c ∷ []) h n) [
        | inl first ↦ never_first (λ x. elaborated j t s b >>= λ y. elaborated j t s c >>= λ z. f x y z) first
        | inr k ↦ never_bind (elaborated j t s a) (λ x. elaborated j t s b >>= λ y. elaborated j t s c >>= λ z. f x y z) (λ x u v is. never_two b c (f x) k n)
      ]

  -- a variable, and then a value
  never_into : (left value : Expression) (f : Option Spot → Meaning → Gets Meaning) → ((m : Meaning) → Never (f Absent m)) → Contains (left ∷ value ∷ []) part → Refuses part →
      Never (target j t s left >>= λ p. elaborated j t s value >>= λ m. f p m)
  never_into left value f empty h n =
      let onward : Option Spot → Gets Meaning = λ p. elaborated j t s value >>= λ m. f p m in
      elim (first_or Refuses left part (value ∷ []) h n) [
        | inl first ↦ never_spot onward (reads j t l s left) first (never_bind (elaborated j t s value) (λ m. f Absent m) (λ m u v is. empty m))
        | inr k ↦ never_bind (target j t s left) onward (λ p u v is. never_first (λ m. f p m) (one_of_one Refuses value part k n))
      ]

  unassigned : (token : ℕ) (m : Meaning) → Never (assigned j Absent m token)
  unfolding assigned
  unassigned token m = never_refuse

  unchanged : (op : BinOp) (token : ℕ) (m : Meaning) → Never (updated j t op Absent m token)
  unfolding updated
  unchanged op token m = never_refuse

  unstepped : (is_before is_up : Bool) (token : ℕ) → Never (stepped is_before is_up Absent token)
  unfolding stepped
  unstepped is_before is_up token = never_refuse

  never_step : (is_before is_up : Bool) (operand : Expression) (token : ℕ) → (b : Bool) → Refuses operand →
      Never ((if b then target j t s operand else elaborated j t s operand >>= λ m. give Absent) >>= λ p. stepped is_before is_up p token)
  never_step is_before is_up operand token true n = never_spot (λ p. stepped is_before is_up p token) (reads j t l s operand) n (unstepped is_before is_up token)
  never_step is_before is_up operand token false n = never_first (λ p. stepped is_before is_up p token) (never_first (λ m. give Absent) n)

  -- ---- what stands before a dot

  never_field : (object : Expression) (name : List ℕ) (token : ℕ) → (o : Option ClassName) → Contains (if is_some o then [] else object ∷ []) part → Refuses part →
      Never (elim o as (λ _. Gets Meaning) [ Some c ↦ qualified_name t s c.name name c.token token | Absent ↦ (elaborated j t s object >>= λ m. field_read t s m name token) ])
  never_field object name token (Some c) h n = absurd (contains_none h)
  never_field object name token Absent h n = never_first (λ m. field_read t s m name token) (one_of_one Refuses object part h n)

  never_call : (object : Expression) (name : List ℕ) (args : Row) (token : ℕ) → (o : Option Stream) (q : Option ClassName) → Contains (if is_some o || is_some q then listed args else object ∷ listed args) part → Refuses part →
      Never (elim o as (λ _. Gets Meaning) [
        | Some stream ↦ (elaborated_all j t s args >>= λ arguments. called_on_stream stream name arguments token)
        | Absent ↦ elim q as (λ _. Gets Meaning) [
          | Some c ↦ (elaborated_all j t s args >>= λ arguments. called_on_class j t s c name arguments token)
          | Absent ↦ (elaborated j t s object >>= λ m. elaborated_all j t s args >>= λ arguments. called_on j t s m name arguments token)
        ]
      ])
  never_call object name args token (Some stream) q h n = never_first (λ arguments. called_on_stream stream name arguments token) (never_row args h n)
  never_call object name args token Absent (Some c) h n = never_first (λ arguments. called_on_class j t s c name arguments token) (never_row args h n)
  never_call object name args token Absent Absent h n =
      let onward : Meaning → Gets Meaning = λ m. elaborated_all j t s args >>= λ arguments. called_on j t s m name arguments token in
      elim (first_or Refuses object part (listed args) h n) [
        | inl first ↦ never_first onward first
        | inr k ↦ never_bind (elaborated j t s object) onward (λ m u v is. never_first (λ arguments. called_on j t s m name arguments token) (never_row args k n))
      ]

  -- ---- the whole

  pub never_operand : (whole : Expression) → Contains (operands t s whole) part → Refuses part → Refuses whole
  unfolding elaborated
  never_operand (Literal value token) h n = absurd (contains_none h)
  never_operand (Name name token) h n = absurd (contains_none h)
  never_operand (This token) h n = absurd (contains_none h)
  never_operand (Group inner token) h n = one_of_one Refuses inner part h n
  never_operand (Invoke name args token) h n = never_first (λ arguments. called j t s Nothing (class_type s.class) name arguments token) (never_row args h n)
  never_operand (Field object name token) h n = never_field object name token (class_in t s object) h n
  never_operand (InvokeOn object name args token) h n = never_call object name args token (stream_in t s object) (class_in t s object) h n
  never_operand (SuperField name token) h n = absurd (contains_none h)
  never_operand (SuperInvoke name args token) h n = never_first (λ arguments. called j t s Super (class_type (above t s)) name arguments token) (never_row args h n)
  never_operand (Element array index token) h n = never_two array index (λ a i. element_spot a i token >>= λ p. give (read p)) h n
  never_operand (NewObject class args token) h n =
      never_bind (class_for_new (class_named t.classes class.name) class.token) (λ c. elaborated_all j t s args >>= λ arguments. created j t s c arguments token) (λ c u v is. never_first (λ arguments. created j t s c arguments token) (never_row args h n))
  never_operand (NewArray base at sizes brackets token) h n = never_bind (type_with t base 0 at) _ (λ ty u v is. never_first _ (never_row sizes h n))
  never_operand (NewList base at brackets elements brace token) h n =
      never_bind (type_with t base brackets at) _ (λ ty u v is. never_bind (or_type (element_of ty) brace) _ (λ inner x y it. never_first _ (never_elements elements h n inner)))
  never_operand (Unary op operand token) h n = never_first (λ m. unary_of op m token) (one_of_one Refuses operand part h n)
  never_operand (Step is_before is_up operand token) h n = never_step is_before is_up operand token (is_place operand) (one_of_one Refuses operand part h n)
  never_operand (Binary op left right token) h n = never_two left right (λ a b. binary_of j t op a b token) h n
  never_operand (Both left right token) h n = never_two left right (λ a b. lazy_of cond.And (λ p q. p && q) a b token) h n
  never_operand (Either left right token) h n = never_two left right (λ a b. lazy_of cond.Or (λ p q. p || q) a b token) h n
  never_operand (InstanceOf left ty token) h n = never_first (λ m. type_written t ty >>= λ to. instance_of j t to m token) (one_of_one Refuses left part h n)
  never_operand (Cast ty operand token) h n = never_bind (type_written t ty) (λ to. elaborated j t s operand >>= λ m. cast_of j t to m token) (λ to u v is. never_first (λ m. cast_of j t to m token) (one_of_one Refuses operand part h n))
  never_operand (Choice test main other token) h n = never_three test main other (λ z a b. choice_of j t z a b token) h n
  never_operand (Assign left value token) h n = never_into left value (λ p m. assigned j p m token) (unassigned token) h n
  never_operand (Update op left value token) h n = never_into left value (λ p m. updated j t op p m token) (unchanged op token) h n
  never_operand Wrong h n = absurd (contains_none h)

-- by the way from the part to the whole
pub never_within : (j : Judgement) (t : Table) → KnowsLibrary t → (s : Scope) (part whole : Expression) → Within t s part whole → Never (elaborated j t s part) → Never (elaborated j t s whole)
never_within j t l s part _ found.Within.itself n = n
never_within j t l s part whole (found.inside {operand = operand} h w) n = never_operand j t l s operand whole h (never_within j t l s part operand w n)
