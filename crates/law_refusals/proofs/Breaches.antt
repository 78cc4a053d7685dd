-- Each way in which an expression breaks a rule is refused.
use Rattle.std.proofs.Common.{◌≡◌, ◌∙◌, ap, sym, subst, refl, ℕ, true, false, List, ◌∷◌, Option, Some, inl, inr}
use Rattle.std.specs.Prelude.{◌&&◌, ◌||◌, codes, bytes_eq}
use Rattle.std.specs.Prelude.{None as Absent}
use Rattle.std.specs.List.{Contains}
use Rattle.wy_kernel.specs.Form as kernel
use Rattle.wy_kernel.specs.declared.operator.UnOp.{UnOp}
use Rattle.wy_kernel.specs.declared.operator.BinOp.{BinOp}
use Rattle.wy_kernel.specs.declared.types.Ty.{Ty}
use Rattle.wy_kernel.specs.declared.types.Ty.TheVariants.{Void}
use Rattle.wy_kernel.specs.declared.form.CondForm.TheVariants as cond
use Rattle.wy_kernel.specs.Program.{Field as FieldRow, object_class}
use Rattle.wy_kernel.specs.Subtyping.{class_type}
use Rattle.wy_kernel.specs.Table.{Table}
use Rattle.wy_syntax.specs.Syntax.{WrittenType, Base, Expression, Name, This, Invoke, Field, InvokeOn, SuperField, SuperInvoke, Element, NewObject, NewArray, NewList, Unary, Step, Binary, Both, Either, InstanceOf, Cast, Choice, Assign, Update, Row, Initial, Value, Listed}
use Rattle.wy_syntax.specs.Syntax as source
use Rattle.wy_constant.specs.declared.rule.Rule.{Rule}
use Rattle.wy_constant.specs.declared.rule.Rule.TheVariants as rule
use Rattle.wy_constant.specs.Scope.{Scope}
use Rattle.wy_elab_expr.specs.Meaning.{Meaning, type_of, give, ◌>>=◌}
use Rattle.wy_elab_expr.specs.Operators.{Judgement, Settles, boolean_type, unary_of, binary_of, lazy_of, choice_of, cast_of, instance_of}
use Rattle.wy_elab_expr.specs.Members.{Spot, types_of, Nothing, Super, named, is_length, created, LibraryMethod, library_call}
use Rattle.wy_elab_expr.specs.Elaboration.{Input, Output, class_in, stream_in, type_with, type_written, or_type, element_of, element_spot, read, assigned, assigned_value, updated, is_printed, print_operand, called_on_stream, elaborated, target, elements_of, initialized}
use Rattle.law_refusals.specs.Alike.{AreAlike}
use Rattle.law_refusals.specs.Alike as alike
use Rattle.law_refusals.specs.Operands as operands
use Rattle.law_refusals.specs.Found as found
use Rattle.law_refusals.proofs.Once.{found_once}
use Rattle.wy_typing.specs.Types.{IsNullable}
use Rattle.law_refusals.specs.Operands.{CastsTo, IsIndex, MayAssign, TakesOne, Takes, TakesInto, Chooses, IsNumber}
use Rattle.law_refusals.specs.Found.{IsFound, AreFound, none_found, more_found, Denotes, IsType, IsNoType}
use Rattle.law_refusals.specs.Calls.{IsField, HasNoField, IsHidden, Way, Plainly, OfObject, OfClass, OfSuper, ByNew, HaveValues, Means, IsLibraryCall, Offers}
use Rattle.law_refusals.specs.Calls as calls
use Rattle.law_refusals.specs.Breaches.{Writes, Passes, Needs, Decides, Assigns, Changes, IsElement, Selects, NamesField, IsUnknownName, IsNotImplemented, IsNoMethod, IsAmbiguous, IsBadOperand, IsBadAssign, IsBadCast, IsPrivate, IsNotInStatic, IsNotOffered, ExpressionBreaks}
use Rattle.law_refusals.specs.Breaches as way
use Rattle.law_refusals.specs.ExpressionLaws.{IsBroken}
use Rattle.law_refusals.proofs.Contained.{contains_none, contains_cases}
use Rattle.law_refusals.proofs.Likewise.{same_type}
use Rattle.law_refusals.proofs.LikeForms.{AllAlike, nil, cons}
use Rattle.law_refusals.specs.Laws.{KnowsLibrary, AcceptedExpressionsAreUnbroken}
use Rattle.law_refusals.proofs.Never.{Never, never_refuse, never_else, never_bind, never_first}
use Rattle.law_refusals.proofs.Parts.{never_within}
use Rattle.law_refusals.proofs.AcceptedForms as form
use Rattle.law_refusals.proofs.AcceptedForms.{HasNoIndex}
use Rattle.law_refusals.proofs.Methods as method
use Rattle.law_refusals.proofs.Library as library
use Rattle.law_refusals.proofs.AcceptedFields as field
use Rattle.law_refusals.proofs.AcceptedSteps as step
use Rattle.law_refusals.proofs.AcceptedSteps.{IsLike}
use Rattle.law_refusals.proofs.Called as called

module _ (j : Judgement) (t : Table) (g : Settles t j) (l : KnowsLibrary t) (s : Scope) where
  abbrev Refused : Expression → Type 0
  Refused e = Never (elaborated j t s e)

  -- ---- void arguments

  void_argument : {e : Expression} {args : Row} {ms : List Meaning} {token : ℕ} → Passes e args token → AreFound j t s args ms → Contains (types_of ms) Void → Refused e
  void_argument (way.Passes.plain {name = name} {args = args} {token = token}) f v =
      step.never_invoke j t s name args token (λ ns fs. method.never_called j t s Nothing (class_type s.class) name ns token (method.never_method_of_void j (class_type s.class) name ns token (called.of_void j t g l s f fs v)))
  void_argument (way.Passes.of_object {object = object} {name = name} {args = args} {token = token}) f v =
      step.never_call j t s object name args token
      (λ stream ns e fs. library.never_stream_of_void stream name ns token (called.of_void j t g l s f fs v))
      (λ c ns e fs. library.never_class_of_void j t s c name ns token (called.of_void j t g l s f fs v))
      (λ m ns is h fs. library.never_on_object_of_void j t s m name ns token (called.of_void j t g l s f fs v))
  void_argument (way.Passes.of_super {name = name} {args = args} {token = token}) f v =
      step.never_super_invoke j t s name args token (λ ns fs. method.never_called j t s Super _ name ns token (method.never_method_of_void j _ name ns token (called.of_void j t g l s f fs v)))
  void_argument (way.Passes.by_new {class = class} {args = args} {token = token}) f v = step.never_new j t s class args token (λ c ns e fs. method.never_created_of_void j t l s c ns token (called.of_void j t g l s f fs v))

  -- ---- operands

  pub is_void_too : {m n : Meaning} → AreAlike m n → type_of m ≡ Void → type_of n ≡ Void
  is_void_too h e = sym (same_type h) ∙ e

  -- what holds of no type that the one has holds of none that the other has
  pub not_so : {m n : Meaning} (P : Ty → Type 0) → AreAlike m n → (P (type_of m) → ⊥) → P (type_of n) → ⊥
  not_so P h f p = f (subst P (sym (same_type h)) p)

  void_operand : {e operand : Expression} {m : Meaning} {token : ℕ} → Needs e operand token → IsFound j t s operand m → type_of m ≡ Void → Refused e
  unfolding elaborated
  void_operand (way.Needs.cast {ty = ty} {operand = operand} {token = token}) f v =
      step.by_second j t s (type_written t ty) (λ to n. cast_of j t to n token) f (λ to n h. form.never_cast_of_void j t g to n token (is_void_too h v))
  void_operand (way.Needs.tested {left = left} {ty = ty} {token = token}) f v =
      step.by_operand j t s (λ n. type_written t ty >>= λ to. instance_of j t to n token) f (λ n h. never_bind (type_written t ty) (λ to. instance_of j t to n token) (λ to u v2 is. form.never_instance_of_void j t g to n token (is_void_too h v)))
  void_operand (way.Needs.assigned {left = left} {value = value} {token = token}) f v =
      step.by_second j t s (target j t s left) (λ p n. assigned j p n token) f (λ p n h. form.never_assigned_void j t g p n token (is_void_too h v))
  void_operand (way.Needs.updated {op = op} {left = left} {value = value} {token = token}) f v =
      step.by_second j t s (target j t s left) (λ p n. updated j t op p n token) f (λ p n h. form.never_updated_of_void j t g op p n token (is_void_too h v))

  -- ---- initializers

  pub of_value : (ty : Ty) (value : Expression) (token : ℕ) (m : Meaning) → IsFound j t s value m → ((n : Meaning) → AreAlike m n → Never (assigned_value j ty n token)) → Never (initialized j t s ty (Value value) token)
  unfolding initialized
  of_value ty value token m f n = step.by_operand j t s (λ a. assigned_value j ty a token) f n

  no_braces : (ty : Ty) (o : Option Ty) (brace : ℕ) → o ≡ Absent → Never (or_type o brace)
  no_braces ty (Some inner) brace e = absurd (cc)
  no_braces ty Absent brace e = never_refuse

  pub of_braces : (ty : Ty) (elements : source.Elements) (brace token : ℕ) → element_of ty ≡ Absent → Never (initialized j t s ty (Listed elements brace) token)
  unfolding initialized
  of_braces ty elements brace token e = never_first (λ inner. elements_of j t s inner elements >>= λ all. give (kernel.NewArray ty kernel.none all.forms all.sites brace)) (no_braces ty (element_of ty) brace e)

  of_element : {e : Expression} {ty : Ty} {i : Initial} {token : ℕ} → IsElement t e ty i token → Never (initialized j t s ty i token) → Refused e
  of_element (way.among {base = base} {at = at} {brackets = brackets} {brace = brace} {token = token} {elements = elements} {ty = ty} is fills) n =
      step.never_listed j t s base at brackets elements brace token ty is (step.never_filled j t s fills n)

  -- ---- BadOperand

  condition : {e operand : Expression} {m : Meaning} {token : ℕ} → Decides e operand token → IsFound j t s operand m → (type_of m ≡ boolean_type → ⊥) → Refused e
  unfolding elaborated
  condition (way.both_left {left = left} {right = right} {token = token}) f wrong =
      step.by_operand j t s (λ a. elaborated j t s right >>= λ b. lazy_of cond.And (λ p q. p && q) a b token) f
      (λ a h. never_bind (elaborated j t s right) (λ b. lazy_of cond.And (λ p q. p && q) a b token) (λ b u v is. form.never_lazy_left cond.And (λ p q. p && q) a b token (not_so (λ z. z ≡ boolean_type) h wrong)))
  condition (way.both_right {left = left} {right = right} {token = token}) f wrong =
      step.by_second j t s (elaborated j t s left) (λ a b. lazy_of cond.And (λ p q. p && q) a b token) f (λ a b h. form.never_lazy_right cond.And (λ p q. p && q) a b token (not_so (λ z. z ≡ boolean_type) h wrong))
  condition (way.either_left {left = left} {right = right} {token = token}) f wrong =
      step.by_operand j t s (λ a. elaborated j t s right >>= λ b. lazy_of cond.Or (λ p q. p || q) a b token) f
      (λ a h. never_bind (elaborated j t s right) (λ b. lazy_of cond.Or (λ p q. p || q) a b token) (λ b u v is. form.never_lazy_left cond.Or (λ p q. p || q) a b token (not_so (λ z. z ≡ boolean_type) h wrong)))
  condition (way.either_right {left = left} {right = right} {token = token}) f wrong =
      step.by_second j t s (elaborated j t s left) (λ a b. lazy_of cond.Or (λ p q. p || q) a b token) f (λ a b h. form.never_lazy_right cond.Or (λ p q. p || q) a b token (not_so (λ z. z ≡ boolean_type) h wrong))
  condition (way.test {test = test} {main = main} {other = other} {token = token}) f wrong =
      step.by_operand j t s (λ z. elaborated j t s main >>= λ a. elaborated j t s other >>= λ b. choice_of j t z a b token) f
      (λ z h. never_bind (elaborated j t s main) (λ a. elaborated j t s other >>= λ b. choice_of j t z a b token)
      (λ a u v is. never_bind (elaborated j t s other) (λ b. choice_of j t z a b token) (λ b x y it. form.never_choice_test j t z a b token (not_so (λ k. k ≡ boolean_type) h wrong))))

  unary : (op : UnOp) (operand : Expression) (token : ℕ) (m : Meaning) → IsFound j t s operand m → (TakesOne op (type_of m) → ⊥) → Refused (Unary op operand token)
  unfolding elaborated
  unary op operand token m f wrong = step.by_operand j t s (λ n. unary_of op n token) f (λ n h. form.never_unary op n token (not_so (λ z. TakesOne op z) h wrong))

  binary : (op : BinOp) (left right : Expression) (token : ℕ) (a b : Meaning) → IsFound j t s left a → IsFound j t s right b → (Takes t op (type_of a) (type_of b) → ⊥) → Refused (Binary op left right token)
  unfolding elaborated
  binary op left right token a b f h wrong =
      step.by_operand j t s (λ x. elaborated j t s right >>= λ y. binary_of j t op x y token) f
      (λ x p. step.by_operand j t s (λ y. binary_of j t op x y token) h (λ y q. form.never_binary j t g op x y token (not_so (λ z. Takes t op (type_of x) z) q (not_so (λ z. Takes t op z (type_of b)) p wrong))))

  choice : (test main other : Expression) (token : ℕ) (a b : Meaning) → IsFound j t s main a → IsFound j t s other b → (Chooses (type_of a) (type_of b) → ⊥) → Refused (Choice test main other token)
  unfolding elaborated
  choice test main other token a b f h wrong =
      never_bind (elaborated j t s test) (λ z. elaborated j t s main >>= λ x. elaborated j t s other >>= λ y. choice_of j t z x y token)
      (λ z u v is. step.by_operand j t s (λ x. elaborated j t s other >>= λ y. choice_of j t z x y token) f
      (λ x p. step.by_operand j t s (λ y. choice_of j t z x y token) h (λ y q. form.never_choice j t z x y token (not_so (λ k. Chooses (type_of x) k) q (not_so (λ k. Chooses k (type_of b)) p wrong)))))

  update : (op : BinOp) (left value : Expression) (token : ℕ) (p : Spot) (m : Meaning) → Denotes j t s left (Some p) → IsFound j t s value m → (TakesInto op p.ty (type_of m) → ⊥) → Refused (Update op left value token)
  unfolding elaborated
  update op left value token p m d f wrong =
      step.into_spot j t s (λ o. elaborated j t s value >>= λ n. updated j t op o n token) d
      (λ q like. step.by_operand j t s (λ n. updated j t op (Some q) n token) f
      (λ n h. form.never_updated j t g op q n token (not_so (λ z. TakesInto op q.ty z) h (λ k. wrong (subst (λ (z : Ty). TakesInto op z (type_of m)) like.ty k)))))

  no_array : (array index : Expression) (token : ℕ) (m : Meaning) → IsFound j t s array m → element_of (type_of m) ≡ Absent → Refused (Element array index token)
  unfolding elaborated
  no_array array index token m f e =
      step.by_operand j t s (λ a. elaborated j t s index >>= λ i. element_spot a i token >>= λ p. give (read p)) f
      (λ a h. never_bind (elaborated j t s index) (λ i. element_spot a i token >>= λ p. give (read p)) (λ i u v is. never_first (λ p. give (read p)) (form.never_element_of_none a i token (ap element_of (sym (same_type h)) ∙ e))))

  no_index : (array index : Expression) (token : ℕ) (m : Meaning) → IsFound j t s index m → (IsIndex (type_of m) → ⊥) → Refused (Element array index token)
  unfolding elaborated
  no_index array index token m f wrong =
      step.by_second j t s (elaborated j t s array) (λ a i. element_spot a i token >>= λ p. give (read p)) f (λ a i h. never_first (λ p. give (read p)) (form.never_element a i token (not_so IsIndex h wrong)))

  some_no_index : {ms ns : List Meaning} (m : Meaning) → AllAlike ms ns → Contains ms m → (IsIndex (type_of m) → ⊥) → HasNoIndex ns
  some_no_index m nil h wrong = absurd (contains_none h)
  some_no_index m (cons {m = a} {n = b} {ms = ms} same rest) h wrong =
      elim (contains_cases a m ms h) [
        | inl e ↦ form.here (not_so IsIndex same (subst (λ (z : Meaning). IsIndex (type_of z) → ⊥) (sym e) wrong))
        | inr k ↦ form.later (some_no_index m rest k wrong)
      ]

  size : (base : Base) (at brackets token : ℕ) (sizes : Row) (ms : List Meaning) (m : Meaning) → AreFound j t s sizes ms → Contains ms m → (IsIndex (type_of m) → ⊥) → Refused (NewArray base at sizes brackets token)
  unfolding elaborated
  size base at brackets token sizes ms m f h wrong =
      never_bind (type_with t base 0 at) _
      (λ ty u v is. step.by_arguments j t s sizes _ (λ ns fs. never_first _ (form.never_sizes ns token (some_no_index m (step.all_once j t s f fs) h wrong))))

  void_field : (object : Expression) (name : List ℕ) (token : ℕ) (m : Meaning) → class_in t s object ≡ Absent → IsFound j t s object m → type_of m ≡ Void → Refused (Field object name token)
  void_field object name token m e f v =
      field.never_field_of j t l s object name token m e f
      (λ n same. field.never_read_of_none t s n name token (λ c h. (let void : type_of n ≡ Void = same ∙ v in let wrong : ⊥ = cc in wrong)) (ap (λ z. is_length z name) (same ∙ v)))

  bad_operand : {e : Expression} {token : ℕ} → IsBadOperand j t s e token → Refused e
  bad_operand (way.void_argument h f v) = void_argument h f v
  bad_operand (way.void_operand h f v) = void_operand h f v
  bad_operand (way.void_field {object = object} {name = name} {m = m} {token = token} e f v) = void_field object name token m e f v
  bad_operand (way.void_call {object = object} {name = name} {args = args} {m = m} {token = token} is f v) =
      step.never_on_object j t s object name args token m is f (λ n ns h fs. library.never_on_void j t s n name ns token (is_void_too h v))
  bad_operand (way.void_element {value = value} {ty = ty} {m = m} {token = token} h f v) = of_element h (of_value ty value token m f (λ n k. form.never_value_of_void j t g ty n token (is_void_too k v)))
  bad_operand (way.unary {op = op} {operand = operand} {m = m} {token = token} f wrong) = unary op operand token m f wrong
  bad_operand (way.binary {op = op} {left = left} {right = right} {a = a} {b = b} {token = token} f h wrong) = binary op left right token a b f h wrong
  bad_operand (way.condition h f wrong) = condition h f wrong
  bad_operand (way.choice {test = test} {main = main} {other = other} {a = a} {b = b} {token = token} f h wrong) = choice test main other token a b f h wrong
  bad_operand (way.update {op = op} {left = left} {value = value} {p = p} {m = m} {token = token} d f wrong) = update op left value token p m d f wrong
  bad_operand (way.no_array {array = array} {index = index} {m = m} {token = token} f e) = no_array array index token m f e
  bad_operand (way.index {array = array} {index = index} {m = m} {token = token} f wrong) = no_index array index token m f wrong
  bad_operand (way.size {base = base} {at = at} {brackets = brackets} {token = token} {sizes = sizes} {ms = ms} {m = m} f h wrong) = size base at brackets token sizes ms m f h wrong
  bad_operand (way.IsBadOperand.no_variable {is_before = is_before} {is_up = is_up} {operand = operand} {token = token} d) =
      step.step_none j t s is_before is_up operand token d (form.never_stepped_none is_before is_up token)
  bad_operand (way.IsBadOperand.no_number {is_before = is_before} {is_up = is_up} {operand = operand} {p = p} {token = token} d wrong) =
      step.step_spot j t s is_before is_up operand token p d (λ q like. form.never_stepped is_before is_up q token (λ h. wrong (subst IsNumber like.ty h)))

  -- ---- BadAssign

  pub may_too : {ty : Ty} {m n : Meaning} → AreAlike m n → MayAssign t ty n → MayAssign t ty m
  may_too alike.known h = h
  may_too alike.formed (operands.by_type b) = operands.by_type b

  unfit : (left right : Expression) (token : ℕ) (p : Spot) (m : Meaning) → Denotes j t s left (Some p) → IsFound j t s right m → (type_of m ≡ Void → ⊥) → (MayAssign t p.ty m → ⊥) → Refused (Assign left right token)
  unfolding elaborated
  unfit left right token p m d f valued wrong =
      step.into_spot j t s (λ o. elaborated j t s right >>= λ n. assigned j o n token) d
      (λ q like. step.by_operand j t s (λ n. assigned j (Some q) n token) f
      (λ n h. form.never_assigned j t g q n token (form.never_value j t g q.ty n token (not_so (λ z. z ≡ Void) h valued) (λ k. wrong (may_too h (subst (λ (z : Ty). MayAssign t z n) like.ty k))))))

  no_variable : {e left : Expression} {token : ℕ} → Assigns e left token → Denotes j t s left Absent → Refused e
  unfolding elaborated
  no_variable (way.set {left = left} {value = value} {token = token}) d =
      step.into_none j t s (λ o. elaborated j t s value >>= λ n. assigned j o n token) d (never_bind (elaborated j t s value) (λ n. assigned j Absent n token) (λ n u v is. form.never_assigned_none j t g n token))
  no_variable (way.Assigns.updated {op = op} {left = left} {value = value} {token = token}) d =
      step.into_none j t s (λ o. elaborated j t s value >>= λ n. updated j t op o n token) d (never_bind (elaborated j t s value) (λ n. updated j t op Absent n token) (λ n u v is. form.never_updated_none j t g op n token))

  fixed_assigned : {e left : Expression} {token : ℕ} {p : Spot} → Assigns e left token → Denotes j t s left (Some p) → p.is_fixed ≡ true → Refused e
  unfolding elaborated
  fixed_assigned (way.set {left = left} {value = value} {token = token}) d e =
      step.into_spot j t s (λ o. elaborated j t s value >>= λ n. assigned j o n token) d
      (λ q like. never_bind (elaborated j t s value) (λ n. assigned j (Some q) n token) (λ n u v is. form.never_assigned_fixed j t g q n token (like.is_fixed ∙ e)))
  fixed_assigned (way.Assigns.updated {op = op} {left = left} {value = value} {token = token}) d e =
      step.into_spot j t s (λ o. elaborated j t s value >>= λ n. updated j t op o n token) d
      (λ q like. never_bind (elaborated j t s value) (λ n. updated j t op (Some q) n token) (λ n u v is. form.never_updated_fixed j t g op q n token (like.is_fixed ∙ e)))

  fixed_changed : {e left : Expression} {token : ℕ} {p : Spot} → Changes e left token → Denotes j t s left (Some p) → p.is_fixed ≡ true → Refused e
  fixed_changed (way.Changes.assigned h) d e = fixed_assigned h d e
  fixed_changed {p = p} (way.step {is_before = is_before} {is_up = is_up} {operand = operand} {token = token}) d e =
      step.step_spot j t s is_before is_up operand token p d (λ q like. form.never_stepped_fixed is_before is_up q token (like.is_fixed ∙ e))

  bad_assign : {e : Expression} {token : ℕ} → IsBadAssign j t s e token → Refused e
  bad_assign (way.value {left = left} {right = right} {p = p} {m = m} {token = token} d f valued wrong) = unfit left right token p m d f valued wrong
  bad_assign (way.element {right = right} {ty = ty} {m = m} {token = token} h f valued wrong) =
      of_element h (of_value ty right token m f (λ n k. form.never_value j t g ty n token (not_so (λ z. z ≡ Void) k valued) (λ may. wrong (may_too k may))))
  bad_assign (way.braces {ty = ty} {elements = elements} {brace = brace} {token = token} h e) = of_element h (of_braces ty elements brace token e)
  bad_assign (way.IsBadAssign.no_variable h d) = no_variable h d
  bad_assign (way.fixed h d e) = fixed_changed h d e

  -- ---- BadCast

  bad_cast : {e : Expression} {token : ℕ} → IsBadCast j t s e token → Refused e
  unfolding elaborated
  bad_cast (way.IsBadCast.cast {ty = ty} {operand = operand} {to = to} {token = token} is f valued wrong) =
      step.by_type j t s ty (λ z. elaborated j t s operand >>= λ n. cast_of j t z n token) is
      (step.by_operand j t s (λ n. cast_of j t to n token) f (λ n h. form.never_cast j t g to n token (not_so (λ z. CastsTo t z to) h wrong)))
  bad_cast (way.IsBadCast.tested {ty = ty} {left = left} {to = to} {token = token} is f valued wrong) =
      step.by_operand j t s (λ n. type_written t ty >>= λ z. instance_of j t z n token) f
      (λ n h. step.by_type j t s ty (λ z. instance_of j t z n token) is (form.never_instance j t g to n token (not_so (λ z. IsNullable z × IsNullable to × CastsTo t z to) h wrong)))

  -- ---- names and fields

  of_name : (name : List ℕ) (token : ℕ) → Never (named t s name token) → Refused (Name name token)
  unfolding elaborated
  of_name name token n = n

  no_selected : {e : Expression} {c : ℕ} {name : List ℕ} {token : ℕ} → Selects j t s e c name token → HasNoField t c name → Refused e
  no_selected {c = c} {name = name} {token = token} (way.through h) none = field.never_through j t l s h (λ object. field.never_through_none t s c object name token none)
  no_selected {c = c} {name = name} {token = token} (way.by_class h) none = field.never_by_class j t l s h (field.never_of_class_none t s c name token none)

  writes_none : {e : Expression} {b : Base} {token : ℕ} → Writes e b token → IsNoType t b → Refused e
  unfolding elaborated
  writes_none (way.sized {base = base} {at = at}) none = never_first _ (step.never_type t base 0 at none)
  writes_none (way.filled {base = base} {at = at} {brackets = brackets}) none = never_first _ (step.never_type t base brackets at none)
  writes_none (way.Writes.tested {left = left} {ty = ty} {token = token}) none =
      never_bind (elaborated j t s left) (λ n. type_written t ty >>= λ to. instance_of j t to n token) (λ n u v is. never_first (λ to. instance_of j t to n token) (step.never_written j t s ty none))
  writes_none (way.Writes.cast {ty = ty} {operand = operand} {token = token}) none = never_first (λ to. elaborated j t s operand >>= λ n. cast_of j t to n token) (step.never_written j t s ty none)
  writes_none (way.created {class = class} {args = args} {token = token}) none = step.never_class_created j t s class args token none

  unknown_name : {e : Expression} {token : ℕ} → IsUnknownName j t s e token → Refused e
  unknown_name (way.simple {name = name} {token = token} e none) = of_name name token (field.never_unknown t s name token e none)
  unknown_name (way.IsUnknownName.no_field h least none) = no_selected h none
  unknown_name (way.no_fields {object = object} {name = name} {token = token} {m = m} e f valued other none) =
      field.never_field_of j t l s object name token m e f (λ n same. field.never_read_of_none t s n name token (λ c h. other c (sym same ∙ h)) (ap (λ z. is_length z name) same ∙ none))
  unknown_name (way.no_class h none) = writes_none h none

  hidden_field : {e : Expression} {c k : ℕ} {name : List ℕ} {f : FieldRow} {token : ℕ} → NamesField j t s e c name token → IsField t c name k f → IsHidden s f.is_private f.class → Refused e
  hidden_field {k = k} {f = f} (way.alone {name = name} {token = token} e) is h = of_name name token (field.never_named_hidden t s name token k f e is h)
  hidden_field {c = c} {k = k} {name = name} {f = f} {token = token} (way.behind (way.through p)) is h = field.never_through j t l s p (λ object. field.never_through_hidden t s c object name token k f is h)
  hidden_field {c = c} {k = k} {name = name} {f = f} {token = token} (way.behind (way.by_class p)) is h = field.never_by_class j t l s p (field.never_of_class_hidden t s c name token k f is h)

  -- ---- methods

  private : {e : Expression} {token : ℕ} → IsPrivate j t s e token → Refused e
  private (way.IsPrivate.field h is hidden) = hidden_field h is hidden
  private (way.IsPrivate.method {m = m} h hidden) = called.means_so j t g l s h (λ through fit. method.broken_private s through m hidden) (λ e. hidden)

  of_this : (token : ℕ) → s.has_this ≡ false → Refused (This token)
  unfolding elaborated
  of_this token e = never_else s.has_this _ e never_refuse

  not_in_static : {e : Expression} {token : ℕ} → IsNotInStatic j t s e token → Refused e
  not_in_static (way.this {token = token} e) = of_this token e
  not_in_static (way.super_field {name = name} {token = token} e) = field.never_super j t l s name token (field.never_super_outside j t l s name token e)
  not_in_static (way.super_method {name = name} {args = args} {token = token} e) = step.never_super_invoke j t s name args token (λ ns fs. method.never_super_called j t s _ name ns token e)
  not_in_static (way.IsNotInStatic.field {name = name} {k = k} {f = f} {token = token} e is static none) = of_name name token (field.never_named_instance t s name token k f e is static none)
  not_in_static (way.field_of_class {c = c} {k = k} {name = name} {f = f} {token = token} h is static) = field.never_by_class j t l s h (field.never_of_class_instance t s c name token k f is static)
  not_in_static (way.IsNotInStatic.method {m = m} h other none) = called.means_so j t g l s h (called.plain_faults j t g l s m (method.broken_plain s m other none)) (λ e. absurd (cc))
  not_in_static (way.method_of_class {m = m} h other) = called.means_so j t g l s h (called.class_faults j t g l s m (method.broken_of_class s m other)) (λ e. absurd (cc))
  not_in_static (way.method_of_texts {object = object} {class = class} {name = name} {args = args} {token = token} e texts) =
      step.never_on_class j t s object name args token class e (λ ns fs. library.never_class_of_texts j t s class name ns token texts)

  library_refused : {e : Expression} {methods : List LibraryMethod} {name : List ℕ} {args : Row} {token : ℕ} → IsLibraryCall j t s e methods name args token →
      ((ns : List Meaning) → AreFound j t s args ns → (x : Option kernel.Expression) → Never (library_call j methods x name ns token)) → Refused e
  library_refused (calls.of_text {object = object} {name = name} {args = args} {token = token} {m = m} is f text) n =
      step.never_on_object j t s object name args token m is f (λ a ns h fs. library.never_on_text j t s a name ns token (sym (same_type h) ∙ text) (λ x. n ns fs (Some x)))
  library_refused (calls.IsLibraryCall.of_class {object = object} {name = name} {args = args} {token = token} {class = class} e own other) n =
      step.never_on_class j t s object name args token class e (λ ns fs. library.never_class_of_library j t s class name ns token own (n ns fs Absent))

  shown : {value : Expression} {ns : List Meaning} (name : List ℕ) (token : ℕ) (m : Meaning) → IsFound j t s value m → AreFound j t s (source.more value source.none) ns → is_printed (type_of m) ≡ false → Never (print_operand name ns token)
  shown name token m f (found.more_found {m = n} h found.none_found) e = library.never_print_unshown name n token (ap is_printed (sym (same_type (found_once j t s _ m n f h))) ∙ e)

  not_printed : (object value : Expression) (name : List ℕ) (token : ℕ) (m : Meaning) → stream_in t s object ≡ Some Output → IsFound j t s value m → is_printed (type_of m) ≡ false → Refused (InvokeOn object name (source.more value source.none) token)
  not_printed object value name token m e f unshown =
      step.never_on_stream j t s object name (source.more value source.none) token Output e (λ ns fs. library.never_print name ns token (shown name token m f fs unshown))

  not_offered : {e : Expression} {token : ℕ} → IsNotOffered j t s e token → Refused e
  not_offered (way.IsNotOffered.no_field h lower none) = no_selected h none
  not_offered (way.no_constant {object = object} {class = class} {name = name} {token = token} e of none) =
      field.never_field_of_class j t l s object name token class e (field.never_constant j t l s class.name name class.token token of none)
  not_offered (way.no_method h declined) = called.asked j t g l s rule.NotOffered h declined
  not_offered (way.IsNotOffered.of_library {methods = methods} {name = name} {token = token} h unnamed) =
      library_refused h (λ ns fs x. library.never_library j t g methods x name ns token (λ m o. library.unnamed t methods name (types_of ns) m unnamed o))
  not_offered (way.of_input {object = object} {name = name} {args = args} {token = token} e other) = step.never_on_stream j t s object name args token Input e (λ ns fs. library.never_read_other name ns token other)
  not_offered (way.of_output {object = object} {name = name} {args = args} {token = token} e other) =
      step.never_on_stream j t s object name args token Output e (λ ns fs. library.never_print name ns token (library.never_print_other name ns token other))
  not_offered (way.null_printed {object = object} {value = value} {name = name} {m = m} {token = token} e f is) = not_printed object value name token m e f (ap is_printed is)
  not_offered (way.chars_printed {object = object} {value = value} {name = name} {m = m} {token = token} e f is) = not_printed object value name token m e f (ap is_printed is)
  not_offered (way.static_field {c = c} {k = k} {name = name} {f = f} {token = token} h is static) = field.never_through j t l s h (λ object. field.never_through_static t s c object name token k f is static)
  not_offered (way.static_of_object {m = m} h static) = called.means_so j t g l s h (called.object_faults j t g l s m (λ x. method.broken_of_object s x m static)) (λ e. absurd (cc))
  not_offered (way.static_of_super {m = m} h static) = called.means_so j t g l s h (called.super_faults j t g l s m (method.broken_of_super s m (inr (inl static)))) (λ e. absurd (cc))

  -- ---- `new`, and calls that no method is for

  not_implemented : {e : Expression} {token : ℕ} → IsNotImplemented j t s e token → Refused e
  not_implemented (way.abstract_method {m = m} h abstract) = called.means_so j t g l s h (called.super_faults j t g l s m (method.broken_of_super s m (inr (inr abstract)))) (λ e. absurd (cc))
  not_implemented (way.interface {class = class} {args = args} {token = token} {c = c} e is) =
      step.never_new j t s class args token (λ d ns other fs. (
      let same : c ≡ d = cc in
      let P : ℕ → Type 0 = λ z. Never (created j t s z ns token) in
      subst P same (method.never_interface_created j t l s c ns token is)))
  not_implemented (way.abstract_class {class = class} {args = args} {token = token} {c = c} {k = k} e row abstract) =
      step.never_new j t s class args token (λ d ns other fs. (
      let same : c ≡ d = cc in
      let P : ℕ → Type 0 = λ z. Never (created j t s z ns token) in
      subst P same (method.never_abstract_created j t l s c ns token k row abstract)))

  some_created : (c token : ℕ) (e : Expression) (rest : Row) (ns : List Meaning) → AreFound j t s (source.more e rest) ns → c ≡ object_class → Never (created j t s c ns token)
  some_created c token e rest _ (found.more_found {m = m} {ms = ms} h hs) same = method.never_object_created j t l s c (m ∷ ms) token m ms same refl

  some_read : (name : List ℕ) (token : ℕ) (e : Expression) (rest : Row) (ns : List Meaning) → AreFound j t s (source.more e rest) ns → Never (called_on_stream Input name ns token)
  some_read name token e rest _ (found.more_found {m = m} {ms = ms} h hs) = library.never_read_with name m ms token

  nothing_printed : (name : List ℕ) (token : ℕ) (ns : List Meaning) → AreFound j t s source.none ns → bytes_eq name (codes "print") ≡ true → Never (print_operand name ns token)
  nothing_printed name token _ found.none_found e = library.never_print_nothing name token e

  more_printed : (name : List ℕ) (token : ℕ) (first second : Expression) (rest : Row) (ns : List Meaning) → AreFound j t s (source.more first (source.more second rest)) ns → Never (print_operand name ns token)
  more_printed name token first second rest _ (found.more_found {m = m} f (found.more_found {m = n} {ms = ms} h hs)) = library.never_print_more name m n ms token

  none_offered : (methods : List LibraryMethod) (name : List ℕ) (args : Row) (token : ℕ) (ms : List Meaning) → AreFound j t s args ms → ((m : LibraryMethod) → Offers t methods name (types_of ms) m → ⊥) →
      (ns : List Meaning) → AreFound j t s args ns → (x : Option kernel.Expression) → Never (library_call j methods x name ns token)
  none_offered methods name args token ms f none ns fs x =
      library.never_library j t g methods x name ns token (called.of_types j t g l s (λ z. (m : LibraryMethod) → Offers t methods name z m → ⊥) f fs none)

  no_method : {e : Expression} {token : ℕ} → IsNoMethod j t s e token → Refused e
  no_method (way.none_applies h declined) = called.asked j t g l s rule.NoMethod h declined
  no_method (way.IsNoMethod.of_library {methods = methods} {name = name} {args = args} {ms = ms} {token = token} h f values named none) = library_refused h (none_offered methods name args token ms f none)
  no_method (way.IsNoMethod.of_object {class = class} {e = e} {rest = rest} {token = token} is) =
      step.never_new j t s class (source.more e rest) token (λ d ns other fs. (let same : d ≡ object_class = cc in some_created d token e rest ns fs same))
  no_method (way.read {object = object} {e = e} {name = name} {rest = rest} {token = token} is named) = step.never_on_stream j t s object name (source.more e rest) token Input is (λ ns fs. some_read name token e rest ns fs)
  no_method (way.print_nothing {object = object} {name = name} {token = token} is named) =
      step.never_on_stream j t s object name source.none token Output is (λ ns fs. library.never_print name ns token (nothing_printed name token ns fs named))
  no_method (way.print_more {object = object} {first = first} {second = second} {name = name} {rest = rest} {token = token} is named) =
      step.never_on_stream j t s object name (source.more first (source.more second rest)) token Output is (λ ns fs. library.never_print name ns token (more_printed name token first second rest ns fs))

  ambiguous : {e : Expression} {token : ℕ} → IsAmbiguous j t s e token → Refused e
  ambiguous (way.several h declined) = called.asked j t g l s rule.Ambiguous h declined

  pub refused : (e : Expression) (r : Rule) (token : ℕ) → ExpressionBreaks j t s e r token → Refused e
  refused e rule.UnknownName token h = unknown_name h
  refused e rule.NotImplemented token h = not_implemented h
  refused e rule.NoMethod token h = no_method h
  refused e rule.Ambiguous token h = ambiguous h
  refused e rule.BadOperand token h = bad_operand h
  refused e rule.BadAssign token h = bad_assign h
  refused e rule.BadCast token h = bad_cast h
  refused e rule.Private token h = private h
  refused e rule.NotInStatic token h = not_in_static h
  refused e rule.NotOffered token h = not_offered h
  refused e _ token h = absurd h

-- what breaks a rule, or has a part that does, is never found
pub never_broken : (j : Judgement) (t : Table) → Settles t j → KnowsLibrary t → (s : Scope) (e : Expression) (r : Rule) (token : ℕ) → IsBroken j t s e r token → Never (elaborated j t s e)
never_broken j t g l s e r token b = never_within j t l s b.part e b.within (refused j t g l s b.part r token b.breaks)

pub accepted : AcceptedExpressionsAreUnbroken
accepted t j g l s e m f r token b = (never_broken j t g l s e r token b).at f.before m f.after f.found
