-- Where an expression is refused, a part of it breaks the rule: by recursion on the expression, its arguments and its elements.
use Rattle.std.proofs.Common.{◌≡◌, ap, refl, ℕ, ◌+◌, Bool, false, List, [], ◌∷◌, length, Option, Some, Result, Ok, Err}
use Rattle.std.specs.Prelude.{◌&&◌, ◌||◌, if◌then◌else◌}
use Rattle.std.specs.Prelude.{None as Absent}
use Rattle.std.specs.List.{Contains}
use Rattle.std.proofs.lemmas.List.Elements.{Contains-append_left, Contains-append_right}
use Rattle.wy_kernel.specs.Form as kernel
use Rattle.wy_kernel.specs.declared.operator.UnOp.{UnOp}
use Rattle.wy_kernel.specs.declared.operator.BinOp.{BinOp}
use Rattle.wy_kernel.specs.declared.types.Ty.{Ty}
use Rattle.wy_kernel.specs.declared.types.Ty.TheVariants.{Void}
use Rattle.wy_kernel.specs.declared.form.CondForm.{CondForm}
use Rattle.wy_kernel.specs.declared.form.CondForm.TheVariants as cond
use Rattle.wy_kernel.specs.Subtyping.{class_type}
use Rattle.wy_kernel.specs.Table.{Table}
use Rattle.wy_tree.specs.Seen.{Tok}
use Rattle.wy_syntax.specs.Syntax.{Named, WrittenType, Base, Expression, Literal, Name, This, Group, Invoke, Field, InvokeOn, SuperField, SuperInvoke, Element, NewObject, NewArray, NewList, Unary, Step, Binary, Both, Either, InstanceOf, Cast, Choice, Assign, Update, Wrong, Row, none, more, Initial, Value, Listed, Elements, no_more, element}
use Rattle.wy_constant.specs.declared.rule.Rule.TheVariants.{NotInStatic, BadOperand, BadAssign, UnknownName}
use Rattle.wy_constant.specs.Refusal.{Refusal, refused}
use Rattle.wy_constant.specs.Scope.{Scope, FixedText}
use Rattle.wy_constant.specs.Fields.{class_named}
use Rattle.wy_elab_expr.specs.Meaning.{Meaning, Formed, type_of, Gets, give, refuse, ◌>>=◌}
use Rattle.wy_elab_expr.specs.Operators.{Judgement, Settles, unary_of, binary_of, lazy_of, choice_of, cast_of, instance_of}
use Rattle.wy_elab_expr.specs.Members.{Spot, this_form, named_spot, qualified_name, field_read, Nothing, Super, called, created}
use Rattle.wy_elab_expr.specs.Elaboration.{ClassName, Stream, class_in, stream_in, type_with, type_written, literal_meaning, literal_or_null, is_place, class_for_new, sizes_of, with_brackets, or_type, element_of, above, super_spot, element_spot, read, stepped, assigned, assigned_value, updated, called_on, called_on_class, called_on_stream, class_target, field_target, just, Listing, listing, elaborated, elaborated_all, target, elements_of, initialized}
use Rattle.law_refusals.specs.Operands.{MayAssign}
use Rattle.law_refusals.specs.Found.{IsFound, AreFound, Denotes, IsType, IsNoType, listed, values_in, values_of, operands, Within, IsAmong, Fills}
use Rattle.law_refusals.specs.Found as found
use Rattle.law_refusals.specs.Breaches.{Writes}
use Rattle.law_refusals.specs.Breaches as way
use Rattle.law_refusals.specs.ExpressionLaws.{IsBroken, IsWhole, RefusalsAreDue, ExpressionKeepsRules, RulesAreEnough}
use Rattle.law_refusals.proofs.Walk.{Only, only_give, only_refuse, only_if, only_bind, only_weaker}
use Rattle.law_refusals.proofs.Contained.{contains_here, contains_later, only_one, first_of_two, second_of_two, first_of_three, second_of_three, third_of_three}
use Rattle.law_refusals.proofs.Forms as form
use Rattle.law_refusals.proofs.Fields as field
use Rattle.law_refusals.proofs.Invoked as invoked
use Rattle.law_refusals.proofs.Created as creation
use Rattle.law_refusals.proofs.ExpressionParts.{At, by_itself, by_operand, whole_operand, Explains, ExplainsTarget, ExplainsAll, Among, AreWhole, of_form, of_operand, of_target, of_row, is_found, is_denoted, are_found, step_denotes, type_only, type_found, or_type_only, or_type_found, field_operand, argument_operand, object_operand, no_target}

never_literal : {P : Refusal → Type 0} (o : Option Meaning) → Only P (literal_or_null o)
never_literal (Some m) = only_give
never_literal Absent = only_give

module _ (j : Judgement) (t : Table) (s : Scope) (g : Settles t j) where
  literal_case : (value : Tok) (token : ℕ) → Explains j t s (Literal value token)
  unfolding elaborated literal_meaning
  literal_case value token w = never_literal _

  this_case : (token : ℕ) → Explains j t s (This token)
  unfolding elaborated
  this_case token w = only_if {b = s.has_this} {m = give (Formed this_form (class_type s.class))} {n = refuse NotInStatic token} (λ h. only_give) (λ h. only_refuse (by_itself j t s (This token) (refused NotInStatic token) (way.this h)))

  name_case : (name : List ℕ) (token : ℕ) → Explains j t s (Name name token)
  unfolding elaborated
  name_case name token w = of_form j t s (Name name token) (field.named_only j t s name token)

  group_case : (inner : Expression) (token : ℕ) → Explains j t s inner → Explains j t s (Group inner token)
  unfolding elaborated
  group_case inner token f w = of_operand j t s (Group inner token) inner (only_one inner) f w

  invoke_case : (name : List ℕ) (args : Row) (token : ℕ) → ExplainsAll j t s args → Explains j t s (Invoke name args token)
  unfolding elaborated
  invoke_case name args token f w =
      only_bind {m = elaborated_all j t s args} {f = λ arguments. called j t s Nothing (class_type s.class) name arguments token} (of_row j t s (Invoke name args token) args (λ part h. h) f w)
      (λ ms u v is. of_form j t s (Invoke name args token) (invoked.plain_only j t s g name args ms token (are_found j t s args ms u v is)))

  super_invoke_case : (name : List ℕ) (args : Row) (token : ℕ) → ExplainsAll j t s args → Explains j t s (SuperInvoke name args token)
  unfolding elaborated
  super_invoke_case name args token f w =
      only_bind {m = elaborated_all j t s args} {f = λ arguments. called j t s Super (class_type (above t s)) name arguments token} (of_row j t s (SuperInvoke name args token) args (λ part h. h) f w)
      (λ ms u v is. of_form j t s (SuperInvoke name args token) (invoked.super_call_only j t s g name args ms token (are_found j t s args ms u v is)))

  -- ---- behind a dot

  field_by : (object : Expression) (name : List ℕ) (token : ℕ) → Explains j t s object → IsWhole t s (Field object name token) → (o : Option ClassName) → class_in t s object ≡ o →
      Only (At j t s (Field object name token)) (elim o as (λ _. Gets Meaning) [ Some c ↦ qualified_name t s c.name name c.token token | Absent ↦ (elaborated j t s object >>= λ m. field_read t s m name token) ])
  field_by object name token f w (Some c) e = of_form j t s (Field object name token) (field.qualified_only j t s object name token c e)
  field_by object name token f w Absent e =
      only_bind {m = elaborated j t s object} {f = λ m. field_read t s m name token} (of_operand j t s (Field object name token) object (field_operand t s object name token e) f w)
      (λ m u v is. of_form j t s (Field object name token) (field.field_only j t s object name token m e (is_found _ _ is)))

  field_case : (object : Expression) (name : List ℕ) (token : ℕ) → Explains j t s object → Explains j t s (Field object name token)
  unfolding elaborated
  field_case object name token f w = field_by object name token f w (class_in t s object) refl

  field_target_by : (object : Expression) (name : List ℕ) (token : ℕ) → Explains j t s object → IsWhole t s (Field object name token) → (o : Option ClassName) → class_in t s object ≡ o →
      Only (At j t s (Field object name token)) (elim o as (λ _. Gets (Option Spot)) [ Some c ↦ class_target t s c name token | Absent ↦ (elaborated j t s object >>= λ m. field_target t s m name token) ])
  field_target_by object name token f w (Some c) e = of_form j t s (Field object name token) (field.class_target_only j t s object name token c e)
  field_target_by object name token f w Absent e =
      only_bind {m = elaborated j t s object} {f = λ m. field_target t s m name token} (of_operand j t s (Field object name token) object (field_operand t s object name token e) f w)
      (λ m u v is. of_form j t s (Field object name token) (field.field_target_only j t s object name token m e (is_found _ _ is)))

  of_args : (object : Expression) (name : List ℕ) (args : Row) (token : ℕ) → ExplainsAll j t s args → IsWhole t s (InvokeOn object name args token) → Only (At j t s (InvokeOn object name args token)) (elaborated_all j t s args)
  of_args object name args token f w = of_row j t s (InvokeOn object name args token) args (argument_operand t s object name args token) f w

  call_on_class_by : (object : Expression) (name : List ℕ) (args : Row) (token : ℕ) → Explains j t s object → ExplainsAll j t s args → IsWhole t s (InvokeOn object name args token) → stream_in t s object ≡ Absent → (o : Option ClassName) → class_in t s object ≡ o →
      Only (At j t s (InvokeOn object name args token)) (elim o as (λ _. Gets Meaning) [
        | Some c ↦ (elaborated_all j t s args >>= λ arguments. called_on_class j t s c name arguments token)
        | Absent ↦ (elaborated j t s object >>= λ m. elaborated_all j t s args >>= λ arguments. called_on j t s m name arguments token)
      ])
  call_on_class_by object name args token f h w empty (Some c) e =
      only_bind {m = elaborated_all j t s args} {f = λ arguments. called_on_class j t s c name arguments token} (of_args object name args token h w)
      (λ ms u v is. of_form j t s (InvokeOn object name args token) (invoked.class_call_only j t s g object name args token ms c e (are_found j t s args ms u v is)))
  call_on_class_by object name args token f h w empty Absent e =
      only_bind {m = elaborated j t s object} {f = λ m. elaborated_all j t s args >>= λ arguments. called_on j t s m name arguments token}
      (of_operand j t s (InvokeOn object name args token) object (object_operand t s object name args token empty e) f w)
      (λ m u v is. only_bind {m = elaborated_all j t s args} {f = λ arguments. called_on j t s m name arguments token} (of_args object name args token h w)
      (λ ms x y are. of_form j t s (InvokeOn object name args token) (invoked.object_call_only j t s g object name args token m ms (record { no_class = e; no_stream = empty }) (is_found _ _ is) (are_found j t s args ms x y are))))

  call_on_by : (object : Expression) (name : List ℕ) (args : Row) (token : ℕ) → Explains j t s object → ExplainsAll j t s args → IsWhole t s (InvokeOn object name args token) → (o : Option Stream) → stream_in t s object ≡ o →
      Only (At j t s (InvokeOn object name args token)) (elim o as (λ _. Gets Meaning) [
        | Some stream ↦ (elaborated_all j t s args >>= λ arguments. called_on_stream stream name arguments token)
        | Absent ↦ elim (class_in t s object) as (λ _. Gets Meaning) [
          | Some c ↦ (elaborated_all j t s args >>= λ arguments. called_on_class j t s c name arguments token)
          | Absent ↦ (elaborated j t s object >>= λ m. elaborated_all j t s args >>= λ arguments. called_on j t s m name arguments token)
        ]
      ])
  call_on_by object name args token f h w (Some stream) e =
      only_bind {m = elaborated_all j t s args} {f = λ arguments. called_on_stream stream name arguments token} (of_args object name args token h w)
      (λ ms u v is. of_form j t s (InvokeOn object name args token) (creation.stream_only j t s g object name args token ms stream e (are_found j t s args ms u v is)))
  call_on_by object name args token f h w Absent e = call_on_class_by object name args token f h w e (class_in t s object) refl

  invoke_on_case : (object : Expression) (name : List ℕ) (args : Row) (token : ℕ) → Explains j t s object → ExplainsAll j t s args → Explains j t s (InvokeOn object name args token)
  unfolding elaborated
  invoke_on_case object name args token f h w = call_on_by object name args token f h w (stream_in t s object) refl

  super_field_case : (name : List ℕ) (token : ℕ) → Explains j t s (SuperField name token)
  unfolding elaborated
  super_field_case name token w = only_bind {m = super_spot t s name token} {f = λ p. give (read p)} (of_form j t s (SuperField name token) (field.super_only j t s name token)) (λ p u v is. only_give)

  -- ---- elements and creations

  element_case : (array index : Expression) (token : ℕ) → Explains j t s array → Explains j t s index → Explains j t s (Element array index token)
  unfolding elaborated
  element_case array index token f h w =
      only_bind {m = elaborated j t s array} {f = λ a. elaborated j t s index >>= λ i. element_spot a i token >>= λ p. give (read p)} (of_operand j t s (Element array index token) array (first_of_two array index) f w)
      (λ a u v is. only_bind {m = elaborated j t s index} {f = λ i. element_spot a i token >>= λ p. give (read p)} (of_operand j t s (Element array index token) index (second_of_two array index) h w)
      (λ i x y it. only_bind {m = element_spot a i token} {f = λ p. give (read p)} (of_form j t s (Element array index token) (form.element_only j t s g array index token a i (is_found _ _ is) (is_found _ _ it))) (λ p k l m. only_give)))

  class_only : (class : Named) (args : Row) (token : ℕ) → (o : Option ℕ) → class_named t.classes class.name ≡ o → Only (At j t s (NewObject class args token)) (class_for_new o class.token)
  class_only class args token (Some c) e = only_give
  class_only class args token Absent e = only_refuse (by_itself j t s (NewObject class args token) (refused UnknownName class.token) (way.no_class way.Writes.created (found.unknown e)))

  class_found : (o : Option ℕ) (token c : ℕ) (u v : List FixedText) → class_for_new o token u ≡ Ok (c, v) → o ≡ Some c
  class_found (Some k) token c u v h =
      let pair : (k, u) ≡ (c, v) = cc in
      ap (λ (z : ℕ × List FixedText). Some z.0) pair
  class_found Absent token c u v h = absurd (cc)

  new_object_case : (class : Named) (args : Row) (token : ℕ) → ExplainsAll j t s args → Explains j t s (NewObject class args token)
  unfolding elaborated
  new_object_case class args token f w =
      only_bind {m = class_for_new (class_named t.classes class.name) class.token} {f = λ c. elaborated_all j t s args >>= λ arguments. created j t s c arguments token} (class_only class args token (class_named t.classes class.name) refl)
      (λ c u v is. only_bind {m = elaborated_all j t s args} {f = λ arguments. created j t s c arguments token} (of_row j t s (NewObject class args token) args (λ part h. h) f w)
      (λ ms x y are. of_form j t s (NewObject class args token) (creation.created_only j t s g class args token c ms (class_found (class_named t.classes class.name) class.token c u v is) (are_found j t s args ms x y are))))

  -- the type that an expression writes
  writes_only : (e : Expression) (base : Base) (brackets token : ℕ) → Writes e base token → Only (At j t s e) (type_with t base brackets token)
  writes_only e base brackets token writes = type_only t base brackets token (λ none. by_itself j t s e (refused UnknownName token) (way.no_class writes none))

  new_array_case : (base : Base) (at : ℕ) (sizes : Row) (brackets token : ℕ) → ExplainsAll j t s sizes → Explains j t s (NewArray base at sizes brackets token)
  unfolding elaborated
  new_array_case base at sizes brackets token f w =
      let made : Ty → List Meaning → kernel.Row → Gets Meaning = λ ty ms dims. give (Formed (kernel.NewArray (with_brackets ty (length ms + brackets)) dims kernel.none [] token) (with_brackets ty (length ms + brackets))) in
      only_bind {m = type_with t base 0 at} {f = λ ty. elaborated_all j t s sizes >>= λ ms. sizes_of ms token >>= λ dims. made ty ms dims} (writes_only (NewArray base at sizes brackets token) base 0 at way.Writes.sized)
      (λ ty u v is. only_bind {m = elaborated_all j t s sizes} {f = λ ms. sizes_of ms token >>= λ dims. made ty ms dims} (of_row j t s (NewArray base at sizes brackets token) sizes (λ part h. h) f w)
      (λ ms x y are. only_bind {m = sizes_of ms token} {f = λ dims. made ty ms dims} (of_form j t s (NewArray base at sizes brackets token) (form.sizes_only j t s g base at brackets token sizes ms (are_found j t s sizes ms x y are))) (λ dims k l m. only_give)))

  -- ---- operators

  unary_case : (op : UnOp) (operand : Expression) (token : ℕ) → Explains j t s operand → Explains j t s (Unary op operand token)
  unfolding elaborated
  unary_case op operand token f w =
      only_bind {m = elaborated j t s operand} {f = λ m. unary_of op m token} (of_operand j t s (Unary op operand token) operand (only_one operand) f w)
      (λ m u v is. of_form j t s (Unary op operand token) (form.unary_only j t s g op operand token m (is_found _ _ is)))

  step_case : (is_before is_up : Bool) (operand : Expression) (token : ℕ) → Explains j t s operand → ExplainsTarget j t s operand → Explains j t s (Step is_before is_up operand token)
  unfolding elaborated
  step_case is_before is_up operand token f h w =
      let e : Expression = Step is_before is_up operand token in
      let other : Gets (Option Spot) = elaborated j t s operand >>= λ m. give Absent in
      only_bind {m = if is_place operand then target j t s operand else other} {f = λ p. stepped is_before is_up p token}
      (only_if {b = is_place operand} {m = target j t s operand} {n = other} (λ place. of_target j t s e operand (only_one operand) h w)
      (λ none. only_bind {m = elaborated j t s operand} {f = λ m. give Absent} (of_operand j t s e operand (only_one operand) f w) (λ m u v is. only_give)))
      (λ p u v is. of_form j t s e (form.stepped_only j t s g is_before is_up operand token p (step_denotes j t s operand p u v is)))

  binary_case : (op : BinOp) (left right : Expression) (token : ℕ) → Explains j t s left → Explains j t s right → Explains j t s (Binary op left right token)
  unfolding elaborated
  binary_case op left right token f h w =
      let e : Expression = Binary op left right token in
      only_bind {m = elaborated j t s left} {f = λ a. elaborated j t s right >>= λ b. binary_of j t op a b token} (of_operand j t s e left (first_of_two left right) f w)
      (λ a u v is. only_bind {m = elaborated j t s right} {f = λ b. binary_of j t op a b token} (of_operand j t s e right (second_of_two left right) h w)
      (λ b x y it. of_form j t s e (form.binary_only j t s g op left right token a b (is_found _ _ is) (is_found _ _ it))))

  lazy_by : (e left right : Expression) (token : ℕ) (f : CondForm) (h : Bool → Bool → Bool) → way.Decides e left token → way.Decides e right token → Contains (operands t s e) left → Contains (operands t s e) right →
      Explains j t s left → Explains j t s right → IsWhole t s e → Only (At j t s e) (elaborated j t s left >>= λ a. elaborated j t s right >>= λ b. lazy_of f h a b token)
  lazy_by e left right token f h d k cl cr l r w =
      only_bind {m = elaborated j t s left} {f = λ a. elaborated j t s right >>= λ b. lazy_of f h a b token} (of_operand j t s e left cl l w)
      (λ a u v is. only_bind {m = elaborated j t s right} {f = λ b. lazy_of f h a b token} (of_operand j t s e right cr r w)
      (λ b x y it. of_form j t s e (form.lazy_only j t s g e left right token a b f h d k (is_found _ _ is) (is_found _ _ it))))

  both_case : (left right : Expression) (token : ℕ) → Explains j t s left → Explains j t s right → Explains j t s (Both left right token)
  unfolding elaborated
  both_case left right token l r w = lazy_by (Both left right token) left right token cond.And (λ p q. p && q) way.both_left way.both_right (first_of_two left right) (second_of_two left right) l r w

  either_case : (left right : Expression) (token : ℕ) → Explains j t s left → Explains j t s right → Explains j t s (Either left right token)
  unfolding elaborated
  either_case left right token l r w = lazy_by (Either left right token) left right token cond.Or (λ p q. p || q) way.either_left way.either_right (first_of_two left right) (second_of_two left right) l r w

  instance_case : (left : Expression) (ty : WrittenType) (token : ℕ) → Explains j t s left → Explains j t s (InstanceOf left ty token)
  unfolding elaborated type_written
  instance_case left ty token f w =
      let e : Expression = InstanceOf left ty token in
      only_bind {m = elaborated j t s left} {f = λ m. type_written t ty >>= λ to. instance_of j t to m token} (of_operand j t s e left (only_one left) f w)
      (λ m u v is. only_bind {m = type_written t ty} {f = λ to. instance_of j t to m token} (writes_only e ty.base ty.brackets ty.token way.Writes.tested)
      (λ to x y it. of_form j t s e (form.instance_only j t s g ty left token to m (type_found t ty.base ty.brackets ty.token x y to it) (is_found _ _ is))))

  cast_case : (ty : WrittenType) (operand : Expression) (token : ℕ) → Explains j t s operand → Explains j t s (Cast ty operand token)
  unfolding elaborated type_written
  cast_case ty operand token f w =
      let e : Expression = Cast ty operand token in
      only_bind {m = type_written t ty} {f = λ to. elaborated j t s operand >>= λ m. cast_of j t to m token} (writes_only e ty.base ty.brackets ty.token way.Writes.cast)
      (λ to x y it. only_bind {m = elaborated j t s operand} {f = λ m. cast_of j t to m token} (of_operand j t s e operand (only_one operand) f w)
      (λ m u v is. of_form j t s e (form.cast_only j t s g ty operand token to m (type_found t ty.base ty.brackets ty.token x y to it) (is_found _ _ is))))

  choice_case : (test main other : Expression) (token : ℕ) → Explains j t s test → Explains j t s main → Explains j t s other → Explains j t s (Choice test main other token)
  unfolding elaborated
  choice_case test main other token f h k w =
      let e : Expression = Choice test main other token in
      only_bind {m = elaborated j t s test} {f = λ z. elaborated j t s main >>= λ a. elaborated j t s other >>= λ b. choice_of j t z a b token} (of_operand j t s e test (first_of_three test main other) f w)
      (λ z u v is. only_bind {m = elaborated j t s main} {f = λ a. elaborated j t s other >>= λ b. choice_of j t z a b token} (of_operand j t s e main (second_of_three test main other) h w)
      (λ a u1 v1 is1. only_bind {m = elaborated j t s other} {f = λ b. choice_of j t z a b token} (of_operand j t s e other (third_of_three test main other) k w)
      (λ b u2 v2 is2. of_form j t s e (form.choice_only j t s g test main other token z a b (is_found _ _ is) (is_found _ _ is1) (is_found _ _ is2)))))

  assign_case : (left value : Expression) (token : ℕ) → ExplainsTarget j t s left → Explains j t s value → Explains j t s (Assign left value token)
  unfolding elaborated
  assign_case left value token f h w =
      let e : Expression = Assign left value token in
      only_bind {m = target j t s left} {f = λ p. elaborated j t s value >>= λ m. assigned j p m token} (of_target j t s e left (first_of_two left value) f w)
      (λ p u v is. only_bind {m = elaborated j t s value} {f = λ m. assigned j p m token} (of_operand j t s e value (second_of_two left value) h w)
      (λ m x y it. of_form j t s e (form.assigned_only j t s g left value token p m (is_denoted _ _ is) (is_found _ _ it))))

  update_case : (op : BinOp) (left value : Expression) (token : ℕ) → ExplainsTarget j t s left → Explains j t s value → Explains j t s (Update op left value token)
  unfolding elaborated
  update_case op left value token f h w =
      let e : Expression = Update op left value token in
      only_bind {m = target j t s left} {f = λ p. elaborated j t s value >>= λ m. updated j t op p m token} (of_target j t s e left (first_of_two left value) f w)
      (λ p u v is. only_bind {m = elaborated j t s value} {f = λ m. updated j t op p m token} (of_operand j t s e value (second_of_two left value) h w)
      (λ m x y it. of_form j t s e (form.updated_only j t s g op left value token p m (is_denoted _ _ is) (is_found _ _ it))))

  -- ---- arguments

  no_args : ExplainsAll j t s none
  unfolding elaborated_all
  no_args w = only_give

  more_args : (e : Expression) (rest : Row) → Explains j t s e → ExplainsAll j t s rest → ExplainsAll j t s (more e rest)
  unfolding elaborated_all
  more_args e rest f h w =
      only_bind {m = elaborated j t s e} {f = λ m. elaborated_all j t s rest >>= λ ms. give (m ∷ ms)}
      (only_weaker (λ x b. record { part = e; stands = contains_here (listed rest) refl; broken = b }) (f (w e (contains_here (listed rest) refl))))
      (λ m u v is. only_bind {m = elaborated_all j t s rest} {f = λ ms. give (m ∷ ms)}
      (only_weaker (λ x b. record { part = b.part; stands = contains_later e b.part (listed rest) b.stands; broken = b.broken }) (h (λ part c. w part (contains_later e part (listed rest) c))))
      (λ ms x y it. only_give))

  -- ---- variables

  name_target : (name : List ℕ) (token : ℕ) → ExplainsTarget j t s (Name name token)
  unfolding target
  name_target name token w = only_bind {m = named_spot t s name token} {f = λ p. give (Some p)} (of_form j t s (Name name token) (field.spot_only j t s name token)) (λ p u v is. only_give)

  group_target : (inner : Expression) (token : ℕ) → ExplainsTarget j t s inner → ExplainsTarget j t s (Group inner token)
  unfolding target
  group_target inner token f w = of_target j t s (Group inner token) inner (only_one inner) f w

  field_target_case : (object : Expression) (name : List ℕ) (token : ℕ) → Explains j t s object → ExplainsTarget j t s (Field object name token)
  unfolding target
  field_target_case object name token f w = field_target_by object name token f w (class_in t s object) refl

  super_target : (name : List ℕ) (token : ℕ) → ExplainsTarget j t s (SuperField name token)
  unfolding target
  super_target name token w = only_bind {m = super_spot t s name token} {f = λ p. give (Some p)} (of_form j t s (SuperField name token) (field.super_only j t s name token)) (λ p u v is. only_give)

  element_target : (array index : Expression) (token : ℕ) → Explains j t s array → Explains j t s index → ExplainsTarget j t s (Element array index token)
  unfolding target
  element_target array index token f h w =
      only_bind {m = elaborated j t s array} {f = λ a. elaborated j t s index >>= λ i. just (element_spot a i token)} (of_operand j t s (Element array index token) array (first_of_two array index) f w)
      (λ a u v is. only_bind {m = elaborated j t s index} {f = λ i. just (element_spot a i token)} (of_operand j t s (Element array index token) index (second_of_two array index) h w)
      (λ i x y it. only_bind {m = element_spot a i token} {f = λ p. give (Some p)} (of_form j t s (Element array index token) (form.element_only j t s g array index token a i (is_found _ _ is) (is_found _ _ it))) (λ p k l m. only_give)))

  no_target_case : (e : Expression) → is_place e ≡ false → ExplainsTarget j t s e
  no_target_case e no_place w = record { at = λ texts x h. let known = no_target j t s e texts no_place in absurd (cc) }

-- ---- array initializers

-- an initializer itself breaks a rule
pub data Bad (j : Judgement) (t : Table) (s : Scope) : Ty → Initial → ℕ → Refusal → Type 0 where
  void : {ty : Ty} {value : Expression} {m : Meaning} {at : ℕ} → IsFound j t s value m → type_of m ≡ Void → Bad j t s ty (Value value) at (refused BadOperand at)
  unfit : {ty : Ty} {value : Expression} {m : Meaning} {at : ℕ} → IsFound j t s value m → (type_of m ≡ Void → ⊥) → (MayAssign t ty m → ⊥) → Bad j t s ty (Value value) at (refused BadAssign at)
  braces : {ty : Ty} {elements : Elements} {brace at : ℕ} → element_of ty ≡ Absent → Bad j t s ty (Listed elements brace) at (refused BadAssign brace)

-- a value in it breaks a rule, or an initializer that stands in it or is it
pub data InInitial (j : Judgement) (t : Table) (s : Scope) (ty : Ty) (i : Initial) (n : ℕ) (x : Refusal) : Type 0 where
  a_value : Among j t s (values_of i) x → InInitial j t s ty i n x
  a_fill : (inner_type : Ty) (inner : Initial) (at : ℕ) → Fills inner_type inner at ty i n → Bad j t s inner_type inner at x → InInitial j t s ty i n x

pub data InElements (j : Judgement) (t : Table) (s : Scope) (ty : Ty) (elements : Elements) (x : Refusal) : Type 0 where
  a_value : Among j t s (values_in elements) x → InElements j t s ty elements x
  a_fill : (inner_type : Ty) (inner : Initial) (at before : ℕ) (first : Initial) → IsAmong before first elements → Fills inner_type inner at ty first before → Bad j t s inner_type inner at x → InElements j t s ty elements x

module _ (j : Judgement) (t : Table) (s : Scope) (g : Settles t j) where
  abbrev pub ExplainsInitial : Initial → Type 0
  ExplainsInitial i = (ty : Ty) (n : ℕ) → AreWhole j t s (values_of i) → Only (InInitial j t s ty i n) (initialized j t s ty i n)

  abbrev pub ExplainsElements : Elements → Type 0
  ExplainsElements elements = (ty : Ty) → AreWhole j t s (values_in elements) → Only (InElements j t s ty elements) (elements_of j t s ty elements)

  value_case : (e : Expression) → Explains j t s e → ExplainsInitial (Value e)
  unfolding initialized
  value_case e f ty n w =
      only_bind {m = elaborated j t s e} {f = λ m. assigned_value j ty m n}
      (only_weaker (λ x b. InInitial.a_value (record { part = e; stands = only_one e; broken = b })) (f (w e (only_one e))))
      (λ m u v is. form.value_only j t s g ty m n (λ h. InInitial.a_fill ty (Value e) n Fills.itself (void (is_found _ _ is) h)) (λ h k. InInitial.a_fill ty (Value e) n Fills.itself (unfit (is_found _ _ is) h k)))

  deeper : (ty inner : Ty) (elements : Elements) (brace n : ℕ) (x : Refusal) → element_of ty ≡ Some inner → InElements j t s inner elements x → InInitial j t s ty (Listed elements brace) n x
  deeper ty inner elements brace n x e (InElements.a_value b) = InInitial.a_value b
  deeper ty inner elements brace n x e (InElements.a_fill it i at before first among fills bad) = InInitial.a_fill it i at (found.deeper e among fills) bad

  listed_case : (elements : Elements) (brace : ℕ) → ExplainsElements elements → ExplainsInitial (Listed elements brace)
  unfolding initialized
  listed_case elements brace f ty n w =
      only_bind {m = or_type (element_of ty) brace} {f = λ inner. elements_of j t s inner elements >>= λ all. give (kernel.NewArray ty kernel.none all.forms all.sites brace)}
      (or_type_only (element_of ty) brace (λ none. InInitial.a_fill ty (Listed elements brace) n Fills.itself (braces none)))
      (λ inner u v is. only_bind {m = elements_of j t s inner elements} {f = λ all. give (kernel.NewArray ty kernel.none all.forms all.sites brace)}
      (only_weaker (λ x b. deeper ty inner elements brace n x (or_type_found (element_of ty) brace u v inner is) b) (f inner w))
      (λ all x y it. only_give))

  none_case : ExplainsElements no_more
  unfolding elements_of
  none_case ty w = only_give

  of_first : (ty : Ty) (before : ℕ) (first : Initial) (rest : Elements) (x : Refusal) → InInitial j t s ty first before x → InElements j t s ty (element before first rest) x
  of_first ty before first rest x (InInitial.a_value b) = InElements.a_value (record { part = b.part; stands = Contains-append_left (values_of first) (values_in rest) b.part b.stands; broken = b.broken })
  of_first ty before first rest x (InInitial.a_fill it i at fills bad) = InElements.a_fill it i at before first found.here fills bad

  of_rest : (ty : Ty) (before : ℕ) (first : Initial) (rest : Elements) (x : Refusal) → InElements j t s ty rest x → InElements j t s ty (element before first rest) x
  of_rest ty before first rest x (InElements.a_value b) = InElements.a_value (record { part = b.part; stands = Contains-append_right (values_of first) (values_in rest) b.part b.stands; broken = b.broken })
  of_rest ty before first rest x (InElements.a_fill it i at k front among fills bad) = InElements.a_fill it i at k front (found.later among) fills bad

  elements_case : (before : ℕ) (first : Initial) (rest : Elements) → ExplainsInitial first → ExplainsElements rest → ExplainsElements (element before first rest)
  unfolding elements_of
  elements_case before first rest f h ty w =
      only_bind {m = initialized j t s ty first before} {f = λ e. elements_of j t s ty rest >>= λ all. give (listing (kernel.more e all.forms) (before ∷ all.sites))}
      (only_weaker (of_first ty before first rest) (f ty before (λ part c. w part (Contains-append_left (values_of first) (values_in rest) part c))))
      (λ e u v is. only_bind {m = elements_of j t s ty rest} {f = λ all. give (listing (kernel.more e all.forms) (before ∷ all.sites))}
      (only_weaker (of_rest ty before first rest) (h ty (λ part c. w part (Contains-append_right (values_of first) (values_in rest) part c))))
      (λ all x y it. only_give))

  -- ---- `new` with elements

  bad_element : (e : Expression) (ty : Ty) (i : Initial) (at : ℕ) (x : Refusal) → way.IsElement t e ty i at → Bad j t s ty i at x → form.Blamed j t s e x
  bad_element e ty _ at _ is (void f v) = way.void_element is f v
  bad_element e ty _ at _ is (unfit f n b) = way.element is f n b
  bad_element e ty _ at _ is (braces n) = way.braces is n

  new_list_by : (base : Base) (at brackets : ℕ) (elements : Elements) (brace token : ℕ) (ty inner : Ty) (x : Refusal) → IsType t base brackets ty → element_of ty ≡ Some inner → InElements j t s inner elements x →
      At j t s (NewList base at brackets elements brace token) x
  new_list_by base at brackets elements brace token ty inner x is e (InElements.a_value b) = by_operand j t s (NewList base at brackets elements brace token) b.part x b.stands b.broken
  new_list_by base at brackets elements brace token ty inner x is e (InElements.a_fill it i n before first among fills bad) =
      by_itself j t s (NewList base at brackets elements brace token) x (bad_element (NewList base at brackets elements brace token) it i n x (way.among is (found.deeper e among fills)) bad)

  new_list_case : (base : Base) (at brackets : ℕ) (elements : Elements) (brace token : ℕ) → ExplainsElements elements → Explains j t s (NewList base at brackets elements brace token)
  unfolding elaborated
  new_list_case base at brackets elements brace token f w =
      let e : Expression = NewList base at brackets elements brace token in
      let made : Ty → Listing → Gets Meaning = λ ty all. give (Formed (kernel.NewArray ty kernel.none all.forms all.sites token) ty) in
      only_bind {m = type_with t base brackets at} {f = λ ty. or_type (element_of ty) brace >>= λ inner. elements_of j t s inner elements >>= λ all. made ty all} (writes_only j t s g e base brackets at way.Writes.filled)
      (λ ty u v is. let ty_is = type_found t base brackets at u v ty is in
      only_bind {m = or_type (element_of ty) brace} {f = λ inner. elements_of j t s inner elements >>= λ all. made ty all}
      (or_type_only (element_of ty) brace (λ none. by_itself j t s e (refused BadAssign brace) (way.braces (way.among ty_is Fills.itself) none)))
      (λ inner u1 v1 is1. only_bind {m = elements_of j t s inner elements} {f = λ all. made ty all}
      (only_weaker (λ x b. new_list_by base at brackets elements brace token ty inner x ty_is (or_type_found (element_of ty) brace u1 v1 inner is1) b) (f inner (λ part c. whole_operand j t s e part w c)))
      (λ all u2 v2 is2. only_give)))

  wrong_case : Explains j t s Wrong
  wrong_case w = absurd (w Within.itself)

  -- ---- all expressions

  mutual
    pub explained : (e : Expression) → Explains j t s e
    explained (Literal value token) = literal_case j t s g value token
    explained (Name name token) = name_case j t s g name token
    explained (This token) = this_case j t s g token
    explained (Group inner token) = group_case j t s g inner token (explained inner)
    explained (Invoke name args token) = invoke_case j t s g name args token (all_explained args)
    explained (Field object name token) = field_case j t s g object name token (explained object)
    explained (InvokeOn object name args token) = invoke_on_case j t s g object name args token (explained object) (all_explained args)
    explained (SuperField name token) = super_field_case j t s g name token
    explained (SuperInvoke name args token) = super_invoke_case j t s g name args token (all_explained args)
    explained (Element array index token) = element_case j t s g array index token (explained array) (explained index)
    explained (NewObject class args token) = new_object_case j t s g class args token (all_explained args)
    explained (NewArray base at sizes brackets token) = new_array_case j t s g base at sizes brackets token (all_explained sizes)
    explained (NewList base at brackets elements brace token) = new_list_case base at brackets elements brace token (elements_explained elements)
    explained (Unary op operand token) = unary_case j t s g op operand token (explained operand)
    explained (Step is_before is_up operand token) = step_case j t s g is_before is_up operand token (explained operand) (target_explained operand)
    explained (Binary op left right token) = binary_case j t s g op left right token (explained left) (explained right)
    explained (Both left right token) = both_case j t s g left right token (explained left) (explained right)
    explained (Either left right token) = either_case j t s g left right token (explained left) (explained right)
    explained (InstanceOf left ty token) = instance_case j t s g left ty token (explained left)
    explained (Cast ty operand token) = cast_case j t s g ty operand token (explained operand)
    explained (Choice test main other token) = choice_case j t s g test main other token (explained test) (explained main) (explained other)
    explained (Assign left value token) = assign_case j t s g left value token (target_explained left) (explained value)
    explained (Update op left value token) = update_case j t s g op left value token (target_explained left) (explained value)
    explained Wrong = wrong_case

    target_explained : (e : Expression) → ExplainsTarget j t s e
    target_explained (Name name token) = name_target j t s g name token
    target_explained (Group inner token) = group_target j t s g inner token (target_explained inner)
    target_explained (Field object name token) = field_target_case j t s g object name token (explained object)
    target_explained (SuperField name token) = super_target j t s g name token
    target_explained (Element array index token) = element_target j t s g array index token (explained array) (explained index)
    target_explained (Literal value token) = no_target_case j t s g (Literal value token) refl
    target_explained (This token) = no_target_case j t s g (This token) refl
    target_explained (Invoke name args token) = no_target_case j t s g (Invoke name args token) refl
    target_explained (InvokeOn object name args token) = no_target_case j t s g (InvokeOn object name args token) refl
    target_explained (SuperInvoke name args token) = no_target_case j t s g (SuperInvoke name args token) refl
    target_explained (NewObject class args token) = no_target_case j t s g (NewObject class args token) refl
    target_explained (NewArray base at sizes brackets token) = no_target_case j t s g (NewArray base at sizes brackets token) refl
    target_explained (NewList base at brackets elements brace token) = no_target_case j t s g (NewList base at brackets elements brace token) refl
    target_explained (Unary op operand token) = no_target_case j t s g (Unary op operand token) refl
    target_explained (Step is_before is_up operand token) = no_target_case j t s g (Step is_before is_up operand token) refl
    target_explained (Binary op left right token) = no_target_case j t s g (Binary op left right token) refl
    target_explained (Both left right token) = no_target_case j t s g (Both left right token) refl
    target_explained (Either left right token) = no_target_case j t s g (Either left right token) refl
    target_explained (InstanceOf left ty token) = no_target_case j t s g (InstanceOf left ty token) refl
    target_explained (Cast ty operand token) = no_target_case j t s g (Cast ty operand token) refl
    target_explained (Choice test main other token) = no_target_case j t s g (Choice test main other token) refl
    target_explained (Assign left value token) = no_target_case j t s g (Assign left value token) refl
    target_explained (Update op left value token) = no_target_case j t s g (Update op left value token) refl
    target_explained Wrong = no_target_case j t s g Wrong refl

    pub all_explained : (r : Row) → ExplainsAll j t s r
    all_explained none = no_args j t s g
    all_explained (more e rest) = more_args j t s g e rest (explained e) (all_explained rest)

    pub initial_explained : (i : Initial) → ExplainsInitial i
    initial_explained (Value e) = value_case e (explained e)
    initial_explained (Listed elements brace) = listed_case elements brace (elements_explained elements)

    elements_explained : (elements : Elements) → ExplainsElements elements
    elements_explained no_more = none_case
    elements_explained (element before first rest) = elements_case before first rest (initial_explained first) (elements_explained rest)

pub due : RefusalsAreDue
due t j g s e texts rule token whole h = (explained j t s g e whole).at texts (refused rule token) h

kept_by : (j : Judgement) (t : Table) (s : Scope) (e : Expression) → ExpressionKeepsRules j t s e → (r : Result (Meaning × List FixedText) Refusal) → ((x : Refusal) → r ≡ Err x → IsBroken j t s e x.rule x.token) → (m : Meaning) × (after : List FixedText) × (r ≡ Ok (m, after))
kept_by j t s e keeps (Ok p) f = (p.0, p.1, refl)
kept_by j t s e keeps (Err x) f = absurd (keeps x.rule x.token (f x refl))

pub enough : RulesAreEnough
enough t j g s e texts whole keeps = kept_by j t s e keeps (elaborated j t s e texts) (λ x h. (explained j t s g e whole).at texts x h)
