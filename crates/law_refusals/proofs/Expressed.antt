-- Where what a statement makes of its expressions is refused, an expression breaks the rule, or the statement does.
use Rattle.std.proofs.Common.{◌≡◌, refl, ℕ, true, Option, Some}
use Rattle.std.specs.Prelude.{if◌then◌else◌}
use Rattle.std.specs.Prelude.{None as Absent}
use Rattle.wy_kernel.specs.Form as kernel
use Rattle.wy_kernel.specs.declared.types.Ty.{Ty}
use Rattle.wy_kernel.specs.declared.types.Ty.TheVariants.{Void}
use Rattle.wy_kernel.specs.Builtin.{throwable_class}
use Rattle.wy_kernel.specs.Subtyping.{Below, class_type}
use Rattle.wy_kernel.specs.Table.{Table}
use Rattle.wy_syntax.specs.Syntax.{Expression, InvokeOn}
use Rattle.wy_constant.specs.declared.rule.Rule.TheVariants.{BadOperand, BadReturn}
use Rattle.wy_constant.specs.Refusal.{Refusal, refused}
use Rattle.wy_constant.specs.Scope.{Scope}
use Rattle.wy_elab_expr.specs.Meaning.{Meaning, type_of, give, refuse, ◌>>=◌, brought, formed}
use Rattle.wy_elab_expr.specs.Operators.{Judgement, Settles, is_void, is_boolean, boolean_type, is_assignable}
use Rattle.wy_elab_expr.specs.Elaboration.{Stream, Input, Output, stream_in, print_operand, elaborated, elaborated_all}
use Rattle.wy_elab_body.specs.Parts.{condition, evaluated, is_output, is_output_call, printing, print_of, performed, Outcome, NoValue, ValueOf, NoReturn, returned_as, returned, thrown}
use Rattle.law_refusals.specs.Operands.{MayAssign}
use Rattle.law_refusals.specs.Found.{IsFound}
use Rattle.law_refusals.specs.ExpressionLaws.{IsBroken}
use Rattle.law_refusals.proofs.Walk.{Only, only_give, only_refuse, only_if, only_bind, only_brought, only_formed, only_weaker}
use Rattle.law_refusals.proofs.Tests.{not_boolean, void_is, not_void}
use Rattle.law_refusals.proofs.Taken.{assign_true}
use Rattle.law_refusals.proofs.Created.{operand_only}
use Rattle.law_refusals.proofs.ExpressionParts.{At, of_form, of_row, is_found, are_found, argument_operand}
use Rattle.law_refusals.proofs.Refused.{explained, all_explained}
use Rattle.law_well_formed.specs.Complete.{IsComplete}
use Rattle.law_refusals.proofs.Whole.{whole}

module _ (j : Judgement) (t : Table) (g : Settles t j) where
  -- an expression, for what stands around it
  pub expression_only : {P : Refusal → Type 0} (s : Scope) (e : Expression) → IsComplete e → ((r : Refusal) → IsBroken j t s e r.rule r.token → P r) → Only P (elaborated j t s e)
  expression_only s e h f = only_weaker f (explained j t s g e (whole t s e h))

  pub condition_only : {P : Refusal → Type 0} (s : Scope) (e : Expression) (site : ℕ) → IsComplete e → ((r : Refusal) → IsBroken j t s e r.rule r.token → P r) →
      ((m : Meaning) → IsFound j t s e m → (type_of m ≡ boolean_type → ⊥) → P (refused BadOperand site)) → Only P (condition j t e site s)
  unfolding condition
  condition_only s e site h f k =
      only_bind {m = elaborated j t s e} {f = λ m. if is_boolean (type_of m) then brought boolean_type m else refuse BadOperand site} (expression_only s e h f)
      (λ m u v is. only_if {b = is_boolean (type_of m)} {m = brought boolean_type m} {n = refuse BadOperand site} (λ b. only_brought boolean_type m)
      (λ b. only_refuse (k m (is_found u v is) (not_boolean (type_of m) b))))

  -- ---- expressions that are statements

  evaluated_only : (s : Scope) (e : Expression) → IsComplete e → Only (At j t s e) (evaluated j t s e)
  evaluated_only s e h =
      only_bind {m = elaborated j t s e} {f = λ m. formed m >>= λ form. give (kernel.Eval form)} (explained j t s g e (whole t s e h))
      (λ m u v is. only_bind {m = formed m} {f = λ form. give (kernel.Eval form)} (only_formed m) (λ x y z it. only_give))

  output_is : (o : Option Stream) → is_output o ≡ true → o ≡ Some Output
  output_is (Some Output) e = refl
  output_is (Some Input) e = absurd (cc)
  output_is Absent e = absurd (cc)

  printing_only : (s : Scope) (e : Expression) → IsComplete e → is_output_call t s e ≡ true → Only (At j t s e) (printing j t s e)
  unfolding is_output_call printing
  printing_only s (InvokeOn object name args token) h e =
      let call : Expression = InvokeOn object name args token in
      only_bind {m = elaborated_all j t s args} {f = λ ms. print_operand name ms token >>= λ p. give (print_of name token p)}
      (of_row j t s call args (argument_operand t s object name args token) (all_explained j t s g args) (whole t s call h))
      (λ ms u v are. only_bind {m = print_operand name ms token} {f = λ p. give (print_of name token p)}
      (of_form j t s call (operand_only j t s g object name token (output_is (stream_in t s object) e) ms args (are_found j t s args ms u v are))) (λ p x y it. only_give))
  printing_only s _ h e = absurd (cc)

  pub performed_only : (s : Scope) (e : Expression) → IsComplete e → Only (At j t s e) (performed j t e s)
  unfolding performed
  performed_only s e h = only_if {b = is_output_call t s e} {m = printing j t s e} {n = evaluated j t s e} (λ p. printing_only s e h p) (λ p. evaluated_only s e h)

  -- ---- `return` and `throw`

  returned_by : {P : Refusal → Type 0} (s : Scope) (e : Expression) (token : ℕ) (m : Meaning) → (o : Outcome) → (o ≡ NoValue → P (refused BadReturn token)) → (o ≡ NoReturn → P (refused BadReturn token)) →
      ((ty : Ty) → o ≡ ValueOf ty → type_of m ≡ Void → P (refused BadOperand token)) → ((ty : Ty) → o ≡ ValueOf ty → (type_of m ≡ Void → ⊥) → (MayAssign t ty m → ⊥) → P (refused BadReturn token)) →
      Only P (returned_as j o m token)
  returned_by s e token m NoValue none never void unfit = only_refuse (none refl)
  returned_by s e token m NoReturn none never void unfit = only_refuse (never refl)
  returned_by s e token m (ValueOf ty) none never void unfit =
      only_if {b = is_void (type_of m)} {m = refuse BadOperand token} {n = if is_assignable j ty m then brought ty m else refuse BadReturn token}
      (λ h. only_refuse (void ty refl (void_is (type_of m) h)))
      (λ valued. only_if {b = is_assignable j ty m} {m = brought ty m} {n = refuse BadReturn token} (λ h. only_brought ty m)
      (λ h. only_refuse (unfit ty refl (not_void (type_of m) valued) (λ may. let f : is_assignable j ty m ≡ true = assign_true j t g (not_void (type_of m) valued) may in cc))))

  pub returned_only : {P : Refusal → Type 0} (s : Scope) (e : Expression) (token : ℕ) (o : Outcome) → IsComplete e → ((r : Refusal) → IsBroken j t s e r.rule r.token → P r) → (o ≡ NoValue → P (refused BadReturn token)) → (o ≡ NoReturn → P (refused BadReturn token)) →
      ((ty : Ty) (m : Meaning) → o ≡ ValueOf ty → IsFound j t s e m → type_of m ≡ Void → P (refused BadOperand token)) →
      ((ty : Ty) (m : Meaning) → o ≡ ValueOf ty → IsFound j t s e m → (type_of m ≡ Void → ⊥) → (MayAssign t ty m → ⊥) → P (refused BadReturn token)) → Only P (returned j t o e token s)
  unfolding returned
  returned_only s e token o h f none never void unfit =
      only_bind {m = elaborated j t s e} {f = λ m. returned_as j o m token} (expression_only s e h f)
      (λ m u v is. returned_by s e token m o none never (λ ty k. void ty m k (is_found u v is)) (λ ty k. unfit ty m k (is_found u v is)))

  pub thrown_only : {P : Refusal → Type 0} (s : Scope) (e : Expression) (token : ℕ) → IsComplete e → ((r : Refusal) → IsBroken j t s e r.rule r.token → P r) →
      ((m : Meaning) → IsFound j t s e m → (Below t.classes (type_of m) (class_type throwable_class) → ⊥) → P (refused BadOperand token)) → Only P (thrown j t e token s)
  unfolding thrown
  thrown_only s e token h f k =
      only_bind {m = elaborated j t s e} {f = λ m. if j.below (type_of m) (class_type throwable_class) then formed m else refuse BadOperand token} (expression_only s e h f)
      (λ m u v is. only_if {b = j.below (type_of m) (class_type throwable_class)} {m = formed m} {n = refuse BadOperand token} (λ b. only_formed m)
      (λ b. only_refuse (k m (is_found u v is) (λ below. let yes_it : j.below (type_of m) (class_type throwable_class) ≡ true = (g.below (type_of m) (class_type throwable_class)).1 below in cc))))
