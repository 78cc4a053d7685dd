-- What breaks a rule in a statement is refused.
use Rattle.std.proofs.Common.{◌≡◌, ◌∙◌, ap, sym, subst, refl, ℕ, true, false, Option, Some}
use Rattle.std.specs.Prelude.{is_some}
use Rattle.std.specs.Prelude.{None as Absent}
use Rattle.wy_kernel.specs.Form as kernel
use Rattle.wy_kernel.specs.declared.types.Ty.{Ty}
use Rattle.wy_kernel.specs.declared.types.Ty.TheVariants.{Void}
use Rattle.wy_kernel.specs.Subtyping.{class_type}
use Rattle.wy_syntax.specs.Syntax.{Expression, Initial, Named, Effects, Statement, Perform, For, Labelled, Break, Continue, Return, Throw}
use Rattle.wy_constant.specs.declared.rule.Rule.TheVariants.{BadOperand}
use Rattle.wy_constant.specs.Scope.{Scope, Variable, denoted, opened}
use Rattle.wy_constant.specs.Fields.{class_named}
use Rattle.wy_elab_expr.specs.Meaning.{Meaning, formed}
use Rattle.wy_elab_expr.specs.Elaboration.{elaborated, initialized}
use Rattle.wy_elab_body.specs.Making.{Makes, declaring}
use Rattle.wy_elab_body.specs.Parts.{caught_class, is_throwable, condition, returned, thrown}
use Rattle.wy_elab_body.specs.Jumps.{Around}
use Rattle.wy_elab_body.specs.Statements.{Setting, for_init, clause, is_declaration, must_be_throwable, is_label, statement}
use Rattle.law_refusals.specs.Surroundings.{InRow, InBlock, within, InClause, HasPart, InClauses, HasClause, Leads, Lists, InDeclarators, declaring_scope, Declares, Begins, Evaluates, Tests}
use Rattle.law_refusals.specs.Surroundings as standing
use Rattle.wy_kernel.specs.Builtin.{throwable_class}
use Rattle.wy_kernel.specs.Subtyping.{Below}
use Rattle.wy_constant.specs.declared.rule.Rule.{Rule}
use Rattle.wy_constant.specs.declared.rule.Rule.TheVariants as rule
use Rattle.wy_elab_expr.specs.Meaning.{type_of, brought}
use Rattle.wy_elab_expr.specs.Operators.{Settles, is_void, is_boolean, is_assignable, boolean_type}
use Rattle.wy_elab_body.specs.Parts.{Outcome, NoValue, ValueOf, NoReturn, returned_as, returns_nothing}
use Rattle.wy_elab_body.specs.Jumps.{break_target, continue_target}
use Rattle.wy_elab_body.specs.Statements.{jumping}
use Rattle.law_refusals.specs.Operands.{MayAssign}
use Rattle.law_refusals.proofs.Exact.{assignments_exact}
use Rattle.law_refusals.proofs.Likewise.{same_type}
use Rattle.law_refusals.specs.Missteps.{IsFoundIn, IsGiven, IsDuplicate, IsUnknownName, IsBadOperand, IsBadAssign, IsBadJump, IsBadReturn, Missteps, IsBrokenIn}
use Rattle.law_refusals.specs.Missteps as misstep
use Rattle.law_refusals.proofs.Never.{Never, never_refuse, never_if, never_then, never_else, never_bind, never_first}
use Rattle.law_refusals.proofs.AcceptedSteps.{class_found, never_written}
use Rattle.law_refusals.proofs.Makes.{NeverIn, in_refuse, in_if, in_first, in_later, in_expressed, past_expressed, in_opened, in_declared}
use Rattle.law_refusals.proofs.Placed.{Refused, in_effects, in_for_update, as_statement, at_test}
use Rattle.law_refusals.proofs.Within.{class_known, at_type, at_again, at_initial, at_clause, at_part}
use Rattle.law_refusals.proofs.Printing.{in_effect}
use Rattle.law_refusals.proofs.Parts.{never_initial}
use Rattle.law_refusals.proofs.AcceptedForms as form
use Rattle.law_refusals.proofs.AcceptedSteps as step
use Rattle.law_refusals.proofs.Breaches as ways
use Rattle.law_refusals.proofs.Breaches.{never_broken}
use Rattle.law_refusals.specs.Laws.{KnowsLibrary}
use Rattle.law_refusals.proofs.Steadies.{clause_from}

module _ (w : Setting) (g : Settles w.table w.judgement) (l : KnowsLibrary w.table) where
  -- ---- conditions, `return` and `throw`

  never_condition : (e : Expression) (token : ℕ) (s : Scope) → Never (elaborated w.judgement w.table s e) → Never (condition w.judgement w.table e token s)
  unfolding condition
  never_condition e token s n = never_first _ n

  not_boolean : (e : Expression) (token : ℕ) (s : Scope) (m : Meaning) → IsFoundIn w s e m → (type_of m ≡ boolean_type → ⊥) → Never (condition w.judgement w.table e token s)
  unfolding condition
  not_boolean e token s m f wrong =
      step.by_operand w.judgement w.table s _ f
      (λ n h. never_else (is_boolean (type_of n)) (brought boolean_type n) (form.not_boolean (type_of n) (ways.not_so w.judgement w.table g l s (λ z. z ≡ boolean_type) h wrong)) never_refuse)

  never_returned_so : (o : Outcome) (e : Expression) (token : ℕ) (s : Scope) → ((m : Meaning) → Never (returned_as w.judgement o m token)) → Never (returned w.judgement w.table o e token s)
  unfolding returned
  never_returned_so o e token s n = never_bind (elaborated w.judgement w.table s e) (λ m. returned_as w.judgement o m token) (λ m u v is. n m)

  never_returned_void : (ty : Ty) (e : Expression) (token : ℕ) (s : Scope) (m : Meaning) → IsFoundIn w s e m → type_of m ≡ Void → Never (returned w.judgement w.table (ValueOf ty) e token s)
  unfolding returned
  never_returned_void ty e token s m f v =
      step.by_operand w.judgement w.table s (λ n. returned_as w.judgement (ValueOf ty) n token) f (λ n h. never_then (is_void (type_of n)) _ (form.void_true n (sym (same_type h) ∙ v)) never_refuse)

  never_returned_unfit : (ty : Ty) (e : Expression) (token : ℕ) (s : Scope) (m : Meaning) → IsFoundIn w s e m → (type_of m ≡ Void → ⊥) → (MayAssign w.table ty m → ⊥) → Never (returned w.judgement w.table (ValueOf ty) e token s)
  unfolding returned
  never_returned_unfit ty e token s m f valued wrong =
      step.by_operand w.judgement w.table s (λ n. returned_as w.judgement (ValueOf ty) n token) f
      (λ n h. never_if {b = is_void (type_of n)} (λ k. never_refuse)
      (λ k. never_else (is_assignable w.judgement ty n) (brought ty n)
      (form.false_by (is_assignable w.judgement ty n) (λ i. wrong (ways.may_too w.judgement w.table g l s h ((assignments_exact w.table w.judgement g ty n (λ x. valued (same_type h ∙ x))).0 i)))) never_refuse))

  never_returned_broken : (o : Outcome) (e : Expression) (token : ℕ) (s : Scope) → Never (elaborated w.judgement w.table s e) → Never (returned w.judgement w.table o e token s)
  unfolding returned
  never_returned_broken o e token s n = never_first (λ m. returned_as w.judgement o m token) n

  never_thrown_broken : (e : Expression) (token : ℕ) (s : Scope) → Never (elaborated w.judgement w.table s e) → Never (thrown w.judgement w.table e token s)
  unfolding thrown
  never_thrown_broken e token s n = never_first _ n

  never_thrown : (e : Expression) (token : ℕ) (s : Scope) (m : Meaning) → IsFoundIn w s e m → (Below w.table.classes (type_of m) (class_type throwable_class) → ⊥) → Never (thrown w.judgement w.table e token s)
  unfolding thrown
  never_thrown e token s m f wrong =
      step.by_operand w.judgement w.table s _ f
      (λ n h. never_else (w.judgement.below (type_of n) (class_type throwable_class)) (formed n)
      (form.false_by (w.judgement.below (type_of n) (class_type throwable_class)) (λ i. wrong (subst (λ (z : Ty). Below w.table.classes z (class_type throwable_class)) (sym (same_type h)) ((g.below (type_of n) (class_type throwable_class)).0 i)))) never_refuse)

  module _ (a : Around) (s : Scope) where
    in_returned : (e : Expression) (token : ℕ) → Never (returned w.judgement w.table a.outcome e token s) → Refused w a s (Return (Some e) token)
    unfolding is_declaration statement
    in_returned e token n = as_statement w a s (Return (Some e) token) refl (in_first _ (in_expressed (returned w.judgement w.table a.outcome e token) n))

    returned_by : (e : Expression) (token : ℕ) (o : Outcome) → a.outcome ≡ o → Never (returned w.judgement w.table o e token s) → Refused w a s (Return (Some e) token)
    returned_by e token o same n = in_returned e token (let P : Outcome → Type 0 = λ z. Never (returned w.judgement w.table z e token s) in subst P (sym same) n)

    in_returned_nothing : (token : ℕ) → returns_nothing a.outcome ≡ false → Refused w a s (Return Absent token)
    unfolding is_declaration statement
    in_returned_nothing token e = as_statement w a s (Return Absent token) refl (in_if {x = returns_nothing a.outcome} (λ h. absurd (cc)) (λ h. in_refuse))

    in_thrown : (e : Expression) (token : ℕ) → Never (thrown w.judgement w.table e token s) → Refused w a s (Throw e token)
    unfolding is_declaration statement
    in_thrown e token n = as_statement w a s (Throw e token) refl (in_first _ (in_expressed (thrown w.judgement w.table e token) n))

    in_jumping : (o : Option ℕ) (token : ℕ) → o ≡ Absent → NeverIn s (jumping w o token)
    in_jumping (Some n) token e = absurd (cc)
    in_jumping Absent token e = in_refuse

    -- ---- expressions

    evaluated_in : {x : Statement} {there : Scope} {e : Expression} → Evaluates w a s x there e → Never (elaborated w.judgement w.table there e) → Refused w a s x
    unfolding is_declaration statement for_init
    evaluated_in (standing.test_if {test = test} {main = main} {other = other} {token = token}) n = at_test w a s (standing.of_if {test = test} {main = main} {other = other} {token = token}) (never_condition test token s n)
    evaluated_in (standing.test_while {test = test} {body = body} {token = token}) n = at_test w a s (standing.Tests.of_while {test = test} {body = body} {token = token}) (never_condition test token s n)
    evaluated_in (standing.test_do {test = test} {body = body} {token = token} {there = there} leads) n = at_test w a s (standing.Tests.of_do {test = test} {body = body} {token = token} {there = there} leads) (never_condition test token there n)
    evaluated_in (standing.test_for {init = init} {test = test} {updates = updates} {body = body} {token = token} {there = there} leads) n = at_test w a s (standing.Tests.of_for {init = init} {test = test} {updates = updates} {body = body} {token = token} {there = there} leads) (never_condition test token there n)
    evaluated_in (standing.begin_for {all = all} {test = test} {updates = updates} {body = body} {token = token} {e = e} h) n =
        as_statement w a s (For (Effects all) test updates body token) refl (in_opened _ (in_first _ (in_effects w (opened s) all e h n)))
    evaluated_in (standing.update_for {init = init} {test = test} {updates = updates} {body = body} {token = token} {there = there} {e = e} leads h) n = in_for_update w a s init test updates body token there e leads h n
    evaluated_in (standing.effect {e = e}) n = as_statement w a s (Perform e) refl (in_effect w s e n)
    evaluated_in (standing.returned {value = value} {token = token}) n = in_returned value token (never_returned_broken a.outcome value token s n)
    evaluated_in (standing.thrown {value = value} {token = token}) n = in_thrown value token (never_thrown_broken value token s n)
    evaluated_in (standing.initial {ty = ty} {there = there} {d = d} {i = i} {e = e} begins h) n = at_initial w a s begins (never_initial w.judgement w.table l there e i h n ty d.name.token)

    -- ---- missteps

    at_given : {x : Statement} {there : Scope} {ty : Ty} {i : Initial} {token : ℕ} → IsGiven w s x there ty i token → Never (initialized w.judgement w.table there ty i token) → Refused w a s x
    at_given {there = there} (misstep.first begins fills) n = at_initial w a s begins (step.never_filled w.judgement w.table there fills n)

    clause_again : (there : Scope) (class name : Named) (f : Makes kernel.Statement) (v : Variable) → denoted there name.name ≡ Some v → NeverIn there (clause w class name f)
    unfolding clause
    clause_again there class name f v e =
        in_opened _ (past_expressed (caught_class w.judgement w.table class name.token) _ (λ c x y is. in_first _ (in_declared name (class_type c) false v e)))

    clause_unknown : (there : Scope) (class name : Named) (f : Makes kernel.Statement) → class_named w.table.classes class.name ≡ Absent → NeverIn there (clause w class name f)
    unfolding clause caught_class
    clause_unknown there class name f e = in_opened _ (in_first _ (in_expressed (caught_class w.judgement w.table class name.token) (step.never_class (class_named w.table.classes class.name) class.token e)))

    no_throwable : (c site : ℕ) (there : Scope) → (Below w.table.classes (class_type c) (class_type throwable_class) → ⊥) → NeverIn there (must_be_throwable w c site)
    no_throwable c site there wrong = in_if {x = is_throwable w.judgement c} (λ h. absurd (wrong ((g.below (class_type c) (class_type throwable_class)).0 h))) (λ h. in_refuse)

    no_throwable_from : (begin : Scope) (name : Named) (c : ℕ) (f : Makes kernel.Statement) → (Below w.table.classes (class_type c) (class_type throwable_class) → ⊥) → NeverIn begin (clause_from w name f c)
    unfolding clause_from
    no_throwable_from begin name c f wrong = in_later (declaring name (class_type c) false) _ (λ k p q same is. in_first _ (no_throwable c name.token q.scope wrong))

    clause_no_throwable : (there : Scope) (class name : Named) (c : ℕ) (f : Makes kernel.Statement) → class_named w.table.classes class.name ≡ Some c → (Below w.table.classes (class_type c) (class_type throwable_class) → ⊥) →
        NeverIn there (clause w class name f)
    clause_no_throwable there class name c f e wrong = class_known w a s class name c f e (no_throwable_from (opened there) name c f wrong)

    misstep_in : (x : Statement) (r : Rule) (token : ℕ) → Missteps w a s x r token → Refused w a s x
    unfolding is_declaration statement
    misstep_in _ rule.Duplicate token (misstep.again_local h e) = at_again w a s h e
    misstep_in _ rule.Duplicate token (misstep.again_caught {there = there} {class = class} {name = name} {v = v} h e) = at_clause w a s h (λ f. clause_again there class name f v e)
    misstep_in _ rule.Duplicate token (misstep.again_label {name = name} {body = body} {l = label} e) =
        as_statement w a s (Labelled name body) refl (in_if {x = is_label a name.name} (λ h. in_refuse) (λ h. (let some : is_label a name.name ≡ true = ap is_some e in absurd (cc))))
    misstep_in _ rule.UnknownName token (misstep.of_type lists none) = at_type w a s lists none
    misstep_in _ rule.UnknownName token (misstep.of_clause {there = there} {class = class} {name = name} h e) = at_clause w a s h (λ f. clause_unknown there class name f e)
    misstep_in _ rule.BadOperand token (misstep.condition {there = there} {e = e} {m = m} tests f wrong) = at_test w a s tests (not_boolean e token there m f wrong)
    misstep_in _ rule.BadOperand token (misstep.void_given {there = there} {ty = ty} {e = e} {m = m} is_given f v) =
        at_given is_given (ways.of_value w.judgement w.table g l there ty e token m f (λ n h. form.never_value_of_void w.judgement w.table g ty n token (sym (same_type h) ∙ v)))
    misstep_in _ rule.BadOperand token (misstep.void_returned {ty = ty} {e = e} {m = m} outcome f v) = returned_by e token (ValueOf ty) outcome (never_returned_void ty e token s m f v)
    misstep_in _ rule.BadOperand token (misstep.IsBadOperand.thrown {e = e} {m = m} f wrong) = in_thrown e token (never_thrown e token s m f wrong)
    misstep_in _ rule.BadOperand token (misstep.caught {there = there} {class = class} {name = name} {c = c} h e wrong) = at_clause w a s h (λ f. clause_no_throwable there class name c f e wrong)
    misstep_in _ rule.BadAssign token (misstep.value {there = there} {ty = ty} {e = e} {m = m} is_given f valued wrong) =
        at_given is_given (ways.of_value w.judgement w.table g l there ty e token m f
        (λ n h. form.never_value w.judgement w.table g ty n token (λ x. valued (same_type h ∙ x)) (λ may. wrong (ways.may_too w.judgement w.table g l there h may))))
    misstep_in _ rule.BadAssign token (misstep.braces {there = there} {ty = ty} {elements = elements} {brace = brace} {token = at} is_given e) = at_given is_given (ways.of_braces w.judgement w.table g l there ty elements brace at e)
    misstep_in _ rule.BadJump token (misstep.no_break {label = label} e) = as_statement w a s (Break label token) refl (in_jumping (break_target a label) token e)
    misstep_in _ rule.BadJump token (misstep.no_continue {label = label} e) = as_statement w a s (Continue label token) refl (in_jumping (continue_target a label) token e)
    misstep_in _ rule.BadReturn token (misstep.in_initializer {value = Absent} e) = in_returned_nothing token (ap returns_nothing e)
    misstep_in _ rule.BadReturn token (misstep.in_initializer {value = Some v} e) = returned_by v token NoReturn e (never_returned_so NoReturn v token s (λ m. never_refuse))
    misstep_in _ rule.BadReturn token (misstep.no_value e) = in_returned_nothing token (ap returns_nothing e)
    misstep_in _ rule.BadReturn token (misstep.a_value {e = v} e) = returned_by v token NoValue e (never_returned_so NoValue v token s (λ m. never_refuse))
    misstep_in _ rule.BadReturn token (misstep.unfit {ty = ty} {e = v} {m = m} e f valued wrong) = returned_by v token (ValueOf ty) e (never_returned_unfit ty v token s m f valued wrong)
    misstep_in x _ token h = absurd h

  pub broken_in : {a : Around} {s : Scope} {x : Statement} {r : Rule} {token : ℕ} → IsBrokenIn w a s x r token → Refused w a s x
  broken_in {a = a} {s = s} {r = r} {token = token} (misstep.itself {x = x} h) = misstep_in a s x r token h
  broken_in {r = r} {token = token} (misstep.IsBrokenIn.expression {a = a} {s = s} {there = there} {e = e} h b) = evaluated_in a s h (never_broken w.judgement w.table g l there e r token b)
  broken_in (misstep.IsBrokenIn.part {a = a} {s = s} h b) = at_part w a s h (broken_in b)
