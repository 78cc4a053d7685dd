-- What statements make of the expressions in them has the type that they want.
use Rattle.std.proofs.Common.{◌≡◌, ℕ, true, refl, sym, subst, List, [], ◌∷◌, length, Option, Some, None, inl, inr, if◌then◌else◌}
use Rattle.std.specs.Prelude.{slice_get, codes}
use Rattle.wy_kernel.specs.declared.operator.Primitive.TheVariants as prim
use Rattle.wy_kernel.specs.declared.types.Ty.{Ty}
use Rattle.wy_kernel.specs.declared.types.Ty.TheVariants.{Void, Null, Of}
use Rattle.wy_kernel.specs.Form.{Act, Eval, Print, absent, the}
use Rattle.wy_kernel.specs.Form as kernel
use Rattle.wy_kernel.specs.Program.{Program, Class, Method}
use Rattle.wy_overloads.proofs.Straight.{Straight, straight}
use Rattle.wy_kernel.specs.Builtin.{throwable_class}
use Rattle.wy_kernel.specs.Subtyping.{Below, class_type}
use Rattle.wy_kernel.specs.Table.{Table, ConstantValue}
use Rattle.wy_syntax.specs.Syntax.{Expression, WrittenType, Row, Initial, Named}
use Rattle.wy_syntax.specs.Syntax as source
use Rattle.wy_constant.specs.declared.rule.Rule.TheVariants.{NoMethod, BadOperand, BadReturn, Private}
use Rattle.wy_constant.specs.Scope.{Scope}
use Rattle.wy_elab_expr.specs.Meaning.{Meaning, type_of, Gets, give, refuse, ◌>>=◌, brought, formed}
use Rattle.wy_elab_expr.specs.Operators.{Judgement, is_void, is_boolean, boolean_type, is_assignable}
use Rattle.wy_elab_expr.specs.Members.{this_form, is_outside, brought_all, method_for}
use Rattle.wy_elab_expr.specs.Elaboration.{Printed, print_operand, elaborated, elaborated_all}
use Rattle.wy_elab_body.specs.Parts.{condition, evaluated, print_of, is_output_call, printing, performed, Outcome, NoValue, ValueOf, NoReturn, returned_as, returned, thrown, constructor_form, constructed_by, constructor_called, constructor_call, none_for_object, object_called}
use Rattle.wy_typing.specs.Types.{IsValueType}
use Rattle.wy_typing.specs.Expressions as typing
use Rattle.wy_typing.specs.Expressions.{HasType, Gives, GivesAll, IsMethod}
use Rattle.wy_typing.specs.Statements.{Within, IsResult, Acts}
use Rattle.law_typed.specs.ExpressionsWritten.{IsWritten, AreWritten}
use Rattle.law_typed.specs.ExpressionsTyped.{table_of, Stands, HasItsType}
use Rattle.law_typed.proofs.Operations.{below}
use Rattle.law_typed.proofs.Operating as operating
use Rattle.law_typed.proofs.Calling as calling
use Rattle.law_typed.proofs.Elaborating as rules
use Rattle.law_typed.proofs.Inducting.{expression, arguments, RowFits}
use Rattle.law_typed.proofs.Sequence.{Sound, next, given, none_found, under, so, if_either}
use Rattle.law_typed.specs.StatementsTyped.{result_of, OutcomeFits}

void_below : {A : Type 0} {classes : List Class} {c : ℕ} → Straight classes Void (class_type c) → A
void_below s = elim s [ ]

module _ (p : Program) (constants : List (Option ConstantValue)) (j : Judgement) (locals : List Ty) (s : Scope) (g : Stands p constants j locals s) where
  abbrev T : Table
  T = table_of p constants

  abbrev n : ℕ
  n = length p.fixed_texts

  abbrev Fit : Meaning → Type 0
  Fit = rules.Fit p constants j locals s g

  abbrev AllFit : List Meaning → Type 0
  AllFit = rules.AllFit p constants j locals s g

  abbrev Has : Ty → kernel.Expression → Type 0
  Has ty e = HasType p locals e ty

  -- a body of this program with these locals, and such a result
  abbrev within : Option Ty → Within
  within result = record { program = p; locals = locals; result = result }

  meant : {H : Type 0} {A : Type 0} {Q : A → Type 0} (e : Expression) (f : Meaning → Gets A) → IsWritten e → ((m : Meaning) → Sound n (H × Fit m) Q (f m)) → Sound n H Q (elaborated j T s e >>= f)
  meant e f w h = next Fit (elaborated j T s e) f (under Fit (elaborated j T s e) (λ u. tt) (expression p constants j locals s g e w)) h

  pub condition_sound : {H : Type 0} (e : Expression) (site : ℕ) → IsWritten e → Sound n H (Has boolean_type) (condition j T e site s)
  unfolding condition
  condition_sound e site w =
      meant e (λ m. if is_boolean (type_of m) then brought boolean_type m else refuse BadOperand site) w
      (λ m. if_either (Has boolean_type) (is_boolean (type_of m)) _ _
      (λ f. operating.brought_exact p constants j locals s g prim.Bool m (λ h. (h.1, operating.truth_taken p constants j locals s g m f)))
      (λ f. none_found (Has boolean_type) BadOperand site))

  -- ---- expressions that are statements

  evaluated_sound : {H : Type 0} (result : Option Ty) (e : Expression) → IsWritten e → Sound n H (Acts (within result)) (evaluated j T s e)
  evaluated_sound result e w =
      meant e (λ m. formed m >>= λ form. give (Eval form)) w
      (λ m. next (λ x. HasItsType p locals x (type_of m)) (formed m) (λ x. give (Eval x)) (operating.formed_any p constants j locals s g m (λ h. h.1))
      (λ x. given (Acts (within result)) (Eval x) (λ h. (h.1.0, h.1.1))))

  print_typed : (result : Option Ty) (name : List ℕ) (token : ℕ) (o : Option Printed) → rules.OptionPrinted p constants j locals s g name o → Acts (within result) (print_of name token o)
  print_typed result name token None h = (refl, h)
  print_typed result name token (Some x) h = h

  printing_sound : {H : Type 0} (result : Option Ty) (e : Expression) → IsWritten e → Sound n H (Acts (within result)) (printing j T s e)
  unfolding printing
  printing_sound result (source.InvokeOn object name args token) w =
      next (RowFits p constants j locals s g args) (elaborated_all j T s args) (λ ms. print_operand name ms token >>= λ o. give (print_of name token o))
      (under (RowFits p constants j locals s g args) (elaborated_all j T s args) (λ u. tt) (arguments p constants j locals s g args w.2))
      (λ ms. next (rules.OptionPrinted p constants j locals s g name) (print_operand name ms token) (λ o. give (print_of name token o))
      (under (rules.OptionPrinted p constants j locals s g name) (print_operand name ms token) (λ u. u.1.0) (rules.print_operand_sound p constants j locals s g name ms token))
      (λ o. given (Acts (within result)) (print_of name token o) (λ h. print_typed result name token o h.1)))
  printing_sound result _ w = none_found (Acts (within result)) BadOperand 0

  pub performed_sound : {H : Type 0} (result : Option Ty) (e : Expression) → IsWritten e → Sound n H (Acts (within result)) (performed j T e s)
  unfolding performed
  performed_sound result e w = if_either (Acts (within result)) (is_output_call T s e) _ _ (λ f. printing_sound result e w) (λ f. evaluated_sound result e w)

  -- ---- `return` and `throw`

  -- a value that the body gives back
  abbrev IsBack : Outcome → kernel.Expression → Type 0
  IsBack outcome e = IsResult (within (result_of outcome)) (the e)

  returned_by : {H : Type 0} (outcome : Outcome) (m : Meaning) (token : ℕ) → OutcomeFits outcome → Sound n (H × Fit m) (IsBack outcome) (returned_as j outcome m token)
  returned_by (ValueOf ty) m token v =
      if_either (IsBack (ValueOf ty)) (is_void (type_of m)) _ _ (λ e. none_found (IsBack (ValueOf ty)) BadOperand token)
      (λ e. if_either (IsBack (ValueOf ty)) (is_assignable j ty m) _ _
      (λ f. so (λ x. Gives p locals x ty) (IsBack (ValueOf ty)) (brought ty m) (operating.brought_sound p constants j locals s g ty m (λ h. (h.1, rules.assignable p constants j locals s g ty m f))) (λ h x k. (ty, refl, v, k)))
      (λ f. none_found (IsBack (ValueOf ty)) BadReturn token))
  returned_by NoValue m token v = none_found (IsBack NoValue) BadReturn token
  returned_by NoReturn m token v = none_found (IsBack NoReturn) BadReturn token

  pub returned_sound : {H : Type 0} (outcome : Outcome) (e : Expression) (token : ℕ) → OutcomeFits outcome → IsWritten e → Sound n H (IsBack outcome) (returned j T outcome e token s)
  unfolding returned
  returned_sound outcome e token v w = meant e (λ m. returned_as j outcome m token) w (λ m. returned_by outcome m token v)

  thrown_value : (a : Ty) → Below p.classes a (class_type throwable_class) → IsValueType a
  thrown_value Void h = void_below (straight p.classes (operating.top p constants j locals s g) h)
  thrown_value Null h = tt
  thrown_value (Of b k) h = tt

  pub thrown_sound : {H : Type 0} (e : Expression) (token : ℕ) → IsWritten e → Sound n H (λ x. Gives p locals x (class_type throwable_class)) (thrown j T e token s)
  unfolding thrown
  thrown_sound e token w =
      meant e (λ m. if j.below (type_of m) (class_type throwable_class) then formed m else refuse BadOperand token) w
      (λ m. if_either (λ x. Gives p locals x (class_type throwable_class)) (j.below (type_of m) (class_type throwable_class)) _ _
      (λ f. (let le = below T j g.settled (type_of m) (class_type throwable_class) f in
      so (Has (type_of m)) (λ x. Gives p locals x (class_type throwable_class)) (formed m) (operating.formed_sound p constants j locals s g m (λ h. (h.1, thrown_value (type_of m) le))) (λ h x k. typing.fitting k (inr (tt, le)))))
      (λ f. none_found (λ x. Gives p locals x (class_type throwable_class)) BadOperand token))

  -- ---- calls of constructors by constructors

  this_typed : s.has_this ≡ true → Has (class_type s.class) this_form
  this_typed e = typing.read (typing.local (g.scope.own e))

  -- it has some type, or none
  abbrev pub IsSome : kernel.Expression → Type 0
  IsSome e = (ty : Ty) × Has ty e

  begun_typed : (class k : ℕ) (m : Method) (ms : List Meaning) (es : kernel.Row) (token : ℕ) → Has (class_type s.class) this_form → Below p.classes (class_type s.class) (class_type class) → calling.Constructs p constants j locals s g class k m ms → GivesAll p locals es m.params → IsSome (constructor_form class k es token)
  begun_typed class k m ms es token e le h args =
      let P : ℕ → Type 0 = λ c. Below p.classes (class_type s.class) (class_type c) in
      let Q : ℕ → Type 0 = λ c. IsSome (constructor_form c k es token) in
      subst Q h.own (m.result, typing.begun h.found (inl h.form) (calling.constructor_body p constants j locals s g class k m ms h) (typing.fitting e (inr (tt, subst P (sym h.own) le))) args)

  made_by : {H : Type 0} (class k : ℕ) (o : Option Method) (ms : List Meaning) (token : ℕ) → Has (class_type s.class) this_form → Below p.classes (class_type s.class) (class_type class) → slice_get p.methods k ≡ o →
      Sound n ((H × AllFit ms) × calling.IsFor p constants j locals s g (class_type class) (codes "new") ms k) IsSome (constructed_by s class k o ms token)
  made_by class k None ms token e le is = none_found IsSome NoMethod token
  made_by class k (Some m) ms token e le is =
      if_either IsSome (is_outside s m.is_private m.class) _ _ (λ f. none_found IsSome Private token)
      (λ f. next (λ es. GivesAll p locals es m.params) (brought_all m.params ms) (λ es. give (constructor_form class k es token))
      (under (λ es. GivesAll p locals es m.params) (brought_all m.params ms)
      (λ h. (let c = calling.constructs p constants j locals s g class k m ms is h.1 in record { fit = h.0.1; takes = c.takes; values = c.values })) (calling.arguments_sound p constants j locals s g m.params ms))
      (λ es. given IsSome (constructor_form class k es token) (λ h. begun_typed class k m ms es token e le (calling.constructs p constants j locals s g class k m ms is h.0.1) h.1)))

  -- a call of a constructor of the class itself, or of one above it
  pub constructor_called_sound : {H : Type 0} (class : ℕ) (ms : List Meaning) (token : ℕ) → s.has_this ≡ true → Below p.classes (class_type s.class) (class_type class) → Sound n (H × AllFit ms) IsSome (constructor_called j T class ms token s)
  unfolding constructor_called
  constructor_called_sound class ms token e le =
      next (calling.IsFor p constants j locals s g (class_type class) (codes "new") ms) (method_for j (class_type class) (codes "new") ms token) (λ k. constructed_by s class k (slice_get T.methods k) ms token)
      (calling.method_sound p constants j locals s g (class_type class) (codes "new") ms token)
      (λ k. made_by class k (slice_get p.methods k) ms token (this_typed e) le refl)

  pub constructor_call_sound : {H : Type 0} (class : ℕ) (args : Row) (token : ℕ) → s.has_this ≡ true → Below p.classes (class_type s.class) (class_type class) → AreWritten args → Sound n H IsSome (constructor_call j T class args token s)
  unfolding constructor_call
  constructor_call_sound class args token e le w =
      next (RowFits p constants j locals s g args) (elaborated_all j T s args) (λ ms. constructor_called j T class ms token s)
      (under (RowFits p constants j locals s g args) (elaborated_all j T s args) (λ u. tt) (arguments p constants j locals s g args w))
      (λ ms. under IsSome (constructor_called j T class ms token s) (λ h. (h.0, h.1.0)) (constructor_called_sound class ms token e le))

  none_for : {H : Type 0} (ms : List Meaning) (token : ℕ) → Sound n H (λ u. Unit {0}) (none_for_object ms token)
  none_for [] token = given (λ u. Unit {0}) tt (λ h. tt)
  none_for (m ∷ rest) token = none_found (λ u. Unit {0}) _ token

  pub object_called_sound : {H : Type 0} (args : Row) (token : ℕ) → AreWritten args → Sound n H (λ u. Unit {0}) (object_called j T args token s)
  unfolding object_called
  object_called_sound args token w =
      next (RowFits p constants j locals s g args) (elaborated_all j T s args) (λ ms. none_for_object ms token)
      (under (RowFits p constants j locals s g args) (elaborated_all j T s args) (λ u. tt) (arguments p constants j locals s g args w))
      (λ ms. none_for ms token)
