-- Where bodies of methods, constructors and fields are refused, something in them breaks the rule.
use Rattle.std.proofs.Common.{◌≡◌, ◌∙◌, ap, sym, subst, refl, ℕ, Bool, true, false, List, [], ◌∷◌, Option, Some, Result, Ok, Err}
use Rattle.std.specs.Prelude.{slice_get, codes, flat_map, ◌++◌}
use Rattle.std.specs.Prelude.{None as Absent}
use Rattle.std.specs.List.{All, Contains}
use Rattle.std.proofs.lemmas.List.Elements.{All-contains, All-head, All-tail}
use Rattle.wy_kernel.specs.Form as kernel
use Rattle.wy_kernel.specs.declared.types.Ty.{Ty}
use Rattle.wy_kernel.specs.Program.{Method}
use Rattle.wy_kernel.specs.Subtyping.{class_type}
use Rattle.wy_syntax.specs.Syntax.{Expression, Row, Initial, Named, WrittenType, Declarator, Statements, Braced, braced, Parameter, OwnCall, Header, ClassSyntax}
use Rattle.wy_syntax.specs.Syntax as source
use Rattle.wy_constant.specs.declared.rule.Rule.{Rule}
use Rattle.wy_constant.specs.declared.rule.Rule.TheVariants as rule
use Rattle.wy_constant.specs.Refusal.{Refusal, refused}
use Rattle.wy_constant.specs.Scope.{Scope}
use Rattle.wy_elab_expr.specs.Meaning as meaning
use Rattle.wy_elab_expr.specs.Meaning.{Meaning, Gets}
use Rattle.wy_elab_expr.specs.Operators.{Settles}
use Rattle.wy_elab_expr.specs.Members.{some_void, types_of, of_choice, method_for, is_outside, brought_all}
use Rattle.wy_elab_expr.specs.Elaboration.{type_written, with_brackets, initialized, elaborated_all}
use Rattle.wy_elab_body.specs.Making.{Making, Makes, give, ◌>>=◌, each, expressed, declaring}
use Rattle.wy_elab_body.specs.Parts.{Outcome, NoValue, ValueOf, constructor_form, constructed_by, constructor_called, constructor_call, none_for_object, object_called}
use Rattle.wy_elab_body.specs.Jumps.{Around, alone, inside}
use Rattle.wy_elab_body.specs.Places.{calls_superclass}
use Rattle.wy_elab_body.specs.declared.place.Role.TheVariants.{ConstructorBody, SuperCall}
use Rattle.wy_elab_body.specs.Statements.{Setting, number, plain, block, statements, joined, row_of}
use Rattle.wy_elab_body.specs.Bodies.{declared_type, parameter, parameters, outcome_of, brace_of, method_block, superclass_of, implied, implied_super_call, implied_fields_call, own_call, no_call, written_super_call, first_calls, constructor_block, implied_constructor_block, own_place, field_number, assigned_first, field_initial, field_initials}
use Rattle.law_refusals.specs.Found as found
use Rattle.law_refusals.specs.Found.{AreFound, IsType, IsNoType, Fills, listed, values_of}
use Rattle.law_refusals.specs.Calls.{HaveValues}
use Rattle.law_refusals.specs.ExpressionLaws.{IsWhole}
use Rattle.law_refusals.proofs.Walk.{Only, only_give, only_refuse, only_if, only_bind, only_weaker}
use Rattle.law_refusals.proofs.Forms.{only_refuse_if}
use Rattle.law_refusals.proofs.Fields.{hidden}
use Rattle.law_refusals.proofs.Invoked.{void_among, values_among, all_never, found_method, Found}
use Rattle.law_refusals.proofs.ExpressionParts.{are_found, type_only, type_found}
use Rattle.law_refusals.proofs.Refused.{Bad, void, unfit, braces, InInitial, all_explained, initial_explained}
use Rattle.law_well_formed.specs.Complete.{IsComplete, AreComplete, HasCompleteInitial, IsCompleteDeclarator, IsCompleteBlock, AreCompleteStatements, HasCompleteCall}
use Rattle.law_refusals.specs.Surroundings.{Leads}
use Rattle.law_refusals.specs.Members.{InParameters, HasBadParameter, Gives, IsBrokenMethod, IsBadConstruction, IsBadObjectCall, HasBadStart, IsBrokenConstructor, InFields, IsFieldGiven, IsFieldFilled, HasBadField}
use Rattle.law_refusals.specs.Members as member
use Rattle.law_refusals.specs.BodyLaws.{MethodRefusalsAreDue, ConstructorRefusalsAreDue, ImpliedRefusalsAreDue, FieldRefusalsAreDue}
use Rattle.law_refusals.proofs.Steps.{OnlyFrom, from_give, from_if, from_bind, from_weaker, from_declaring, bind_expressed, was_expressed, leading}
use Rattle.law_refusals.proofs.Whole.{whole, written_values, all_row}
use Rattle.law_refusals.proofs.BodyParts.{made, after_give}
use Rattle.law_refusals.proofs.Nested.{leading_from, block_explained, row_explained}

-- ---- calls of constructors

module _ (w : Setting) (g : Settles w.table w.judgement) where
  abbrev BadConstruction : Scope → ℕ → Row → ℕ → Refusal → Type 0
  BadConstruction s class args n r = IsBadConstruction w s class args n r.rule r.token

  choice_by : (s : Scope) (class : ℕ) (args : Row) (n : ℕ) (ms : List Meaning) → AreFound w.judgement w.table s args ms → HaveValues ms → (r : Result ℕ Rule) → w.judgement.choice (class_type class) (codes "new") (types_of ms) ≡ r →
      Only (BadConstruction s class args n) (of_choice r n)
  choice_by s class args n ms f values (Ok k) e = only_give
  choice_by s class args n ms f values (Err r) e = only_refuse (member.unchosen f values ((g.refused (class_type class) (codes "new") (types_of ms) r).0 e))

  method_only : (s : Scope) (class : ℕ) (args : Row) (n : ℕ) (ms : List Meaning) → AreFound w.judgement w.table s args ms → Only (BadConstruction s class args n) (method_for w.judgement (class_type class) (codes "new") ms n)
  unfolding method_for
  method_only s class args n ms f =
      only_if {b = some_void ms} {m = meaning.refuse rule.BadOperand n} {n = of_choice (w.judgement.choice (class_type class) (codes "new") (types_of ms)) n}
      (λ h. only_refuse (member.IsBadConstruction.void_argument f (void_among ms h)))
      (λ h. choice_by s class args n ms f (values_among ms h) (w.judgement.choice (class_type class) (codes "new") (types_of ms)) refl)

  row_by : (s : Scope) (class : ℕ) (args : Row) (n k : ℕ) (ms : List Meaning) → AreFound w.judgement w.table s args ms → Found w.judgement (class_type class) (codes "new") ms k → (o : Option Method) → slice_get w.table.methods k ≡ o →
      Only (BadConstruction s class args n) (constructed_by s class k o ms n)
  row_by s class args n k ms f h Absent row =
      let c = (g.chosen (class_type class) (codes "new") (types_of ms) k).0 h.choice in
      let is : slice_get w.table.methods k ≡ Some c.method = c.applicable.0 in
      absurd (cc)
  row_by s class args n k ms f h (Some m) row =
      let made_call : Gets kernel.Expression = meaning.◌>>=◌ (brought_all m.params ms) (λ es. meaning.give (constructor_form class k es n)) in
      only_if {b = is_outside s m.is_private m.class} {m = meaning.refuse rule.Private n} {n = made_call}
      (λ out. only_refuse (member.hidden f (values_among ms h.no_void) ((g.chosen (class_type class) (codes "new") (types_of ms) k).0 h.choice) row (hidden s m.is_private m.class out)))
      (λ inner. only_bind (all_never m.params ms) (λ es u v is. only_give))

  called_only : (s : Scope) (class : ℕ) (args : Row) (n : ℕ) (ms : List Meaning) → AreFound w.judgement w.table s args ms → Only (BadConstruction s class args n) (constructor_called w.judgement w.table class ms n s)
  unfolding constructor_called
  called_only s class args n ms f =
      only_bind {m = method_for w.judgement (class_type class) (codes "new") ms n} {f = λ k. constructed_by s class k (slice_get w.table.methods k) ms n} (method_only s class args n ms f)
      (λ k u v is. row_by s class args n k ms f (found_method w.judgement (class_type class) (codes "new") ms k n u v is) (slice_get w.table.methods k) refl)

  args_whole : (s : Scope) (args : Row) → AreComplete args → (part : Expression) → Contains (listed args) part → IsWhole w.table s part
  args_whole s args h part c = whole w.table s part (All-contains IsComplete (listed args) part (all_row args h) c)

  call_only : (s : Scope) (class : ℕ) (args : Row) (n : ℕ) → AreComplete args → Only (BadConstruction s class args n) (constructor_call w.judgement w.table class args n s)
  unfolding constructor_call
  call_only s class args n h =
      only_bind {m = elaborated_all w.judgement w.table s args} {f = λ ms. constructor_called w.judgement w.table class ms n s}
      (only_weaker (λ r b. member.IsBadConstruction.argument b.stands b.broken) (all_explained w.judgement w.table s g args (args_whole s args h)))
      (λ ms u v are. called_only s class args n ms (are_found w.judgement w.table s args ms u v are))

  some_arguments : (s : Scope) (args : Row) (m : Meaning) (rest : List Meaning) → AreFound w.judgement w.table s args (m ∷ rest) → args ≡ source.none → ⊥
  some_arguments s (source.more e others) m rest f same = cc
  some_arguments s source.none m rest f same = elim f [ ]

  none_by : (s : Scope) (args : Row) (n : ℕ) (ms : List Meaning) → AreFound w.judgement w.table s args ms → Only (λ r. IsBadObjectCall w s args n r.rule r.token) (none_for_object ms n)
  none_by s args n [] f = only_give
  none_by s args n (m ∷ rest) f =
      only_refuse_if (some_void (m ∷ rest)) rule.BadOperand rule.NoMethod (λ h. member.IsBadObjectCall.void_argument f (void_among (m ∷ rest) h)) (λ h. member.some_argument (some_arguments s args m rest f))

  object_only : (s : Scope) (args : Row) (n : ℕ) → AreComplete args → Only (λ r. IsBadObjectCall w s args n r.rule r.token) (object_called w.judgement w.table args n s)
  unfolding object_called
  object_only s args n h =
      only_bind {m = elaborated_all w.judgement w.table s args} {f = λ ms. none_for_object ms n}
      (only_weaker (λ r b. member.IsBadObjectCall.argument b.stands b.broken) (all_explained w.judgement w.table s g args (args_whole s args h)))
      (λ ms u v are. none_by s args n ms (are_found w.judgement w.table s args ms u v are))

  -- ---- what a constructor begins with

  abbrev BadStart : Scope → ℕ → ℕ → Option OwnCall → Refusal → Type 0
  BadStart s c site own r = HasBadStart w s c site own r.rule r.token

  implied_only : (c site : ℕ) (b : Making) → OnlyFrom (BadStart b.scope c site Absent) (implied_super_call w c site) b
  unfolding implied_super_call
  implied_only c site b =
      let call : Makes kernel.Expression = expressed (constructor_called w.judgement w.table (superclass_of w c) [] site) in
      from_if {c = calls_superclass w.table c} {f = call >>= λ e. give (implied w site SuperCall (kernel.Eval e) ∷ [])} {g = give []}
      (λ h. bind_expressed (constructor_called w.judgement w.table (superclass_of w c) [] site) (λ e. give (implied w site SuperCall (kernel.Eval e) ∷ [])) b
      (only_weaker (λ r k. member.HasBadStart.implied h k) (called_only b.scope (superclass_of w c) source.none site [] found.none_found)) (λ e c1 ex. from_give))
      (λ h. from_give)

  own_only : {P : Refusal → Type 0} (c d : ℕ) (call : OwnCall) (b : Making) → AreComplete call.args → ((r : Refusal) → BadConstruction b.scope d call.args call.paren r → P r) → OnlyFrom P (own_call w c d call) b
  unfolding own_call
  own_only c d call b h f =
      bind_expressed (constructor_call w.judgement w.table d call.args call.paren) (λ e. give (plain w call.token true (kernel.Eval e) ∷ [])) b (only_weaker f (call_only b.scope d call.args call.paren h)) (λ e c1 ex. from_give)

  no_call_only : {P : Refusal → Type 0} (call : OwnCall) (b : Making) → AreComplete call.args → ((r : Refusal) → IsBadObjectCall w b.scope call.args call.paren r.rule r.token → P r) → OnlyFrom P (no_call w call) b
  unfolding no_call
  no_call_only call b h f = bind_expressed (object_called w.judgement w.table call.args call.paren) (λ nothing. give []) b (only_weaker f (object_only b.scope call.args call.paren h)) (λ e c1 ex. from_give)

  super_only : (c site : ℕ) (call : OwnCall) (b : Making) → AreComplete call.args → call.is_super ≡ true → OnlyFrom (BadStart b.scope c site (Some call)) (written_super_call w c call) b
  unfolding written_super_call
  super_only c site call b h is_super =
      from_if {c = calls_superclass w.table c} {f = own_call w c (superclass_of w c) call} {g = no_call w call} (λ e. own_only c (superclass_of w c) call b h (λ r k. member.HasBadStart.of_super is_super e k))
      (λ e. no_call_only call b h (λ r k. member.of_object is_super e k))

  start_only : (c : ℕ) (k : ClassSyntax) (site : ℕ) (own : Option OwnCall) (b : Making) → HasCompleteCall own → OnlyFrom (BadStart b.scope c site own) (first_calls w c k site own) b
  unfolding first_calls
  start_only c k site Absent b h = from_bind {f = implied_super_call w c site} {g = λ xs. give (xs ++ implied_fields_call w c k site)} (implied_only c site b) (λ xs c1 is. from_give)
  start_only c k site (Some call) b h =
      let with_super : Makes (List kernel.Statement) = written_super_call w c call >>= λ xs. give (xs ++ implied_fields_call w c k site) in
      from_if {c = call.is_super} {f = with_super} {g = own_call w c c call}
      (λ e. from_bind {f = written_super_call w c call} {g = λ xs. give (xs ++ implied_fields_call w c k site)} (super_only c site call b h e) (λ xs c1 is. from_give))
      (λ e. own_only c c call b h (λ r q. member.of_this e q))

-- ---- types and parameters

record TypeDeclared (w : Setting) (ty : WrittenType) (n : ℕ) (b : Making) (x : Ty) (c : Making) : Type 0 where
  base : Ty
  is_type : IsType w.table ty.base ty.brackets base
  same : with_brackets base n ≡ x
  scope : c.scope ≡ b.scope

given_type : (x y : Ty) (b d : Making) → give x b ≡ Ok (y, d) → x ≡ y
given_type x y b d h =
    let pair : (x, b) ≡ (y, d) = cc in
    ap (λ (z : Ty × Making). z.0) pair

type_declared : (w : Setting) (ty : WrittenType) (n : ℕ) (b : Making) (x : Ty) (c : Making) → declared_type w ty n b ≡ Ok (x, c) → TypeDeclared w ty n b x c
unfolding type_written
type_declared w ty n b x c h =
    let m = made (expressed (λ s. type_written w.table ty)) (λ base. give (with_brackets base n)) b x c h in
    let ex = was_expressed (λ s. type_written w.table ty) b m.value m.between m.first in
    record {
      base = m.value;
      is_type = type_found w.table ty.base ty.brackets ty.token b.texts ex.later m.value ex.found;
      same = given_type (with_brackets m.value n) x m.between c m.second;
      scope = after_give (with_brackets m.value n) x m.between c m.second ∙ ex.same;
    }

type_declared_only : {P : Refusal → Type 0} (w : Setting) (ty : WrittenType) (n : ℕ) (b : Making) → (IsNoType w.table ty.base → P (refused rule.UnknownName ty.token)) → OnlyFrom P (declared_type w ty n) b
unfolding type_written
type_declared_only w ty n b f =
    bind_expressed (λ s. type_written w.table ty) (λ base. give (with_brackets base n)) b (type_only w.table ty.base ty.brackets ty.token f) (λ base c ex. from_give)

module _ (w : Setting) where
  abbrev BadParameter : Scope → List Parameter → Refusal → Type 0
  BadParameter s params r = HasBadParameter w s params r.rule r.token

  parameters_among : (s : Scope) (all rest : List Parameter) (b : Making) → ((there : Scope) (p : Parameter) → InParameters w b.scope rest there p → InParameters w s all there p) → OnlyFrom (BadParameter s all) (parameters w rest) b
  unfolding parameters
  parameters_among s all [] b f = from_give
  parameters_among s all (p ∷ rest) b f =
      from_bind {f = parameter w p} {g = λ k. parameters w rest}
      (from_bind {f = declared_type w p.ty p.brackets} {g = λ ty. declaring p.name ty false} (type_declared_only w p.ty p.brackets b (λ none. member.no_type (f b.scope p member.InParameters.here) none))
      (λ ty c is. let d = type_declared w p.ty p.brackets b ty c is in
      from_declaring p.name ty false c (λ v e. let Q : Scope → Type 0 = λ z. InParameters w s all z p in member.again (subst Q (sym d.scope) (f b.scope p member.InParameters.here)) e)))
      (λ k c is. parameters_among s all rest c (λ there q h. f there q (member.InParameters.later (leading (parameter w p) b k c is) h)))

  parameters_only : (params : List Parameter) (b : Making) → OnlyFrom (BadParameter b.scope params) (parameters w params) b
  parameters_only params b = parameters_among b.scope params params b (λ there p h. h)

-- ---- methods

record OutcomeFound (w : Setting) (result : Option WrittenType) (b : Making) (o : Outcome) (c : Making) : Type 0 where
  gives : Gives w.table result o
  scope : c.scope ≡ b.scope

given_outcome : (x y : Outcome) (b d : Making) → give x b ≡ Ok (y, d) → x ≡ y
given_outcome x y b d h =
    let pair : (x, b) ≡ (y, d) = cc in
    ap (λ (z : Outcome × Making). z.0) pair

outcome_found : (w : Setting) (result : Option WrittenType) (b : Making) (o : Outcome) (c : Making) → outcome_of w result b ≡ Ok (o, c) → OutcomeFound w result b o c
outcome_found w Absent b o c h =
    let Q : Outcome → Type 0 = λ z. Gives w.table Absent z in
    record { gives = subst Q (given_outcome NoValue o b c h) member.nothing; scope = after_give NoValue o b c h }
outcome_found w (Some ty) b o c h =
    let m = made (declared_type w ty 0) (λ t. give (ValueOf t)) b o c h in
    let d = type_declared w ty 0 b m.value m.between m.first in
    let Q : Outcome → Type 0 = λ z. Gives w.table (Some ty) z in
    record {
      gives = subst Q (ap (λ z. ValueOf z) d.same ∙ given_outcome (ValueOf m.value) o m.between c m.second) (member.a_value d.is_type);
      scope = after_give (ValueOf m.value) o m.between c m.second ∙ d.scope;
    }

module _ (w : Setting) (g : Settles w.table w.judgement) where
  outcome_only : {P : Refusal → Type 0} (result : Option WrittenType) (b : Making) → ((ty : WrittenType) → result ≡ Some ty → IsNoType w.table ty.base → P (refused rule.UnknownName ty.token)) → OnlyFrom P (outcome_of w result) b
  outcome_only Absent b f = from_give
  outcome_only (Some ty) b f = from_bind {f = declared_type w ty 0} {g = λ t. give (ValueOf t)} (type_declared_only w ty 0 b (f ty refl)) (λ t c is. from_give)

  bad_result : (s : Scope) (h : Header) (result : Option WrittenType) (b : Braced) (ty : WrittenType) → result ≡ Some ty → IsNoType w.table ty.base → IsBrokenMethod w s h result b rule.UnknownName ty.token
  bad_result s h result b ty e none = let Q : Option WrittenType → Type 0 = λ z. IsBrokenMethod w s h z b rule.UnknownName ty.token in subst Q (sym e) (member.result none)

  method_only_from : (h : Header) (result : Option WrittenType) (x : Braced) (b : Making) → IsCompleteBlock x → OnlyFrom (λ r. IsBrokenMethod w b.scope h result x r.rule r.token) (method_block w h result x) b
  unfolding method_block
  method_only_from h result x b written =
      from_bind {f = outcome_of w result} {g = λ outcome. parameters w h.params >>= λ params. block w (alone (number w (brace_of x)) outcome) x} (outcome_only result b (bad_result b.scope h result x))
      (λ outcome c is. let o = outcome_found w result b outcome c is in
      from_bind {f = parameters w h.params} {g = λ params. block w (alone (number w (brace_of x)) outcome) x}
      (from_weaker (λ r k. let Q : Scope → Type 0 = λ z. HasBadParameter w z h.params r.rule r.token in member.IsBrokenMethod.of_parameter (subst Q o.scope k)) (parameters_only w h.params c))
      (λ params d it. from_weaker (λ r k. member.IsBrokenMethod.of_block o.gives (leading_from (parameters w h.params) b.scope c params d o.scope it) k.stands k.broken) (block_explained w g x (alone (number w (brace_of x)) outcome) d written)))

  constructor_only_from : (c : ℕ) (k : ClassSyntax) (h : Header) (own : Option OwnCall) (brace : ℕ) (parts : Statements) (b : Making) → HasCompleteCall own → AreCompleteStatements parts →
      OnlyFrom (λ r. IsBrokenConstructor w b.scope c k h own brace parts r.rule r.token) (constructor_block w c k h own brace parts) b
  unfolding constructor_block
  constructor_only_from c k h own brace parts b call written =
      let around : Around = inside (alone (number w brace) NoValue) (number w brace) in
      let done : List kernel.Statement → kernel.Statements → Makes kernel.Statement = λ calls xs. give (plain w brace false (kernel.Block (joined calls xs))) in
      from_bind {f = parameters w h.params} {g = λ params. first_calls w c k h.name.token own >>= λ calls. statements w around parts >>= λ xs. done calls xs}
      (from_weaker (λ r q. member.IsBrokenConstructor.of_parameter q) (parameters_only w h.params b))
      (λ params b1 e1. let leads : Leads (parameters w h.params) b.scope b1.scope = leading (parameters w h.params) b params b1 e1 in
      from_bind {f = first_calls w c k h.name.token own} {g = λ calls. statements w around parts >>= λ xs. done calls xs} (from_weaker (λ r q. member.of_start leads q) (start_only w g c k h.name.token own b1 call))
      (λ calls b2 e2. from_bind {f = statements w around parts} {g = λ xs. done calls xs}
      (from_weaker (λ r q. member.IsBrokenConstructor.of_block leads (leading (first_calls w c k h.name.token own) b1 calls b2 e2) q.stands q.broken) (row_explained w g parts around b2 written)) (λ xs b3 e3. from_give)))

  implied_only_from : (c : ℕ) (k : ClassSyntax) (b : Making) → OnlyFrom (λ r. HasBadStart w b.scope c k.name.token Absent r.rule r.token) (implied_constructor_block w c k) b
  unfolding implied_constructor_block
  implied_only_from c k b = from_bind {f = first_calls w c k k.name.token Absent} {g = λ calls. give (implied w k.name.token ConstructorBody (kernel.Block (row_of calls)))} (start_only w g c k k.name.token Absent b tt) (λ calls b1 e1. from_give)

  -- ---- initializers of fields

  abbrev BadField : ℕ → Bool → WrittenType → Scope → List Declarator → Refusal → Type 0
  BadField c is_static ty s all r = HasBadField w c is_static ty s all r.rule r.token

  bad_field : (c : ℕ) (is_static : Bool) (ty : WrittenType) (s : Scope) (all : List Declarator) (there : Scope) (inner : Ty) (i : Initial) (n : ℕ) (r : Refusal) → IsFieldFilled w c is_static ty s all there inner i n → Bad w.judgement w.table there inner i n r →
      BadField c is_static ty s all r
  bad_field c is_static ty s all there inner _ n _ filled (void f v) = member.void_given filled f v
  bad_field c is_static ty s all there inner _ n _ filled (unfit f m b) = member.unfit filled f m b
  bad_field c is_static ty s all there inner _ n _ filled (braces e) = member.braces filled e

  field_refused : (c : ℕ) (is_static : Bool) (ty : WrittenType) (s : Scope) (all : List Declarator) (there : Scope) (d : Declarator) (i : Initial) (base : Ty) (r : Refusal) → IsFieldGiven w c is_static ty s all there d i → IsType w.table ty.base ty.brackets base →
      InInitial w.judgement w.table there (with_brackets base d.brackets) i d.name.token r → BadField c is_static ty s all r
  field_refused c is_static ty s all there d i base r given is (InInitial.a_value b) = member.HasBadField.expression given b.stands b.broken
  field_refused c is_static ty s all there d i base r given is (InInitial.a_fill it inner n fills b) = bad_field c is_static ty s all there it inner n r (member.fills given is fills) b

  field_only : (c : ℕ) (is_static : Bool) (ty : WrittenType) (s : Scope) (all : List Declarator) (d : Declarator) (b : Making) → InFields w c is_static ty s all b.scope d → (o : Option Initial) → d.initial ≡ o → HasCompleteInitial o →
      OnlyFrom (BadField c is_static ty s all) (field_initial w c is_static ty d o) b
  field_only c is_static ty s all d b among Absent e h = from_give
  field_only c is_static ty s all d b among (Some i) e h =
      from_bind {f = declared_type w ty d.brackets} {g = λ t. assigned_first w c is_static t d.name i >>= λ x. give (x ∷ [])}
      (type_declared_only w ty d.brackets b (λ none. member.HasBadField.no_type {there = b.scope} {d = d} {i = i} (record { among = among; given = e }) none))
      (λ t b1 e1. let x = type_declared w ty d.brackets b t b1 e1 in
      let Q : Scope → Type 0 = λ z. InFields w c is_static ty s all z d in
      let given : IsFieldGiven w c is_static ty s all b1.scope d i = record { among = subst Q (sym x.scope) among; given = e } in
      let are_whole : (part : Expression) → Contains (values_of i) part → IsWhole w.table b1.scope part = λ part k. whole w.table b1.scope part (All-contains IsComplete (values_of i) part (written_values i h) k) in
      let R : Ty → Refusal → Type 0 = λ z r. InInitial w.judgement w.table b1.scope z i d.name.token r in
      from_bind {f = assigned_first w c is_static t d.name i} {g = λ y. give (y ∷ [])}
      (bind_expressed (λ s1. initialized w.judgement w.table s1 t i d.name.token) (λ e2. give (plain w d.name.token true (kernel.Eval (kernel.Set (own_place is_static (field_number w c d.name.name) d.name.token) e2 d.name.token)))) b1
      (only_weaker (λ r q. field_refused c is_static ty s all b1.scope d i x.base r given x.is_type (let S : Ty → Type 0 = λ z. R z r in subst S (sym x.same) q)) (initial_explained w.judgement w.table b1.scope g i t d.name.token are_whole))
      (λ e2 b2 ex. from_give)) (λ y b2 e2. from_give))

  fields_among : (c : ℕ) (is_static : Bool) (ty : WrittenType) (s : Scope) (all rest : List Declarator) (b : Making) → All IsCompleteDeclarator rest →
      ((there : Scope) (d : Declarator) → InFields w c is_static ty b.scope rest there d → InFields w c is_static ty s all there d) → OnlyFrom (BadField c is_static ty s all) (each (λ d. field_initial w c is_static ty d d.initial) rest) b
  unfolding each
  fields_among c is_static ty s all [] b h f = from_give
  fields_among c is_static ty s all (d ∷ rest) b h f =
      from_bind {f = field_initial w c is_static ty d d.initial} {g = λ x. each (λ e. field_initial w c is_static ty e e.initial) rest >>= λ xs. give (x ∷ xs)}
      (field_only c is_static ty s all d b (f b.scope d member.InFields.here) d.initial refl (All-head IsCompleteDeclarator d rest h))
      (λ x b1 e1. from_bind {f = each (λ e. field_initial w c is_static ty e e.initial) rest} {g = λ xs. give (x ∷ xs)}
      (fields_among c is_static ty s all rest b1 (All-tail IsCompleteDeclarator d rest h) (λ there e k. f there e (member.InFields.later (leading (field_initial w c is_static ty d d.initial) b x b1 e1) k))) (λ xs b2 e2. from_give))

  fields_only_from : (c : ℕ) (is_static : Bool) (ty : WrittenType) (all : List Declarator) (b : Making) → All IsCompleteDeclarator all → OnlyFrom (BadField c is_static ty b.scope all) (field_initials w c is_static ty all) b
  unfolding field_initials
  fields_only_from c is_static ty all b h =
      from_bind {f = each (λ d. field_initial w c is_static ty d d.initial) all} {g = λ xss. give (flat_map (λ xs. xs) xss)} (fields_among c is_static ty b.scope all all b h (λ there d k. k)) (λ xss c1 e1. from_give)

pub method_due : MethodRefusalsAreDue
method_due w g h result b m rule token written e = (method_only_from w g h result b m written).at (refused rule token) e

pub constructor_due : ConstructorRefusalsAreDue
constructor_due w g c k h own brace parts m rule token call written e = (constructor_only_from w g c k h own brace parts m call written).at (refused rule token) e

pub implied_due : ImpliedRefusalsAreDue
implied_due w g c k m rule token e = (implied_only_from w g c k m).at (refused rule token) e

pub field_due : FieldRefusalsAreDue
field_due w g c is_static ty all m rule token written e = (fields_only_from w g c is_static ty all m written).at (refused rule token) e
