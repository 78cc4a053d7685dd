-- What breaks a rule in a method, a constructor or an initializer is refused.
use Rattle.std.proofs.Common.{◌≡◌, ◌∙◌, ap, sym, subst, refl, ℕ, Bool, true, false, List, [], ◌∷◌, Ok, Option, Some}
use Rattle.std.specs.Prelude.{None as Absent, codes, slice_get}
use Rattle.wy_kernel.specs.declared.types.Ty.{Ty}
use Rattle.wy_kernel.specs.Subtyping.{class_type}
use Rattle.wy_kernel.specs.Table.{Table}
use Rattle.wy_syntax.specs.Syntax.{Row, Initial, Named, WrittenType, Declarator, Braced, Statements, Parameter, OwnCall, Header, ClassSyntax}
use Rattle.wy_syntax.specs.Syntax as source
use Rattle.wy_constant.specs.Scope.{Scope, FixedText}
use Rattle.wy_elab_expr.specs.Meaning.{Meaning}
use Rattle.wy_elab_expr.specs.Members.{types_of, some_void, method_for, is_outside}
use Rattle.wy_elab_expr.specs.Elaboration.{type_written, with_brackets, initialized}
use Rattle.wy_elab_body.specs.Making.{Making, Makes, give, ◌>>=◌, expressed, declaring, each}
use Rattle.wy_elab_body.specs.Jumps.{Around, inside, alone}
use Rattle.wy_elab_body.specs.Statements.{Setting, number, block}
use Rattle.law_refusals.specs.Found.{IsType, IsNoType, AreFound}
use Rattle.law_refusals.proofs.ExpressionParts.{type_found}
use Rattle.law_refusals.specs.Found as found
use Rattle.law_refusals.proofs.Steps.{was_expressed}
use Rattle.law_refusals.proofs.BodyParts.{after_give, after_expressed}
use Rattle.wy_kernel.specs.Program.{Method}
use Rattle.wy_constant.specs.declared.rule.Rule.{Rule}
use Rattle.wy_overloads.specs.Choice.{Chosen, Refused as Declined, IsMethod}
use Rattle.wy_elab_expr.specs.Operators.{Settles}
use Rattle.wy_elab_body.specs.Places.{calls_superclass}
use Rattle.wy_elab_body.specs.Parts.{Outcome, NoValue, ValueOf, constructed_by, constructor_called, constructor_call, none_for_object, object_called}
use Rattle.wy_elab_body.specs.Bodies.{declared_type, parameter, parameters, outcome_of, brace_of, method_block, superclass_of, implied_super_call, own_call, no_call, written_super_call, first_calls, constructor_block, implied_constructor_block, assigned_first, field_initial, field_initials}
use Rattle.law_refusals.specs.Calls.{IsHidden}
use Rattle.law_refusals.proofs.Contained.{contains_none}
use Rattle.law_refusals.proofs.Likewise.{same_type}
use Rattle.law_refusals.specs.Members.{InParameters, HasBadParameter, Gives, IsBrokenMethod, IsBadConstruction, IsBadObjectCall, HasBadStart, IsBrokenConstructor, InFields, IsFieldGiven, IsFieldFilled, HasBadField, IsBrokenBlock}
use Rattle.law_refusals.specs.Members as member
use Rattle.law_refusals.proofs.Never.{Never, never_refuse, never_then, never_bind, never_first}
use Rattle.law_refusals.proofs.AcceptedSteps.{type_once, never_written}
use Rattle.law_refusals.proofs.Makes.{Any, made, NeverIn, in_if, in_first, in_bind, in_later, in_expressed, in_declared, steady_declaring, Steady, any, steady_bind, steady_give, steady_expressed, steady_if, steady_each}
use Rattle.law_refusals.proofs.Placed.{in_kept}
use Rattle.law_refusals.proofs.Within.{in_row, in_block_part}
use Rattle.law_refusals.proofs.Statements.{broken_in}
use Rattle.law_refusals.proofs.Parts.{never_initial, never_row}
use Rattle.law_refusals.proofs.AcceptedForms as form
use Rattle.law_refusals.proofs.Methods as method
use Rattle.law_refusals.proofs.AcceptedSteps as step
use Rattle.law_refusals.proofs.Breaches as ways
use Rattle.law_refusals.proofs.Called as called
use Rattle.law_refusals.proofs.Breaches.{never_broken}
use Rattle.law_refusals.specs.Laws.{KnowsLibrary, AcceptedMethodsAreUnbroken, AcceptedConstructorsAreUnbroken, AcceptedImpliedAreUnbroken, AcceptedFieldsAreUnbroken}
use Rattle.law_refusals.proofs.Steadies as steady

given_outcome : (a b : Outcome) (m n : Making) → give a m ≡ Ok (b, n) → a ≡ b
given_outcome a b m n e = let p : ◌≡◌ {A = Outcome × Making} (a, m) (b, n) = cc in ap (λ (z : Outcome × Making). z.0) p

given_type : (a b : Ty) (m n : Making) → give a m ≡ Ok (b, n) → a ≡ b
given_type a b m n e = let p : ◌≡◌ {A = Ty × Making} (a, m) (b, n) = cc in ap (λ (z : Ty × Making). z.0) p

type_of_written : {t : Table} (ty : WrittenType) (a : Ty) (u v : List FixedText) → type_written t ty u ≡ Ok (a, v) → IsType t ty.base ty.brackets a
unfolding type_written
type_of_written {t} ty a u v e = type_found t ty.base ty.brackets ty.token u v a e

-- a written type that is one names no class that is none
names_some : {t : Table} {b : source.Base} {n : ℕ} {a : Ty} → IsType t b n a → IsNoType t b → ⊥
names_some found.of_primitive none = elim none [ ]
names_some (found.IsType.of_class e) (found.unknown f) = cc

module _ (w : Setting) where
  -- ---- parameters

  steady_type_of : (ty : WrittenType) (n : ℕ) → Steady steady.Same (declared_type w ty n) (declared_type w ty n)
  steady_type_of ty n = steady_bind (steady.steady_type w.table ty) (λ a b r. steady_give _ _ (record { same = ap (λ z. with_brackets z n) r.same }))

  steady_named : (n : Named) (a b : Ty) → a ≡ b → Steady Any (declaring n a false) (declaring n b false)
  steady_named n a b e = let P : Ty → Type 0 = λ z. Steady Any (declaring n a false) (declaring n z false) in subst P e (steady_declaring n a false)

  steady_parameter : (p : Parameter) → Steady Any (parameter w p) (parameter w p)
  steady_parameter p = steady_bind (steady_type_of p.ty p.brackets) (λ a b r. steady_named p.name a b r.same)

  steady_parameters : (all : List Parameter) → Steady Any (parameters w all) (parameters w all)
  unfolding parameters
  steady_parameters [] = steady_give tt tt any
  steady_parameters (p ∷ rest) = steady_bind (steady_parameter p) (λ k l r. steady_parameters rest)

  type_keeps : (ty : WrittenType) (n : ℕ) (m : Making) (a : Ty) (d : Making) → declared_type w ty n m ≡ Ok (a, d) → d.scope ≡ m.scope
  type_keeps ty n m a d h = after_expressed (λ s. type_written w.table ty) (λ base. with_brackets base n) m a d h

  in_parameters : {s there : Scope} {all : List Parameter} {p : Parameter} → InParameters w s all there p → NeverIn there (parameter w p) → NeverIn s (parameters w all)
  unfolding parameters
  in_parameters (member.InParameters.here {rest = rest}) n = in_first (λ k. parameters w rest) n
  in_parameters (member.InParameters.later {other = other} {rest = rest} leads h) n = in_bind (parameter w other) (λ k. parameters w rest) leads (steady_parameter other) (λ k. in_parameters h n)

  never_type_of : (s : Scope) (ty : WrittenType) (n : ℕ) → IsNoType w.table ty.base → NeverIn s (declared_type w ty n)
  never_type_of s ty n none = in_first (λ base. give (with_brackets base n)) (in_expressed (λ z. type_written w.table ty) (never_written w.judgement w.table s ty none))

  bad_parameter : {s : Scope} {all : List Parameter} {r : Rule} {token : ℕ} → HasBadParameter w s all r token → NeverIn s (parameters w all)
  bad_parameter (member.HasBadParameter.no_type {there = there} {p = p} h none) = in_parameters h (in_first (λ ty. declaring p.name ty false) (never_type_of there p.ty p.brackets none))
  bad_parameter (member.again {p = p} {v = v} h e) =
      in_parameters h (in_kept (declared_type w p.ty p.brackets) (λ ty. declaring p.name ty false) (type_keeps p.ty p.brackets) (λ ty. in_declared p.name ty false v e))

  -- ---- methods

  outcome_keeps : (ty : Option WrittenType) (m : Making) (o : Outcome) (n : Making) → outcome_of w ty m ≡ Ok (o, n) → n.scope ≡ m.scope
  outcome_keeps Absent m o n h = after_give NoValue o m n h
  outcome_keeps (Some ty) m o n h =
      let x = made (declared_type w ty 0) (λ t. give (ValueOf t)) m o n h in
      after_give (ValueOf x.value) o x.between n x.second ∙ type_keeps ty 0 m x.value x.between x.first

  -- what is given back is what the written result says
  outcome_is : (ty : Option WrittenType) (outcome : Outcome) (m : Making) (o : Outcome) (n : Making) → Gives w.table ty outcome → outcome_of w ty m ≡ Ok (o, n) → outcome ≡ o
  outcome_is _ _ m o n member.nothing h = given_outcome NoValue o m n h
  outcome_is _ _ m o n (member.a_value {ty = ty} {base = base} is) h =
      let x = made (declared_type w ty 0) (λ t. give (ValueOf t)) m o n h in
      let y = made (expressed (λ s. type_written w.table ty)) (λ b. give (with_brackets b 0)) m x.value x.between x.first in
      let z = was_expressed (λ s. type_written w.table ty) m y.value y.between y.first in
      let same : base ≡ y.value = steady.one_as_written w.table ty base y.value m.texts z.later is z.found in
      let typed : with_brackets y.value 0 ≡ x.value = given_type (with_brackets y.value 0) x.value y.between x.between y.second in
      ap (λ b. ValueOf (with_brackets b 0)) same ∙ ap (λ t. ValueOf t) typed ∙ given_outcome (ValueOf x.value) o x.between n x.second

  -- ---- calls of constructors that take nothing

  never_constructed : (s : Scope) (class k : ℕ) (o : Option Method) (m : Method) (ms : List Meaning) (token : ℕ) → o ≡ Some m → IsHidden s m.is_private m.class → Never (constructed_by s class k o ms token)
  never_constructed s class k (Some n) m ms token e h =
      let same : n ≡ m = cc in
      never_then (is_outside s n.is_private n.class) _ (subst (λ (z : Method). is_outside s z.is_private z.class ≡ true) (sym same) (method.outside s m.is_private m.class h)) never_refuse
  never_constructed s class k Absent m ms token e h = absurd (cc)

  never_hidden : Settles w.table w.judgement → (s : Scope) (class : ℕ) (ms : List Meaning) (at k : ℕ) (m : Method) → Chosen w.table (class_type class) (codes "new") (types_of ms) k → IsMethod w.table k m → IsHidden s m.is_private m.class →
      Never (constructor_called w.judgement w.table class ms at s)
  unfolding constructor_called
  never_hidden g s class ms at k m chosen is hidden =
      never_bind (method_for w.judgement (class_type class) (codes "new") ms at) _
      (λ n u v e. never_constructed s class n (slice_get w.table.methods n) m ms at (method.chosen_row w.judgement w.table g (class_type class) (codes "new") ms k n at m u v chosen is e) hidden)

  never_unmade : (s : Scope) (class : ℕ) (ms : List Meaning) (at : ℕ) → Never (method_for w.judgement (class_type class) (codes "new") ms at) → Never (constructor_called w.judgement w.table class ms at s)
  unfolding constructor_called
  never_unmade s class ms at n = never_first _ n

  -- a construction without arguments
  made_without : Settles w.table w.judgement → {s : Scope} {class at : ℕ} {r : Rule} {token : ℕ} → IsBadConstruction w s class source.none at r token → Never (constructor_called w.judgement w.table class [] at s)
  made_without g (member.IsBadConstruction.argument among b) = absurd (contains_none among)
  made_without g (member.IsBadConstruction.void_argument found.none_found v) = absurd (contains_none v)
  made_without g {s = s} {class = class} {at = at} (member.unchosen {r = r} found.none_found values declined) = never_unmade s class [] at (method.never_method w.judgement w.table g (class_type class) (codes "new") [] r at declined)
  made_without g {s = s} {class = class} {at = at} (member.hidden {k = k} {m = m} found.none_found values chosen is hidden) = never_hidden g s class [] at k m chosen is hidden

  in_implied : (s : Scope) (c site : ℕ) → calls_superclass w.table c ≡ true → Never (constructor_called w.judgement w.table (superclass_of w c) [] site s) → NeverIn s (implied_super_call w c site)
  unfolding implied_super_call
  in_implied s c site e n = in_if {x = calls_superclass w.table c} (λ h. in_first _ (in_expressed (constructor_called w.judgement w.table (superclass_of w c) [] site) n)) (λ h. absurd (cc))

  pub broken_implied : Settles w.table w.judgement → {s : Scope} {c : ℕ} (k : ClassSyntax) {r : Rule} {token : ℕ} → HasBadStart w s c k.name.token Absent r token → NeverIn s (implied_constructor_block w c k)
  unfolding implied_constructor_block first_calls
  broken_implied g {s = s} {c = c} k (member.HasBadStart.implied e bad) = in_first _ (in_first _ (in_implied s c k.name.token e (made_without g bad)))

  module _ (g : Settles w.table w.judgement) (l : KnowsLibrary w.table) where
    pub broken_block : {a : Around} {s : Scope} {b : Braced} {r : Rule} {token : ℕ} → IsBrokenBlock w a s b r token → NeverIn s (block w a b)
    broken_block {a = a} {s = s} h = in_block_part w a s h.stands (broken_in w g l h.broken)

    pub broken_method : {s : Scope} {h : Header} {ty : Option WrittenType} {b : Braced} {r : Rule} {token : ℕ} → IsBrokenMethod w s h ty b r token → NeverIn s (method_block w h ty b)
    unfolding method_block
    broken_method {s = s} {h = h} (member.result {ty = ty} {b = b} none) = in_first _ (in_first _ (never_type_of s ty 0 none))
    broken_method {s = s} {h = h} (member.IsBrokenMethod.of_parameter {ty = ty} {b = b} bad) = in_kept (outcome_of w ty) _ (outcome_keeps ty) (λ o. in_first _ (bad_parameter bad))
    broken_method {s = s} {h = h} (member.IsBrokenMethod.of_block {ty = ty} {b = b} {outcome = outcome} {inner = inner} gives leads stands broken) =
        in_later (outcome_of w ty) _ (λ o m n same is. (
        let one : outcome ≡ o = outcome_is ty outcome m o n gives is in
        let there : s ≡ n.scope = sym (outcome_keeps ty m o n is ∙ same) in
        let rest : NeverIn s (parameters w h.params >>= λ params. block w (alone (number w (brace_of b)) outcome) b) =
        in_bind (parameters w h.params) (λ params. block w (alone (number w (brace_of b)) outcome) b) leads (steady_parameters h.params) (λ params. in_block_part w (alone (number w (brace_of b)) outcome) inner stands (broken_in w g l broken)) in
        let P : Outcome → Type 0 = λ z. NeverIn s (parameters w h.params >>= λ params. block w (alone (number w (brace_of b)) z) b) in
        let Q : Scope → Type 0 = λ z. NeverIn z (parameters w h.params >>= λ params. block w (alone (number w (brace_of b)) o) b) in
        subst Q there (subst P one rest)))

    -- ---- calls of constructors

    by_call : (s : Scope) (class : ℕ) (args : Row) (at : ℕ) → ((ns : List Meaning) → AreFound w.judgement w.table s args ns → Never (constructor_called w.judgement w.table class ns at s)) → Never (constructor_call w.judgement w.table class args at s)
    unfolding constructor_call
    by_call s class args at n = step.by_arguments w.judgement w.table s args (λ ns. constructor_called w.judgement w.table class ns at s) n

    bad_construction : {s : Scope} {class : ℕ} {args : Row} {at : ℕ} {r : Rule} {token : ℕ} → IsBadConstruction w s class args at r token → Never (constructor_call w.judgement w.table class args at s)
    unfolding constructor_call
    bad_construction {s = s} {class = class} {args = args} {at = at} (member.IsBadConstruction.argument {e = e} {r = r} {token = token} h b) =
        never_first (λ ns. constructor_called w.judgement w.table class ns at s) (never_row w.judgement w.table l s e args h (never_broken w.judgement w.table g l s e r token b))
    bad_construction {s = s} {class = class} {args = args} {at = at} (member.IsBadConstruction.void_argument f v) =
        by_call s class args at (λ ns fs. never_unmade s class ns at (method.never_method_of_void w.judgement (class_type class) (codes "new") ns at (called.of_void w.judgement w.table g l s f fs v)))
    bad_construction {s = s} {class = class} {args = args} {at = at} (member.unchosen {r = r} f values declined) =
        by_call s class args at (λ ns fs. never_unmade s class ns at
        (method.never_method w.judgement w.table g (class_type class) (codes "new") ns r at (called.of_types w.judgement w.table g l s (λ z. Declined w.table (class_type class) (codes "new") z r) f fs declined)))
    bad_construction {s = s} {class = class} {args = args} {at = at} (member.hidden {k = k} {m = m} f values chosen is hidden) =
        by_call s class args at (λ ns fs. never_hidden g s class ns at k m (called.of_types w.judgement w.table g l s (λ z. Chosen w.table (class_type class) (codes "new") z k) f fs chosen) is hidden)

    none_with : (ns : List Meaning) (at : ℕ) → (ns ≡ [] → ⊥) → Never (none_for_object ns at)
    none_with [] at h = absurd (h refl)
    none_with (m ∷ rest) at h = never_refuse

    no_void_none : (ns : List Meaning) (at : ℕ) → some_void ns ≡ true → Never (none_for_object ns at)
    no_void_none [] at e = absurd (cc)
    no_void_none (m ∷ rest) at e = never_refuse

    some_found : (s : Scope) (args : Row) (ns : List Meaning) (at : ℕ) → (args ≡ source.none → ⊥) → AreFound w.judgement w.table s args ns → Never (none_for_object ns at)
    some_found s _ _ at h found.none_found = absurd (h refl)
    some_found s _ _ at h (found.more_found f fs) = never_refuse

    bad_object_call : {s : Scope} {args : Row} {at : ℕ} {r : Rule} {token : ℕ} → IsBadObjectCall w s args at r token → Never (object_called w.judgement w.table args at s)
    unfolding object_called
    bad_object_call {s = s} {args = args} {at = at} (member.IsBadObjectCall.argument {e = e} {r = r} {token = token} h b) =
        never_first (λ ns. none_for_object ns at) (never_row w.judgement w.table l s e args h (never_broken w.judgement w.table g l s e r token b))
    bad_object_call {s = s} {args = args} {at = at} (member.IsBadObjectCall.void_argument f v) =
        step.by_arguments w.judgement w.table s args (λ ns. none_for_object ns at) (λ ns fs. no_void_none ns at (called.of_void w.judgement w.table g l s f fs v))
    bad_object_call {s = s} {args = args} {at = at} (member.some_argument other) = step.by_arguments w.judgement w.table s args (λ ns. none_for_object ns at) (λ ns fs. some_found s args ns at other fs)

    -- ---- what a constructor begins with

    in_own_call : (s : Scope) (c d : ℕ) (call : OwnCall) → Never (constructor_call w.judgement w.table d call.args call.paren s) → NeverIn s (own_call w c d call)
    unfolding own_call
    in_own_call s c d call n = in_first _ (in_expressed (constructor_call w.judgement w.table d call.args call.paren) n)

    in_no_call : (s : Scope) (call : OwnCall) → Never (object_called w.judgement w.table call.args call.paren s) → NeverIn s (no_call w call)
    unfolding no_call
    in_no_call s call n = in_first _ (in_expressed (object_called w.judgement w.table call.args call.paren) n)

    bad_start : {s : Scope} {c site : ℕ} {own : Option OwnCall} {r : Rule} {token : ℕ} (k : ClassSyntax) → HasBadStart w s c site own r token → NeverIn s (first_calls w c k site own)
    unfolding first_calls written_super_call
    bad_start {s = s} {c = c} {site = site} k (member.HasBadStart.implied e bad) = in_first _ (in_implied s c site e (made_without g bad))
    bad_start {s = s} {c = c} {site = site} k (member.HasBadStart.of_super {call = call} is e bad) =
        in_if {x = call.is_super} (λ h. in_first _ (in_if {x = calls_superclass w.table c} (λ i. in_own_call s c (superclass_of w c) call (bad_construction bad)) (λ i. absurd (cc)))) (λ h. absurd (cc))
    bad_start {s = s} {c = c} {site = site} k (member.HasBadStart.of_object {call = call} is e bad) =
        in_if {x = call.is_super} (λ h. in_first _ (in_if {x = calls_superclass w.table c} (λ i. absurd (cc)) (λ i. in_no_call s call (bad_object_call bad)))) (λ h. absurd (cc))
    bad_start {s = s} {c = c} {site = site} k (member.of_this {call = call} is bad) = in_if {x = call.is_super} (λ h. absurd (cc)) (λ h. in_own_call s c c call (bad_construction bad))

    steady_own : (c d : ℕ) (call : OwnCall) → Steady Any (own_call w c d call) (own_call w c d call)
    unfolding own_call
    steady_own c d call = steady_bind (steady_expressed _ _) (λ a b r. steady_give _ _ any)

    steady_none : (call : OwnCall) → Steady Any (no_call w call) (no_call w call)
    unfolding no_call
    steady_none call = steady_bind (steady_expressed _ _) (λ a b r. steady_give _ _ any)

    steady_implied : (c site : ℕ) → Steady Any (implied_super_call w c site) (implied_super_call w c site)
    unfolding implied_super_call
    steady_implied c site = steady_if (calls_superclass w.table c) (steady_bind (steady_expressed _ _) (λ a b r. steady_give _ _ any)) (steady_give _ _ any)

    steady_super : (c : ℕ) (call : OwnCall) → Steady Any (written_super_call w c call) (written_super_call w c call)
    unfolding written_super_call
    steady_super c call = steady_if (calls_superclass w.table c) (steady_own c (superclass_of w c) call) (steady_none call)

    steady_calls : (c : ℕ) (k : ClassSyntax) (site : ℕ) (own : Option OwnCall) → Steady Any (first_calls w c k site own) (first_calls w c k site own)
    unfolding first_calls
    steady_calls c k site Absent = steady_bind (steady_implied c site) (λ a b r. steady_give _ _ any)
    steady_calls c k site (Some call) = steady_if call.is_super (steady_bind (steady_super c call) (λ a b r. steady_give _ _ any)) (steady_own c c call)

    pub broken_constructor : {s : Scope} {c : ℕ} {k : ClassSyntax} {h : Header} {own : Option OwnCall} {brace : ℕ} {parts : Statements} {r : Rule} {token : ℕ} →
        IsBrokenConstructor w s c k h own brace parts r token → NeverIn s (constructor_block w c k h own brace parts)
    unfolding constructor_block
    broken_constructor (member.IsBrokenConstructor.of_parameter bad) = in_first _ (bad_parameter bad)
    broken_constructor {c = c} {k = k} {h = h} {own = own} (member.of_start leads bad) = in_bind (parameters w h.params) _ leads (steady_parameters h.params) (λ params. in_first _ (bad_start k bad))
    broken_constructor {s = s} {c = c} {k = k} {h = h} {own = own} {brace = brace} (member.IsBrokenConstructor.of_block {inner = inner} {begun = begun} leads more stands broken) =
        in_bind (parameters w h.params) _ leads (steady_parameters h.params)
        (λ params. in_bind (first_calls w c k h.name.token own) _ more (steady_calls c k h.name.token own)
        (λ calls. in_first _ (in_row w (inside (alone (number w brace) NoValue) (number w brace)) begun stands (broken_in w g l broken))))

    -- ---- initializers of fields

    -- a written type is what it is
    past_type : {B : Type 0} (s : Scope) (ty : WrittenType) (n : ℕ) (k : Ty → Makes B) → ((base : Ty) → IsType w.table ty.base ty.brackets base → NeverIn s (k (with_brackets base n))) → NeverIn s (declared_type w ty n >>= k)
    past_type s ty n k h = record {
      at = λ m same b d e. (
          let x = made (declared_type w ty n) k m b d e in
          let y = made (expressed (λ z. type_written w.table ty)) (λ base. give (with_brackets base n)) m x.value x.between x.first in
          let z = was_expressed (λ z. type_written w.table ty) m y.value y.between y.first in
          let is : IsType w.table ty.base ty.brackets y.value = type_of_written ty y.value m.texts z.later z.found in
          let typed : with_brackets y.value n ≡ x.value = given_type (with_brackets y.value n) x.value y.between x.between y.second in
          let P : Ty → Type 0 = λ q. NeverIn s (k q) in
          (subst P typed (h y.value is)).at x.between (type_keeps ty n m x.value x.between x.first ∙ same) b d x.second);
    }

    steady_assigned : (c : ℕ) (is_static : Bool) (a b : Ty) (n : Named) (i : Initial) → Steady Any (assigned_first w c is_static a n i) (assigned_first w c is_static b n i)
    steady_assigned c is_static a b n i = steady_bind (steady_expressed _ _) (λ x y r. steady_give _ _ any)

    steady_field : (c : ℕ) (is_static : Bool) (ty : WrittenType) (d : Declarator) (o : Option Initial) → Steady Any (field_initial w c is_static ty d o) (field_initial w c is_static ty d o)
    steady_field c is_static ty d Absent = steady_give _ _ any
    steady_field c is_static ty d (Some i) = steady_bind (steady_type_of ty d.brackets) (λ a b r. steady_bind (steady_assigned c is_static a b d.name i) (λ x y q. steady_give _ _ any))

    pub steady_fields : (c : ℕ) (is_static : Bool) (ty : WrittenType) (all : List Declarator) → Steady Any (field_initials w c is_static ty all) (field_initials w c is_static ty all)
    unfolding field_initials
    steady_fields c is_static ty all = steady_bind (steady_each (λ d. field_initial w c is_static ty d d.initial) (λ d. steady_field c is_static ty d d.initial) all) (λ a b r. steady_give _ _ any)

    in_fields : {c : ℕ} {is_static : Bool} {ty : WrittenType} {s there : Scope} {all : List Declarator} {d : Declarator} → InFields w c is_static ty s all there d → NeverIn there (field_initial w c is_static ty d d.initial) →
        NeverIn s (each (λ x. field_initial w c is_static ty x x.initial) all)
    unfolding each
    in_fields (member.InFields.here) n = in_first _ n
    in_fields {c = c} {is_static = is_static} {ty = ty} (member.InFields.later {other = other} leads rest) n =
        in_bind (field_initial w c is_static ty other other.initial) _ leads (steady_field c is_static ty other other.initial) (λ x. in_first _ (in_fields rest n))

    in_field : (c : ℕ) (is_static : Bool) (ty : WrittenType) (there : Scope) (d : Declarator) (i : Initial) (o : Option Initial) → o ≡ Some i →
        ((base : Ty) → IsType w.table ty.base ty.brackets base → Never (initialized w.judgement w.table there (with_brackets base d.brackets) i d.name.token)) → NeverIn there (field_initial w c is_static ty d o)
    in_field c is_static ty there d i (Some k) e n =
        let same : i ≡ k = cc in
        past_type there ty d.brackets _ (λ base is. (
        let P : Initial → Type 0 = λ z. Never (initialized w.judgement w.table there (with_brackets base d.brackets) z d.name.token) in
        in_first _ (in_first _ (in_expressed (λ z. initialized w.judgement w.table z (with_brackets base d.brackets) k d.name.token) (subst P same (n base is))))))
    in_field c is_static ty there d i Absent e n = absurd (cc)

    at_field : {c : ℕ} {is_static : Bool} {ty : WrittenType} {s there : Scope} {all : List Declarator} {d : Declarator} {i : Initial} → IsFieldGiven w c is_static ty s all there d i →
        ((base : Ty) → IsType w.table ty.base ty.brackets base → Never (initialized w.judgement w.table there (with_brackets base d.brackets) i d.name.token)) → NeverIn s (field_initials w c is_static ty all)
    unfolding field_initials
    at_field {c = c} {is_static = is_static} {ty = ty} {there = there} {d = d} {i = i} h n = in_first _ (in_fields h.among (in_field c is_static ty there d i d.initial h.given n))

    at_filled : {c : ℕ} {is_static : Bool} {ty : WrittenType} {s there : Scope} {all : List Declarator} {inner_type : Ty} {inner : Initial} {at : ℕ} → IsFieldFilled w c is_static ty s all there inner_type inner at →
        Never (initialized w.judgement w.table there inner_type inner at) → NeverIn s (field_initials w c is_static ty all)
    at_filled {there = there} (member.fills {d = d} {i = i} {base = base} h is fills) n =
        at_field h (λ b other. (
        let same : base ≡ b = type_once w.table is other in
        let P : Ty → Type 0 = λ z. Never (initialized w.judgement w.table there (with_brackets z d.brackets) i d.name.token) in
        subst P same (step.never_filled w.judgement w.table there fills n)))

    pub broken_fields : {c : ℕ} {is_static : Bool} {ty : WrittenType} {s : Scope} {all : List Declarator} {r : Rule} {token : ℕ} → HasBadField w c is_static ty s all r token → NeverIn s (field_initials w c is_static ty all)
    broken_fields (member.HasBadField.no_type h none) = at_field h (λ base is. absurd (names_some is none))
    broken_fields (member.HasBadField.expression {there = there} {d = d} {i = i} {e = e} {r = r} {token = token} h among b) =
        at_field h (λ base is. never_initial w.judgement w.table l there e i among (never_broken w.judgement w.table g l there e r token b) (with_brackets base d.brackets) d.name.token)
    broken_fields (member.HasBadField.void_given {there = there} {inner = inner} {e = e} {m = m} {at = at} h f v) =
        at_filled h (ways.of_value w.judgement w.table g l there inner e at m f (λ n k. form.never_value_of_void w.judgement w.table g inner n at (sym (same_type k) ∙ v)))
    broken_fields (member.HasBadField.unfit {there = there} {inner = inner} {e = e} {m = m} {at = at} h f valued wrong) =
        at_filled h (ways.of_value w.judgement w.table g l there inner e at m f
        (λ n k. form.never_value w.judgement w.table g inner n at (λ x. valued (same_type k ∙ x)) (λ may. wrong (ways.may_too w.judgement w.table g l there k may))))
    broken_fields (member.HasBadField.braces {there = there} {inner = inner} {elements = elements} {brace = brace} {at = at} h e) = at_filled h (ways.of_braces w.judgement w.table g l there inner elements brace at e)

-- ---- what is accepted

pub methods_unbroken : AcceptedMethodsAreUnbroken
methods_unbroken w g l h result b m n s e r token bad = (broken_method w g l bad).at m refl s n e

pub constructors_unbroken : AcceptedConstructorsAreUnbroken
constructors_unbroken w g l c k h own brace parts m n s e r token bad = (broken_constructor w g l bad).at m refl s n e

pub implied_unbroken : AcceptedImpliedAreUnbroken
implied_unbroken w g c k m n s e r token bad = (broken_implied w g k bad).at m refl s n e

pub fields_unbroken : AcceptedFieldsAreUnbroken
fields_unbroken w g l c is_static ty all m n xs e r token bad = (broken_fields w g l bad).at m refl xs n e
