-- A call is refused where no method is chosen for it, and where the one that it means may not be called so.
use Rattle.std.proofs.Common.{◌≡◌, ◌∙◌, sym, subst, refl, ℕ, true, List}
use Rattle.std.specs.Prelude.{codes, slice_get}
use Rattle.std.specs.List.{Contains}
use Rattle.wy_kernel.specs.Form as kernel
use Rattle.wy_kernel.specs.declared.types.Ty.{Ty}
use Rattle.wy_kernel.specs.declared.types.Ty.TheVariants.{Void}
use Rattle.wy_kernel.specs.Program.{Method}
use Rattle.wy_kernel.specs.Subtyping.{class_type}
use Rattle.wy_kernel.specs.Table.{Table}
use Rattle.wy_syntax.specs.Syntax.{Expression, Row}
use Rattle.wy_constant.specs.declared.rule.Rule.{Rule}
use Rattle.wy_constant.specs.Scope.{Scope}
use Rattle.wy_overloads.specs.Choice.{Chosen, Refused as Declined, IsMethod}
use Rattle.wy_elab_expr.specs.Meaning.{Meaning, type_of, text_type}
use Rattle.wy_elab_expr.specs.Operators.{Judgement, Settles}
use Rattle.wy_elab_expr.specs.Members.{some_void, types_of, Through, Nothing, Object, Super, broken, method_for, constructed, is_abstract, called, created}
use Rattle.wy_elab_expr.specs.Members.{OfClass as ThroughClass}
use Rattle.wy_elab_expr.specs.Operators.{class_of}
use Rattle.wy_elab_expr.specs.Elaboration.{elaborated}
use Rattle.law_refusals.specs.Found.{AreFound}
use Rattle.law_refusals.specs.Calls.{IsHidden, Way, Plainly, OfObject, OfClass, OfSuper, ByNew, IsCall, HaveValues, Asks, Means, IsLibraryCall, Offers}
use Rattle.law_refusals.specs.Calls as calls
use Rattle.law_refusals.specs.ExpressionLaws.{Given}
use Rattle.law_refusals.proofs.Likewise.{same_type}
use Rattle.law_refusals.proofs.LikeForms.{same_types, same_void}
use Rattle.law_refusals.specs.Laws.{KnowsLibrary}
use Rattle.law_refusals.proofs.Never.{Never, never_first}
use Rattle.law_refusals.proofs.Methods as method
use Rattle.law_refusals.proofs.Methods.{made_by}
use Rattle.law_refusals.proofs.Library as library
use Rattle.law_refusals.proofs.AcceptedSteps as step
use Rattle.law_refusals.proofs.AcceptedSteps.{IsLike}

-- what a call goes through, by how the method is called
pub Fits : Way → Through → Type 0
Fits Plainly Nothing = Unit {0}
Fits OfObject (Object x) = Unit {0}
Fits OfClass ThroughClass = Unit {0}
Fits OfSuper Super = Unit {0}
Fits _ _ = ⊥

data IsNew : Way → Ty → List ℕ → ℕ → Type 0 where
  is_new : {c : ℕ} → IsNew ByNew (class_type c) (codes "new") c

module _ (j : Judgement) (t : Table) (g : Settles t j) (l : KnowsLibrary t) (s : Scope) where
  abbrev Refused : Expression → Type 0
  Refused e = Never (elaborated j t s e)

  -- ---- calls of methods

  by_call : {e : Expression} {w : Way} {ty : Ty} {name : List ℕ} {args : Row} {token : ℕ} → IsCall j t s e w ty name args token →
      ((ns : List Meaning) → AreFound j t s args ns → (through : Through) → Fits w through → Never (called j t s through ty name ns token)) →
      ((ns : List Meaning) → AreFound j t s args ns → (c : ℕ) → IsNew w ty name c → Never (made_by j t s c ns token)) → Refused e
  unfolding Fits
  by_call (calls.plain {name = name} {args = args} {token = token}) n k = step.never_invoke j t s name args token (λ ns fs. n ns fs Nothing tt)
  by_call (calls.IsCall.of_object {object = object} {name = name} {args = args} {token = token} {m = m} is f valued other) n k =
      step.never_on_object j t s object name args token m is f (λ a ns same fs. (
      let P : Ty → Type 0 = λ z. (x : kernel.Expression) → Never (called j t s (Object x) z name ns token) in
      let no_text : type_of a ≡ text_type → ⊥ = λ h. other (same_type same ∙ h) in
      library.never_on_object j t s a name ns token no_text (subst P (same_type same) (λ x. n ns fs (Object x) tt))))
  by_call (calls.IsCall.of_class {object = object} {name = name} {args = args} {token = token} {class = class} {c = c} h own) n k =
      step.never_on_class j t s object name args token class h.is_name (λ ns fs. library.never_own_class j t s class name ns token c own h.denotes (n ns fs ThroughClass tt))
  by_call (calls.IsCall.of_super {name = name} {args = args} {token = token}) n k = step.never_super_invoke j t s name args token (λ ns fs. n ns fs Super tt)
  by_call (calls.by_new {class = class} {args = args} {token = token} {c = c} e other plain) n k =
      step.never_new j t s class args token (λ d ns is fs. (
      let same : c ≡ d = cc in
      let P : ℕ → Type 0 = λ z. Never (created j t s z ns token) in
      subst P same (method.never_created j t l s c ns token other plain (k ns fs c is_new))))

  never_new_method : {w : Way} {ty : Ty} {name : List ℕ} {c : ℕ} → IsNew w ty name c → (ns : List Meaning) (token : ℕ) → Never (method_for j ty name ns token) → Never (made_by j t s c ns token)
  never_new_method (is_new {c = c}) ns token n = never_first (λ k. constructed s c (is_abstract (class_of t c)) k (slice_get t.methods k) ns token) n

  -- what holds of the types of arguments holds of them however they are found
  pub of_types : {r : Row} {ms ns : List Meaning} (P : List Ty → Type 0) → AreFound j t s r ms → AreFound j t s r ns → P (types_of ms) → P (types_of ns)
  of_types P f h p = subst P (same_types (step.all_once j t s f h)) p

  pub of_void : {r : Row} {ms ns : List Meaning} → AreFound j t s r ms → AreFound j t s r ns → Contains (types_of ms) Void → some_void ns ≡ true
  of_void {ms = ms} {ns = ns} f h v = sym (same_void (step.all_once j t s f h)) ∙ method.some_is_void ms v

  pub asked : {e : Expression} {w : Way} {ty : Ty} {name : List ℕ} {ms : List Meaning} {token : ℕ} (r : Rule) → Asks j t s e w ty name ms token → Declined t ty name (types_of ms) r → Refused e
  asked {ty = ty} {name = name} {token = token} r a d =
      let none : (ns : List Meaning) → AreFound j t s a.args ns → Never (method_for j ty name ns token) =
      λ ns fs. method.never_method j t g ty name ns r token (of_types (λ z. Declined t ty name z r) a.found fs d) in
      by_call a.call (λ ns fs through fit. method.never_called j t s through ty name ns token (none ns fs)) (λ ns fs c new. never_new_method new ns token (none ns fs))

  never_new_meant : {w : Way} {ty : Ty} {name : List ℕ} {c : ℕ} → IsNew w ty name c → (ns : List Meaning) (k token : ℕ) (m : Method) → Chosen t ty name (types_of ns) k → IsMethod t k m → (w ≡ ByNew → IsHidden s m.is_private m.class) →
      Never (made_by j t s c ns token)
  never_new_meant (is_new {c = c}) ns k token m chosen is hidden = method.never_made_private j t g s c ns k token m chosen is (hidden refl)

  means_by : {e : Expression} {w : Way} {ty : Ty} {name : List ℕ} {ms : List Meaning} {token : ℕ} (k : ℕ) (m : Method) → Asks j t s e w ty name ms token → Chosen t ty name (types_of ms) k → IsMethod t k m →
      ((through : Through) → Fits w through → Given (broken s through m)) → (w ≡ ByNew → IsHidden s m.is_private m.class) → Refused e
  means_by {ty = ty} {name = name} {token = token} k m a chosen is faulty hidden =
      let one : (ns : List Meaning) → AreFound j t s a.args ns → Chosen t ty name (types_of ns) k = λ ns fs. of_types (λ z. Chosen t ty name z k) a.found fs chosen in
      by_call a.call (λ ns fs through fit. method.never_called_so j t g s through ty name ns k token m (one ns fs) is (faulty through fit)) (λ ns fs c new. never_new_meant new ns k token m (one ns fs) is hidden)

  pub means_so : {e : Expression} {w : Way} {token : ℕ} {m : Method} → Means j t s e w token m → ((through : Through) → Fits w through → Given (broken s through m)) → (w ≡ ByNew → IsHidden s m.is_private m.class) → Refused e
  means_so {m = m} h faulty hidden = means_by h.k m h.asks h.chosen h.is faulty hidden

  pub plain_faults : (m : Method) → Given (broken s Nothing m) → (through : Through) → Fits Plainly through → Given (broken s through m)
  unfolding Fits
  plain_faults m h Nothing fit = h
  plain_faults m h (Object x) fit = absurd fit
  plain_faults m h ThroughClass fit = absurd fit
  plain_faults m h Super fit = absurd fit

  pub object_faults : (m : Method) → ((x : kernel.Expression) → Given (broken s (Object x) m)) → (through : Through) → Fits OfObject through → Given (broken s through m)
  unfolding Fits
  object_faults m h Nothing fit = absurd fit
  object_faults m h (Object x) fit = h x
  object_faults m h ThroughClass fit = absurd fit
  object_faults m h Super fit = absurd fit

  pub class_faults : (m : Method) → Given (broken s ThroughClass m) → (through : Through) → Fits OfClass through → Given (broken s through m)
  unfolding Fits
  class_faults m h Nothing fit = absurd fit
  class_faults m h (Object x) fit = absurd fit
  class_faults m h ThroughClass fit = h
  class_faults m h Super fit = absurd fit

  pub super_faults : (m : Method) → Given (broken s Super m) → (through : Through) → Fits OfSuper through → Given (broken s through m)
  unfolding Fits
  super_faults m h Nothing fit = absurd fit
  super_faults m h (Object x) fit = absurd fit
  super_faults m h ThroughClass fit = absurd fit
  super_faults m h Super fit = h
