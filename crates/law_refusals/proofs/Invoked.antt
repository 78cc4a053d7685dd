-- Where calls are refused, their expression breaks the rule.
use Rattle.std.proofs.Common.{◌≡◌, ap, sym, subst, refl, ℕ, Bool, true, false, List, [], ◌∷◌, Option, Some, Result, Ok, Err, ◌⊎◌, inl, inr}
use Rattle.std.specs.Prelude.{◌&&◌, slice_get, bytes_eq, codes, if◌then◌else◌}
use Rattle.std.specs.Prelude.{None as Absent}
use Rattle.std.specs.List.{Contains}
use Rattle.std.proofs.lemmas.Slice.Eq.{bytes_eq-Decides}
use Rattle.wy_kernel.specs.Form as kernel
use Rattle.wy_kernel.specs.declared.types.Ty.{Ty}
use Rattle.wy_kernel.specs.declared.types.Ty.TheVariants.{Void}
use Rattle.wy_kernel.specs.declared.types.MethodForm.{MethodForm}
use Rattle.wy_kernel.specs.declared.types.MethodForm.TheVariants as kind
use Rattle.wy_kernel.specs.Program.{Method}
use Rattle.wy_kernel.specs.Subtyping.{class_type}
use Rattle.wy_kernel.specs.Table.{Table}
use Rattle.wy_syntax.specs.Syntax.{Expression, Row, Invoke, InvokeOn, SuperInvoke}
use Rattle.wy_constant.specs.declared.rule.Rule.{Rule}
use Rattle.wy_constant.specs.declared.rule.Rule.TheVariants as rule
use Rattle.wy_constant.specs.Refusal.{Refusal, refused}
use Rattle.wy_constant.specs.Scope.{Scope, FixedText}
use Rattle.wy_constant.specs.Fields.{class_named}
use Rattle.wy_overloads.specs.Choice.{Refused, EachBelow, none, more}
use Rattle.wy_elab_expr.specs.Meaning.{Meaning, type_of, Gets, refuse, ◌>>=◌, formed}
use Rattle.wy_elab_expr.specs.Operators.{Judgement, Settles, is_void, is_text_type}
use Rattle.wy_elab_expr.specs.Members.{some_void, types_of, brought_all, of_choice, method_for, Through, Nothing, Object, OfClass as ThroughClass, Super, is_static, instance_if, broken_by, broken, is_outside, called_unless, called_at, called, LibraryMethod, text_methods, are_below, applicable, has_name, library_form, library_call, is_library_name}
use Rattle.wy_elab_expr.specs.Elaboration.{ClassName, class_in, class_methods, is_of_texts, called_on_known, called_on_class, called_on, above}
use Rattle.law_refusals.specs.Found.{IsFound, AreFound}
use Rattle.law_refusals.specs.Calls.{IsHidden, NamesClass, IsObject, is_of_library, Way, Plainly, OfObject, OfClass, OfSuper, ByNew, IsCall, HaveValues, Asks, Means, IsLibraryCall, Offers}
use Rattle.law_refusals.specs.Calls as calls
use Rattle.law_refusals.specs.Breaches.{ExpressionBreaks, Passes}
use Rattle.law_refusals.specs.Breaches as way
use Rattle.law_refusals.proofs.Walk.{Only, only_give, only_refuse, only_if, only_bind, only_brought, only_formed}
use Rattle.law_refusals.proofs.Contained.{contains_here, contains_later, contains_none, contains_cases}
use Rattle.law_refusals.proofs.Tests.{both_true, neither_true, not_void, void_is, not_text, text_is, one_true}
use Rattle.law_refusals.specs.ExpressionLaws.{Given}
use Rattle.law_refusals.proofs.Forms.{Blamed, only_refuse_if}
use Rattle.law_refusals.proofs.Fields.{hidden, named_class}

-- ---- void arguments

pub void_among : (ms : List Meaning) → some_void ms ≡ true → Contains (types_of ms) Void
void_among [] e = absurd (cc)
void_among (m ∷ rest) e = elim (one_true (is_void (type_of m)) (some_void rest) e) [ inl h ↦ contains_here (types_of rest) (void_is (type_of m) h) | inr h ↦ contains_later (type_of m) Void (types_of rest) (void_among rest h) ]

no_void_in : (m : Meaning) (rest : List Meaning) → is_void (type_of m) ≡ false → HaveValues rest → (type_of m ≡ Void) ⊎ Contains (types_of rest) Void → ⊥
no_void_in m rest e f (inl v) = not_void (type_of m) e v
no_void_in m rest e f (inr h) = f h

pub values_among : (ms : List Meaning) → some_void ms ≡ false → HaveValues ms
values_among [] e h = contains_none h
values_among (m ∷ rest) e h =
    let parts = neither_true (is_void (type_of m)) (some_void rest) e in
    no_void_in m rest parts.0 (values_among rest parts.1) (contains_cases (type_of m) Void (types_of rest) h)

-- ---- arguments that are brought to their parameters

pub all_never : {P : Refusal → Type 0} (ps : List Ty) (ms : List Meaning) → Only P (brought_all ps ms)
unfolding brought_all
all_never (p ∷ ps) (m ∷ ms) = only_bind (only_brought p m) (λ e u v is. only_bind (all_never ps ms) (λ es w z are. only_give))
all_never [] ms = only_give
all_never (p ∷ ps) [] = only_give

-- ---- methods of the library

below_true : (j : Judgement) (t : Table) → Settles t j → {xs ys : List Ty} → EachBelow t.classes xs ys → are_below j xs ys ≡ true
below_true j t g none = refl
below_true j t g (more {a = a} {b = b} h rest) = both_true ((g.below a b).1 h) (below_true j t g rest)

-- what is found when the first test passes, or later
found_if : {X : Type 0} (b : Bool) (x : X) (later : Option X) → (b ≡ true) ⊎ Given later → Given (if b then Some x else later)
found_if true x later h = (x, refl)
found_if false x later (inl e) = absurd (cc)
found_if false x later (inr h) = h

applies_by : (j : Judgement) (t : Table) → Settles t j → (name : List ℕ) (types : List Ty) (m n : LibraryMethod) (rest : List LibraryMethod) → Offers t (n ∷ rest) name types m →
    ((h : Offers t rest name types m) → Given (applicable j rest name types)) → (n ≡ m) ⊎ Contains rest m → (bytes_eq n.name name && are_below j types n.params) ≡ true ⊎ Given (applicable j rest name types)
applies_by j t g name types m n rest o f (inl e) =
    let P : LibraryMethod → Type 0 = λ z. (bytes_eq z.name name && are_below j types z.params) ≡ true in
    inl (subst P (sym e) (both_true ((bytes_eq-Decides m.name name).1 o.named) (below_true j t g o.takes)))
applies_by j t g name types m n rest o f (inr h) = inr (f (record { listed = h; named = o.named; takes = o.takes }))

offered_applies : (j : Judgement) (t : Table) → Settles t j → (methods : List LibraryMethod) (name : List ℕ) (types : List Ty) (m : LibraryMethod) → Offers t methods name types m → Given (applicable j methods name types)
offered_applies j t g [] name types m o = absurd (contains_none o.listed)
offered_applies j t g (n ∷ rest) name types m o =
    found_if (bytes_eq n.name name && are_below j types n.params) n (applicable j rest name types)
    (applies_by j t g name types m n rest o (offered_applies j t g rest name types m) (contains_cases n m rest o.listed))

module _ (j : Judgement) (t : Table) (s : Scope) (g : Settles t j) where
  library_by : (e : Expression) (methods : List LibraryMethod) (name : List ℕ) (args : Row) (token : ℕ) (ms : List Meaning) (object : Option kernel.Expression) → IsLibraryCall j t s e methods name args token → AreFound j t s args ms → HaveValues ms →
      (o : Option LibraryMethod) → applicable j methods name (types_of ms) ≡ o → Only (Blamed j t s e) (library_form o (has_name methods name) object ms token)
  library_by e methods name args token ms object call f values (Some m) a = only_bind (all_never m.params ms) (λ es u v is. only_give)
  library_by e methods name args token ms object call f values Absent a =
      only_refuse_if (has_name methods name) rule.NoMethod rule.NotOffered
      (λ h. way.IsNoMethod.of_library call f values h (λ m o. let n = offered_applies j t g methods name (types_of ms) m o in let k : applicable j methods name (types_of ms) ≡ Some n.0 = n.1 in cc))
      (λ h. way.IsNotOffered.of_library call h)

  pub library_only : (e : Expression) (methods : List LibraryMethod) (name : List ℕ) (args : Row) (token : ℕ) (ms : List Meaning) (object : Option kernel.Expression) → IsLibraryCall j t s e methods name args token → Passes e args token → AreFound j t s args ms →
      Only (Blamed j t s e) (library_call j methods object name ms token)
  unfolding library_call
  library_only e methods name args token ms object call passes f =
      only_if {b = some_void ms} {m = refuse rule.BadOperand token} {n = library_form (applicable j methods name (types_of ms)) (has_name methods name) object ms token}
      (λ h. only_refuse (way.void_argument passes f (void_among ms h)))
      (λ h. library_by e methods name args token ms object call f (values_among ms h) (applicable j methods name (types_of ms)) refl)

  -- ---- the choice of a method

  refused_by : (e : Expression) (w : Way) (ty : Ty) (name : List ℕ) (ms : List Meaning) (token : ℕ) (r : Rule) → Asks j t s e w ty name ms token → Refused t ty name (types_of ms) r → ExpressionBreaks j t s e r token
  refused_by e w ty name ms token rule.NoMethod asks h = way.none_applies asks h
  refused_by e w ty name ms token rule.Ambiguous asks h = way.several asks h
  refused_by e w ty name ms token rule.NotOffered asks h = way.no_method asks h
  refused_by e w ty name ms token _ asks h = absurd h

  choice_by : (e : Expression) (w : Way) (ty : Ty) (name : List ℕ) (ms : List Meaning) (token : ℕ) → Asks j t s e w ty name ms token → (r : Result ℕ Rule) → j.choice ty name (types_of ms) ≡ r → Only (Blamed j t s e) (of_choice r token)
  choice_by e w ty name ms token asks (Ok k) c = only_give
  choice_by e w ty name ms token asks (Err r) c = only_refuse (refused_by e w ty name ms token r asks ((g.refused ty name (types_of ms) r).0 c))

  pub method_only : (e : Expression) (w : Way) (ty : Ty) (name : List ℕ) (args : Row) (ms : List Meaning) (token : ℕ) → IsCall j t s e w ty name args token → Passes e args token → AreFound j t s args ms →
      Only (Blamed j t s e) (method_for j ty name ms token)
  unfolding method_for
  method_only e w ty name args ms token call passes f =
      only_if {b = some_void ms} {m = refuse rule.BadOperand token} {n = of_choice (j.choice ty name (types_of ms)) token}
      (λ h. only_refuse (way.void_argument passes f (void_among ms h)))
      (λ h. choice_by e w ty name ms token (record { args = args; call = call; found = f; values = values_among ms h }) (j.choice ty name (types_of ms)) refl)

-- ---- what is found to be called

pub record Found (j : Judgement) (ty : Ty) (name : List ℕ) (ms : List Meaning) (k : ℕ) : Type 0 where
  pub no_void : some_void ms ≡ false
  pub choice : j.choice ty name (types_of ms) ≡ Ok k

choice_given : (r : Result ℕ Rule) (token k : ℕ) (u v : List FixedText) → of_choice r token u ≡ Ok (k, v) → r ≡ Ok k
choice_given (Ok n) token k u v e =
    let pair : (n, u) ≡ (k, v) = cc in
    ap (λ (z : ℕ × List FixedText). Ok z.0) pair
choice_given (Err r) token k u v e = absurd (cc)

found_by : (j : Judgement) (ty : Ty) (name : List ℕ) (ms : List Meaning) (k token : ℕ) (u v : List FixedText) → (b : Bool) → some_void ms ≡ b →
    (if b then refuse rule.BadOperand token else of_choice (j.choice ty name (types_of ms)) token) u ≡ Ok (k, v) → Found j ty name ms k
found_by j ty name ms k token u v true h e = absurd (cc)
found_by j ty name ms k token u v false h e = record { no_void = h; choice = choice_given (j.choice ty name (types_of ms)) token k u v e }

pub found_method : (j : Judgement) (ty : Ty) (name : List ℕ) (ms : List Meaning) (k token : ℕ) (u v : List FixedText) → method_for j ty name ms token u ≡ Ok (k, v) → Found j ty name ms k
unfolding method_for
found_method j ty name ms k token u v e = found_by j ty name ms k token u v (some_void ms) refl e

-- ---- rules that the called method breaks

-- a rule that is broken is broken by the expression
pub record Faults (P : Refusal → Type 0) (token : ℕ) (o : Option Rule) : Type 0 where
  pub at : (r : Rule) → o ≡ Some r → P (refused r token)

faults_none : {P : Refusal → Type 0} {token : ℕ} → Faults P token Absent
faults_none = record { at = λ r e. absurd (cc) }

faults_some : {P : Refusal → Type 0} {token : ℕ} {q : Rule} → P (refused q token) → Faults P token (Some q)
faults_some {P} {token} {q} p = record { at = λ r e. let same : q ≡ r = cc in (let Q : Rule → Type 0 = λ z. P (refused z token) in subst Q same p) }

faults_if : {P : Refusal → Type 0} {token : ℕ} (b : Bool) (x y : Option Rule) → (b ≡ true → Faults P token x) → (b ≡ false → Faults P token y) → Faults P token (if b then x else y)
faults_if true x y f h = f refl
faults_if false x y f h = h refl

not_static : (form : MethodForm) → is_static form ≡ false → form ≡ kind.Static → ⊥
not_static form e same = let f : is_static form ≡ true = ap is_static same in cc

pub static_is : (form : MethodForm) → is_static form ≡ true → form ≡ kind.Static
static_is kind.Static e = refl
static_is kind.Instance e = absurd (cc)
static_is kind.Constructor e = absurd (cc)
static_is kind.Fields e = absurd (cc)

module _ (j : Judgement) (t : Table) (s : Scope) (g : Settles t j) where
  -- what is called so far: a call, its arguments, and what is asked of the method's way
  unless_only : (e : Expression) (through : Through) (k : ℕ) (m : Method) (ty : Ty) (ms : List Meaning) (token : ℕ) → Faults (Blamed j t s e) token (broken s through m) → (o : Option Rule) → broken s through m ≡ o →
      Only (Blamed j t s e) (called_unless o through k m ty ms token)
  unless_only e through k m ty ms token faults (Some r) b = only_refuse (faults.at r b)
  unless_only e through k m ty ms token faults Absent b = only_bind (all_never m.params ms) (λ es u v is. only_give)

  pub meant : (e : Expression) (w : Way) (ty : Ty) (name : List ℕ) (args : Row) (ms : List Meaning) (token k : ℕ) (m : Method) → IsCall j t s e w ty name args token → AreFound j t s args ms → Found j ty name ms k → slice_get t.methods k ≡ Some m →
      Means j t s e w token m
  meant e w ty name args ms token k m call f found row = record {
    ty = ty;
    name = name;
    ms = ms;
    k = k;
    asks = record { args = args; call = call; found = f; values = values_among ms found.no_void };
    chosen = (g.chosen ty name (types_of ms) k).0 found.choice;
    is = row;
  }

  at_row : (e : Expression) (w : Way) (through : Through) (ty : Ty) (name : List ℕ) (args : Row) (ms : List Meaning) (token k : ℕ) → IsCall j t s e w ty name args token → AreFound j t s args ms → Found j ty name ms k →
      ((m : Method) → Means j t s e w token m → Faults (Blamed j t s e) token (broken s through m)) → (o : Option Method) → slice_get t.methods k ≡ o → Only (Blamed j t s e) (called_at s through k o ty ms token)
  at_row e w through ty name args ms token k call f found faults Absent row =
      let c = (g.chosen ty name (types_of ms) k).0 found.choice in
      let is : slice_get t.methods k ≡ Some c.method = c.applicable.0 in
      absurd (cc)
  at_row e w through ty name args ms token k call f found faults (Some m) row =
      unless_only e through k m ty ms token (faults m (meant e w ty name args ms token k m call f found row)) (broken s through m) refl

  called_only : (e : Expression) (w : Way) (through : Through) (ty : Ty) (name : List ℕ) (args : Row) (ms : List Meaning) (token : ℕ) → IsCall j t s e w ty name args token → Passes e args token → AreFound j t s args ms →
      ((m : Method) → Means j t s e w token m → Faults (Blamed j t s e) token (broken s through m)) → Only (Blamed j t s e) (called j t s through ty name ms token)
  unfolding called
  called_only e w through ty name args ms token call passes f faults =
      only_bind (method_only j t s g e w ty name args ms token call passes f)
      (λ k u v is. at_row e w through ty name args ms token k call f (found_method j ty name ms k token u v is) faults (slice_get t.methods k) refl)

  -- private methods first, and then what each way asks for
  faults_of : (e : Expression) (w : Way) (through : Through) (m : Method) (token : ℕ) → Means j t s e w token m → Faults (Blamed j t s e) token (broken_by s through (is_static m.form) m.is_abstract) → Faults (Blamed j t s e) token (broken s through m)
  faults_of e w through m token means faults =
      faults_if (is_outside s m.is_private m.class) (Some rule.Private) (broken_by s through (is_static m.form) m.is_abstract) (λ out. faults_some (way.IsPrivate.method means (hidden s m.is_private m.class out))) (λ inside. faults)

  plain_faults : (e : Expression) (m : Method) (token : ℕ) → Means j t s e Plainly token m → Faults (Blamed j t s e) token (broken_by s Nothing (is_static m.form) m.is_abstract)
  plain_faults e m token means =
      faults_if (is_static m.form) Absent (instance_if s.has_this) (λ h. faults_none) (λ instance. faults_if s.has_this Absent (Some rule.NotInStatic) (λ h. faults_none) (λ none. faults_some (way.IsNotInStatic.method means (not_static m.form instance) none)))

  object_faults : (e : Expression) (object : kernel.Expression) (m : Method) (token : ℕ) → Means j t s e OfObject token m → Faults (Blamed j t s e) token (broken_by s (Object object) (is_static m.form) m.is_abstract)
  object_faults e object m token means = faults_if (is_static m.form) (Some rule.NotOffered) Absent (λ static. faults_some (way.static_of_object means (static_is m.form static))) (λ h. faults_none)

  class_faults : (e : Expression) (m : Method) (token : ℕ) → Means j t s e OfClass token m → Faults (Blamed j t s e) token (broken_by s ThroughClass (is_static m.form) m.is_abstract)
  class_faults e m token means = faults_if (is_static m.form) Absent (Some rule.NotInStatic) (λ h. faults_none) (λ instance. faults_some (way.method_of_class means (not_static m.form instance)))

  super_faults : (name : List ℕ) (args : Row) (m : Method) (token : ℕ) → Means j t s (SuperInvoke name args token) OfSuper token m → Faults (Blamed j t s (SuperInvoke name args token)) token (broken_by s Super (is_static m.form) m.is_abstract)
  super_faults name args m token means =
      let bodiless : Option Rule = if m.is_abstract then Some rule.NotImplemented else Absent in
      faults_if s.has_this (if is_static m.form then Some rule.NotOffered else bodiless) (Some rule.NotInStatic)
      (λ h. faults_if (is_static m.form) (Some rule.NotOffered) bodiless (λ static. faults_some (way.static_of_super means (static_is m.form static)))
      (λ instance. faults_if m.is_abstract (Some rule.NotImplemented) Absent (λ abstract. faults_some (way.abstract_method means abstract)) (λ h2. faults_none)))
      (λ none. faults_some (way.super_method none))

  pub plain_only : (name : List ℕ) (args : Row) (ms : List Meaning) (token : ℕ) → AreFound j t s args ms → Only (Blamed j t s (Invoke name args token)) (called j t s Nothing (class_type s.class) name ms token)
  plain_only name args ms token f =
      called_only (Invoke name args token) Plainly Nothing (class_type s.class) name args ms token calls.plain way.Passes.plain f
      (λ m means. faults_of (Invoke name args token) Plainly Nothing m token means (plain_faults (Invoke name args token) m token means))

  pub super_call_only : (name : List ℕ) (args : Row) (ms : List Meaning) (token : ℕ) → AreFound j t s args ms → Only (Blamed j t s (SuperInvoke name args token)) (called j t s Super (class_type (above t s)) name ms token)
  super_call_only name args ms token f =
      called_only (SuperInvoke name args token) OfSuper Super (class_type (above t s)) name args ms token calls.of_super way.Passes.of_super f
      (λ m means. faults_of (SuperInvoke name args token) OfSuper Super m token means (super_faults name args m token means))

  -- ---- a call of an object

  pub object_call_only : (object : Expression) (name : List ℕ) (args : Row) (token : ℕ) (m : Meaning) (ms : List Meaning) → IsObject t s object → IsFound j t s object m → AreFound j t s args ms →
      Only (Blamed j t s (InvokeOn object name args token)) (called_on j t s m name ms token)
  unfolding called_on
  object_call_only object name args token m ms is_object f fs =
      let of_text : Gets Meaning = formed m >>= λ x. library_call j text_methods (Some x) name ms token in
      let of_other : Gets Meaning = formed m >>= λ x. called j t s (Object x) (type_of m) name ms token in
      only_if {b = is_void (type_of m)} {m = refuse rule.BadOperand token} {n = if is_text_type (type_of m) then of_text else of_other}
      (λ e. only_refuse (way.void_call is_object f (void_is (type_of m) e)))
      (λ valued. only_if {b = is_text_type (type_of m)} {m = of_text} {n = of_other}
      (λ e. only_bind (only_formed m) (λ x u v is. library_only j t s g (InvokeOn object name args token) text_methods name args token ms (Some x) (calls.of_text is_object f (text_is (type_of m) e)) way.Passes.of_object fs))
      (λ other. only_bind (only_formed m) (λ x u v is. called_only (InvokeOn object name args token) OfObject (Object x) (type_of m) name args ms token
      (calls.IsCall.of_object is_object f (not_void (type_of m) valued) (not_text (type_of m) other)) way.Passes.of_object fs
      (λ n means. faults_of (InvokeOn object name args token) OfObject (Object x) n token means (object_faults (InvokeOn object name args token) x n token means)))))

  -- ---- a call behind a class's name

  known_only : (object : Expression) (name : List ℕ) (args : Row) (token : ℕ) (ms : List Meaning) (class : ClassName) → class_in t s object ≡ Some class → is_of_library class.name ≡ false → AreFound j t s args ms →
      (o : Option ℕ) → class_named t.classes class.name ≡ o → Only (Blamed j t s (InvokeOn object name args token)) (called_on_known j t s o name ms token)
  known_only object name args token ms class e own fs (Some c) d =
      called_only (InvokeOn object name args token) OfClass ThroughClass (class_type c) name args ms token (calls.IsCall.of_class (record { is_name = e; denotes = d }) own) way.Passes.of_object fs
      (λ m means. faults_of (InvokeOn object name args token) OfClass ThroughClass m token means (class_faults (InvokeOn object name args token) m token means))
  known_only object name args token ms class e own fs Absent d = absurd (named_class t s object class e d (neither_true (is_library_name class.name) (bytes_eq class.name (codes "String")) own).0)

  pub class_call_only : (object : Expression) (name : List ℕ) (args : Row) (token : ℕ) (ms : List Meaning) (class : ClassName) → class_in t s object ≡ Some class → AreFound j t s args ms →
      Only (Blamed j t s (InvokeOn object name args token)) (called_on_class j t s class name ms token)
  unfolding called_on_class
  class_call_only object name args token ms class e fs =
      let own : Gets Meaning = called_on_known j t s (class_named t.classes class.name) name ms token in
      let library : Gets Meaning = library_call j (class_methods class.name) Absent name ms token in
      only_if {b = is_of_texts class.name name} {m = refuse (if some_void ms then rule.BadOperand else rule.NotInStatic) token} {n = if is_of_library class.name then library else own}
      (λ texts. only_refuse_if (some_void ms) rule.BadOperand rule.NotInStatic (λ h. way.void_argument way.Passes.of_object fs (void_among ms h)) (λ h. way.method_of_texts e texts))
      (λ other. only_if {b = is_of_library class.name} {m = library} {n = own}
      (λ h. library_only j t s g (InvokeOn object name args token) (class_methods class.name) name args token ms Absent (calls.IsLibraryCall.of_class e h other) way.Passes.of_object fs)
      (λ h. known_only object name args token ms class e h fs (class_named t.classes class.name) refl))
