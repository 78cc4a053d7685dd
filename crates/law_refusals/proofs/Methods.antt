-- Calls are refused where no method is chosen, where an argument is void, and where the method that they mean may not be called so.
use Rattle.std.proofs.Common.{◌≡◌, ◌∙◌, ap, sym, subst, refl, ℕ, Bool, true, false, List, [], ◌∷◌, Option, Some, Result, Ok, Err, ◌⊎◌, inl, inr}
use Rattle.std.specs.Prelude.{◌==◌, slice_get, codes, if◌then◌else◌}
use Rattle.std.specs.Prelude.{None as Absent}
use Rattle.std.specs.List.{Contains}
use Rattle.std.proofs.lemmas.Bool.Decides.{Decides-eqb}
use Rattle.wy_kernel.specs.Form as kernel
use Rattle.wy_kernel.specs.declared.types.Ty.{Ty}
use Rattle.wy_kernel.specs.declared.types.Ty.TheVariants.{Void}
use Rattle.wy_kernel.specs.declared.types.MethodForm.{MethodForm}
use Rattle.wy_kernel.specs.declared.types.MethodForm.TheVariants as kind
use Rattle.wy_kernel.specs.Program.{Class, Method, object_class}
use Rattle.wy_kernel.specs.Subtyping.{class_type}
use Rattle.wy_kernel.specs.Table.{Table}
use Rattle.wy_constant.specs.declared.rule.Rule.{Rule}
use Rattle.wy_constant.specs.declared.rule.Rule.TheVariants as rule
use Rattle.wy_constant.specs.Scope.{Scope, FixedText}
use Rattle.wy_overloads.specs.Choice.{Chosen, Refused, IsMethod}
use Rattle.wy_elab_expr.specs.Meaning.{Meaning, type_of, Gets, ◌>>=◌}
use Rattle.wy_elab_expr.specs.Operators.{Judgement, Settles, is_void, class_of, is_interface}
use Rattle.wy_elab_expr.specs.Members.{is_outside, some_void, types_of, of_choice, method_for, Through, Nothing, Object, Super, is_static, instance_if, broken_by, broken, called_unless, called_at, called, constructed, is_abstract, new_plain, created}
use Rattle.wy_elab_expr.specs.Members.{OfClass as ThroughClass}
use Rattle.law_refusals.specs.Operands.{IsInterface}
use Rattle.law_refusals.specs.Calls.{IsHidden, HaveValues}
use Rattle.law_refusals.specs.ExpressionLaws.{Given}
use Rattle.law_refusals.proofs.Contained.{contains_none, contains_cases}
use Rattle.law_refusals.proofs.Tests.{both_true, left_true, right_true, not_true}
use Rattle.law_refusals.proofs.Invoked.{void_among, found_method, static_is}
use Rattle.law_refusals.specs.Laws.{KnowsLibrary}
use Rattle.law_refusals.proofs.Never.{Never, never_refuse, never_if, never_then, never_else, never_bind, never_first}
use Rattle.law_refusals.proofs.AcceptedForms.{false_by}

-- ---- void arguments

void_first : (m : Meaning) (rest : List Meaning) → (type_of m ≡ Void) ⊎ (some_void rest ≡ true) → some_void (m ∷ rest) ≡ true
void_first m rest (inl e) = left_true (some_void rest) (ap is_void e)
void_first m rest (inr e) = right_true (is_void (type_of m)) e

pub some_is_void : (ms : List Meaning) → Contains (types_of ms) Void → some_void ms ≡ true
some_is_void [] h = absurd (contains_none h)
some_is_void (m ∷ rest) h = void_first m rest (elim (contains_cases (type_of m) Void (types_of rest) h) [ inl e ↦ inl e | inr k ↦ inr (some_is_void rest k) ])

pub none_is_void : (ms : List Meaning) → HaveValues ms → some_void ms ≡ false
none_is_void ms h = false_by (some_void ms) (λ e. h (void_among ms e))

-- ---- the choice of a method

pub never_method_of_void : (j : Judgement) (ty : Ty) (name : List ℕ) (ms : List Meaning) (token : ℕ) → some_void ms ≡ true → Never (method_for j ty name ms token)
unfolding method_for
never_method_of_void j ty name ms token e = never_then (some_void ms) _ e never_refuse

never_of_choice : (r : Result ℕ Rule) (q : Rule) (token : ℕ) → r ≡ Err q → Never (of_choice r token)
never_of_choice (Ok k) q token e = absurd (cc)
never_of_choice (Err r) q token e = never_refuse

pub never_method : (j : Judgement) (t : Table) → Settles t j → (ty : Ty) (name : List ℕ) (ms : List Meaning) (r : Rule) (token : ℕ) → Refused t ty name (types_of ms) r → Never (method_for j ty name ms token)
unfolding method_for
never_method j t g ty name ms r token h =
    never_if {b = some_void ms} (λ e. never_refuse) (λ e. never_of_choice (j.choice ty name (types_of ms)) r token ((g.refused ty name (types_of ms) r).1 h))

-- the method that is found is the one that is chosen
pub chosen_row : (j : Judgement) (t : Table) → Settles t j → (ty : Ty) (name : List ℕ) (ms : List Meaning) (k n token : ℕ) (m : Method) (u v : List FixedText) →
    Chosen t ty name (types_of ms) k → IsMethod t k m → method_for j ty name ms token u ≡ Ok (n, v) → slice_get t.methods n ≡ Some m
chosen_row j t g ty name ms k n token m u v c is e =
    let f = found_method j ty name ms n token u v e in
    let one : j.choice ty name (types_of ms) ≡ Ok k = (g.chosen ty name (types_of ms) k).1 c in
    let other : j.choice ty name (types_of ms) ≡ Ok n = f.choice in
    let same : k ≡ n = cc in
    subst (λ (z : ℕ). slice_get t.methods z ≡ Some m) same is

-- ---- methods that may not be called so

pub outside : (s : Scope) (is_private : Bool) (class : ℕ) → IsHidden s is_private class → is_outside s is_private class ≡ true
outside s is_private class h = both_true h.0 (not_true (false_by (class == s.class) (λ e. h.1 ((Decides-eqb class s.class).0 e))))

faulty_if : (b : Bool) (x y : Option Rule) → (b ≡ true → Given x) → (b ≡ false → Given y) → Given (if b then x else y)
faulty_if true x y f h = f refl
faulty_if false x y f h = h refl

pub broken_private : (s : Scope) (through : Through) (m : Method) → IsHidden s m.is_private m.class → Given (broken s through m)
broken_private s through m h = faulty_if (is_outside s m.is_private m.class) (Some rule.Private) (broken_by s through (is_static m.form) m.is_abstract) (λ e. (_, refl)) (λ e. (let out = outside s m.is_private m.class h in absurd (cc)))

pub broken_so : (s : Scope) (through : Through) (m : Method) → Given (broken_by s through (is_static m.form) m.is_abstract) → Given (broken s through m)
broken_so s through m h = faulty_if (is_outside s m.is_private m.class) (Some rule.Private) (broken_by s through (is_static m.form) m.is_abstract) (λ e. (_, refl)) (λ e. h)

pub broken_plain : (s : Scope) (m : Method) → (m.form ≡ kind.Static → ⊥) → s.has_this ≡ false → Given (broken s Nothing m)
broken_plain s m n e = broken_so s Nothing m (faulty_if (is_static m.form) Absent (instance_if s.has_this) (λ h. absurd (n (static_is m.form h))) (λ h. faulty_if s.has_this Absent (Some rule.NotInStatic) (λ k. absurd (cc)) (λ k. (_, refl))))

pub broken_of_class : (s : Scope) (m : Method) → (m.form ≡ kind.Static → ⊥) → Given (broken s ThroughClass m)
broken_of_class s m n = broken_so s ThroughClass m (faulty_if (is_static m.form) Absent (Some rule.NotInStatic) (λ h. absurd (n (static_is m.form h))) (λ h. (_, refl)))

pub broken_of_object : (s : Scope) (object : kernel.Expression) (m : Method) → m.form ≡ kind.Static → Given (broken s (Object object) m)
broken_of_object s object m e =
    let static : is_static m.form ≡ true = ap is_static e in
    broken_so s (Object object) m (faulty_if (is_static m.form) (Some rule.NotOffered) Absent (λ h. (_, refl)) (λ h. absurd (cc)))

bodiless : Bool → Option Rule
bodiless b = if b then Some rule.NotImplemented else Absent

pub broken_of_super : (s : Scope) (m : Method) → (s.has_this ≡ false) ⊎ (m.form ≡ kind.Static) ⊎ (m.is_abstract ≡ true) → Given (broken s Super m)
unfolding bodiless
broken_of_super s m h =
    broken_so s Super m
    (faulty_if s.has_this (if is_static m.form then Some rule.NotOffered else bodiless m.is_abstract) (Some rule.NotInStatic)
    (λ e. faulty_if (is_static m.form) (Some rule.NotOffered) (bodiless m.is_abstract) (λ k. (_, refl)) (λ k. faulty_if m.is_abstract (Some rule.NotImplemented) Absent (λ l. (_, refl)) (λ l. absurd (no_reason h e k l))))
    (λ e. (_, refl)))
  where
    no_reason : (s.has_this ≡ false) ⊎ (m.form ≡ kind.Static) ⊎ (m.is_abstract ≡ true) → s.has_this ≡ true → is_static m.form ≡ false → m.is_abstract ≡ false → ⊥
    no_reason (inl a) e k l = cc
    no_reason (inr (inl a)) e k l = let static : is_static m.form ≡ true = ap is_static a in cc
    no_reason (inr (inr a)) e k l = cc

never_unless : (o : Option Rule) (through : Through) (k : ℕ) (m : Method) (ty : Ty) (ms : List Meaning) (token : ℕ) → Given o → Never (called_unless o through k m ty ms token)
never_unless (Some r) through k m ty ms token h = never_refuse
never_unless Absent through k m ty ms token h = absurd (let e : Absent ≡ Some h.0 = h.1 in cc)

never_called_at : (s : Scope) (through : Through) (k : ℕ) (o : Option Method) (m : Method) (ty : Ty) (ms : List Meaning) (token : ℕ) → o ≡ Some m → Given (broken s through m) → Never (called_at s through k o ty ms token)
never_called_at s through k (Some n) m ty ms token e h =
    let same : n ≡ m = cc in
    never_unless (broken s through n) through k n ty ms token (subst (λ (z : Method). Given (broken s through z)) (sym same) h)
never_called_at s through k Absent m ty ms token e h = absurd (cc)

pub never_called_so : (j : Judgement) (t : Table) → Settles t j → (s : Scope) (through : Through) (ty : Ty) (name : List ℕ) (ms : List Meaning) (k token : ℕ) (m : Method) →
    Chosen t ty name (types_of ms) k → IsMethod t k m → Given (broken s through m) → Never (called j t s through ty name ms token)
unfolding called
never_called_so j t g s through ty name ms k token m c is h =
    never_bind (method_for j ty name ms token) (λ n. called_at s through n (slice_get t.methods n) ty ms token)
    (λ n u v e. never_called_at s through n (slice_get t.methods n) m ty ms token (chosen_row j t g ty name ms k n token m u v c is e) h)

pub never_called : (j : Judgement) (t : Table) (s : Scope) (through : Through) (ty : Ty) (name : List ℕ) (ms : List Meaning) (token : ℕ) → Never (method_for j ty name ms token) → Never (called j t s through ty name ms token)
unfolding called
never_called j t s through ty name ms token n = never_first (λ k. called_at s through k (slice_get t.methods k) ty ms token) n

never_super_at : (s : Scope) (k : ℕ) (o : Option Method) (ty : Ty) (ms : List Meaning) (token : ℕ) → s.has_this ≡ false → Never (called_at s Super k o ty ms token)
never_super_at s k (Some m) ty ms token e = never_unless (broken s Super m) Super k m ty ms token (broken_of_super s m (inl e))
never_super_at s k Absent ty ms token e = never_refuse

pub never_super_called : (j : Judgement) (t : Table) (s : Scope) (ty : Ty) (name : List ℕ) (ms : List Meaning) (token : ℕ) → s.has_this ≡ false → Never (called j t s Super ty name ms token)
unfolding called
never_super_called j t s ty name ms token e =
    never_bind (method_for j ty name ms token) (λ k. called_at s Super k (slice_get t.methods k) ty ms token) (λ k u v is. never_super_at s k (slice_get t.methods k) ty ms token e)

-- ---- `new`

-- an object of this class is made by this constructor
abbrev pub made_by : Judgement → Table → Scope → ℕ → List Meaning → ℕ → Gets Meaning
made_by j t s c ms token = method_for j (class_type c) (codes "new") ms token >>= λ k. constructed s c (is_abstract (class_of t c)) k (slice_get t.methods k) ms token

never_constructed : (s : Scope) (c : ℕ) (b : Bool) (k : ℕ) (o : Option Method) (m : Method) (ms : List Meaning) (token : ℕ) → o ≡ Some m → IsHidden s m.is_private m.class → Never (constructed s c b k o ms token)
never_constructed s c b k (Some n) m ms token e h =
    let same : n ≡ m = cc in
    never_then (is_outside s n.is_private n.class) _ (subst (λ (z : Method). is_outside s z.is_private z.class ≡ true) (sym same) (outside s m.is_private m.class h)) never_refuse
never_constructed s c b k Absent m ms token e h = absurd (cc)

pub never_made_private : (j : Judgement) (t : Table) → Settles t j → (s : Scope) (c : ℕ) (ms : List Meaning) (k token : ℕ) (m : Method) →
    Chosen t (class_type c) (codes "new") (types_of ms) k → IsMethod t k m → IsHidden s m.is_private m.class → Never (made_by j t s c ms token)
never_made_private j t g s c ms k token m d is h =
    never_bind (method_for j (class_type c) (codes "new") ms token) (λ n. constructed s c (is_abstract (class_of t c)) n (slice_get t.methods n) ms token)
    (λ n u v e. never_constructed s c (is_abstract (class_of t c)) n (slice_get t.methods n) m ms token (chosen_row j t g (class_type c) (codes "new") ms k n token m u v d is e) h)

never_abstract_constructed : (s : Scope) (c : ℕ) (b : Bool) (k : ℕ) (o : Option Method) (ms : List Meaning) (token : ℕ) → b ≡ true → Never (constructed s c b k o ms token)
never_abstract_constructed s c b k (Some m) ms token e = never_if {b = is_outside s m.is_private m.class} (λ h. never_refuse) (λ h. never_then b _ e never_refuse)
never_abstract_constructed s c b k Absent ms token e = never_refuse

never_plain : (ms : List Meaning) (token : ℕ) (m : Meaning) (rest : List Meaning) → ms ≡ m ∷ rest → Never (new_plain ms token)
never_plain [] token m rest e = absurd (cc)
never_plain (n ∷ others) token m rest e = never_refuse

module _ (j : Judgement) (t : Table) (l : KnowsLibrary t) (s : Scope) where
  -- neither Object nor an interface
  pub never_created : (c : ℕ) (ms : List Meaning) (token : ℕ) → (c ≡ object_class → ⊥) → (IsInterface t c → ⊥) → Never (made_by j t s c ms token) → Never (created j t s c ms token)
  unfolding created
  never_created c ms token other plain n =
      never_else (c == object_class) _ (false_by (c == object_class) (λ e. other ((Decides-eqb c object_class).0 e)))
      (never_if {b = is_interface (class_of t c)} (λ e. never_if {b = some_void ms} (λ h. never_refuse) (λ h. never_refuse)) (λ e. n))

  no_object : (c : ℕ) → IsInterface t c → (c == object_class) ≡ false
  no_object c h =
      false_by (c == object_class) (λ e. (
      let same : c ≡ object_class = (Decides-eqb c object_class).0 e in
      let row : slice_get t.classes object_class ≡ Some h.0 = subst (λ (z : ℕ). slice_get t.classes z ≡ Some h.0) same h.1 in
      let one : h.0.is_interface ≡ false = l.no_interface h.0 row in
      let other : h.0.is_interface ≡ true = h.2 in
      let no : ⊥ = cc in
      no))

  interface_row : (c : ℕ) → IsInterface t c → is_interface (class_of t c) ≡ true
  interface_row c h = ap is_interface h.1 ∙ h.2

  pub never_interface_created : (c : ℕ) (ms : List Meaning) (token : ℕ) → IsInterface t c → Never (created j t s c ms token)
  unfolding created
  never_interface_created c ms token h =
      never_else (c == object_class) _ (no_object c h)
      (never_then (is_interface (class_of t c)) _ (interface_row c h) (never_if {b = some_void ms} (λ e. never_refuse) (λ e. never_refuse)))

  pub never_abstract_created : (c : ℕ) (ms : List Meaning) (token : ℕ) (k : Class) → slice_get t.classes c ≡ Some k → k.is_abstract ≡ true → Never (created j t s c ms token)
  unfolding created
  never_abstract_created c ms token k row e =
      never_else (c == object_class) _ (false_by (c == object_class) (λ h. (
      let same : c ≡ object_class = (Decides-eqb c object_class).0 h in
      let at : slice_get t.classes object_class ≡ Some k = subst (λ (z : ℕ). slice_get t.classes z ≡ Some k) same row in
      let one : k.is_abstract ≡ false = l.not_abstract k at in
      let no : ⊥ = cc in
      no)))
      (never_if {b = is_interface (class_of t c)} (λ i. never_if {b = some_void ms} (λ h. never_refuse) (λ h. never_refuse))
      (λ i. never_bind (method_for j (class_type c) (codes "new") ms token) (λ n. constructed s c (is_abstract (class_of t c)) n (slice_get t.methods n) ms token)
      (λ n u v is. never_abstract_constructed s c (is_abstract (class_of t c)) n (slice_get t.methods n) ms token (ap is_abstract row ∙ e))))

  pub never_object_created : (c : ℕ) (ms : List Meaning) (token : ℕ) (m : Meaning) (rest : List Meaning) → c ≡ object_class → ms ≡ m ∷ rest → Never (created j t s c ms token)
  unfolding created
  never_object_created c ms token m rest e h = never_then (c == object_class) _ ((Decides-eqb c object_class).1 e) (never_plain ms token m rest h)

  pub never_created_of_void : (c : ℕ) (ms : List Meaning) (token : ℕ) → some_void ms ≡ true → Never (created j t s c ms token)
  unfolding created
  never_created_of_void c ms token e =
      never_if {b = c == object_class} (λ h. never_plain_of_void ms e)
      (λ h. never_if {b = is_interface (class_of t c)} (λ i. never_if {b = some_void ms} (λ k. never_refuse) (λ k. never_refuse))
      (λ i. never_first (λ n. constructed s c (is_abstract (class_of t c)) n (slice_get t.methods n) ms token) (never_method_of_void j (class_type c) (codes "new") ms token e)))
    where
      never_plain_of_void : (all : List Meaning) → some_void all ≡ true → Never (new_plain all token)
      never_plain_of_void [] h = absurd (cc)
      never_plain_of_void (m ∷ rest) h = never_refuse
