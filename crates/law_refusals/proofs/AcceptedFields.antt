-- Names and fields are refused where there is no such field, where it is hidden, and where it is static or of an instance in the wrong place.
use Rattle.std.proofs.Common.{◌≡◌, ◌∙◌, ap, sym, subst, refl, ℕ, zero, suc, true, false, List, Option, Some, Ok}
use Rattle.std.specs.Prelude.{slice_get}
use Rattle.std.specs.Prelude.{None as Absent}
use Rattle.wy_kernel.specs.Form as kernel
use Rattle.wy_kernel.specs.declared.types.Base.TheVariants.{Primitive as Basic, Class as Named}
use Rattle.wy_kernel.specs.declared.types.Ty.{Ty}
use Rattle.wy_kernel.specs.declared.types.Ty.TheVariants.{Void, Null, Of}
use Rattle.wy_kernel.specs.Program.{Field as FieldRow}
use Rattle.wy_kernel.specs.Subtyping.{class_type}
use Rattle.wy_kernel.specs.Table.{Table, ConstantValue}
use Rattle.wy_syntax.specs.Syntax.{Expression, Field, SuperField}
use Rattle.wy_constant.specs.declared.rule.Rule.TheVariants.{NotOffered}
use Rattle.wy_constant.specs.Scope.{Scope, FixedText, Variable, denoted}
use Rattle.wy_constant.specs.Fields.{class_named, field_of}
use Rattle.wy_constant.specs.Constant.{name_constant, member_constant}
use Rattle.wy_elab_expr.specs.Meaning.{Meaning, Formed, type_of, Gets, give, refuse, ◌>>=◌, formed}
use Rattle.wy_elab_expr.specs.Operators.{Judgement}
use Rattle.wy_elab_expr.specs.Members.{Spot, this_form, is_outside, own_field, own_field_named, variable_or_field, named_spot, named, read_as, static_field, field_of_class, is_library_name, member_of_class, qualified_spot, qualified_name, limit_or, object_field, field_through, field_spot, field_read, is_length}
use Rattle.wy_elab_expr.specs.Elaboration.{ClassName, class_in, above, super_field_named, super_spot, read, elaborated}
use Rattle.law_refusals.specs.Found.{IsFound}
use Rattle.law_refusals.specs.Calls.{IsNoLocal, IsField, HasNoField, IsHidden}
use Rattle.law_refusals.specs.Breaches.{IsFieldOf, IsFieldOfClass}
use Rattle.law_refusals.specs.Breaches as way
use Rattle.law_refusals.proofs.ExpressionParts.{is_found}
use Rattle.law_refusals.proofs.Once.{found_once}
use Rattle.law_refusals.proofs.Likewise.{same_type}
use Rattle.law_refusals.specs.Laws.{KnowsLibrary}
use Rattle.law_refusals.proofs.Never.{Never, never_refuse, never_if, never_then, never_else, never_bind, never_first}
use Rattle.law_refusals.proofs.AcceptedForms.{false_by}
use Rattle.law_refusals.proofs.Methods.{outside}

-- an expression is found to have one type
pub one_type : (j : Judgement) (t : Table) (s : Scope) (e : Expression) (m n : Meaning) (u v : List FixedText) → IsFound j t s e m → elaborated j t s e u ≡ Ok (n, v) → type_of n ≡ type_of m
one_type j t s e m n u v f is = same_type (found_once j t s e n m (is_found u v is) f)

module _ (t : Table) (s : Scope) where
  -- ---- fields by their rows

  by_none : (F : Option ℕ → Gets Spot) (G : ℕ → Option FieldRow → Gets Spot) → Never (F Absent) → ((k : ℕ) → Never (G k Absent)) → ((k : ℕ) → Never (G k (slice_get t.fields k)) → Never (F (Some k))) →
      (c : ℕ) (name : List ℕ) → HasNoField t c name → (o : Option ℕ) → field_of t c name ≡ o → Never (F o)
  by_none F G none no_row step c name h Absent e = none
  by_none F G none no_row step c name h (Some k) e = step k (by_no_row (slice_get t.fields k) refl)
    where
      by_no_row : (r : Option FieldRow) → slice_get t.fields k ≡ r → Never (G k r)
      by_no_row Absent is = no_row k
      by_no_row (Some f) is = absurd (h k f (record { denotes = e; row = is }))

  by_row : (F : Option ℕ → Gets Spot) (G : ℕ → Option FieldRow → Gets Spot) → ((k : ℕ) → Never (G k (slice_get t.fields k)) → Never (F (Some k))) →
      (c : ℕ) (name : List ℕ) (k : ℕ) (f : FieldRow) → IsField t c name k f → Never (G k (Some f)) → Never (F (field_of t c name))
  by_row F G step c name k f is n =
      let P : Option ℕ → Type 0 = λ z. Never (F z) in
      let Q : Option FieldRow → Type 0 = λ z. Never (G k z) in
      subst P (sym is.denotes) (step k (subst Q (sym is.row) n))

  -- ---- simple names

  never_own_hidden : (k : ℕ) (f : FieldRow) (token : ℕ) → IsHidden s f.is_private f.class → Never (own_field s k (Some f) token)
  never_own_hidden k f token h = never_then (is_outside s f.is_private f.class) _ (outside s f.is_private f.class h) never_refuse

  never_own_instance : (k : ℕ) (f : FieldRow) (token : ℕ) → f.is_static ≡ false → s.has_this ≡ false → Never (own_field s k (Some f) token)
  never_own_instance k f token e h = never_if {b = is_outside s f.is_private f.class} (λ x. never_refuse) (λ x. never_else f.is_static _ e (never_else s.has_this _ h never_refuse))

  never_local : (name : List ℕ) (token : ℕ) → (o : Option Variable) → o ≡ Absent → Never (own_field_named t s (field_of t s.class name) token) → Never (variable_or_field t s name o token)
  never_local name token (Some v) e n = absurd (cc)
  never_local name token Absent e n = n

  never_named : (name : List ℕ) (token : ℕ) → IsNoLocal s name → Never (own_field_named t s (field_of t s.class name) token) → Never (named t s name token)
  unfolding named named_spot
  never_named name token e n = never_first (λ p. give (read_as (name_constant t s name) p token)) (never_local name token (denoted s name) e n)

  pub never_unknown : (name : List ℕ) (token : ℕ) → IsNoLocal s name → HasNoField t s.class name → Never (named t s name token)
  never_unknown name token e h =
      never_named name token e (by_none (λ o. own_field_named t s o token) (λ k r. own_field s k r token) never_refuse (λ k. never_refuse) (λ k n. n) s.class name h (field_of t s.class name) refl)

  pub never_named_hidden : (name : List ℕ) (token k : ℕ) (f : FieldRow) → IsNoLocal s name → IsField t s.class name k f → IsHidden s f.is_private f.class → Never (named t s name token)
  never_named_hidden name token k f e is h =
      never_named name token e (by_row (λ o. own_field_named t s o token) (λ k r. own_field s k r token) (λ k n. n) s.class name k f is (never_own_hidden k f token h))

  pub never_named_instance : (name : List ℕ) (token k : ℕ) (f : FieldRow) → IsNoLocal s name → IsField t s.class name k f → f.is_static ≡ false → s.has_this ≡ false → Never (named t s name token)
  never_named_instance name token k f e is h i =
      never_named name token e (by_row (λ o. own_field_named t s o token) (λ k r. own_field s k r token) (λ k n. n) s.class name k f is (never_own_instance k f token h i))

  -- ---- behind a class's name

  pub never_of_class_none : (c : ℕ) (name : List ℕ) (token : ℕ) → HasNoField t c name → Never (field_of_class t s c (field_of t c name) token)
  never_of_class_none c name token h = by_none (λ o. field_of_class t s c o token) (λ k r. static_field s k r token) never_refuse (λ k. never_refuse) (λ k n. n) c name h (field_of t c name) refl

  pub never_of_class_hidden : (c : ℕ) (name : List ℕ) (token k : ℕ) (f : FieldRow) → IsField t c name k f → IsHidden s f.is_private f.class → Never (field_of_class t s c (field_of t c name) token)
  never_of_class_hidden c name token k f is h =
      by_row (λ o. field_of_class t s c o token) (λ k r. static_field s k r token) (λ k n. n) c name k f is (never_then (is_outside s f.is_private f.class) _ (outside s f.is_private f.class h) never_refuse)

  pub never_of_class_instance : (c : ℕ) (name : List ℕ) (token k : ℕ) (f : FieldRow) → IsField t c name k f → f.is_static ≡ false → Never (field_of_class t s c (field_of t c name) token)
  never_of_class_instance c name token k f is e =
      by_row (λ o. field_of_class t s c o token) (λ k r. static_field s k r token) (λ k n. n) c name k f is (never_if {b = is_outside s f.is_private f.class} (λ x. never_refuse) (λ x. never_else f.is_static _ e never_refuse))

  -- ---- of an object

  pub never_through_none : (c : ℕ) (object : kernel.Expression) (name : List ℕ) (token : ℕ) → HasNoField t c name → Never (field_through t s c object (field_of t c name) token)
  never_through_none c object name token h = by_none (λ o. field_through t s c object o token) (λ k r. object_field s object k r token) never_refuse (λ k. never_refuse) (λ k n. n) c name h (field_of t c name) refl

  pub never_through_hidden : (c : ℕ) (object : kernel.Expression) (name : List ℕ) (token k : ℕ) (f : FieldRow) → IsField t c name k f → IsHidden s f.is_private f.class → Never (field_through t s c object (field_of t c name) token)
  never_through_hidden c object name token k f is h =
      by_row (λ o. field_through t s c object o token) (λ k r. object_field s object k r token) (λ k n. n) c name k f is (never_then (is_outside s f.is_private f.class) _ (outside s f.is_private f.class h) never_refuse)

  pub never_through_static : (c : ℕ) (object : kernel.Expression) (name : List ℕ) (token k : ℕ) (f : FieldRow) → IsField t c name k f → f.is_static ≡ true → Never (field_through t s c object (field_of t c name) token)
  never_through_static c object name token k f is e =
      by_row (λ o. field_through t s c object o token) (λ k r. object_field s object k r token) (λ k n. n) c name k f is (never_if {b = is_outside s f.is_private f.class} (λ x. never_refuse) (λ x. never_then f.is_static _ e never_refuse))

  never_spot_of_class : (m : Meaning) (c : ℕ) (name : List ℕ) (token : ℕ) (ty : Ty) → ty ≡ class_type c → ((object : kernel.Expression) → Never (field_through t s c object (field_of t c name) token)) → Never (field_spot t s m ty name token)
  unfolding field_spot
  never_spot_of_class m c name token ty e n =
      let P : Ty → Type 0 = λ z. Never (field_spot t s m z name token) in
      let one : Never (field_spot t s m (class_type c) name token) = never_bind (formed m) (λ object. field_through t s c object (field_of t c name) token) (λ object u v is. n object) in
      subst P (sym e) one

  pub never_read_of_class : (m : Meaning) (c : ℕ) (name : List ℕ) (token : ℕ) → type_of m ≡ class_type c → ((object : kernel.Expression) → Never (field_through t s c object (field_of t c name) token)) → Never (field_read t s m name token)
  unfolding field_read
  never_read_of_class m c name token e n =
      never_else (is_length (type_of m) name) _ (ap (λ z. is_length z name) e) (never_first (λ p. give (Formed (kernel.Read p.place) p.ty)) (never_spot_of_class m c name token (type_of m) e n))

  never_spot_of_none : (m : Meaning) (name : List ℕ) (token : ℕ) (ty : Ty) → ((c : ℕ) → ty ≡ class_type c → ⊥) → Never (field_spot t s m ty name token)
  unfolding field_spot
  never_spot_of_none m name token (Of (Named c) zero) n = absurd (n c refl)
  never_spot_of_none m name token (Of (Named c) (suc k)) n = never_refuse
  never_spot_of_none m name token (Of (Basic p) k) n = never_refuse
  never_spot_of_none m name token Void n = never_refuse
  never_spot_of_none m name token Null n = never_refuse

  -- neither an object nor an array
  pub never_read_of_none : (m : Meaning) (name : List ℕ) (token : ℕ) → ((c : ℕ) → type_of m ≡ class_type c → ⊥) → is_length (type_of m) name ≡ false → Never (field_read t s m name token)
  unfolding field_read
  never_read_of_none m name token n e = never_else (is_length (type_of m) name) _ e (never_first (λ p. give (Formed (kernel.Read p.place) p.ty)) (never_spot_of_none m name token (type_of m) n))

module _ (j : Judgement) (t : Table) (l : KnowsLibrary t) (s : Scope) where
  dot_class : (object : Expression) (name : List ℕ) (token : ℕ) (class : ClassName) → (o : Option ClassName) → o ≡ Some class → Never (qualified_name t s class.name name class.token token) →
      Never (elim o as (λ _. Gets Meaning) [ Some c ↦ qualified_name t s c.name name c.token token | Absent ↦ (elaborated j t s object >>= λ m. field_read t s m name token) ])
  dot_class object name token class (Some c) e n = let same : c ≡ class = cc in let P : ClassName → Type 0 = λ z. Never (qualified_name t s z.name name z.token token) in subst P (sym same) n
  dot_class object name token class Absent e n = absurd (cc)

  dot_object : (object : Expression) (name : List ℕ) (token : ℕ) (m : Meaning) → (o : Option ClassName) → o ≡ Absent → IsFound j t s object m → ((n : Meaning) → type_of n ≡ type_of m → Never (field_read t s n name token)) →
      Never (elim o as (λ _. Gets Meaning) [ Some c ↦ qualified_name t s c.name name c.token token | Absent ↦ (elaborated j t s object >>= λ m. field_read t s m name token) ])
  dot_object object name token m (Some c) e f n = absurd (cc)
  dot_object object name token m Absent e f n = never_bind (elaborated j t s object) (λ m. field_read t s m name token) (λ a u v is. n a (one_type j t s object m a u v f is))

  pub never_field_of : (object : Expression) (name : List ℕ) (token : ℕ) (m : Meaning) → class_in t s object ≡ Absent → IsFound j t s object m → ((n : Meaning) → type_of n ≡ type_of m → Never (field_read t s n name token)) → Never (elaborated j t s (Field object name token))
  unfolding elaborated
  never_field_of object name token m e f n = dot_object object name token m (class_in t s object) e f n

  pub never_field_of_class : (object : Expression) (name : List ℕ) (token : ℕ) (class : ClassName) → class_in t s object ≡ Some class → Never (qualified_name t s class.name name class.token token) → Never (elaborated j t s (Field object name token))
  unfolding elaborated
  never_field_of_class object name token class e n = dot_class object name token class (class_in t s object) e n

  never_super_named : (o : Option ℕ) (token : ℕ) → Never (field_through t s (above t s) this_form o token) → Never (super_field_named t s o token)
  never_super_named (Some k) token n = n
  never_super_named Absent token n = never_refuse

  never_super_spot : (name : List ℕ) (token : ℕ) → Never (field_through t s (above t s) this_form (field_of t (above t s) name) token) → Never (super_spot t s name token)
  unfolding super_spot
  never_super_spot name token n = never_if {b = s.has_this} (λ e. never_super_named (field_of t (above t s) name) token n) (λ e. never_refuse)

  pub never_super : (name : List ℕ) (token : ℕ) → Never (super_spot t s name token) → Never (elaborated j t s (SuperField name token))
  unfolding elaborated
  never_super name token n = never_first (λ p. give (read p)) n

  pub never_super_outside : (name : List ℕ) (token : ℕ) → s.has_this ≡ false → Never (super_spot t s name token)
  unfolding super_spot
  never_super_outside name token e = never_else s.has_this _ e never_refuse

  -- a field of an object, or of the class above
  pub never_through : {e : Expression} {c : ℕ} {name : List ℕ} {token : ℕ} → IsFieldOf j t s e c name token → ((object : kernel.Expression) → Never (field_through t s c object (field_of t c name) token)) → Never (elaborated j t s e)
  never_through (way.IsFieldOf.of_object {object = object} {name = name} {token = token} {c = c} {m = m} e f is) n =
      never_field_of object name token m e f (λ a same. never_read_of_class t s a c name token (same ∙ is) n)
  never_through (way.IsFieldOf.of_super {name = name} {token = token}) n = never_super name token (never_super_spot name token (n this_form))

  never_member : (class : List ℕ) (o : Option ℕ) (c : ℕ) (name : List ℕ) (at token : ℕ) → o ≡ Some c → Never (field_of_class t s c (field_of t c name) token) → Never (member_of_class t s class o name at token)
  never_member class (Some d) c name at token e n = let same : d ≡ c = cc in let P : ℕ → Type 0 = λ z. Never (field_of_class t s z (field_of t z name) token) in subst P (sym same) n
  never_member class Absent c name at token e n = absurd (cc)

  never_qualified_spot : (class : List ℕ) (c : ℕ) (name : List ℕ) (at token : ℕ) → class_named t.classes class ≡ Some c → Never (field_of_class t s c (field_of t c name) token) → Never (qualified_spot t s class name at token)
  unfolding qualified_spot
  never_qualified_spot class c name at token e n = never_member class (class_named t.classes class) c name at token e n

  never_qualified : (class : List ℕ) (c : ℕ) (name : List ℕ) (at token : ℕ) → class_named t.classes class ≡ Some c → Never (field_of_class t s c (field_of t c name) token) → Never (qualified_name t s class name at token)
  unfolding qualified_name
  never_qualified class c name at token e n =
      never_else (is_library_name class) _ (false_by (is_library_name class) (λ h. (let none : class_named t.classes class ≡ Absent = l.reserved class h in let no : ⊥ = cc in no)))
      (never_first (λ p. give (read_as (member_constant t class name) p at)) (never_qualified_spot class c name at token e n))

  never_limit : (o : Option ConstantValue) (at token : ℕ) → o ≡ Absent → Never (limit_or o at (refuse NotOffered token))
  never_limit (Some v) at token e = absurd (cc)
  never_limit Absent at token e = never_refuse

  pub never_constant : (class name : List ℕ) (at token : ℕ) → is_library_name class ≡ true → member_constant t class name ≡ Absent → Never (qualified_name t s class name at token)
  unfolding qualified_name
  never_constant class name at token e h = never_then (is_library_name class) _ e (never_limit (member_constant t class name) at token h)

  -- a field behind the name of its class
  pub never_by_class : {e : Expression} {c : ℕ} {name : List ℕ} {token : ℕ} → IsFieldOfClass t s e c name token → Never (field_of_class t s c (field_of t c name) token) → Never (elaborated j t s e)
  never_by_class (way.IsFieldOfClass.of_class {object = object} {name = name} {token = token} {c = c} {class = class} h) n =
      never_field_of_class object name token class h.is_name (never_qualified class.name c name class.token token h.denotes n)
