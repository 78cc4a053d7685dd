-- Where names and fields are refused, their expression breaks the rule.
use Rattle.std.proofs.Common.{◌≡◌, ◌∙◌, ap, subst, refl, arith, ℕ, zero, suc, ◌<◌, ◌≤◌, Bool, true, false, List, Option, Some, inl, inr}
use Rattle.std.specs.Prelude.{◌&&◌, ◌||◌, not, ◌==◌, nat_lt, slice_get, is_some, bytes_eq, codes, if◌then◌else◌}
use Rattle.std.specs.Prelude.{None as Absent}
use Rattle.std.proofs.lemmas.Bool.Decides.{Decides-eqb, Decides-ltb}
use Rattle.wy_kernel.specs.Form as kernel
use Rattle.wy_kernel.specs.declared.operator.Primitive.TheVariants as prim
use Rattle.wy_kernel.specs.declared.types.Base.{Base}
use Rattle.wy_kernel.specs.declared.form.LibOp.TheVariants as lib
use Rattle.wy_kernel.specs.declared.types.Base.TheVariants.{Primitive as Basic, Class as Named}
use Rattle.wy_kernel.specs.declared.types.Ty.{Ty}
use Rattle.wy_kernel.specs.declared.types.Ty.TheVariants.{Void, Null, Of}
use Rattle.wy_kernel.specs.Program.{Field as FieldRow, first_source_class}
use Rattle.wy_kernel.specs.Subtyping.{class_type, primitive_type}
use Rattle.wy_kernel.specs.Table.{Table, ConstantValue}
use Rattle.wy_syntax.specs.Syntax.{Expression, Name, Field, SuperField}
use Rattle.wy_constant.specs.declared.rule.Rule.TheVariants.{UnknownName, Private, NotInStatic, NotOffered}
use Rattle.wy_constant.specs.Scope.{Scope, Variable, denoted}
use Rattle.wy_constant.specs.Fields.{class_named, field_of}
use Rattle.wy_constant.specs.Constant.{member_constant, can_name_class, class_value}
use Rattle.wy_elab_expr.specs.Meaning.{Meaning, Formed, type_of, Gets, give, refuse, ◌>>=◌, formed}
use Rattle.wy_elab_expr.specs.Operators.{Judgement}
use Rattle.wy_elab_expr.specs.Members.{Spot, spot, this_form, is_outside, own_field, own_field_named, variable_or_field, named_spot, named, read_as, no_field, static_field, field_of_class, is_library_name, member_of_class, qualified_spot, qualified_name, limit_or, object_field, field_through, field_spot, field_read, is_length}
use Rattle.wy_elab_expr.specs.Elaboration.{ClassName, class_in, names_class, above, super_field_named, super_spot, field_target, class_target, is_an_array, is_limit}
use Rattle.law_refusals.specs.Found.{IsFound}
use Rattle.law_refusals.specs.Calls.{IsNoLocal, IsField, HasNoField, IsHidden}
use Rattle.law_refusals.specs.Breaches.{ExpressionBreaks, IsFieldOf, IsFieldOfClass, Selects, NamesField}
use Rattle.law_refusals.specs.Breaches as way
use Rattle.law_refusals.proofs.Walk.{Only, only_give, only_refuse, only_if, only_bind, only_formed}
use Rattle.law_refusals.proofs.Tests.{false_not_true, first_true, second_true, not_false, one_true}
use Rattle.law_refusals.proofs.Forms.{Blamed}
use Rattle.law_refusals.proofs.Rows.{field_row}

-- ---- fields that there are not

no_field_denoted : (t : Table) (class : ℕ) (name : List ℕ) → field_of t class name ≡ Absent → HasNoField t class name
no_field_denoted t class name e k f is = let d = is.denotes in let no : ⊥ = cc in no

no_field_row : (t : Table) (class k : ℕ) (name : List ℕ) → field_of t class name ≡ Some k → slice_get t.fields k ≡ Absent → HasNoField t class name
no_field_row t class k name e r n f is =
    let d = is.denotes in
    let same : n ≡ k = cc in
    let row : slice_get t.fields k ≡ Some f = subst (λ (z : ℕ). slice_get t.fields z ≡ Some f) same is.row in
    let no : ⊥ = cc in no

-- ---- private members

other_class : (s : Scope) (class : ℕ) → not (class == s.class) ≡ true → class ≡ s.class → ⊥
other_class s class e same = let f : (class == s.class) ≡ true = (Decides-eqb class s.class).1 same in let h : (class == s.class) ≡ false = not_false e in let no : ⊥ = cc in no

pub hidden : (s : Scope) (is_private : Bool) (class : ℕ) → is_outside s is_private class ≡ true → IsHidden s is_private class
hidden s is_private class e = (first_true is_private (not (class == s.class)) e, other_class s class (second_true is_private (not (class == s.class)) e))

array_is_no_class : {ty : Ty} {b : Base} {n c : ℕ} → ty ≡ Of b (suc n) → ty ≡ class_type c → ⊥
array_is_no_class e v = cc

-- ---- names of classes

class_by : (t : Table) (s : Scope) (name : List ℕ) (token : ℕ) (class : ClassName) → (b : Bool) → names_class t s name ≡ b → (if b then Some (record { name = name; token = token }) else Absent) ≡ Some class →
    class_named t.classes class.name ≡ Absent → is_library_name class.name ≡ false → ⊥
class_by t s name token class false h e none f = cc
class_by t s name token class true h e none f =
    let is : record { name = name; token = token } ≡ class = cc in
    let same : name ≡ class.name = ap (λ (z : ClassName). z.name) is in
    let known = second_true (can_name_class t s name) (is_some (class_named t.classes name) || is_library_name name) h in
    elim (one_true (is_some (class_named t.classes name)) (is_library_name name) known) [
      | inl some ↦ (let no : is_some (class_named t.classes name) ≡ false = ap (λ z. is_some (class_named t.classes z)) same ∙ ap (λ o. is_some o) none in false_not_true no some)
      | inr library ↦ (let no : is_library_name name ≡ false = ap is_library_name same ∙ f in false_not_true no library)
    ]

-- what is before a dot names a class of the table, or one that only the library has
pub named_class : (t : Table) (s : Scope) (object : Expression) (class : ClassName) → class_in t s object ≡ Some class → class_named t.classes class.name ≡ Absent → is_library_name class.name ≡ false → ⊥
named_class t s (Name name token) class e none f = class_by t s name token class (names_class t s name) refl e none f
named_class t s _ class e none f = cc

-- a library's class has no constants but limits
limits : (i l most least : Bool) (a b c d : ConstantValue) (other : Option ConstantValue) → ((i || l) && (most || least)) ≡ false → other ≡ Absent →
    (if i then (if most then Some a else (if least then Some b else Absent)) else (if l then (if most then Some c else (if least then Some d else Absent)) else other)) ≡ Absent
limits true l true least a b c d other e none = absurd (cc)
limits true l false true a b c d other e none = absurd (cc)
limits true l false false a b c d other e none = refl
limits false true true least a b c d other e none = absurd (cc)
limits false true false true a b c d other e none = absurd (cc)
limits false true false false a b c d other e none = refl
limits false false most least a b c d other e none = none

no_limit : (t : Table) (class name : List ℕ) → is_limit class name ≡ false → class_named t.classes class ≡ Absent → member_constant t class name ≡ Absent
unfolding member_constant
no_limit t class name e none =
    limits (bytes_eq class (codes "Integer")) (bytes_eq class (codes "Long")) (bytes_eq name (codes "MAX_VALUE")) (bytes_eq name (codes "MIN_VALUE")) _ _ _ _
    (class_value t (class_named t.classes class) name) e (ap (λ o. class_value t o name) none)

module _ (j : Judgement) (t : Table) (s : Scope) where
  -- ---- simple names

  own_row : (name : List ℕ) (token k : ℕ) → IsNoLocal s name → field_of t s.class name ≡ Some k → (o : Option FieldRow) → slice_get t.fields k ≡ o → Only (Blamed j t s (Name name token)) (own_field s k o token)
  own_row name token k free e Absent r = only_refuse (way.simple free (no_field_row t s.class k name e r))
  own_row name token k free e (Some f) r =
      let is : IsField t s.class name k f = record { denotes = e; row = r } in
      let placed : Gets Spot = if s.has_this then give (spot (kernel.Field this_form k token) f.ty f.is_fixed) else refuse NotInStatic token in
      only_if {b = is_outside s f.is_private f.class} {m = refuse Private token} {n = if f.is_static then give (spot (kernel.Static k token) f.ty f.is_fixed) else placed}
      (λ out. only_refuse (way.IsPrivate.field (way.alone free) is (hidden s f.is_private f.class out)))
      (λ inside. only_if {b = f.is_static} {m = give (spot (kernel.Static k token) f.ty f.is_fixed)} {n = placed} (λ h. only_give)
      (λ instance. only_if {b = s.has_this} {m = give (spot (kernel.Field this_form k token) f.ty f.is_fixed)} {n = refuse NotInStatic token} (λ h. only_give)
      (λ none. only_refuse (way.IsNotInStatic.field free is instance none))))

  own_named : (name : List ℕ) (token : ℕ) → IsNoLocal s name → (o : Option ℕ) → field_of t s.class name ≡ o → Only (Blamed j t s (Name name token)) (own_field_named t s o token)
  own_named name token free (Some k) e = own_row name token k free e (slice_get t.fields k) refl
  own_named name token free Absent e = only_refuse (way.simple free (no_field_denoted t s.class name e))

  spot_by : (name : List ℕ) (token : ℕ) → (o : Option Variable) → denoted s name ≡ o → Only (Blamed j t s (Name name token)) (variable_or_field t s name o token)
  spot_by name token (Some v) e = only_give
  spot_by name token Absent e = own_named name token e (field_of t s.class name) refl

  pub spot_only : (name : List ℕ) (token : ℕ) → Only (Blamed j t s (Name name token)) (named_spot t s name token)
  unfolding named_spot
  spot_only name token = spot_by name token (denoted s name) refl

  pub named_only : (name : List ℕ) (token : ℕ) → Only (Blamed j t s (Name name token)) (named t s name token)
  unfolding named
  named_only name token = only_bind (spot_only name token) (λ p u v is. only_give)

  -- ---- behind a dot

  below_first : (c : ℕ) → nat_lt c first_source_class ≡ true → c < first_source_class
  below_first c e = (Decides-ltb c first_source_class).0 e

  not_below : (c : ℕ) → nat_lt c first_source_class ≡ false → first_source_class ≤ c
  not_below c e = let n : ¬ (c < first_source_class) = λ lt. (let f : nat_lt c first_source_class ≡ true = (Decides-ltb c first_source_class).1 lt in cc) in omega arith

  no_field_by : (e : Expression) (c : ℕ) (name : List ℕ) (token : ℕ) → Selects j t s e c name token → HasNoField t c name → (b : Bool) → nat_lt c first_source_class ≡ b →
      ExpressionBreaks j t s e (if b then NotOffered else UnknownName) token
  no_field_by e c name token sel none true lt = way.IsNotOffered.no_field sel (below_first c lt) none
  no_field_by e c name token sel none false lt = way.IsUnknownName.no_field sel (not_below c lt) none

  pub no_field_only : {A : Type 0} (e : Expression) (c : ℕ) (name : List ℕ) (token : ℕ) → Selects j t s e c name token → HasNoField t c name → Only {A = A} (Blamed j t s e) (refuse (no_field c) token)
  no_field_only e c name token sel none = only_refuse (no_field_by e c name token sel none (nat_lt c first_source_class) refl)

  -- a field behind a class's name
  static_row : (e : Expression) (c : ℕ) (name : List ℕ) (token k : ℕ) → IsFieldOfClass t s e c name token → field_of t c name ≡ Some k → (o : Option FieldRow) → slice_get t.fields k ≡ o →
      Only (Blamed j t s e) (static_field s k o token)
  static_row e c name token k sel d Absent r = absurd (field_row t c k name d r)
  static_row e c name token k sel d (Some f) r =
      let is : IsField t c name k f = record { denotes = d; row = r } in
      let placed : Gets Spot = if f.is_static then give (spot (kernel.Static k token) f.ty f.is_fixed) else refuse NotInStatic token in
      only_if {b = is_outside s f.is_private f.class} {m = refuse Private token} {n = placed}
      (λ out. only_refuse (way.IsPrivate.field (way.behind (way.by_class sel)) is (hidden s f.is_private f.class out)))
      (λ inside. only_if {b = f.is_static} {m = give (spot (kernel.Static k token) f.ty f.is_fixed)} {n = refuse NotInStatic token} (λ h. only_give)
      (λ instance. only_refuse (way.field_of_class sel is instance)))

  in_class : (e : Expression) (c : ℕ) (name : List ℕ) (token : ℕ) → IsFieldOfClass t s e c name token → (o : Option ℕ) → field_of t c name ≡ o → Only (Blamed j t s e) (field_of_class t s c o token)
  in_class e c name token sel (Some k) d = static_row e c name token k sel d (slice_get t.fields k) refl
  in_class e c name token sel Absent d = no_field_only e c name token (way.by_class sel) (no_field_denoted t c name d)

  member_by : (object : Expression) (name : List ℕ) (token : ℕ) (class : ClassName) → class_in t s object ≡ Some class → (is_library_name class.name ≡ true → member_constant t class.name name ≡ Absent) →
      (o : Option ℕ) → class_named t.classes class.name ≡ o → Only (Blamed j t s (Field object name token)) (member_of_class t s class.name o name class.token token)
  member_by object name token class e limit (Some c) d = in_class (Field object name token) c name token (way.of_class (record { is_name = e; denotes = d })) (field_of t c name) refl
  member_by object name token class e limit Absent d =
      only_if {b = is_library_name class.name} {m = refuse NotOffered token} {n = refuse UnknownName class.token}
      (λ library. only_refuse (way.no_constant e library (limit library))) (λ none. absurd (named_class t s object class e d none))

  qualified_spot_only : (object : Expression) (name : List ℕ) (token : ℕ) (class : ClassName) → class_in t s object ≡ Some class → (is_library_name class.name ≡ true → member_constant t class.name name ≡ Absent) →
      Only (Blamed j t s (Field object name token)) (qualified_spot t s class.name name class.token token)
  unfolding qualified_spot
  qualified_spot_only object name token class e limit = member_by object name token class e limit (class_named t.classes class.name) refl

  limit_by : (object : Expression) (name : List ℕ) (token : ℕ) (class : ClassName) → class_in t s object ≡ Some class → is_library_name class.name ≡ true → (o : Option ConstantValue) → member_constant t class.name name ≡ o →
      Only (Blamed j t s (Field object name token)) (limit_or o class.token (refuse NotOffered token))
  limit_by object name token class e library (Some c) d = only_give
  limit_by object name token class e library Absent d = only_refuse (way.no_constant e library d)

  pub qualified_only : (object : Expression) (name : List ℕ) (token : ℕ) (class : ClassName) → class_in t s object ≡ Some class → Only (Blamed j t s (Field object name token)) (qualified_name t s class.name name class.token token)
  unfolding qualified_name
  qualified_only object name token class e =
      let rest : Gets Meaning = qualified_spot t s class.name name class.token token >>= λ p. give (read_as (member_constant t class.name name) p class.token) in
      only_if {b = is_library_name class.name} {m = limit_or (member_constant t class.name name) class.token (refuse NotOffered token)} {n = rest}
      (λ library. limit_by object name token class e library (member_constant t class.name name) refl)
      (λ none. only_bind (qualified_spot_only object name token class e (λ library. absurd (cc))) (λ p u v is. only_give))

  -- ---- the field of an object, or of the superclass

  through_row : (e : Expression) (c : ℕ) (name : List ℕ) (token k : ℕ) (object : kernel.Expression) → IsFieldOf j t s e c name token → field_of t c name ≡ Some k → (o : Option FieldRow) → slice_get t.fields k ≡ o →
      Only (Blamed j t s e) (object_field s object k o token)
  through_row e c name token k object sel d Absent r = absurd (field_row t c k name d r)
  through_row e c name token k object sel d (Some f) r =
      let is : IsField t c name k f = record { denotes = d; row = r } in
      let placed : Gets Spot = if f.is_static then refuse NotOffered token else give (spot (kernel.Field object k token) f.ty f.is_fixed) in
      only_if {b = is_outside s f.is_private f.class} {m = refuse Private token} {n = placed}
      (λ out. only_refuse (way.IsPrivate.field (way.behind (way.through sel)) is (hidden s f.is_private f.class out)))
      (λ inside. only_if {b = f.is_static} {m = refuse NotOffered token} {n = give (spot (kernel.Field object k token) f.ty f.is_fixed)}
      (λ static. only_refuse (way.static_field sel is static)) (λ h. only_give))

  through_by : (object : Expression) (name : List ℕ) (token c : ℕ) (form : kernel.Expression) → IsFieldOf j t s (Field object name token) c name token → (o : Option ℕ) → field_of t c name ≡ o →
      Only (Blamed j t s (Field object name token)) (field_through t s c form o token)
  through_by object name token c form sel (Some k) d = through_row (Field object name token) c name token k form sel d (slice_get t.fields k) refl
  through_by object name token c form sel Absent d = no_field_only (Field object name token) c name token (way.through sel) (no_field_denoted t c name d)

  -- not the length of an array
  field_by : (object : Expression) (name : List ℕ) (token : ℕ) (m : Meaning) → class_in t s object ≡ Absent → IsFound j t s object m → (ty : Ty) → type_of m ≡ ty → is_length ty name ≡ false →
      Only (Blamed j t s (Field object name token)) (field_spot t s m ty name token)
  unfolding field_spot
  field_by object name token m none f (Of (Named c) zero) e plain = only_bind (only_formed m) (λ form u v is. through_by object name token c form (way.IsFieldOf.of_object none f e) (field_of t c name) refl)
  field_by object name token m none f Void e plain = only_refuse (way.void_field none f e)
  field_by object name token m none f Null e plain = only_refuse (way.no_fields none f (λ v. cc) (λ c v. cc) (ap (λ z. is_length z name) e ∙ plain))
  field_by object name token m none f (Of (Named c) (suc n)) e plain = only_refuse (way.no_fields none f (λ v. cc) (λ d v. array_is_no_class e v) (ap (λ z. is_length z name) e ∙ plain))
  field_by object name token m none f (Of (Basic p) n) e plain = only_refuse (way.no_fields none f (λ v. cc) (λ d v. cc) (ap (λ z. is_length z name) e ∙ plain))

  pub field_only : (object : Expression) (name : List ℕ) (token : ℕ) (m : Meaning) → class_in t s object ≡ Absent → IsFound j t s object m → Only (Blamed j t s (Field object name token)) (field_read t s m name token)
  unfolding field_read
  field_only object name token m none f =
      let length_of : Gets Meaning = formed m >>= λ array. give (Formed (kernel.Lib lib.ArrayLength (kernel.more array kernel.none) token) (primitive_type prim.Int)) in
      let field : Gets Meaning = field_spot t s m (type_of m) name token >>= λ p. give (Formed (kernel.Read p.place) p.ty) in
      only_if {b = is_length (type_of m) name} {m = length_of} {n = field} (λ e. only_bind (only_formed m) (λ a u v is. only_give))
      (λ plain. only_bind (field_by object name token m none f (type_of m) refl plain) (λ p u v is. only_give))

  length_of_array : (ty : Ty) (name : List ℕ) → (is_an_array ty && bytes_eq name (codes "length")) ≡ false → is_length ty name ≡ false
  length_of_array (Of b (suc n)) name e = e
  length_of_array (Of b zero) name e = refl
  length_of_array Void name e = refl
  length_of_array Null name e = refl

  pub field_target_only : (object : Expression) (name : List ℕ) (token : ℕ) (m : Meaning) → class_in t s object ≡ Absent → IsFound j t s object m → Only (Blamed j t s (Field object name token)) (field_target t s m name token)
  unfolding field_target
  field_target_only object name token m none f =
      let field : Gets (Option Spot) = field_spot t s m (type_of m) name token >>= λ p. give (Some p) in
      only_if {b = is_an_array (type_of m) && bytes_eq name (codes "length")} {m = give Absent} {n = field} (λ e. only_give)
      (λ plain. only_bind (field_by object name token m none f (type_of m) refl (length_of_array (type_of m) name plain)) (λ p u v is. only_give))

  super_by : (name : List ℕ) (token : ℕ) → (o : Option ℕ) → field_of t (above t s) name ≡ o → Only (Blamed j t s (SuperField name token)) (super_field_named t s o token)
  super_by name token (Some k) d = through_row (SuperField name token) (above t s) name token k this_form way.IsFieldOf.of_super d (slice_get t.fields k) refl
  super_by name token Absent d = no_field_only (SuperField name token) (above t s) name token (way.through way.IsFieldOf.of_super) (no_field_denoted t (above t s) name d)

  pub super_only : (name : List ℕ) (token : ℕ) → Only (Blamed j t s (SuperField name token)) (super_spot t s name token)
  unfolding super_spot
  super_only name token =
      only_if {b = s.has_this} {m = super_field_named t s (field_of t (above t s) name) token} {n = refuse NotInStatic token}
      (λ e. super_by name token (field_of t (above t s) name) refl) (λ none. only_refuse (way.super_field none))

  -- ---- a class's name before a variable's

  class_target_by : (object : Expression) (name : List ℕ) (token : ℕ) (class : ClassName) → class_in t s object ≡ Some class → is_limit class.name name ≡ false → (o : Option ℕ) → class_named t.classes class.name ≡ o →
      Only (Blamed j t s (Field object name token)) (member_of_class t s class.name o name class.token token)
  class_target_by object name token class e plain (Some c) d = in_class (Field object name token) c name token (way.of_class (record { is_name = e; denotes = d })) (field_of t c name) refl
  class_target_by object name token class e plain Absent d = member_by object name token class e (λ library. no_limit t class.name name plain d) Absent d

  pub class_target_only : (object : Expression) (name : List ℕ) (token : ℕ) (class : ClassName) → class_in t s object ≡ Some class → Only (Blamed j t s (Field object name token)) (class_target t s class name token)
  unfolding class_target qualified_spot
  class_target_only object name token class e =
      let field : Gets (Option Spot) = qualified_spot t s class.name name class.token token >>= λ p. give (Some p) in
      only_if {b = is_limit class.name name} {m = give Absent} {n = field} (λ h. only_give)
      (λ plain. only_bind (class_target_by object name token class e plain (class_named t.classes class.name) refl) (λ p u v is. only_give))
