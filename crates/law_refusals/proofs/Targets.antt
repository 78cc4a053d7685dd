-- Where an expression denotes a variable, it has a meaning too.
use Rattle.std.proofs.Common.{◌≡◌, ◌∙◌, refl, ℕ, zero, suc, Bool, true, false, List, Option, Some}
use Rattle.std.specs.Prelude.{◌&&◌, codes, bytes_eq, if◌then◌else◌}
use Rattle.std.specs.Prelude.{None as Absent}
use Rattle.wy_kernel.specs.declared.types.Ty.{Ty}
use Rattle.wy_kernel.specs.declared.types.Ty.TheVariants.{Void, Null, Of}
use Rattle.wy_kernel.specs.Table.{Table}
use Rattle.wy_syntax.specs.Syntax.{Expression, Name, Group, Field, SuperField, Element}
use Rattle.wy_constant.specs.declared.rule.Rule.TheVariants.{NotOffered}
use Rattle.wy_constant.specs.Scope.{Scope}
use Rattle.wy_constant.specs.Constant.{name_constant, member_constant}
use Rattle.wy_constant.specs.Fields.{class_named}
use Rattle.wy_elab_expr.specs.Meaning.{Meaning, type_of, Gets, give, refuse, ◌>>=◌}
use Rattle.wy_elab_expr.specs.Operators.{Judgement}
use Rattle.wy_elab_expr.specs.Members.{Spot, named, named_spot, qualified_spot, qualified_name, member_of_class, is_library_name, is_length, field_read, field_spot, read_as, limit_or}
use Rattle.wy_elab_expr.specs.Elaboration.{ClassName, class_in, class_target, is_limit, is_an_array, field_target, super_spot, element_spot, read, elaborated, target}
use Rattle.law_refusals.specs.Laws.{KnowsLibrary}
use Rattle.law_refusals.proofs.Never.{Never, never_refuse, never_if, never_first, Reads, reads_none, reads_bind, reads_spot, reads_if, reads_never, reads_else}

unknown_member : (t : Table) (s : Scope) (class : List ℕ) (o : Option ℕ) (name : List ℕ) (at token : ℕ) → o ≡ Absent → Never (member_of_class t s class o name at token)
unknown_member t s class Absent name at token e = never_if {b = is_library_name class} (λ h. never_refuse) (λ h. never_refuse)
unknown_member t s class (Some c) name at token e = absurd (cc)

-- a class of the library has no variables
pub no_library_spot : (t : Table) → KnowsLibrary t → (s : Scope) (class name : List ℕ) (at token : ℕ) → is_library_name class ≡ true → Never (qualified_spot t s class name at token)
unfolding qualified_spot
no_library_spot t l s class name at token e = unknown_member t s class (class_named t.classes class) name at token (l.reserved class e)

same_length : (ty : Ty) (name : List ℕ) → is_length ty name ≡ (is_an_array ty && bytes_eq name (codes "length"))
same_length (Of b (suc n)) name = refl
same_length (Of b zero) name = refl
same_length Void name = refl
same_length Null name = refl

module _ (j : Judgement) (t : Table) (l : KnowsLibrary t) (s : Scope) where
  class_by : (class : ClassName) (name : List ℕ) (token : ℕ) → (b : Bool) → is_library_name class.name ≡ b →
      Reads (qualified_spot t s class.name name class.token token >>= λ p. give (Some p)) (if b then limit_or (member_constant t class.name name) class.token (refuse NotOffered token)
      else (qualified_spot t s class.name name class.token token >>= λ p. give (read_as (member_constant t class.name name) p class.token)))
  class_by class name token true e = reads_never (never_first (λ p. give (Some p)) (no_library_spot t l s class.name name class.token token e))
  class_by class name token false e = reads_spot (qualified_spot t s class.name name class.token token) (λ p. read_as (member_constant t class.name name) p class.token)

  class_reads : (class : ClassName) (name : List ℕ) (token : ℕ) → Reads (class_target t s class name token) (qualified_name t s class.name name class.token token)
  unfolding class_target qualified_name
  class_reads class name token = reads_if (is_limit class.name name) (λ e. reads_none) (λ e. class_by class name token (is_library_name class.name) refl)

  field_reads : (m : Meaning) (name : List ℕ) (token : ℕ) → Reads (field_target t s m name token) (field_read t s m name token)
  unfolding field_target field_read
  field_reads m name token =
      reads_if (is_an_array (type_of m) && bytes_eq name (codes "length")) (λ e. reads_none)
      (λ e. reads_else (is_length (type_of m) name) _ (same_length (type_of m) name ∙ e) (reads_spot (field_spot t s m (type_of m) name token) read))

  dot_by : (object : Expression) (name : List ℕ) (token : ℕ) → (o : Option ClassName) →
      Reads (elim o as (λ _. Gets (Option Spot)) [ Some c ↦ class_target t s c name token | Absent ↦ (elaborated j t s object >>= λ m. field_target t s m name token) ])
      (elim o as (λ _. Gets Meaning) [ Some c ↦ qualified_name t s c.name name c.token token | Absent ↦ (elaborated j t s object >>= λ m. field_read t s m name token) ])
  dot_by object name token (Some c) = class_reads c name token
  dot_by object name token Absent = reads_bind (elaborated j t s object) (λ m. field_reads m name token)

  pub reads : (e : Expression) → Reads (target j t s e) (elaborated j t s e)
  unfolding target elaborated named
  reads (Name name token) = reads_spot (named_spot t s name token) (λ p. read_as (name_constant t s name) p token)
  reads (Group inner token) = reads inner
  reads (Field object name token) = dot_by object name token (class_in t s object)
  reads (SuperField name token) = reads_spot (super_spot t s name token) read
  reads (Element array index token) = reads_bind (elaborated j t s array) (λ a. reads_bind (elaborated j t s index) (λ i. reads_spot (element_spot a i token) read))
  reads _ = reads_none
