-- What may be cast is what the tests let through.
use Rattle.std.proofs.Common.{◌≡◌, ◌∙◌, ap, sym, refl, ℕ, zero, suc, true, false, Some, ◌⊎◌, inl, inr}
use Rattle.std.specs.Prelude.{◌&&◌, not}
use Rattle.std.specs.Prelude.{None as Absent}
use Rattle.wy_kernel.specs.declared.operator.Primitive.{Primitive}
use Rattle.wy_kernel.specs.declared.operator.Primitive.TheVariants as prim
use Rattle.wy_kernel.specs.declared.types.Base.{Base}
use Rattle.wy_kernel.specs.declared.types.Base.TheVariants.{Primitive as Basic, Class as Named}
use Rattle.wy_kernel.specs.declared.types.Ty.{Ty}
use Rattle.wy_kernel.specs.declared.types.Ty.TheVariants.{Void, Null, Of}
use Rattle.wy_kernel.specs.Program.{Class}
use Rattle.wy_kernel.specs.Subtyping.{Below, IsReference, class_type}
use Rattle.wy_kernel.specs.Table.{Table}
use Rattle.wy_elab_expr.specs.Operators.{Judgement, Settles, primitive_in, class_of, is_interface, is_open, may_meet, is_related, can_cast, can_cast_by, can_cast_bases, can_cast_primitive, can_cast_reference, boolean_type}
use Rattle.wy_typing.specs.Types.{IsNullable, MayMeet}
use Rattle.wy_typing.specs.Types as types
use Rattle.law_refusals.specs.Operands.{IsNumber, CastsTo, numbers, booleans, references}
use Rattle.law_refusals.proofs.Tests.{both_true, left_true, right_true, not_true, nullable_true, no_primitive, number_in}

-- ---- what may be cast passes

both_numbers_cast : (p q : Primitive) → (p ≡ prim.Bool → ⊥) → (q ≡ prim.Bool → ⊥) → can_cast_primitive p q ≡ true
both_numbers_cast prim.Bool q m n = absurd (m refl)
both_numbers_cast p prim.Bool m n = absurd (n refl)
both_numbers_cast p q m n = refl

numbers_cast : (j : Judgement) (t : Table) (a b : Ty) → IsNumber a → IsNumber b → can_cast j t a b ≡ true
unfolding can_cast
numbers_cast j t a b h k =
    let m = number_in a h in
    let n = number_in b k in
    ap (λ z. can_cast_by j t a z b (primitive_in b)) m.1 ∙ ap (λ z. can_cast_by j t a (Some m.0) b z) n.1 ∙ both_numbers_cast m.0 n.0 m.2 n.2

references_cast : (j : Judgement) (t : Table) (a b : Ty) → IsNullable a → IsNullable b → can_cast j t a b ≡ can_cast_reference j t a b
unfolding can_cast
references_cast j t a b h k = ap (λ z. can_cast_by j t a z b (primitive_in b)) (no_primitive a h) ∙ ap (λ z. can_cast_by j t a Absent b z) (no_primitive b k)

related_bases : (j : Judgement) (t : Table) (a b : Base) (m n : ℕ) → is_related j (Of a m) (Of b n) ≡ true → can_cast_bases j t a m b n ≡ true
related_bases j t a b zero zero e = left_true (may_meet t a b) e
related_bases j t a b (suc m) (suc n) e = left_true (can_cast_bases j t a m b n) e
related_bases j t a b zero (suc n) e = e
related_bases j t a b (suc m) zero e = e

related_cast : (j : Judgement) (t : Table) (a b : Ty) → is_related j a b ≡ true → can_cast_reference j t a b ≡ true
related_cast j t (Of a m) (Of b n) e = related_bases j t a b m n e
related_cast j t (Of a m) Void e = e
related_cast j t (Of a m) Null e = e
related_cast j t Void b e = e
related_cast j t Null b e = e

open_row : (k : Class) → (k.is_interface ≡ true) ⊎ (k.is_final ≡ false) → is_open (Some k) ≡ true
open_row k (inl e) = left_true (not k.is_final) e
open_row k (inr e) = right_true k.is_interface (not_true e)

meets : (t : Table) (c d : ℕ) → MayMeet t.classes c d → (is_interface (class_of t c) && is_open (class_of t d)) ≡ true
meets t c d h = both_true (ap is_interface h.2 ∙ h.4) (ap is_open h.3 ∙ open_row h.1 h.5)

pub reference_in_array : (a : Base) (m : ℕ) → IsReference (Of a (suc m))
reference_in_array (Named c) m = tt
reference_in_array (Basic p) m = tt

booleans_cast : (j : Judgement) (t : Table) → can_cast j t boolean_type boolean_type ≡ true
unfolding can_cast
booleans_cast j t = refl

module _ (j : Judgement) (t : Table) (g : Settles t j) where
  related : (a b : Ty) → IsNullable a → IsNullable b → Below t.classes a b ⊎ Below t.classes b a → is_related j a b ≡ true
  related a b h k (inl below) = both_true (both_true (nullable_true a h) (nullable_true b k)) (left_true (j.below b a) ((g.below a b).1 below))
  related a b h k (inr below) = both_true (both_true (nullable_true a h) (nullable_true b k)) (right_true (j.below a b) ((g.below b a).1 below))

  nullables_cast : (a b : Ty) → IsNullable a → IsNullable b → Below t.classes a b ⊎ Below t.classes b a → can_cast j t a b ≡ true
  nullables_cast a b h k below = references_cast j t a b h k ∙ related_cast j t a b (related a b h k below)

  reference_cast : {a b : Ty} → types.CastsTo t.classes a b → can_cast j t a b ≡ true
  reference_cast (types.up {a = a} {b = b} h k below) = nullables_cast a b h k (inl below)
  reference_cast (types.down {a = a} {b = b} h k below) = nullables_cast a b h k (inr below)
  reference_cast (types.from_interface {c = c} {d = d} h) =
      references_cast j t (class_type c) (class_type d) (inr tt) (inr tt) ∙ right_true (is_related j (class_type c) (class_type d)) (left_true (is_interface (class_of t d) && is_open (class_of t c)) (meets t c d h))
  reference_cast (types.to_interface {c = c} {d = d} h) =
      references_cast j t (class_type c) (class_type d) (inr tt) (inr tt) ∙ right_true (is_related j (class_type c) (class_type d)) (right_true (is_interface (class_of t c) && is_open (class_of t d)) (meets t d c h))
  reference_cast (types.of_elements {a = a} {b = b} {m = m} {n = n} h k inner) =
      references_cast j t (Of a (suc m)) (Of b (suc n)) (inr (reference_in_array a m)) (inr (reference_in_array b n))
      ∙ right_true (is_related j (Of a (suc m)) (Of b (suc n))) (sym (references_cast j t (Of a m) (Of b n) (inr h) (inr k)) ∙ reference_cast inner)

  pub cast_true : {a b : Ty} → CastsTo t a b → can_cast j t a b ≡ true
  cast_true (numbers {a = a} {b = b} h k) = numbers_cast j t a b h k
  cast_true booleans = booleans_cast j t
  cast_true (references h) = reference_cast h
