-- Whether the result of a method may stand for that of another is decided.
use Rattle.std.proofs.Common.{◌≡◌, refl, sym, subst, arith, ℕ, zero, suc, ◌<◌, ◌≤◌, ◌⊎◌, inl, inr, List}
use Rattle.std.proofs.lemmas.Bool.Decides.{eqb_tells, leb_tells}
use Rattle.wy_kernel.specs.declared.operator.Primitive.{Primitive}
use Rattle.wy_kernel.specs.declared.types.Base.TheVariants.{Primitive as Basic, Class as Named}
use Rattle.wy_kernel.specs.declared.types.Ty.{Ty}
use Rattle.wy_kernel.specs.declared.types.Ty.TheVariants.{Void, Null, Of}
use Rattle.wy_kernel.specs.Program.{Class}
use Rattle.wy_kernel.specs.Subtyping.{IsAcyclic, Supertype, itself, IsReference, Below, Substitutable}
use Rattle.wy_overloads.specs.Lineage.{HasTop}
use Rattle.wy_overloads.proofs.Straight.{Straight, equal, upward, widening, object, array, straight, array_below_object, class_arrays_below, object_arrays_above}
use Rattle.wy_overloads.proofs.Related.{deeper, below_void, below_null, class_below_primitive}
use Rattle.law_judgement.proofs.Decided.{Decided, same_number}
use Rattle.law_judgement.proofs.Types.{same_type}
use Rattle.law_program_parts.proofs.Climb.{above_or_not}

-- ---- subtypes

classes_lower : (classes : List Class) {c d m n : ℕ} → Straight classes (Of (Named c) m) (Of (Named d) n) → ((m ≡ n) × Supertype classes c d) ⊎ (d ≡ 0)
classes_lower classes equal = inl (refl, itself)
classes_lower classes (upward s) = inl (refl, s)
classes_lower classes object = inr refl
classes_lower classes (array lt) = inr refl

primitive_arrays_lower : (classes : List Class) {d m n : ℕ} {p : Primitive} → Straight classes (Of (Basic p) m) (Of (Named d) n) → (n < m) × (d ≡ 0)
primitive_arrays_lower classes (array lt) = (lt, refl)

primitives_lower : (classes : List Class) {m n : ℕ} {p q : Primitive} → Straight classes (Of (Basic p) m) (Of (Basic q) n) → (Of (Basic p) m ≡ Of (Basic q) n) ⊎ (m ≡ 0)
primitives_lower classes equal = inl refl
primitives_lower classes (widening w) = inr refl

-- a reference of a lower type
abbrev Lower : List Class → Ty → Ty → Type 0
Lower classes a b = IsReference a × Below classes a b

below_objects : (classes : List Class) (c d m n : ℕ) → HasTop classes → d ≡ 0 → Decided (Lower classes (Of (Named c) m) (Of (Named d) n))
below_objects classes c d m n top e =
    elim (eqb_tells m n) [
      | inl s ↦ inl (tt, (let P : ℕ → ℕ → Type 0 = λ x k. Below classes (Of (Named c) k) (Of (Named x) n) in subst (λ k. P d k) (sym s.1) (subst (λ x. P x n) (sym e) (object_arrays_above classes c n))))
      | inr other ↦ elim (leb_tells m n) [
        | inl le ↦ inr (λ h. elim (deeper classes (straight classes top h.1)) [ inl is ↦ other.1 is | inr more ↦ (let less : n < m = more.0 in let least : m ≤ n = le.1 in omega arith) ])
        | inr gt ↦ inl (tt, subst (λ x. Below classes (Of (Named c) m) (Of (Named x) n)) (sym e) (array_below_object classes (Named c) m n gt.1))
      ]
    ]

below_others : (classes : List Class) (c d m n : ℕ) → HasTop classes → IsAcyclic classes → (d ≡ 0 → ⊥) → Decided (Lower classes (Of (Named c) m) (Of (Named d) n))
below_others classes c d m n top acyclic other =
    elim (same_number m n) [
      | inl e ↦ elim (above_or_not classes acyclic c d) [
        | inl s ↦ inl (tt, subst (λ k. Below classes (Of (Named c) k) (Of (Named d) n)) (sym e) (class_arrays_below classes c d n s))
        | inr none ↦ inr (λ h. elim (classes_lower classes (straight classes top h.1)) [ inl x ↦ none x.1 | inr is ↦ other is ])
      ]
      | inr differ ↦ inr (λ h. elim (classes_lower classes (straight classes top h.1)) [ inl x ↦ differ x.0 | inr is ↦ other is ])
    ]

primitive_below_objects : (classes : List Class) (p : Primitive) (d m n : ℕ) → HasTop classes → d ≡ 0 → Decided (Lower classes (Of (Basic p) (suc m)) (Of (Named d) n))
primitive_below_objects classes p d m n top e =
    elim (leb_tells (suc m) n) [
      | inl le ↦ inr (λ h. (let less : n < suc m = (primitive_arrays_lower classes (straight classes top h.1)).0 in let least : suc m ≤ n = le.1 in omega arith))
      | inr gt ↦ inl (tt, subst (λ x. Below classes (Of (Basic p) (suc m)) (Of (Named x) n)) (sym e) (array_below_object classes (Basic p) (suc m) n gt.1))
    ]

lower_or_not : (classes : List Class) → HasTop classes → IsAcyclic classes → (a b : Ty) → (a ≡ b → ⊥) → Decided (Lower classes a b)
lower_or_not classes top acyclic Void b other = inr (λ h. h.0)
lower_or_not classes top acyclic Null b other = inr (λ h. h.0)
lower_or_not classes top acyclic (Of x m) Void other = inr (λ h. other (below_void classes (straight classes top h.1)))
lower_or_not classes top acyclic (Of x m) Null other = inr (λ h. other (below_null classes (straight classes top h.1)))
lower_or_not classes top acyclic (Of (Named c) m) (Of (Named d) n) other =
    elim (same_number d 0) [ inl e ↦ below_objects classes c d m n top e | inr not_object ↦ below_others classes c d m n top acyclic not_object ]
lower_or_not classes top acyclic (Of (Named c) m) (Of (Basic q) n) other = inr (λ h. class_below_primitive classes (straight classes top h.1))
lower_or_not classes top acyclic (Of (Basic p) zero) (Of y n) other = inr (λ h. h.0)
lower_or_not classes top acyclic (Of (Basic p) (suc m)) (Of (Named d) n) other =
    elim (same_number d 0) [ inl e ↦ primitive_below_objects classes p d m n top e | inr not_object ↦ inr (λ h. not_object (primitive_arrays_lower classes (straight classes top h.1)).1) ]
lower_or_not classes top acyclic (Of (Basic p) (suc m)) (Of (Basic q) n) other =
    inr (λ h. elim (primitives_lower classes (straight classes top h.1)) [ inl e ↦ other e | inr e ↦ (let zeroth : suc m ≡ 0 = e in omega arith) ])

pub substitutable_or_not : (classes : List Class) → HasTop classes → IsAcyclic classes → (a b : Ty) → Decided (Substitutable classes a b)
substitutable_or_not classes top acyclic a b =
    elim (same_type a b) [
      | inl e ↦ inl (inl e)
      | inr other ↦ elim (lower_or_not classes top acyclic a b other) [
        | inl lower ↦ inl (inr lower)
        | inr higher ↦ inr (λ s. elim s [ inl e ↦ other e | inr lower ↦ higher lower ])
      ]
    ]
