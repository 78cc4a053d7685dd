-- A method that a type has, and no other equal to it, never stands wrongly there.
use Rattle.std.proofs.Common.{◌≡◌, ℕ, ◌≤◌, Bool, true, false, List, Option, Some, refl, sym, subst, arith, ◌⊎◌, inl, inr}
use Rattle.std.specs.Prelude.{MatchOption, slice_get}
use Rattle.std.specs.Prelude.{None as Absent}
use Rattle.wy_kernel.specs.declared.types.Ty.{Ty}
use Rattle.wy_kernel.specs.Program.{Class, Method}
use Rattle.wy_kernel.specs.Subtyping.{Below, same, class_type, Substitutable}
use Rattle.wy_kernel.specs.Table.{Table}
use Rattle.wy_overloads.specs.Choice.{Equivalent, HasHigherResult, HasLowestResult, IsClass, IsFurther, IsNearest, Counts, nearest, lowest, NearestHasBody}
use Rattle.wy_members.specs.Broken.{HasNoCommonResult, StandsForEach}
use Rattle.wy_members.specs.Within.{DiffersInForm, StandsWrongly}

-- each method of the type that is equal to m is m, which is method k
abbrev pub IsAlone : Table → Ty → ℕ → Method → Type 0
IsAlone t type k m = (j : ℕ) (other : Method) → Equivalent t type m j other → (k ≡ j) × (m ≡ other)

no_nearer : (t : Table) (k : ℕ) (m : Method) → IsFurther t.classes k m k m
no_nearer t k m = record { above = λ is. same; behind = λ e. omega arith }

no_lower : (t : Table) (k : ℕ) (m : Method) → HasHigherResult t.classes k m k m
no_lower t k m = record { higher = inl refl; behind = λ e. omega arith }

-- what holds of m holds of each that is equal to it
of_itself : (t : Table) (type : Ty) (k : ℕ) (m : Method) (P : ℕ → Method → Type 0) → IsAlone t type k m → P k m → (j : ℕ) (other : Method) → Equivalent t type m j other → P j other
of_itself t type k m P alone here j other e =
    let one = alone j other e in
    let Q : ℕ → Type 0 = λ i. P i other in
    let R : Method → Type 0 = λ x. P k x in
    subst Q one.0 (subst R one.1 here)

is_or_not : (b : Bool) → (b ≡ false) ⊎ (b ≡ false → ⊥)
is_or_not false = inl refl
is_or_not true = inr (λ e. absurd (cc))

class_or_not : (o : Option Class) → MatchOption o ⊥ (λ declaration. declaration.is_interface ≡ false) ⊎ (MatchOption o ⊥ (λ declaration. declaration.is_interface ≡ false) → ⊥)
class_or_not Absent = inr (λ h. h)
class_or_not (Some declaration) = is_or_not declaration.is_interface

counts_by_result : (t : Table) (type : Ty) (k : ℕ) (m : Method) → IsAlone t type k m → (IsClass t.classes m.class → m.is_abstract ≡ false → ⊥) → Counts t type k m
counts_by_result t type k m alone none =
    lowest
    (λ (j, other, e, near, body). of_itself t type k m (λ i x. IsClass t.classes x.class → x.is_abstract ≡ false → ⊥) alone none j other e near.by_class body)
    (of_itself t type k m (λ j other. HasHigherResult t.classes k m j other) alone (no_lower t k m))

counts_alone : (t : Table) (type : Ty) (k : ℕ) (m : Method) → IsAlone t type k m → Counts t type k m
counts_alone t type k m alone =
    elim (class_or_not (slice_get t.classes m.class)) [
      | inl is ↦ elim (is_or_not m.is_abstract) [
        | inl body ↦ nearest (record { by_class = is; nearest = of_itself t type k m (λ j other. IsFurther t.classes k m j other) alone (no_nearer t k m) }) body
        | inr abstract ↦ counts_by_result t type k m alone (λ c b. abstract b)
      ]
      | inr not ↦ counts_by_result t type k m alone (λ c b. not c)
    ]

stands_alone : (t : Table) (type : Ty) (k : ℕ) (m : Method) → IsAlone t type k m → StandsForEach t type m
stands_alone t type k m alone = of_itself t type k m (λ j other. Substitutable t.classes m.result other.result) alone (inl refl)

pub never_wrong_alone : (t : Table) (type : Ty) (k : ℕ) (m : Method) → Equivalent t type m k m → IsAlone t type k m → StandsWrongly t type m → ⊥
never_wrong_alone t type k m itself alone (inl none) = none k m itself (counts_alone t type k m alone) (stands_alone t type k m alone)
never_wrong_alone t type k m itself alone (inr (j, other, is, (e, differs))) =
    of_itself t type k m (λ i x. (m.form ≡ x.form → ⊥) → ⊥) alone (λ d. d refl) j other (is, e) differs
