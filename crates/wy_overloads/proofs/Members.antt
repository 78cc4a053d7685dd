-- Methods by their numbers, in loops over all of them.
use Rattle.std.proofs.Common.{◌≡◌, ℕ, ◌<◌, ◌≤◌, ◌+◌, Bool, true, false, not, List, length, Option, Some, refl, sym, ◌∙◌, subst, arith, IsTrue, ◌↔◌, below_more}
use Rattle.std.specs.Prelude.{MatchOption}
use Rattle.std.proofs.lemmas.Option.{slice_get_past, slice_get_within}
use Rattle.wy_kernel.specs.declared.types.Ty.{Ty}
use Rattle.wy_kernel.specs.Program.{Class, Method}
use Rattle.wy_kernel.specs.Table.{Table}
use Rattle.wy_overloads.specs.Choice.{IsClass, IsMethod, IsNearest, HasLowestResult, NearestHasBody, Counts, nearest, lowest, Applies, IsMostSpecific, Chosen}

pub no_class_beyond : (classes : List Class) (c : ℕ) → length classes ≤ c → IsClass classes c → ⊥
no_class_beyond classes c le h =
    let P : Option Class → Type 0 = λ o. MatchOption o ⊥ (λ declaration. declaration.is_interface ≡ false) in
    subst P (slice_get_past classes c le) h

pub same_method : (t : Table) (k : ℕ) (m other : Method) → IsMethod t k m → IsMethod t k other → m ≡ other
same_method t k m other e f = let g : Some m ≡ Some other = sym e ∙ f in cc

-- what holds of the methods before one and of that one holds of the methods up to it
pub up_to : (t : Table) (P : ℕ → Method → Type 0) (j : ℕ) (m : Method) → IsMethod t j m → ((i : ℕ) (other : Method) → i < j → IsMethod t i other → P i other) → P j m →
    (i : ℕ) (other : Method) → i < j + 1 → IsMethod t i other → P i other
up_to t P j m there before here i other lt is =
    let Q : ℕ → Type 0 = λ n. (x : Method) → IsMethod t n x → P n x in
    below_more Q j (λ n less x. before n x less) (λ x e. (let R : Method → Type 0 = λ y. P j y in subst R (same_method t j m x there e) here)) i lt other is

-- what holds of the methods before the number of methods holds of each
pub of_each : (t : Table) (P : ℕ → Method → Type 0) (n : ℕ) → length t.methods ≤ n → ((i : ℕ) (other : Method) → i < n → IsMethod t i other → P i other) →
    (i : ℕ) (other : Method) → IsMethod t i other → P i other
of_each t P n le all i other is = all i other (let lt : i < length t.methods = slice_get_within t.methods i other is in omega arith) is

pub within : (t : Table) (n k : ℕ) (m : Method) → length t.methods ≤ n → IsMethod t k m → k < n
within t n k m le is = let lt : k < length t.methods = slice_get_within t.methods k m is in omega arith

pub counted_by_result : (t : Table) (type : Ty) (k : ℕ) (m : Method) (r : Bool) → IsTrue r ↔ NearestHasBody t type m → HasLowestResult t type k m → (IsNearest t type k m → m.is_abstract ≡ false → ⊥) →
    IsTrue (not r) ↔ Counts t type k m
counted_by_result t type k m true exact low none =
    (λ e. absurd (cc), λ c. elim c [ nearest n a ↦ absurd (none n a) | lowest other low' ↦ absurd (other (exact.0 refl)) ])
counted_by_result t type k m false exact low none =
    (λ e. lowest (λ h. let x = exact.1 h in cc) low, λ c. refl)

pub unless_nearest : (t : Table) (type : Ty) (m : Method) (r : Bool) → IsTrue r ↔ NearestHasBody t type m → IsTrue (not r) ↔ (NearestHasBody t type m → ⊥)
unless_nearest t type m true exact = (λ e. absurd (cc), λ none. absurd (none (exact.0 refl)))
unless_nearest t type m false exact = (λ e h. let x = exact.1 h in cc, λ none. refl)

pub chosen_exact : (t : Table) (type : Ty) (name : List ℕ) (arguments : List Ty) (k : ℕ) (m : Method) (r : Bool) → IsMethod t k m → Applies t.classes type name arguments m →
    IsMostSpecific t type name arguments m → IsTrue r ↔ Counts t type k m → IsTrue r ↔ Chosen t type name arguments k
chosen_exact t type name arguments k m r there applies specific exact = (
  λ e. record { method = m; applicable = (there, applies); most_specific = specific; counts = exact.0 e },
  λ c. exact.1 (let P : Method → Type 0 = λ x. Counts t type k x in subst P (same_method t k c.method m c.applicable.0 there) c.counts),
)
