-- Whether a class is above another is found by climbing, so that its mere truth gives the way up.
use Rattle.std.proofs.Common.{◌≡◌, ℕ, zero, suc, ◌+◌, ◌<◌, Bool, true, false, ◌||◌, List, [], ◌∷◌, length, nat_eq, refl, sym, ◌∙◌, ap, subst, arith, ◌⊎◌, inl, inr, Some, eq-eqb, rules, ◌↔◌, below_more, get_or}
use Rattle.std.specs.Prelude.{slice_get}
use Rattle.std.specs.List.{Contains, list_any}
use Rattle.std.proofs.Math.Logic.{∥∥₁_elim}
use Rattle.std.proofs.Props.{props}
use mathlib.Core.HLevel.{Σ_prop_path}
use Rattle.wy_kernel.specs.Program.{Class}
use Rattle.wy_kernel.specs.Subtyping.{direct_supertypes, Supertype, itself, further}
use Rattle.wy_kernel.specs.Table.{KeepsSupertypes}
use Rattle.std.proofs.lemmas.Option.{slice_get-get_or}
use Rattle.wy_table.specs.Hierarchy.{IsListed}
use Rattle.wy_kernel.proofs.Supertypes.{found, passes, contained}

-- d stands so many steps above c
climbs : List Class → ℕ → ℕ → ℕ → Bool
climbs classes d zero c = nat_eq c d
climbs classes d (suc n) c = list_any (climbs classes d n) (direct_supertypes classes c)

sound : (classes : List Class) (d n c : ℕ) → climbs classes d n c ≡ true → Supertype classes c d
unfolding climbs
sound classes d zero c e = let is : c ≡ d = search rules in let P : ℕ → Type 0 = λ x. Supertype classes c x in subst P is itself
sound classes d (suc n) c e = let x = found (climbs classes d n) (direct_supertypes classes c) e in further x.1 (sound classes d n x.0 x.2)

complete : (classes : List Class) {c d : ℕ} → Supertype classes c d → (n : ℕ) × (climbs classes d n c ≡ true)
unfolding climbs
complete classes (itself {c}) = (0, eq-eqb c c refl)
complete classes (further {c} {d} {e} h s) = let way = complete classes s in (suc way.0, passes (climbs classes e way.0) (direct_supertypes classes c) d h way.1)

-- the first number that passes a test
First : (ℕ → Bool) → Type 0
First p = (n : ℕ) × ((p n ≡ true) × ((m : ℕ) → m < n → p m ≡ false))

one_first : (p : ℕ → Bool) → IsProp (First p)
unfolding First
one_first p (n, (e, before)) (m, (f, ahead)) =
    Σ_prop_path (λ x. hlevel props) (omega (arith, λ (lt : n < m). (let g : true ≡ false = sym e ∙ ahead n lt in let no : ⊥ = cc in no), λ (lt : m < n). (let g : true ≡ false = sym f ∙ before m lt in let no : ⊥ = cc in no)))

all_before : (p : ℕ → Bool) (k : ℕ) → ((m : ℕ) → m < k → p m ≡ false) → p k ≡ false → (m : ℕ) → m < suc k → p m ≡ false
all_before p k before here m lt = let P : ℕ → Type 0 = λ x. p x ≡ false in let less : m < k + 1 = omega arith in below_more P k before here m less

first_at : (p : ℕ → Bool) (k : ℕ) (b : Bool) → p k ≡ b → ((i : ℕ) → i < k → p i ≡ false) → (p k ≡ false → First p) → First p
unfolding First
first_at p k true here before later = (k, (here, before))
first_at p k false here before later = later here

first_from : (p : ℕ → Bool) (k n m : ℕ) → n + k ≡ m → ((i : ℕ) → i < k → p i ≡ false) → p m ≡ true → First p
unfolding First
first_from p k zero m is before e = (k, (ap p (let same : k ≡ m = omega arith in same) ∙ e, before))
first_from p k (suc n) m is before e =
    first_at p k (p k) refl before (λ here. first_from p (suc k) n m (omega arith) (all_before p k before here) e)

-- where it is merely so that class d is above class c, it is
pub reached : (classes : List Class) (c d : ℕ) → ∥ Supertype classes c d ∥₁ → Supertype classes c d
unfolding First
reached classes c d h =
    let p : ℕ → Bool = λ n. climbs classes d n c in
    let first : First p = ∥∥₁_elim h (one_first p) (λ s. (let way = complete classes s in first_from p 0 way.0 way.0 (omega arith) (λ m lt. absurd (omega arith)) way.1)) in
    sound classes d first.0 c first.1.0

-- a row of supertypes holds each of them and no other
pub row_exact : (classes : List Class) (rows : List (List ℕ)) → ∥ KeepsSupertypes classes rows ∥₁ → (c : ℕ) (row : List ℕ) → slice_get rows c ≡ Some row → (d : ℕ) → Contains row d ↔ Supertype classes c d
row_exact classes rows k c row is d = (
  λ m. reached classes c d (∥∥₁_elim k (hlevel props) (λ k'. ∣ ((k'.each c row is).exact d).0 m ∣₁)),
  λ s. contained d row (∥∥₁_elim k (hlevel props) (λ k'. passes (nat_eq d) row d (((k'.each c row is).exact d).1 s) (eq-eqb d d refl))),
)

-- each class has a row
rows_a_class : (classes : List Class) (rows : List (List ℕ)) → ∥ KeepsSupertypes classes rows ∥₁ → length rows ≡ length classes
rows_a_class classes rows k = ∥∥₁_elim k (hlevel props) (λ k'. k'.a_row_a_class)

-- what is listed at a class is what is at or above it
pub listed_exact : (classes : List Class) (rows : List (List ℕ)) → ∥ KeepsSupertypes classes rows ∥₁ → (c d : ℕ) → c < length classes → IsListed rows c d ↔ Supertype classes c d
listed_exact classes rows k c d lt =
    let within : c < length rows = (let many = rows_a_class classes rows k in omega arith) in
    let at : slice_get rows c ≡ Some (get_or rows c []) = slice_get-get_or rows c [] within in (
      λ (row, is, h). (row_exact classes rows k c row is d).0 h,
      λ s. (get_or rows c [], at, (row_exact classes rows k c (get_or rows c []) at d).1 s),
    )
