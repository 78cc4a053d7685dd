-- Which types are below which is decided, where the supertypes of each class are kept.
use Rattle.std.proofs.Common.{◌≡◌, ℕ, zero, suc, ◌<◌, ◌≤◌, List, [], ◌∷◌, length, Option, Some, refl, ap, subst, arith, inl, inr, IsTrue, ◌↔◌}
use Rattle.std.specs.Prelude.{slice_get}
use Rattle.std.specs.Prelude.{None as Absent}
use Rattle.std.proofs.Math.Logic.{∥∥₁_elim}
use Rattle.std.proofs.Props.{props}
use Rattle.std.proofs.lemmas.Bool.Decides.{Decides-ltb}
use Rattle.wy_kernel.specs.declared.operator.Primitive.{Primitive}
use Rattle.wy_kernel.specs.declared.types.Base.{Base}
use Rattle.wy_kernel.specs.declared.types.Base.TheVariants.{Primitive as Basic, Class as Named}
use Rattle.wy_kernel.specs.declared.types.Ty.{Ty}
use Rattle.wy_kernel.specs.declared.types.Ty.TheVariants.{Void, Null, Of}
use Rattle.wy_kernel.specs.Program.{Class}
use Rattle.wy_kernel.specs.Subtyping.{Supertype, itself, Below, same, of_null, IsReference, Substitutable}
use Rattle.wy_kernel.specs.Table.{KeepsSupertypes}
use Rattle.wy_constant.specs.Widening.{widens_to}
use Rattle.wy_overloads.specs.Lineage.{HasTop}
use Rattle.wy_overloads.specs.Choice.{EachBelow, none, more}
use Rattle.wy_overloads.proofs.Straight.{straight}
use Rattle.wy_overloads.proofs.Related as related
use Rattle.wy_overloads.proofs.Climbing.{row_exact}
use Rattle.wy_overloads.proofs.Lists.{types_equal}
use Rattle.law_judgement.proofs.Decided.{Decided, by_test, like, either, both, denied, same_number, contains, test_of, test_exact}

-- ---- types that are the same

pub same_types : (a b : List Ty) → Decided (a ≡ b)
same_types a b = by_test _ (types_equal a b)

only : (a b : Ty) → a ∷ [] ≡ b ∷ [] → a ≡ b
only a b e = cc

pub same_type : (a b : Ty) → Decided (a ≡ b)
same_type a b = like (only a b) (ap (λ x. x ∷ [])) (same_types (a ∷ []) (b ∷ []))

basic : (p q : Primitive) → Of (Basic p) 0 ≡ Of (Basic q) 0 → p ≡ q
basic p q e = cc

same_primitive : (p q : Primitive) → Decided (p ≡ q)
same_primitive p q = like (basic p q) (ap (λ x. Of (Basic x) 0)) (same_type (Of (Basic p) 0) (Of (Basic q) 0))

base : (a b : Base) → Of a 0 ≡ Of b 0 → a ≡ b
base a b e = cc

same_base : (a b : Base) → Decided (a ≡ b)
same_base a b = like (base a b) (ap (λ x. Of x 0)) (same_type (Of a 0) (Of b 0))

pub reference : (a : Ty) → Decided (IsReference a)
reference Void = inr (λ r. r)
reference Null = inr (λ r. r)
reference (Of (Named c) n) = inl tt
reference (Of (Basic p) zero) = inr (λ r. r)
reference (Of (Basic p) (suc n)) = inl tt

-- ---- supertypes

-- what is kept of the classes of a table
pub record Kept (classes : List Class) (rows : List (List ℕ)) : Type 0 where
  pub top : HasTop classes
  pub keeps : ∥ KeepsSupertypes classes rows ∥₁

many_rows : (classes : List Class) (rows : List (List ℕ)) → Kept classes rows → length rows ≡ length classes
many_rows classes rows k = ∥∥₁_elim k.keeps (hlevel props) (λ k'. k'.a_row_a_class)

no_row : {X : Type 0} (xs : List X) (c : ℕ) → slice_get xs c ≡ Absent → length xs ≤ c
no_row [] c e = omega arith
no_row (x ∷ xs) zero e = let no : ⊥ = cc in absurd no
no_row (x ∷ xs) (suc c) e = let i : length xs ≤ c = no_row xs c e in omega arith

supertype_in : (classes : List Class) (rows : List (List ℕ)) → Kept classes rows → (c d : ℕ) (o : Option (List ℕ)) → slice_get rows c ≡ o → Decided (Supertype classes c d)
supertype_in classes rows k c d (Some row) e = let exact = row_exact classes rows k.keeps c row e d in like exact.0 exact.1 (contains row d)
supertype_in classes rows k c d Absent e =
    let le : length rows ≤ c = no_row rows c e in
    let beyond : length classes ≤ c = omega (arith, many_rows classes rows k) in
    like (λ is. let P : ℕ → Type 0 = λ x. Supertype classes c x in subst P is itself) (λ s. related.beyond classes beyond s) (same_number c d)

pub supertype : (classes : List Class) (rows : List (List ℕ)) → Kept classes rows → (c d : ℕ) → Decided (Supertype classes c d)
supertype classes rows k c d = supertype_in classes rows k c d (slice_get rows c) refl

-- ---- subtyping

Judges : List Class → Ty → Ty → Type 0
Judges classes a b = Decided (Below classes a b)

by_exact : {P : Type 0} (classes : List Class) (a b : Ty) (d : Decided P) → (IsTrue (test_of d) ↔ P → IsTrue (test_of d) ↔ Below classes a b) → Decided (Below classes a b)
by_exact classes a b d f = by_test (test_of d) (f (test_exact d))

classes_below : (classes : List Class) (rows : List (List ℕ)) → Kept classes rows → (c d n : ℕ) → Decided (Below classes (Of (Named c) n) (Of (Named d) n))
classes_below classes rows k c d n =
    elim (same_number d 0) [
      | inl e ↦ inl (related.below_object classes c d n e)
      | inr other ↦ by_exact classes (Of (Named c) n) (Of (Named d) n) (supertype classes rows k c d) (λ exact. related.classes_exact classes c d n _ k.top other exact)
    ]

primitives_below : (classes : List Class) (rows : List (List ℕ)) → Kept classes rows → (p q : Primitive) (n : ℕ) → Decided (Below classes (Of (Basic p) n) (Of (Basic q) n))
primitives_below classes rows k p q zero = by_test (widens_to p q) (related.widens_exact classes p q (widens_to p q) k.top refl)
primitives_below classes rows k p q (suc n) =
    by_exact classes (Of (Basic p) (suc n)) (Of (Basic q) (suc n)) (same_primitive p q) (λ exact. related.primitives_exact classes p q (suc n) _ k.top (λ e. let no : ⊥ = cc in no) exact)

bases_below : (classes : List Class) (rows : List (List ℕ)) → Kept classes rows → (a b : Base) (n : ℕ) → Decided (Below classes (Of a n) (Of b n))
bases_below classes rows k (Named c) (Named d) n = classes_below classes rows k c d n
bases_below classes rows k (Named c) (Basic q) n = inr (λ b. related.class_below_primitive classes (straight classes k.top b))
bases_below classes rows k (Basic p) (Named d) n = inr (λ b. related.primitive_below_class classes (straight classes k.top b))
bases_below classes rows k (Basic p) (Basic q) n = primitives_below classes rows k p q n

pub less : (m n : ℕ) → Decided (m < n)
less m n = by_test _ (Decides-ltb m n)

pub at_most : (m n : ℕ) → Decided (m ≤ n)
at_most m n = like (λ not_less. let h : ¬ (n < m) = not_less in omega arith) (λ le lt. omega arith) (denied (less n m))

arrays_below : (classes : List Class) (rows : List (List ℕ)) → Kept classes rows → (a b : Base) (m n : ℕ) → Decided (Below classes (Of a m) (Of b n))
arrays_below classes rows k a b m n =
    elim (same_number m n) [
      | inl e ↦ (let P : ℕ → Type 0 = λ x. Decided (Below classes (Of a m) (Of b x)) in subst P e (bases_below classes rows k a b m))
      | inr differs ↦ elim (less n m) [
        | inl lt ↦ by_exact classes (Of a m) (Of b n) (same_base b (Named 0)) (λ exact. related.arrays_exact classes a b m n _ k.top lt exact)
        | inr not_less ↦ inr (related.not_deeper classes a b m n k.top differs (let le : ¬ (n < m) = not_less in omega arith))
      ]
    ]

pub below : (classes : List Class) (rows : List (List ℕ)) → Kept classes rows → (a b : Ty) → Decided (Below classes a b)
below classes rows k Void Void = inl same
below classes rows k Null Null = inl same
below classes rows k Null Void = inr (λ b. let e = related.below_void classes (straight classes k.top b) in cc)
below classes rows k Void Null = inr (λ b. let e = related.below_null classes (straight classes k.top b) in cc)
below classes rows k Void (Of x n) = inr (λ b. let e = related.above_void classes (straight classes k.top b) in cc)
below classes rows k (Of x n) Void = inr (λ b. let e = related.below_void classes (straight classes k.top b) in cc)
below classes rows k (Of x n) Null = inr (λ b. let e = related.below_null classes (straight classes k.top b) in cc)
below classes rows k Null (Of x n) = like of_null (λ b. related.above_null classes (straight classes k.top b)) (reference (Of x n))
below classes rows k (Of a m) (Of b n) = arrays_below classes rows k a b m n

-- ---- lists of types, and results

-- subtyping is decided among these classes
abbrev pub DecidesBelow : List Class → Type 0
DecidesBelow classes = (a b : Ty) → Decided (Below classes a b)

first_below : (classes : List Class) (a b : Ty) (xs ys : List Ty) → EachBelow classes (a ∷ xs) (b ∷ ys) → Below classes a b
first_below classes a b xs ys (more h s) = h

others_below : (classes : List Class) (a b : Ty) (xs ys : List Ty) → EachBelow classes (a ∷ xs) (b ∷ ys) → EachBelow classes xs ys
others_below classes a b xs ys (more h s) = s

pub each_below : (classes : List Class) → DecidesBelow classes → (xs ys : List Ty) → Decided (EachBelow classes xs ys)
each_below classes d [] [] = inl none
each_below classes d [] (b ∷ ys) = inr (λ h. elim h [ ])
each_below classes d (a ∷ xs) [] = inr (λ h. elim h [ ])
each_below classes d (a ∷ xs) (b ∷ ys) =
    like (λ h. more h.0 h.1) (λ h. (first_below classes a b xs ys h, others_below classes a b xs ys h)) (both (d a b) (each_below classes d xs ys))

pub substitutable : (classes : List Class) → DecidesBelow classes → (a b : Ty) → Decided (Substitutable classes a b)
substitutable classes d a b = either (same_type a b) (both (reference a) (d a b))
