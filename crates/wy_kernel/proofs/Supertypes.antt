-- The rows of a class table are its supertypes: a test that climbs by as many steps as a row is long finds each of them.
use Rattle.std.proofs.Common.{◌≡◌, ℕ, zero, suc, ◌<◌, ◌≤◌, ◌+◌, Bool, true, false, ◌||◌, List, [], ◌∷◌, length, Option, Some, None, slice_get, nat_eq, refl, sym, ◌∙◌, ap, subst, arith, ◌⊎◌, inl, inr, eq-eqb, rules, get_or, ◌↔◌}
use Rattle.std.specs.List.{Contains, IsDistinct, AllByRecursion, list_any}
use Rattle.std.specs.Set.{is_member}
use Rattle.std.specs.Cmp.{nat_eq_equiv}
use Rattle.std.proofs.Math.Logic.{∥∥₁_elim}
use Rattle.std.proofs.Props.{props}
use Rattle.std.proofs.lemmas.Map.Views.{list_any-from_Contains}
use Rattle.std.proofs.lemmas.Map.Made.{length-le_from_is_member}
use Rattle.std.proofs.lemmas.Option.{slice_get-get_or}
use Rattle.wy_kernel.specs.Program.{Class}
use Rattle.wy_kernel.specs.Subtyping.{direct_supertypes, named_above, Supertype, itself, further, IsAcyclic}
use Rattle.wy_kernel.specs.Table.{Table, IsTable, KeepsSupertypes}

or_right : (a b : Bool) → b ≡ true → (a || b) ≡ true
or_right true b e = refl
or_right false b e = e

or_left : (a b : Bool) → a ≡ true → (a || b) ≡ true
or_left true b e = refl
or_left false b e = absurd (cc)

or_cases : (a b : Bool) → (a || b) ≡ true → (a ≡ true) ⊎ (b ≡ true)
or_cases true b e = inl refl
or_cases false b e = inr e

-- an element that passes a test
pub found : (p : ℕ → Bool) (xs : List ℕ) → list_any p xs ≡ true → (x : ℕ) × Contains xs x × (p x ≡ true)
found p [] e = absurd (cc)
found p (x ∷ xs) e =
    elim (or_cases (p x) (list_any p xs) e) [
      | inl h ↦ (x, (0, omega arith, refl), h)
      | inr h ↦ (let f = found p xs h in (f.0, (suc f.1.0, (let lt : f.1.0 < length xs = f.1.1 in omega arith), f.1.2), f.2))
    ]

pub passes : (p : ℕ → Bool) (xs : List ℕ) (x : ℕ) → Contains xs x → p x ≡ true → list_any p xs ≡ true
passes p [] x (k, lt, e) h = absurd (omega arith)
passes p (y ∷ ys) x (zero, lt, e) h = or_left (p y) (list_any p ys) (ap p e ∙ h)
passes p (y ∷ ys) x (suc k, lt, e) h = or_right (p y) (list_any p ys) (passes p ys x (k, omega arith, e) h)

pub contained : (x : ℕ) (xs : List ℕ) → list_any (nat_eq x) xs ≡ true → Contains xs x
contained x xs e =
    let f = found (nat_eq x) xs e in let same : nat_eq x f.0 ≡ true = f.2 in let is : f.0 ≡ x = search rules in
    let P : ℕ → Type 0 = λ y. Contains xs y in subst P is f.1

-- whether d is a supertype of c, by at most so many steps
reach : List Class → ℕ → ℕ → ℕ → Bool
reach classes zero c d = nat_eq c d
reach classes (suc f) c d = nat_eq c d || list_any (λ e. reach classes f e d) (direct_supertypes classes c)

same_class : (classes : List Class) (c d : ℕ) → nat_eq c d ≡ true → Supertype classes c d
same_class classes c d e = let is : c ≡ d = search rules in let P : ℕ → Type 0 = λ n. Supertype classes c n in subst P is itself

reach_sound : (classes : List Class) (f c d : ℕ) → reach classes f c d ≡ true → Supertype classes c d
unfolding reach
reach_sound classes zero c d e = same_class classes c d e
reach_sound classes (suc f) c d e =
    elim (or_cases (nat_eq c d) _ e) [
      | inl h ↦ same_class classes c d h
      | inr h ↦ (let x = found (λ e. reach classes f e d) (direct_supertypes classes c) h in further x.1 (reach_sound classes f x.0 d x.2))
    ]

row_of : List (List ℕ) → ℕ → List ℕ
row_of rows c = get_or rows c []

height : List (List ℕ) → ℕ → ℕ
height rows c = length (row_of rows c)

there : (rows : List (List ℕ)) (c : ℕ) → c < length rows → slice_get rows c ≡ Some (row_of rows c)
unfolding row_of
there rows c lt = slice_get-get_or rows c [] lt

none_contained : {A : Type 0} (c : ℕ) → Contains [] c → A
none_contained c (k, lt, e) = absurd (omega arith)

-- only a class of the list has direct supertypes
pub in_range : (classes : List Class) (c d : ℕ) → Contains (direct_supertypes classes c) d → c < length classes
unfolding direct_supertypes
in_range [] c d h = none_contained d h
in_range (k ∷ classes) zero d h = omega arith
in_range (k ∷ classes) (suc c) d h = let lt : c < length classes = in_range classes c d h in omega arith

pub distinct_with : (x : ℕ) (xs : List ℕ) → ((y : ℕ) → Contains xs y → x ≡ y → ⊥) → AllByRecursion (λ y. nat_eq x y ≡ false) xs
distinct_with x [] h = tt
distinct_with x (y ∷ ys) h =
    (let differs : x ≡ y → ⊥ = h y (0, omega arith, refl) in search (rules), distinct_with x ys (λ z c. h z (suc c.0, (let lt : c.0 < length ys = c.1 in omega arith), c.2)))

-- a direct supertype has a shorter row
falls : (t : Table) (rows : List (List ℕ)) → IsTable t → KeepsSupertypes t.classes rows → (c e : ℕ) → Contains (direct_supertypes t.classes c) e → height rows e < height rows c
unfolding height IsDistinct
falls t rows g k c e h =
    let many = k.a_row_a_class in
    let lc : c < length rows = (let lt = in_range t.classes c e h in omega arith) in
    let le : e < length rows = (let lt : e < length t.classes = g.supertypes_in_range c e h in omega arith) in
    let of_c = there rows c lc in
    let of_e = there rows e le in
    let fresh : AllByRecursion (λ y. nat_eq c y ≡ false) (row_of rows e) =
    distinct_with c (row_of rows e) (λ y y_in is. (let P : ℕ → Type 0 = λ n. Supertype t.classes e n in g.acyclic c e h (subst P (sym is) (((k.each e (row_of rows e) of_e).exact y).0 y_in)))) in
    let within : (q : ℕ) → is_member nat_eq (c ∷ row_of rows e) q ≡ true → is_member nat_eq (row_of rows c) q ≡ true =
    λ q m. list_any-from_Contains nat_eq_equiv q (row_of rows c)
    (elim (or_cases (nat_eq q c) _ m) [
      | inl s ↦ (let is : c ≡ q = search rules in ((k.each c (row_of rows c) of_c).exact q).1 (let P : ℕ → Type 0 = λ n. Supertype t.classes c n in subst P is itself))
      | inr s ↦ ((k.each c (row_of rows c) of_c).exact q).1 (further h (((k.each e (row_of rows e) of_e).exact q).0 (contained q (row_of rows e) s)))
    ]) in
    let le : length (c ∷ row_of rows e) ≤ length (row_of rows c) = length-le_from_is_member nat_eq_equiv (c ∷ row_of rows e) (row_of rows c) (fresh, (k.each e (row_of rows e) of_e).once) within in
    omega arith

reach_complete : (t : Table) (rows : List (List ℕ)) → IsTable t → KeepsSupertypes t.classes rows → {c d : ℕ} → Supertype t.classes c d → (f : ℕ) → height rows c ≤ f → reach t.classes f c d ≡ true
unfolding reach
reach_complete t rows g k (itself {c}) zero le = eq-eqb c c refl
reach_complete t rows g k (itself {c}) (suc f) le = or_left (nat_eq c c) _ (eq-eqb c c refl)
reach_complete t rows g k (further {c} {d} {e} h s) zero le = absurd (let lt = falls t rows g k c d h in omega arith)
reach_complete t rows g k (further {c} {d} {e} h s) (suc f) le =
    or_right (nat_eq c e) _ (passes (λ x. reach t.classes f x e) (direct_supertypes t.classes c) d h
    (reach_complete t rows g k s f (let lt = falls t rows g k c d h in omega arith)))

-- the row of a class has its supertypes alone, and all of them
pub row_exact : (t : Table) (rows : List (List ℕ)) → ∥ IsTable t ∥₁ → ∥ KeepsSupertypes t.classes rows ∥₁ → (c : ℕ) (row : List ℕ) → slice_get rows c ≡ Some row →
    (d : ℕ) → Contains row d ↔ Supertype t.classes c d
row_exact t rows g k c row is d = (
  λ m. reach_sound t.classes (height rows c) c d (∥∥₁_elim g (hlevel props) (λ g'. ∥∥₁_elim k (hlevel props) (λ k'. reach_complete t rows g' k' (((k'.each c row is).exact d).0 m) (height rows c) (omega arith)))),
  λ s. contained d row (∥∥₁_elim k (hlevel props) (λ k'. list_any-from_Contains nat_eq_equiv d row (((k'.each c row is).exact d).1 s))),
)
