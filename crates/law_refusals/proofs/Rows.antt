-- The field that a name denotes is one of the table.
use Rattle.std.proofs.Common.{◌≡◌, subst, refl, arith, ℕ, zero, suc, ◌+◌, Bool, true, false, cond, List, [], ◌∷◌, Option, Some}
use Rattle.std.specs.Prelude.{slice_get}
use Rattle.std.specs.Prelude.{None as Absent}
use Rattle.std.specs.List.{position_from}
use Rattle.wy_kernel.specs.Program.{Field}
use Rattle.wy_kernel.specs.Table.{Table}
use Rattle.wy_constant.specs.Fields.{is_field, declared_field, superclass, or_above, field_within, field_of}

-- element m of a list, where the list begins at number i
record Stands {X : Type 0} (xs : List X) (i k : ℕ) : Type 0 where
  element : X
  place : ℕ
  sum : k ≡ i + place
  found : slice_get xs place ≡ Some element

further : {X : Type 0} (x : X) (xs : List X) (i k : ℕ) → Stands xs (i + 1) k → Stands (x ∷ xs) i k
further x xs i k h = let sum : k ≡ (i + 1) + h.place = h.sum in record { element = h.element; place = suc h.place; sum = omega arith; found = h.found }

mutual_step : {X : Type 0} (b : Bool) (x : X) (xs : List X) (i k : ℕ) (later : Option ℕ) → (later ≡ Some k → Stands xs (i + 1) k) → cond b (Some i) later ≡ Some k → Stands (x ∷ xs) i k
mutual_step true x xs i k later f e = let same : i ≡ k = cc in record { element = x; place = 0; sum = omega arith; found = refl }
mutual_step false x xs i k later f e = further x xs i k (f e)

stands : {X : Type 0} (p : X → Bool) (xs : List X) (i k : ℕ) → position_from p i xs ≡ Some k → Stands xs i k
stands p [] i k e = absurd (cc)
stands p (x ∷ xs) i k e = mutual_step (p x) x xs i k (position_from p (i + 1) xs) (stands p xs (i + 1) k) e

-- there is a field of this number
abbrev pub HasRow : Table → ℕ → Type 0
HasRow t k = (f : Field) × (slice_get t.fields k ≡ Some f)

declared_row : (t : Table) (class k : ℕ) (name : List ℕ) → declared_field t.fields class name ≡ Some k → HasRow t k
declared_row t class k name e =
    let s = stands (is_field class name) t.fields 0 k e in
    let sum : k ≡ 0 + s.place = s.sum in
    let same : s.place ≡ k = omega arith in
    (s.element, subst (λ (z : ℕ). slice_get t.fields z ≡ Some s.element) same s.found)

above_row : (t : Table) (k : ℕ) (own above : Option ℕ) (find : ℕ → Option ℕ) → (own ≡ Some k → HasRow t k) → ((c : ℕ) → find c ≡ Some k → HasRow t k) → or_above own above find ≡ Some k → HasRow t k
above_row t k (Some own) above find f g e = f e
above_row t k Absent (Some c) find f g e = g c e
above_row t k Absent Absent find f g e = absurd (cc)

within_row : (n : ℕ) (t : Table) (class k : ℕ) (name : List ℕ) → field_within n t class name ≡ Some k → HasRow t k
unfolding field_within
within_row zero t class k name e = absurd (cc)
within_row (suc n) t class k name e =
    above_row t k (declared_field t.fields class name) (superclass (slice_get t.classes class)) (λ above. field_within n t above name)
    (declared_row t class k name) (λ c h. within_row n t c k name h) e

pub field_row : (t : Table) (class k : ℕ) (name : List ℕ) → field_of t class name ≡ Some k → slice_get t.fields k ≡ Absent → ⊥
field_row t class k name e none = let h = within_row _ t class k name e in let some : slice_get t.fields k ≡ Some h.0 = h.1 in cc
