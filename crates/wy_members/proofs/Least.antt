-- The constants of fields are the least that follow from one another: each has one value, and a list that gives each value which it tells has them all.
use Rattle.std.proofs.Common.{◌≡◌, ℕ, zero, suc, List, [], ◌∷◌, Option, Some, None, refl, sym, ◌∙◌, ap, length}
use Rattle.std.specs.Prelude.{slice_get}
use Rattle.wy_syntax.specs.Syntax.{Expression}
use Rattle.wy_kernel.specs.Table.{Table, ConstantValue}
use Rattle.wy_members.specs.Declarations.{CompilationUnit}
use Rattle.wy_members.specs.Constants.{with_constants, told, IsConstant, by_initializer, HasConstants}
use Rattle.wy_members.proofs.Monotone.{Extends, keeps_told}

-- the list has each value that it tells
abbrev pub IsClosed : Table → List (Option Expression) → List (Option ConstantValue) → Type 0
IsClosed rows all known = (k : ℕ) (v : ConstantValue) → told (with_constants rows known) all k ≡ Some v → slice_get known k ≡ Some (Some v)

pub has_all : (rows : Table) (all : List (Option Expression)) (known : List (Option ConstantValue)) → IsClosed rows all known → {k : ℕ} {v : ConstantValue} → IsConstant rows all k v → slice_get known k ≡ Some (Some v)
has_all rows all known closed (by_initializer {k} {v} others each value) =
    closed k v (keeps_told rows all others known (λ j w h. has_all rows all known closed (each j w h)) k v value)

-- where nothing is told, no field is a constant variable
pub nothing_told : (rows : Table) (all : List (Option Expression)) → ((k : ℕ) → told (with_constants rows []) all k ≡ None) → (k : ℕ) (v : ConstantValue) → IsConstant rows all k v → ⊥
nothing_told rows all none k v c = let h : slice_get [] k ≡ Some (Some v) = has_all rows all [] (λ j w e. let n = none j in cc) c in cc

-- ---- each field has one value

-- the values of both lists, those of the first where both have one
join : List (Option ConstantValue) → List (Option ConstantValue) → List (Option ConstantValue)
join [] ys = ys
join (a ∷ xs) [] = a ∷ xs
join (Some a ∷ xs) (b ∷ ys) = Some a ∷ join xs ys
join (None ∷ xs) (b ∷ ys) = b ∷ join xs ys

-- no place has two values
abbrev Agree : List (Option ConstantValue) → List (Option ConstantValue) → Type 0
Agree xs ys = (k : ℕ) (v w : ConstantValue) → slice_get xs k ≡ Some (Some v) → slice_get ys k ≡ Some (Some w) → v ≡ w

join_left : (xs ys : List (Option ConstantValue)) → Extends xs (join xs ys)
unfolding join
join_left [] ys k v e = cc
join_left (a ∷ xs) [] k v e = e
join_left (Some a ∷ xs) (b ∷ ys) zero v e = e
join_left (Some a ∷ xs) (b ∷ ys) (suc k) v e = join_left xs ys k v e
join_left (None ∷ xs) (b ∷ ys) zero v e = cc
join_left (None ∷ xs) (b ∷ ys) (suc k) v e = join_left xs ys k v e

join_right : (xs ys : List (Option ConstantValue)) → Agree xs ys → Extends ys (join xs ys)
unfolding join
join_right [] ys h k v e = e
join_right (a ∷ xs) [] h k v e = cc
join_right (Some a ∷ xs) (b ∷ ys) h zero v e = ap (λ x. Some (Some x)) (h 0 a v refl e)
join_right (Some a ∷ xs) (b ∷ ys) h (suc k) v e = join_right xs ys (λ j x y. h (suc j) x y) k v e
join_right (None ∷ xs) (b ∷ ys) h zero v e = e
join_right (None ∷ xs) (b ∷ ys) h (suc k) v e = join_right xs ys (λ j x y. h (suc j) x y) k v e

told_alike : (rows : Table) (all : List (Option Expression)) (xs ys : List (Option ConstantValue)) → Agree xs ys → (k : ℕ) (v w : ConstantValue) →
    told (with_constants rows xs) all k ≡ Some v → told (with_constants rows ys) all k ≡ Some w → v ≡ w
told_alike rows all xs ys agree k v w e f =
    let left = keeps_told rows all xs (join xs ys) (join_left xs ys) k v e in
    let right = keeps_told rows all ys (join xs ys) (join_right xs ys agree) k w f in
    cc

pub one_value : (rows : Table) (all : List (Option Expression)) {k : ℕ} {v : ConstantValue} → IsConstant rows all k v → (w : ConstantValue) → IsConstant rows all k w → v ≡ w
one_value rows all (by_initializer {k} {v} xs each value) w c = against c (λ j x h y d. one_value rows all (each j x h) y d)
  where
    against : IsConstant rows all k w → ((j : ℕ) (x : ConstantValue) → slice_get xs j ≡ Some (Some x) → (y : ConstantValue) → IsConstant rows all j y → x ≡ y) → v ≡ w
    against (by_initializer ys other other_value) same = told_alike rows all xs ys (λ j x y h g. same j x h y (other j y g)) k v w value other_value

-- ---- a program has one list of constants

same_place : (a b : Option ConstantValue) → ((v : ConstantValue) → (a ≡ Some v) → (b ≡ Some v)) → ((v : ConstantValue) → (b ≡ Some v) → (a ≡ Some v)) → a ≡ b
same_place (Some v) b h g = sym (h v refl)
same_place None (Some w) h g = g w refl
same_place None None h g = refl

same_lists : (xs ys : List (Option ConstantValue)) → length xs ≡ length ys → Extends xs ys → Extends ys xs → xs ≡ ys
same_lists [] [] e h g = refl
same_lists [] (b ∷ ys) e h g = absurd (cc)
same_lists (a ∷ xs) [] e h g = absurd (cc)
same_lists (a ∷ xs) (b ∷ ys) e h g =
    let first : a ≡ b = same_place a b (λ v x. some_in (h 0 v (ap Some x))) (λ v x. some_in (g 0 v (ap Some x))) in
    let rest : xs ≡ ys = same_lists xs ys (cc) (λ k v x. h (suc k) v x) (λ k v x. g (suc k) v x) in
    cc
  where
    some_in : {o : Option ConstantValue} {v : ConstantValue} → Some o ≡ Some (Some v) → o ≡ Some v
    some_in e = cc

pub one_list : (unit : CompilationUnit) (xs ys : List (Option ConstantValue)) → HasConstants unit xs → HasConstants unit ys → xs ≡ ys
one_list unit xs ys h g =
    same_lists xs ys (h.a_place_a_field ∙ sym g.a_place_a_field) (λ k v e. (g.exact k v).1 ((h.exact k v).0 e)) (λ k v e. (h.exact k v).1 ((g.exact k v).0 e))
