-- Numbers have one rising order, and one of them at a place.
use Rattle.std.proofs.Common.{◌≡◌, ◌∙◌, ℕ, suc, ◌-◌, ◌<◌, ◌≤◌, nat_eq, List, [], ◌∷◌, length, refl, sym, ap, arith}
use Rattle.std.specs.Prelude.{get_or, slice_get, IsPermutation, if◌then◌else◌}
use Rattle.std.specs.List.{sum_by}
use Rattle.std.specs.List.Sorted.{IsNonDecreasing, IsSorted}
use Rattle.std.specs.Ordering.{nat_cmp}
use Rattle.std.proofs.lemmas.List.Sorted.{IsNonDecreasingBy-from_sort, sum_by-IsPermutation}
use Rattle.std.proofs.lemmas.List.Sums.{sum_by-cons}
use Rattle.std.proofs.lemmas.Option.{same_Some}
use Rattle.wy_ask.specs.Statements.{IsPlaced}

abbrev one_if_same : ℕ → ℕ → ℕ
one_if_same v z = if nat_eq z v then 1 else 0

-- how often a number is among some
abbrev count : ℕ → List ℕ → ℕ
count v xs = sum_by (one_if_same v) xs

-- all are at least x, and each is at least the one before it
abbrev Above : ℕ → List ℕ → Type 0
Above x [] = Unit {0}
Above x (y ∷ ys) = (x ≤ y) × Above x ys

abbrev Climbs : List ℕ → Type 0
Climbs [] = Unit {0}
Climbs (x ∷ xs) = Above x xs × Climbs xs

above : (x : ℕ) (xs : List ℕ) → ((j d : ℕ) → j < length xs → x ≤ get_or xs j d) → Above x xs
above x [] h = tt
above x (y ∷ ys) h = (h 0 0 (omega arith), above x ys (λ j d lt. h (suc j) d (omega (arith, lt))))

climbs : (xs : List ℕ) → IsNonDecreasing xs → Climbs xs
climbs [] up = tt
climbs (x ∷ xs) up = (above x xs (λ j d lt. up 0 (suc j) d (omega arith) (omega (arith, lt))), climbs xs (λ i j d le lt. up (suc i) (suc j) d (omega (arith, le)) (omega (arith, lt))))

-- a number below all is not among them
none_below : (v x : ℕ) (xs : List ℕ) → v < x → Above x xs → count v xs ≡ 0
none_below v x [] lt all = refl
none_below v x (y ∷ ys) lt (le, all) =
    omega (arith, sum_by-cons (one_if_same v) y ys, differs y (omega (arith, lt, le)), none_below v x ys lt all)
  where
    differs : (y : ℕ) → v < y → one_if_same v y ≡ 0
    differs y less = grind (arith, less)

itself : (x : ℕ) → one_if_same x x ≡ 1
itself x = grind arith

counted : (x : ℕ) (xs : List ℕ) → 1 ≤ count x (x ∷ xs)
counted x xs = omega (arith, sum_by-cons (one_if_same x) x xs, itself x)

not_less : (x y : ℕ) (xs ys : List ℕ) → Above y ys → ((v : ℕ) → count v (x ∷ xs) ≡ count v (y ∷ ys)) → x < y → ⊥
not_less x y xs ys all same lt =
    let none : count x (y ∷ ys) ≡ 0 = none_below x y (y ∷ ys) lt (omega arith, all) in
    omega (arith, counted x xs, same x, none)

same_head : (x y : ℕ) (xs ys : List ℕ) → Above x xs → Above y ys → ((v : ℕ) → count v (x ∷ xs) ≡ count v (y ∷ ys)) → x ≡ y
same_head x y xs ys all also same =
    let low = not_less x y xs ys also same in
    let high = not_less y x ys xs all (λ v. sym (same v)) in
    grind (arith, low, high)

one_climb : (xs ys : List ℕ) → Climbs xs → Climbs ys → ((v : ℕ) → count v xs ≡ count v ys) → xs ≡ ys
one_climb [] [] up also same = refl
one_climb [] (y ∷ ys) up also same = absurd (omega (arith, counted y ys, same y))
one_climb (x ∷ xs) [] up also same = absurd (omega (arith, counted x xs, same x))
one_climb (x ∷ xs) (y ∷ ys) (all, up) (more, also) same =
    let head : x ≡ y = same_head x y xs ys all more same in
    let rest : (v : ℕ) → count v xs ≡ count v ys = λ v. omega (arith, sum_by-cons (one_if_same v) x xs, sum_by-cons (one_if_same v) y ys, same v, ap (one_if_same v) head) in
    (λ i. head i ∷ one_climb xs ys up also rest i)

one_rising : (numbers xs ys : List ℕ) → IsPermutation numbers xs → IsPermutation numbers ys → IsSorted nat_cmp xs → IsSorted nat_cmp ys → xs ≡ ys
one_rising numbers xs ys first second up also =
    one_climb xs ys (climbs xs (IsNonDecreasingBy-from_sort (λ x. x) xs up)) (climbs ys (IsNonDecreasingBy-from_sort (λ x. x) ys also))
    (λ v. sum_by-IsPermutation (one_if_same v) numbers xs first ∙ sym (sum_by-IsPermutation (one_if_same v) numbers ys second))

pub one_place : (numbers : List ℕ) (k n o : ℕ) → IsPlaced numbers k n → IsPlaced numbers k o → o ≡ n
one_place numbers k n o a b =
    let rising : b.rising ≡ a.rising = one_rising numbers b.rising a.rising b.rises.same a.rises.same b.rises.sorted a.rises.sorted in
    same_Some o n (sym b.there ∙ ap (λ r. slice_get r (k - 1)) rising ∙ a.there)
