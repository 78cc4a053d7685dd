-- What the laws of the definitions rest on.
use Rattle.std.proofs.Common.{◌≡◌, ◌≢◌, ℕ, zero, suc, ◌+◌, ◌-◌, ◌*◌, ◌/◌, ◌^◌, ◌<◌, Bool, true, false, List, [], ◌∷◌, cond, eqb, refl, sym, ap, ◌∙◌, arith, ℤ, pos, negsuc, ◌+ℤ◌, ◌-ℤ◌, ◌*ℤ◌, neg_ℤ, ◌<ℤ◌, ltb, subst}
use Rattle.std.proofs.Math.Nat.{mod-lt, div-add-mod'}
use Rattle.std.proofs.lemmas.Int.{ints}
use Rattle.std.proofs.lemmas.Bool.Decides.{nat_tests}
use Rattle.std.specs.Int.{Width, cast_signed, int_wrap, int_rem_euclid, int_div_euclid}
use Rattle.std.specs.Prelude.{unsigned_abs}
use Rattle.wy_value.specs.Text.{difference}
use borrow.Author.Differences.{sum_is_lem}
use mir.Val.{bits, hbits}
use lib.Pow.{pow_pos}

-- ---- numbers brought into range

less_times : (q m : ℕ) → neg_ℤ (pos q) *ℤ pos m ≡ neg_ℤ (pos (q * m))
less_times zero m = omega (arith, ints)
less_times (suc q) m = refl

times_sum : (k l : ℤ) (m : ℕ) → (k +ℤ l) *ℤ pos m ≡ k *ℤ pos m +ℤ l *ℤ pos m
times_sum k l m = let sum = ap (λ n. n * m) (sum_is_lem k l) in omega (arith, ints)

pub remainder_congruent : (z : ℤ) (m : ℕ) → 0 < m → (k : ℤ) × (pos (unsigned_abs (int_rem_euclid z (pos m))) ≡ z +ℤ k *ℤ pos m)
remainder_congruent (pos a) m some = (neg_ℤ (pos (a / m)), let split = div-add-mod' a m in let times = less_times (a / m) m in omega (arith, ints))
remainder_congruent (negsuc a) m some = (pos (a / m + 1), let split = div-add-mod' a m in let small = mod-lt a some in omega (arith, ints))

reading : (w : Width) (n : ℕ) → n < 2 ^ bits w → (t : Bool) → ltb n (2 ^ hbits w) ≡ t → (k : ℤ) × (cond t (pos n) (negsuc (2 ^ bits w - suc n)) ≡ pos n +ℤ k *ℤ pos (2 ^ bits w))
reading w n small true e = (pos 0, omega (arith, ints))
reading w n small false e = (negsuc 0, omega (arith, ints))

pub signed_congruent : (w : Width) (n : ℕ) → n < 2 ^ bits w → (k : ℤ) × (cast_signed w n ≡ pos n +ℤ k *ℤ pos (2 ^ bits w))
signed_congruent w n small = reading w n small (ltb n (2 ^ hbits w)) refl

remainder_small : (z : ℤ) (m : ℕ) → 0 < m → unsigned_abs (int_rem_euclid z (pos m)) < m
remainder_small (pos a) m some = mod-lt a some
remainder_small (negsuc a) m some = omega arith

joined : (a b z k l : ℤ) (m : ℕ) → a ≡ z +ℤ k *ℤ pos m → b ≡ a +ℤ l *ℤ pos m → b ≡ z +ℤ (k +ℤ l) *ℤ pos m
joined a b z k l m e f = let times = times_sum k l m in omega (arith, ints)

pub int_wrap_congruent : (w : Width) (z : ℤ) → (k : ℤ) × (int_wrap w z ≡ z +ℤ k *ℤ pos (2 ^ bits w))
unfolding int_wrap
int_wrap_congruent w z =
    let m = 2 ^ bits w in
    let some = pow_pos (bits w) in
    let first = remainder_congruent z m some in
    let n = unsigned_abs (int_rem_euclid z (pos m)) in
    let second = signed_congruent w n (remainder_small z m some) in
    (first.0 +ℤ second.0, joined (pos n) (int_wrap w z) z first.0 second.0 m first.1 second.1)

-- ---- shifts

pub euclid_above : (x : ℤ) (m : ℕ) → 0 < m → x <ℤ ((int_div_euclid x (pos m) +ℤ pos 1) *ℤ pos m)
euclid_above (pos a) m some = let split = div-add-mod' a m in let small = mod-lt a some in omega (arith, ints)
euclid_above (negsuc a) m some =
    let split = div-add-mod' a m in
    let small = mod-lt a some in
    let next : negsuc (a / m) +ℤ pos 1 ≡ neg_ℤ (pos (a / m)) = omega (arith, ints) in
    let times = less_times (a / m) m in
    subst (λ q. negsuc a <ℤ (q *ℤ pos m)) (sym next) (omega (arith, ints))

-- ---- texts

same_units : (x y : ℕ) (xs ys : List ℕ) (t : Bool) → eqb x y ≡ t → (difference xs ys ≡ pos 0 → xs ≡ ys) → cond t (difference xs ys) (pos x -ℤ pos y) ≡ pos 0 → x ∷ xs ≡ y ∷ ys
same_units x y xs ys true e rest h = let first : x ≡ y = grind (arith, nat_tests) in let others = rest h in cc
same_units x y xs ys false e rest h = let apart : x ≢ y = grind (arith, nat_tests) in absurd (apart (omega (arith, ints)))

pub same_from_difference : (xs ys : List ℕ) → difference xs ys ≡ pos 0 → xs ≡ ys
same_from_difference [] [] h = refl
same_from_difference [] (y ∷ ys) h = absurd (omega (arith, ints))
same_from_difference (x ∷ xs) [] h = absurd (omega (arith, ints))
same_from_difference (x ∷ xs) (y ∷ ys) h = same_units x y xs ys (eqb x y) refl (same_from_difference xs ys) h

pub difference_self : (xs : List ℕ) → difference xs xs ≡ pos 0
difference_self [] = refl
difference_self (x ∷ xs) = let e : eqb x x ≡ true = grind (arith, nat_tests) in ap (λ t. cond t (difference xs xs) (pos x -ℤ pos x)) e ∙ difference_self xs

swapped : (x y : ℕ) (d e : ℤ) (t u : Bool) → eqb x y ≡ t → eqb y x ≡ u → e ≡ neg_ℤ d → cond u e (pos y -ℤ pos x) ≡ neg_ℤ (cond t d (pos x -ℤ pos y))
swapped x y d e true true p q h = h
swapped x y d e true false p q h = let same : x ≡ y = grind (arith, nat_tests) in let apart : y ≢ x = grind (arith, nat_tests) in absurd (apart (sym same))
swapped x y d e false true p q h = let same : y ≡ x = grind (arith, nat_tests) in let apart : x ≢ y = grind (arith, nat_tests) in absurd (apart (sym same))
swapped x y d e false false p q h = omega (arith, ints)

pub difference_reversed : (xs ys : List ℕ) → difference ys xs ≡ neg_ℤ (difference xs ys)
difference_reversed [] [] = refl
difference_reversed [] (y ∷ ys) = omega (arith, ints)
difference_reversed (x ∷ xs) [] = omega (arith, ints)
difference_reversed (x ∷ xs) (y ∷ ys) = swapped x y (difference xs ys) (difference ys xs) (eqb x y) (eqb y x) refl refl (difference_reversed xs ys)
