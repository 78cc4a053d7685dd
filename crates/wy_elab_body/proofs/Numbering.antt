-- Places in order: how many stand before one is where the search among them ends.
use Rattle.std.proofs.Common.{◌≡◌, ap, sym, ◌∙◌, ℕ, zero, suc, ◌+◌, ◌*◌, ◌-◌, ◌<◌, ◌≤◌, Bool, true, false, ◌||◌, ◌&&◌, ◌==◌, nat_lt, cond, List, [], ◌∷◌, length, take, refl, arith, add-one}
use Rattle.std.proofs.lemmas.Bool.Decides.{nat_tests}
use Rattle.std.specs.Prelude.{count_by}
use Rattle.std.proofs.lemmas.List.{take_all}
use Rattle.std.proofs.lemmas.List.Sums.{count_by_more_yes, count_by_more_no}
use Rattle.std.specs.List.{AllWithin}
use Rattle.std.specs.List.Sorted.{IsPartitionPoint, IsPermutation}
use Rattle.std.proofs.lemmas.List.Sorted.{sum_by-IsPermutation}
use Rattle.wy_elab_body.specs.declared.place.Role.{Role}
use Rattle.wy_elab_body.specs.declared.place.Role.TheVariants.{InitializerBody, FieldsBody, ConstructorBody, SuperCall, FieldsCall, Written}
use Rattle.wy_elab_body.specs.declared.place.Place.{Place}
use Rattle.wy_elab_body.specs.Places.{at, key_of, number_at, order_of, stands_before}
use Rattle.wy_kernel.specs.Program.{library_statements}

few_orders : (r : Role) → order_of r < 8
unfolding order_of
few_orders InitializerBody = omega arith
few_orders FieldsBody = omega arith
few_orders ConstructorBody = omega arith
few_orders SuperCall = omega arith
few_orders FieldsCall = omega arith
few_orders Written = omega arith

before_is_less : (s t a b : ℕ) → a < 8 → b < 8 → (nat_lt s t || s == t && nat_lt a b) ≡ nat_lt (s * 8 + a) (t * 8 + b)
before_is_less s t a b h k = grind (arith, nat_tests)

pub key_before : (q p : Place) → stands_before q p ≡ nat_lt (key_of q) (key_of p)
key_before q p = before_is_less q.site p.site (order_of q.role) (order_of p.role) (few_orders q.role) (few_orders p.role)

nowhere : Place
nowhere = at 0 Written

take_none : {X : Type 0} (xs : List X) → take 0 xs ≡ []
take_none [] = refl
take_none (x ∷ xs) = refl

count_front : (p : Place → Bool) (xs : List Place) (i : ℕ) → AllWithin (λ y. p y ≡ true) xs 0 i → (k : ℕ) → k ≤ length xs → k ≤ i → count_by p (take k xs) ≡ k
count_front p xs i passing zero less below = ap (count_by p) (take_none xs)
count_front p xs i passing (suc k) less below =
    ap (λ n. count_by p (take n xs)) (sym (add-one k))
    ∙ count_by_more_yes p xs k nowhere (omega (arith, less)) (passing k nowhere (omega arith) (omega (arith, below)))
    ∙ ap (λ n. n + 1) (count_front p xs i passing k (omega (arith, less)) (omega (arith, below))) ∙ add-one k

count_behind : (p : Place → Bool) (xs : List Place) (i : ℕ) → IsPartitionPoint (λ y. p y ≡ true) (λ y. p y ≡ false) xs i → (m : ℕ) → i + m ≤ length xs → count_by p (take (i + m) xs) ≡ i
count_behind p xs i point zero less = ap (λ n. count_by p (take n xs)) (omega arith) ∙ count_front p xs i point.0 i (omega (arith, less)) (omega arith)
count_behind p xs i point (suc m) less =
    let shift : i + suc m ≡ (i + m) + 1 = omega arith in
    ap (λ n. count_by p (take n xs)) shift
    ∙ count_by_more_no p xs (i + m) nowhere (omega (arith, less)) (point.1 (i + m) nowhere (omega arith) (omega (arith, less)))
    ∙ count_behind p xs i point m (omega (arith, less))

pub count_to_point : (p : Place → Bool) (xs : List Place) (i : ℕ) → i ≤ length xs → IsPartitionPoint (λ y. p y ≡ true) (λ y. p y ≡ false) xs i → count_by p xs ≡ i
count_to_point p xs i less point =
    let rest : i + (length xs - i) ≡ length xs = omega (arith, less) in
    ap (count_by p) (sym (take_all (length xs) xs (omega arith))) ∙ ap (λ n. count_by p (take n xs)) (sym rest) ∙ count_behind p xs i point (length xs - i) (omega (arith, rest))

-- the tests that the number and the search make are one
pub same_counts : (site : ℕ) (role : Role) (xs : List Place) → count_by (λ q. stands_before q (at site role)) xs ≡ count_by (λ q. nat_lt (key_of q) (key_of (at site role))) xs
same_counts site role xs = λ i. count_by (λ q. key_before q (at site role) i) xs

pub number_in_order : (site : ℕ) (role : Role) (xs ys : List Place) → IsPermutation xs ys → number_at ys (at site role) ≡ number_at xs (at site role)
unfolding number_at
number_in_order site role xs ys same = ap (λ n. library_statements + n) (sum_by-IsPermutation (λ q. cond (stands_before q (at site role)) 1 0) xs ys same)

pub number_at_point : (site : ℕ) (role : Role) (xs : List Place) (i : ℕ) → i ≤ length xs →
    IsPartitionPoint (λ q. nat_lt (key_of q) (key_of (at site role)) ≡ true) (λ q. nat_lt (key_of q) (key_of (at site role)) ≡ false) xs i → number_at xs (at site role) ≡ 74 + i
unfolding number_at
number_at_point site role xs i less point = ap (λ n. library_statements + n) (same_counts site role xs ∙ count_to_point (λ q. nat_lt (key_of q) (key_of (at site role))) xs i less point)
