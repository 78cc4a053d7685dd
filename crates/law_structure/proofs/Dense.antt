-- Different numbers have the places 0, 1, 2 and so on among one another.
use Rattle.std.proofs.Common.{◌≡◌, ◌∙◌, refl, sym, ap, cond, subst, inl, inr, arith, ℕ, zero, suc, ◌+◌, ◌-◌, ◌<◌, ◌≤◌, ◌≢◌, zero-add, Bool, false, ◌==◌, nat_lt, List, [], ◌∷◌, length}
use Rattle.std.specs.Prelude.{◌⊎◌}
use Rattle.std.proofs.lemmas.Bool.Decides.{nat_tests}

-- how many pass the test
abbrev pub tally : {X : Type 0} → (X → Bool) → List X → ℕ
tally f [] = 0
tally f (x ∷ xs) = cond (f x) 1 0 + tally f xs

abbrev pub In : {X : Type 0} → X → List X → Type 0
In x [] = ⊥
In x (y ∷ ys) = (x ≡ y) ⊎ In x ys

pub tally_alike : {X : Type 0} (f g : X → Bool) (xs : List X) → ((x : X) → In x xs → f x ≡ g x) → tally f xs ≡ tally g xs
tally_alike f g [] h = refl
tally_alike f g (x ∷ xs) h = λ i. cond (h x (inl refl) i) 1 0 + tally_alike f g xs (λ y m. h y (inr m)) i

tally_false : {X : Type 0} (xs : List X) → tally (λ (x : X). false) xs ≡ 0
tally_false [] = refl
tally_false (x ∷ xs) = zero-add (tally (λ y. false) xs) ∙ tally_false xs

-- how many are less
abbrev pub rank : List ℕ → ℕ → ℕ
rank ks k = tally (λ x. nat_lt x k) ks

one_step : (x a b m n : ℕ) → a ≤ b → m ≤ n → cond (nat_lt x a) 1 0 + m ≤ cond (nat_lt x b) 1 0 + n
one_step x a b m n h i = grind (arith, nat_tests)

pub rank_rises : (ks : List ℕ) (a b : ℕ) → a ≤ b → rank ks a ≤ rank ks b
rank_rises [] a b h = omega arith
rank_rises (k ∷ ks) a b h = one_step k a b (rank ks a) (rank ks b) h (rank_rises ks a b h)

own_step : (a b m n : ℕ) → a < b → m ≤ n → cond (nat_lt a a) 1 0 + m < cond (nat_lt a b) 1 0 + n
own_step a b m n h i = grind (arith, nat_tests)

later_step : (x a b m n : ℕ) → a < b → m < n → cond (nat_lt x a) 1 0 + m < cond (nat_lt x b) 1 0 + n
later_step x a b m n h i = grind (arith, nat_tests)

pub rank_before : (ks : List ℕ) (a b : ℕ) → In a ks → a < b → rank ks a < rank ks b
rank_before [] a b m h = absurd m
rank_before (k ∷ ks) a b (inl e) h =
    let P : ℕ → Type 0 = λ x. cond (nat_lt x a) 1 0 + rank ks a < cond (nat_lt x b) 1 0 + rank ks b in
    subst P e (own_step a b (rank ks a) (rank ks b) h (rank_rises ks a b (omega arith)))
rank_before (k ∷ ks) a b (inr m) h = later_step k a b (rank ks a) (rank ks b) h (rank_before ks a b m h)

at_most_step : (x a m n : ℕ) → m ≤ n → cond (nat_lt x a) 1 0 + m ≤ suc n
at_most_step x a m n h = grind (arith, nat_tests)

pub rank_small : (ks : List ℕ) (a : ℕ) → rank ks a ≤ length ks
rank_small [] a = omega arith
rank_small (k ∷ ks) a = at_most_step k a (rank ks a) (length ks) (rank_small ks a)

own_below : (a m n : ℕ) → m ≤ n → cond (nat_lt a a) 1 0 + m < suc n
own_below a m n h = grind (arith, nat_tests)

later_below : (x a m n : ℕ) → m < n → cond (nat_lt x a) 1 0 + m < suc n
later_below x a m n h = grind (arith, nat_tests)

pub rank_below : (ks : List ℕ) (a : ℕ) → In a ks → rank ks a < length ks
rank_below [] a m = absurd m
rank_below (k ∷ ks) a (inl e) = let P : ℕ → Type 0 = λ x. cond (nat_lt x a) 1 0 + rank ks a < suc (length ks) in subst P e (own_below a (rank ks a) (length ks) (rank_small ks a))
rank_below (k ∷ ks) a (inr m) = later_below k a (rank ks a) (length ks) (rank_below ks a m)

-- no two are the same
abbrev pub Distinct : List ℕ → Type 0
Distinct [] = Unit {0}
Distinct (k ∷ ks) = ((x : ℕ) → In x ks → x ≢ k) × Distinct ks

-- a number r before others puts those that are not less one further
below_it : (k x a r n : ℕ) → x ≢ k → (x < k → a < r) → (k ≤ x → r ≤ a) → n < r → (cond (nat_lt k x) 1 0 + a == n) ≡ (a == n)
below_it k x a r n d f g h = grind (arith, nat_tests)

at_it : (k x a r n : ℕ) → x ≢ k → (x < k → a < r) → (k ≤ x → r ≤ a) → n ≡ r → (cond (nat_lt k x) 1 0 + a == n) ≡ false
at_it k x a r n d f g h = grind (arith, nat_tests)

above_it : (k x a r n : ℕ) → x ≢ k → (x < k → a < r) → (k ≤ x → r ≤ a) → r < n → (cond (nat_lt k x) 1 0 + a == n) ≡ (a == n - 1)
above_it k x a r n d f g h = grind (arith, nat_tests)

own_test : (k a n : ℕ) → (cond (nat_lt k k) 1 0 + a == n) ≡ (a == n)
own_test k a n = grind (arith, nat_tests)

pub three_ways : (n r : ℕ) → (n < r) ⊎ (n ≡ r) ⊎ (r < n)
three_ways zero zero = inr (inl refl)
three_ways zero (suc r) = inl (omega arith)
three_ways (suc n) zero = inr (inr (omega arith))
three_ways (suc n) (suc r) = elim (three_ways n r) [ inl h ↦ inl (omega arith) | inr k ↦ elim k [ inl e ↦ inr (inl (omega arith)) | inr h ↦ inr (inr (omega arith)) ] ]

abbrev one_if : Bool → ℕ
one_if b = cond b 1 0

other_test : (a n : ℕ) → a ≢ n → one_if (a == n) ≡ 0
other_test a n d = grind (arith, nat_tests)

same_test : (a n : ℕ) → a ≡ n → one_if (a == n) ≡ 1
same_test a n e = grind (arith, nat_tests)

summed : (x y a b : ℕ) → x ≡ a → y ≡ b → x + y ≡ a + b
summed x y a b e f = omega arith

pub dense : (ks : List ℕ) → Distinct ks → (n : ℕ) → n < length ks → tally (λ x. rank ks x == n) ks ≡ 1
dense [] d n less = absurd (omega arith)
dense (k ∷ ks) d n less =
    let r = rank ks k in
    let few : r ≤ length ks = rank_small ks k in
    let first : one_if (cond (nat_lt k k) 1 0 + r == n) ≡ one_if (r == n) = ap one_if (own_test k r n) in
    elim (three_ways n r) [
      | inl h ↦ summed _ _ 0 1 (first ∙ other_test r n (λ e. omega arith))
          (tally_alike (λ x. cond (nat_lt k x) 1 0 + rank ks x == n) (λ x. rank ks x == n) ks (λ x m. below_it k x (rank ks x) r n (d.0 x m) (rank_before ks x k m) (rank_rises ks k x) h)
          ∙ dense ks d.1 n (omega arith))
      | inr i ↦ elim i [
        | inl e ↦ summed _ _ 1 0 (first ∙ same_test r n (sym e))
            (tally_alike (λ x. cond (nat_lt k x) 1 0 + rank ks x == n) (λ x. false) ks (λ x m. at_it k x (rank ks x) r n (d.0 x m) (rank_before ks x k m) (rank_rises ks k x) e) ∙ tally_false ks)
        | inr h ↦ summed _ _ 0 1 (first ∙ other_test r n (λ e. omega arith))
            (tally_alike (λ x. cond (nat_lt k x) 1 0 + rank ks x == n) (λ x. rank ks x == n - 1) ks (λ x m. above_it k x (rank ks x) r n (d.0 x m) (rank_before ks x k m) (rank_rises ks k x) h)
            ∙ dense ks d.1 (n - 1) (omega arith))
      ]
    ]
