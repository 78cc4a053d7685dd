-- Lists of numbers that rise from one to another, so that each stands there once.
use Rattle.std.proofs.Common.{◌≡◌, sym, subst, arith, ℕ, ◌+◌, ◌<◌, ◌≤◌, cond, ◌==◌, List, [], ◌∷◌, ◌++◌, append_assoc}
use Rattle.std.proofs.lemmas.Bool.Decides.{nat_tests}
use Rattle.law_sites.proofs.Fewer.{times}

abbrev pub Rises : ℕ → List ℕ → ℕ → Type 0
Rises low [] high = low ≤ high
Rises low (x ∷ xs) high = (low ≤ x) × Rises (x + 1) xs high

-- each number is greater than those before it, none is less than the first bound, and each is less than the second
pub record Rising (low : ℕ) (xs : List ℕ) (high : ℕ) : Type 0 where
  pub by : Rises low xs high

in_bounds : (low : ℕ) (xs : List ℕ) (high : ℕ) → Rises low xs high → low ≤ high
in_bounds low [] high h = h
in_bounds low (x ∷ xs) high h =
    let here : low ≤ x = h.0 in
    let there : x + 1 ≤ high = in_bounds (x + 1) xs high h.1 in omega arith

pub bounded : {low high : ℕ} {xs : List ℕ} → Rising low xs high → low ≤ high
bounded {low} {high} {xs} h = in_bounds low xs high h.by

wider : (less low : ℕ) (xs : List ℕ) (high more : ℕ) → less ≤ low → high ≤ more → Rises low xs high → Rises less xs more
wider less low [] high more a b h = let e : low ≤ high = h in omega arith
wider less low (x ∷ xs) high more a b h = let e : low ≤ x = h.0 in (omega arith, wider (x + 1) (x + 1) xs high more (omega arith) b h.1)

joined : (low : ℕ) (xs : List ℕ) (middle : ℕ) (ys : List ℕ) (high : ℕ) → Rises low xs middle → Rises middle ys high → Rises low (xs ++ ys) high
joined low [] middle ys high h i = wider low middle ys high high h (omega arith) i
joined low (x ∷ xs) middle ys high h i = (h.0, joined (x + 1) xs middle ys high h.1 i)

pub rise_none : {low high : ℕ} → low ≤ high → Rising low [] high
rise_none h = record { by = h }

pub rise_wider : {low high less more : ℕ} {xs : List ℕ} → less ≤ low → high ≤ more → Rising low xs high → Rising less xs more
rise_wider {low} {high} {less} {more} {xs} a b h = record { by = wider less low xs high more a b h.by }

pub rise_both : {low middle high : ℕ} {xs ys : List ℕ} → Rising low xs middle → Rising middle ys high → Rising low (xs ++ ys) high
rise_both {low} {middle} {high} {xs} {ys} h i = record { by = joined low xs middle ys high h.by i.by }

-- a number between
pub rise_at : {low high : ℕ} {xs ys : List ℕ} (n : ℕ) → Rising low xs n → Rising (n + 1) ys high → Rising low (xs ++ n ∷ ys) high
rise_at {low} {high} {xs} {ys} n h i = record { by = joined low xs n (n ∷ ys) high h.by (omega arith, i.by) }

-- ---- each number once

none_behind : (x n t : ℕ) → n < x → t ≡ 0 → cond (x == n) 1 0 + t ≡ 0
none_behind x n t h e = grind (arith, nat_tests)

not_before : (n low : ℕ) (xs : List ℕ) (high : ℕ) → n < low → Rises low xs high → times n xs ≡ 0
not_before n low [] high less h = omega arith
not_before n low (x ∷ xs) high less h =
    let here : low ≤ x = h.0 in
    none_behind x n (times n xs) (omega arith) (not_before n (x + 1) xs high (omega arith) h.1)

once_more : (x n t : ℕ) → (n < x + 1 → t ≡ 0) → t ≤ 1 → cond (x == n) 1 0 + t ≤ 1
once_more x n t h i = grind (arith, nat_tests)

once : (n low : ℕ) (xs : List ℕ) (high : ℕ) → Rises low xs high → times n xs ≤ 1
once n low [] high h = omega arith
once n low (x ∷ xs) high h = once_more x n (times n xs) (λ less. not_before n (x + 1) xs high less h.1) (once n (x + 1) xs high h.1)

pub each_once : {low high : ℕ} {xs : List ℕ} → Rising low xs high → (n : ℕ) → times n xs ≤ 1
each_once {low} {high} {xs} h n = once n low xs high h.by

pub rise_grouped : {low high : ℕ} (xs ys zs : List ℕ) → Rising low (xs ++ (ys ++ zs)) high → Rising low ((xs ++ ys) ++ zs) high
rise_grouped {low} {high} xs ys zs h = let P : List ℕ → Type 0 = λ us. Rising low us high in subst P (sym (append_assoc xs ys zs)) h
