-- The groups have all events, each once.
use Rattle.std.proofs.Common.{◌≡◌, ◌∙◌, ◌<◌, ◌+◌, ℕ, zero, suc, Bool, true, false, ◌||◌, List, [], ◌∷◌, length, get_or, refl, sym, ap, eq-eqb, ne_eqb, arith}
use Rattle.std.specs.Prelude.{◌==◌, filter, not, if◌then◌else◌, sum_by}
use Rattle.std.proofs.lemmas.Bool.{eqb-true, false≢true}
use Rattle.std.proofs.lemmas.List.Folds.{list_any_at}
use Rattle.std.proofs.lemmas.List.Sums.{sum_by-cons}
use Rattle.wy_why.specs.Answer.{Rises}
use Rattle.wy_fold.specs.Places.{Places, is_last, last_ones, on_line, stands_on}
use Rattle.wy_fold.proofs.Folding.{rises_still}
use Rattle.wy_fold.proofs.Grouping.{is_end, some_pass}

same_filter : (p q : ℕ → Bool) (xs : List ℕ) → ((i : ℕ) → i < length xs → p (get_or xs i 0) ≡ q (get_or xs i 0)) → filter p xs ≡ filter q xs
same_filter p q [] same = refl
same_filter p q (x ∷ xs) same =
    ap (λ b. if b then x ∷ filter p xs else filter p xs) (same 0 (omega arith))
    ∙ ap (λ l. if q x then x ∷ l else l) (same_filter p q xs (λ i lt. same (suc i) (omega (arith, lt))))

same_test : (a b : ℕ) → (a == b) ≡ (b == a)
same_test a b = go (a == b) (b == a) refl refl
  where
    go : (u v : Bool) → (a == b) ≡ u → (b == a) ≡ v → u ≡ v
    go true true is there = refl
    go true false is there = absurd (false≢true (sym there ∙ eq-eqb b a (sym (eqb-true a b is))))
    go false true is there = absurd (false≢true (sym is ∙ eq-eqb a b (sym (eqb-true b a there))))
    go false false is there = refl

-- ---- the last ones, from the front on

last_behind : (x m : ℕ) (xs : List ℕ) → ¬ (length xs ≡ 0) → is_last (x ∷ xs) m ≡ is_last xs m
last_behind x m [] some = absurd (some refl)
last_behind x m (y ∷ rest) some = refl

above : (n low high : ℕ) (xs : List ℕ) → n < low → Rises low high xs → is_last xs n ≡ false
above n low high [] lt rises = refl
above n low high (x ∷ []) lt (le, less, more) = ne_eqb x n (λ same. omega (arith, lt, le, same))
above n low high (x ∷ y ∷ rest) lt (le, less, more) = above n (suc x) high (y ∷ rest) (omega (arith, lt, le)) more

-- those behind which no other stands on the same line
abbrev ends : Places → List ℕ → List ℕ
ends at [] = []
ends at (n ∷ ns) = if stands_on at (at n) ns then ends at ns else n ∷ ends at ns

module _ (at : Places) where
  none_there : (k : ℕ) (ns : List ℕ) → length (on_line at k ns) ≡ 0 → stands_on at k ns ≡ false
  none_there k ns none = some_pass (λ m. at m == k) ns ∙ ap (λ l. not (l == 0)) none

  behind : (n : ℕ) (ns : List ℕ) (i : ℕ) → i < length ns → is_end at (n ∷ ns) (get_or ns i 0) ≡ is_end at ns (get_or ns i 0)
  behind n ns i lt = go (at n == at (get_or ns i 0))
    where
      m : ℕ
      m = get_or ns i 0

      here : List ℕ
      here = on_line at (at m) ns

      some : ¬ (length here ≡ 0)
      some none = false≢true (sym (none_there (at m) ns none) ∙ list_any_at (λ k. at k == at m) ns i 0 lt (eq-eqb (at m) (at m) refl))

      go : (b : Bool) → is_last (if b then n ∷ here else here) m ≡ is_last here m
      go true = last_behind n m here some
      go false = refl

  first_ends : (n high : ℕ) (here : List ℕ) → Rises (suc n) high here → is_last (n ∷ here) n ≡ not (not (length here == 0))
  first_ends n high [] rises = eq-eqb n n refl
  first_ends n high (y ∷ rest) rises =
      above n (suc n) high (y ∷ rest) (omega arith) rises ∙ sym (ap (λ b. not (not b)) (ne_eqb (suc (length rest)) 0 (λ same. omega (arith, same))))

  ends_are : (low high : ℕ) (ns : List ℕ) → Rises low high ns → last_ones at ns ≡ ends at ns
  ends_are low high [] rises = refl
  ends_are low high (n ∷ ns) (le, less, more) =
      ap (λ b. if b then n ∷ filter (is_end at (n ∷ ns)) ns else filter (is_end at (n ∷ ns)) ns) first
      ∙ ap (λ l. if not (stands_on at (at n) ns) then n ∷ l else l) (same_filter (is_end at (n ∷ ns)) (is_end at ns) ns (behind n ns) ∙ ends_are (suc n) high ns more)
      ∙ turn (stands_on at (at n) ns)
    where
      here : List ℕ
      here = on_line at (at n) ns

      first : is_end at (n ∷ ns) n ≡ not (stands_on at (at n) ns)
      first =
          ap (λ b. is_last (if b then n ∷ here else here) n) (eq-eqb (at n) (at n) refl)
          ∙ first_ends n high here (rises_still (λ m. at m == at n) (suc n) high ns more)
          ∙ ap not (sym (some_pass (λ m. at m == at n) ns))

      turn : (b : Bool) → (if not b then n ∷ ends at ns else ends at ns) ≡ (if b then ends at ns else n ∷ ends at ns)
      turn true = refl
      turn false = refl

  -- each line has one
  one_a_line : (k : ℕ) (ns : List ℕ) → length (on_line at k (ends at ns)) ≡ (if stands_on at k ns then 1 else 0)
  one_a_line k [] = refl
  one_a_line k (n ∷ ns) = go (stands_on at (at n) ns) (at n == k) refl refl (one_a_line k ns)
    where
      go : (s e : Bool) → stands_on at (at n) ns ≡ s → (at n == k) ≡ e → length (on_line at k (ends at ns)) ≡ (if stands_on at k ns then 1 else 0)
          → length (on_line at k (if s then ends at ns else n ∷ ends at ns)) ≡ (if e || stands_on at k ns then 1 else 0)
      go true true is here so = so ∙ ap (λ b. if b then 1 else 0) (ap (λ l. stands_on at l ns) (sym (eqb-true (at n) k here)) ∙ is)
      go true false is here so = so
      go false true is here so =
          ap (λ b. length (if b then n ∷ on_line at k (ends at ns) else on_line at k (ends at ns))) here
          ∙ ap suc (so ∙ ap (λ b. if b then 1 else 0) (ap (λ l. stands_on at l ns) (sym (eqb-true (at n) k here)) ∙ is))
      go false false is here so = ap (λ b. length (if b then n ∷ on_line at k (ends at ns) else on_line at k (ends at ns))) here ∙ so

  abbrev weight : List ℕ → ℕ → ℕ
  weight ns m = length (on_line at (at m) ns)

  one_more : (n : ℕ) (ns xs : List ℕ) → sum_by (weight (n ∷ ns)) xs ≡ length (on_line at (at n) xs) + sum_by (weight ns) xs
  one_more n ns [] = refl
  one_more n ns (x ∷ xs) =
      sum_by-cons (weight (n ∷ ns)) x xs ∙ go (at n == at x) refl (one_more n ns xs)
      ∙ ap (λ t. length (on_line at (at n) (x ∷ xs)) + t) (sym (sum_by-cons (weight ns) x xs))
    where
      go : (b : Bool) → (at n == at x) ≡ b → sum_by (weight (n ∷ ns)) xs ≡ length (on_line at (at n) xs) + sum_by (weight ns) xs
          → length (if b then n ∷ on_line at (at x) ns else on_line at (at x) ns) + sum_by (weight (n ∷ ns)) xs
          ≡ length (if at x == at n then x ∷ on_line at (at n) xs else on_line at (at n) xs) + (weight ns x + sum_by (weight ns) xs)
      go true is so =
          let e = ap (λ b. length (if b then x ∷ on_line at (at n) xs else on_line at (at n) xs)) (same_test (at x) (at n) ∙ is) in omega (arith, so, e)
      go false is so =
          let e = ap (λ b. length (if b then x ∷ on_line at (at n) xs else on_line at (at n) xs)) (same_test (at x) (at n) ∙ is) in omega (arith, so, e)

  add_up : (ns : List ℕ) → sum_by (weight ns) (ends at ns) ≡ length ns
  add_up [] = refl
  add_up (n ∷ ns) = go (stands_on at (at n) ns) refl (add_up ns)
    where
      zero_of : (b : Bool) (l : ℕ) → b ≡ not (l == 0) → b ≡ false → l ≡ 0
      zero_of b zero is none = refl
      zero_of b (suc l) is none = absurd (false≢true (sym none ∙ is ∙ ap not (ne_eqb (suc l) 0 (λ same. omega (arith, same)))))

      go : (s : Bool) → stands_on at (at n) ns ≡ s → sum_by (weight ns) (ends at ns) ≡ length ns
          → sum_by (weight (n ∷ ns)) (if s then ends at ns else n ∷ ends at ns) ≡ suc (length ns)
      go true is so =
          let one = one_a_line (at n) ns ∙ ap (λ b. if b then 1 else 0) is in
          omega (arith, one_more n ns (ends at ns), one, so)
      go false is so =
          let none = one_a_line (at n) ns ∙ ap (λ b. if b then 1 else 0) is in
          let first = ap (λ b. length (if b then n ∷ on_line at (at n) ns else on_line at (at n) ns)) (eq-eqb (at n) (at n) refl) in
          omega (arith, sum_by-cons (weight (n ∷ ns)) n (ends at ns), one_more n ns (ends at ns), none, so, first, zero_of (stands_on at (at n) ns) (length (on_line at (at n) ns)) (some_pass (λ m. at m == at n) ns) is)

  pub adds_up : (low high : ℕ) (ns : List ℕ) → Rises low high ns → sum_by (λ m. length (on_line at (at m) ns)) (last_ones at ns) ≡ length ns
  adds_up low high ns rises = ap (sum_by (weight ns)) (ends_are low high ns rises) ∙ add_up ns
