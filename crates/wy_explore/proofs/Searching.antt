-- The greatest event below another and the least above it, where events rise.
use Rattle.std.proofs.Common.{◌≡◌, ◌∙◌, ℕ, zero, suc, ◌-◌, ◌<◌, ◌≤◌, Bool, true, false, ltb, leb, List, [], ◌∷◌, length, get_or, sym, ap, subst, arith, ⊎_elim, ltb-true, leb-true, leb-false}
use Rattle.std.specs.Prelude.{MatchOption, Option, Some, slice_get}
use Rattle.std.specs.Prelude.{None as Absent}
use Rattle.std.specs.List.{Contains}
use Rattle.std.specs.List.Sorted.{IsNonDecreasingBy, IsPartitionPoint}
use Rattle.std.proofs.lemmas.Bool.{cases_lt, false≢true, lt-ltb}
use Rattle.std.proofs.lemmas.Option.{get_or_from_slice_get, none-some, slice_get_cases, slice_get_within}
use Rattle.wy_why.specs.Answer.{Rises}
use Rattle.wy_explore.specs.Session.{IsGreatestBelow, IsLeastAbove}

at_least : (low high : ℕ) (xs : List ℕ) → Rises low high xs → (j d : ℕ) → j < length xs → low ≤ get_or xs j d
at_least low high [] up j d lt = absurd (omega (arith, lt))
at_least low high (x ∷ xs) (le, below, more) zero d lt = le
at_least low high (x ∷ xs) (le, below, more) (suc j) d lt = omega (arith, le, at_least (suc x) high xs more j d (omega (arith, lt)))

pub below_end : (low high : ℕ) (xs : List ℕ) → Rises low high xs → (j d : ℕ) → j < length xs → get_or xs j d < high
below_end low high [] up j d lt = absurd (omega (arith, lt))
below_end low high (x ∷ xs) (le, below, more) zero d lt = below
below_end low high (x ∷ xs) (le, below, more) (suc j) d lt = below_end (suc x) high xs more j d (omega (arith, lt))

pub climbing : (low high : ℕ) (xs : List ℕ) → Rises low high xs → IsNonDecreasingBy (λ x. x) xs
climbing low high [] up i j d le lt = absurd (omega (arith, lt))
climbing low high (x ∷ xs) (at, below, more) zero zero d le lt = omega arith
climbing low high (x ∷ xs) (at, below, more) zero (suc j) d le lt = omega (arith, at_least (suc x) high xs more j d (omega (arith, lt)))
climbing low high (x ∷ xs) (at, below, more) (suc i) zero d le lt = absurd (omega (arith, le))
climbing low high (x ∷ xs) (at, below, more) (suc i) (suc j) d le lt = climbing (suc x) high xs more i j d (omega (arith, le)) (omega (arith, lt))

past_end : (xs : List ℕ) (i : ℕ) → slice_get xs i ≡ Absent → length xs ≤ i
past_end xs i e = ⊎_elim
    (λ (h : (x : ℕ) × (i < length xs) × (slice_get xs i ≡ Some x) × (get_or xs i x ≡ x)). absurd (none-some h.0 (sym e ∙ h.2)))
    (λ (h : (length xs ≤ i) × (slice_get xs i ≡ Absent)). h.0)
    (slice_get_cases xs i).1

pub rises_up : (low m n : ℕ) (xs : List ℕ) → m ≤ n → Rises low m xs → Rises low n xs
rises_up low m n [] le up = tt
rises_up low m n (x ∷ xs) le (at, below, more) = (at, omega (arith, le, below), rises_up (suc x) m n xs le more)

-- the place between the events below another and the rest
abbrev Parts : (ℕ → Bool) → List ℕ → ℕ → Type 0
Parts test xs place = IsPartitionPoint (λ x. test x ≡ true) (λ x. test x ≡ false) xs place

module _ (xs : List ℕ) (n place : ℕ) where
  -- an event from a place on
  later : (test : ℕ → Bool) → Parts test xs place → (k : ℕ) → Contains xs k → test k ≡ true → (j : ℕ) × (j < place) × (j < length xs) × (get_or xs j k ≡ k)
  later test (front, rest) k (j, lt, is) passes = ⊎_elim
      (λ (before : j < place). (j, before, lt, is))
      (λ (behind : place ≤ j). absurd (false≢true (sym (rest j k behind lt) ∙ ap test is ∙ passes)))
      (cases_lt j place)

  greatest : (x : ℕ) → IsNonDecreasingBy (λ x. x) xs → Parts (λ x. ltb x n) xs place → 0 < place → slice_get xs (place - 1) ≡ Some x → IsGreatestBelow xs n x
  greatest x up parts some is =
      let within = slice_get_within xs (place - 1) x is in
      record {
        there = (place - 1, within, get_or_from_slice_get xs (place - 1) x x is);
        below = subst (λ y. y < n) (get_or_from_slice_get xs (place - 1) x x is) (ltb-true (get_or xs (place - 1) x) n (parts.0 (place - 1) x (omega arith) (omega (arith, some))));
        greatest = λ k has lt.
            let (j, before, short, at) = later (λ x. ltb x n) parts k has (lt-ltb k n lt) in
            omega (arith, up j (place - 1) k (omega (arith, before)) within, at, get_or_from_slice_get xs (place - 1) x k is);
      }

  none_below : Parts (λ x. ltb x n) xs place → place ≡ 0 → (m : ℕ) → IsGreatestBelow xs n m → ⊥
  none_below parts none m is =
      let (j, before, short, at) = later (λ x. ltb x n) parts m is.there (lt-ltb m n is.below) in
      omega (arith, before, none)

  least : (x : ℕ) → IsNonDecreasingBy (λ x. x) xs → Parts (λ x. leb x n) xs place → slice_get xs place ≡ Some x → IsLeastAbove xs n x
  least x up parts is =
      let within = slice_get_within xs place x is in
      record {
        there = (place, within, get_or_from_slice_get xs place x x is);
        above = subst (λ y. n < y) (get_or_from_slice_get xs place x x is) (leb-false (get_or xs place x) n (parts.1 place x (omega arith) within));
        least = λ k has lt. not_before k has lt;
      }
    where
      not_before : (k : ℕ) → Contains xs k → n < k → x ≤ k
      not_before k (j, short, at) lt = ⊎_elim
          (λ (before : j < place). absurd (omega (arith, lt, at, leb-true (get_or xs j k) n (parts.0 j k (omega arith) before))))
          (λ (behind : place ≤ j). omega (arith, up place j k behind short, at, get_or_from_slice_get xs place x k is))
          (cases_lt j place)

  none_above : Parts (λ x. leb x n) xs place → slice_get xs place ≡ Absent → (m : ℕ) → IsLeastAbove xs n m → ⊥
  none_above parts none m is =
      let (j, short, at) = is.there in
      let past : length xs ≤ place = past_end xs place none in
      omega (arith, is.above, at, leb-true (get_or xs j m) n (parts.0 j m (omega arith) (omega (arith, short, past))))

  pub greatest_found : (r : Option ℕ) → IsNonDecreasingBy (λ x. x) xs → Parts (λ x. ltb x n) xs place → place ≤ length xs → 0 < place → r ≡ slice_get xs (place - 1)
      → MatchOption r ((m : ℕ) → ¬ IsGreatestBelow xs n m) (IsGreatestBelow xs n)
  greatest_found Absent up parts bound some is = absurd (omega (arith, bound, some, past_end xs (place - 1) (sym is)))
  greatest_found (Some x) up parts bound some is = greatest x up parts some (sym is)

  pub greatest_missed : (r : Option ℕ) → r ≡ Absent → Parts (λ x. ltb x n) xs place → place ≡ 0 → MatchOption r ((m : ℕ) → ¬ IsGreatestBelow xs n m) (IsGreatestBelow xs n)
  greatest_missed r is parts none = subst (λ o. MatchOption o ((m : ℕ) → ¬ IsGreatestBelow xs n m) (IsGreatestBelow xs n)) (sym is) (none_below parts none)

  pub least_found : (r : Option ℕ) → IsNonDecreasingBy (λ x. x) xs → Parts (λ x. leb x n) xs place → r ≡ slice_get xs place → MatchOption r ((m : ℕ) → ¬ IsLeastAbove xs n m) (IsLeastAbove xs n)
  least_found Absent up parts is = none_above parts (sym is)
  least_found (Some x) up parts is = least x up parts (sym is)
