-- A number is found among numbers that rise exactly where it is one of them.
use Rattle.std.proofs.Common.{◌≡◌, ◌∙◌, ◌<◌, ◌≤◌, ℕ, List, length, get_or, ⊎_elim, sym, ap, eq-eqb, ne_eqb, arith}
use Rattle.std.specs.Prelude.{◌==◌, Result, Ok, Err, IsPermutation, IsSorted, MatchResult, is_ok}
use Rattle.std.specs.Ordering.{nat_cmp}
use Rattle.std.specs.List.Sorted.{IsBinarySearchResult}
use Rattle.std.proofs.lemmas.Bool.{cases_lt}
use Rattle.std.proofs.lemmas.List.{get_or_default}
use Rattle.std.proofs.lemmas.List.Folds.{list_any_at, list_any_none}
use Rattle.std.proofs.lemmas.List.Sorted.{IsNonDecreasingBy-from_sort, list_any-IsPermutation, searched}
use Rattle.wy_kernel.specs.Program.{Program}
use Rattle.wy_kernel.specs.Statements.{statements_of}
use Rattle.wy_expect.specs.Printers.{ArePrinters, is_among, prints_of}

pub has_number : (xs : List ℕ) (x : ℕ) (r : Result ℕ ℕ) → IsSorted nat_cmp xs → IsBinarySearchResult (λ y. nat_cmp y x) xs r → is_ok r ≡ is_among xs x
has_number xs x r rise is = go r (searched xs x r is (λ i j le lt. IsNonDecreasingBy-from_sort (λ y. y) xs rise i j 0 le lt))
  where
    missed : (i k : ℕ) → ((j : ℕ) → j < i → get_or xs j 0 < x) → ((j : ℕ) → i ≤ j → j < length xs → x < get_or xs j 0) → k < length xs → get_or xs k 0 ≡ x → ⊥
    missed i k below above lt same = ⊎_elim (λ (l : k < i). omega (arith, below k l, same)) (λ (l : i ≤ k). omega (arith, above k l lt, same)) (cases_lt k i)

    go : (r : Result ℕ ℕ) → MatchResult r (λ i. (i < length xs) × (get_or xs i 0 ≡ x)) (λ i. (i ≤ length xs) × ((k : ℕ) → k < i → get_or xs k 0 < x) × ((k : ℕ) → i ≤ k → k < length xs → x < get_or xs k 0))
        → is_ok r ≡ is_among xs x
    go (Ok i) found = sym (list_any_at (λ s. s == x) xs i 0 found.0 (eq-eqb (get_or xs i 0) x found.1))
    go (Err i) none = sym (list_any_none (λ s. s == x) xs (λ k d lt. ne_eqb (get_or xs k d) x (λ same. missed i k none.1 none.2 lt (get_or_default xs k 0 d lt ∙ same))))

-- those of the program in another order
pub are_printers : (p : Program) (found sorted : List ℕ) → found ≡ prints_of (statements_of p) → IsPermutation found sorted → ArePrinters p sorted
are_printers p found sorted is same = λ n. sym (list_any-IsPermutation (λ m. m == n) found sorted same) ∙ ap (λ l. is_among l n) is
