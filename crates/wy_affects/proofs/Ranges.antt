-- Numbers of a range that pass a test.
use Rattle.std.proofs.Common.{◌≡◌, ◌+◌, ◌<◌, ◌≤◌, ℕ, zero, suc, Bool, true, false, cond, List, [], ◌∷◌, ◌++◌, refl, sym, ap, ap₂, ◌∙◌, arith}
use Rattle.std.specs.Prelude.{filter}
use Rattle.std.specs.List.{range_with_len}

-- two tests that agree on the range
pub same_within : (p q : ℕ → Bool) (low len high : ℕ) → low + len ≤ high → ((j : ℕ) → j < high → p j ≡ q j) → filter p (range_with_len low len) ≡ filter q (range_with_len low len)
same_within p q low zero high le same = refl
same_within p q low (suc len) high le same = ap₂ (λ b l. cond b (low ∷ l) l) (same low (omega (arith, le))) (same_within p q (low + 1) len high (omega (arith, le)) same)

-- one number more
pub one_more : (p : ℕ → Bool) (low len next : ℕ) → low + len ≡ next → filter p (range_with_len low (suc len)) ≡ filter p (range_with_len low len) ++ cond (p next) (next ∷ []) []
one_more p low zero next at = let same : low ≡ next = omega (arith, at) in ap (λ n. cond (p n) (n ∷ []) []) same
one_more p low (suc len) next at = go (p low) (one_more p (low + 1) len next (omega (arith, at)))
  where
    go : (b : Bool) → filter p (range_with_len (low + 1) (suc len)) ≡ filter p (range_with_len (low + 1) len) ++ cond (p next) (next ∷ []) []
        → cond b (low ∷ filter p (range_with_len (low + 1) (suc len))) (filter p (range_with_len (low + 1) (suc len))) ≡ cond b (low ∷ filter p (range_with_len (low + 1) len)) (filter p (range_with_len (low + 1) len)) ++ cond (p next) (next ∷ []) []
    go true is = ap (λ l. low ∷ l) is
    go false is = is
