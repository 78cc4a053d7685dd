-- Where one text has ended, the two differ as their lengths do.
use Rattle.std.proofs.Common.{◌≡◌, ℕ, ◌≤◌, List, [], ◌∷◌, length, drop, length-drop, pos, ◌-ℤ◌, min, refl, ◌∙◌, arith, ◌⊎◌, inl, inr, ⊎_elim, zero, suc}
use Rattle.std.proofs.lemmas.Int.{ints}
use Rattle.wy_value.specs.Text.{difference}

ended_first : (xs ys : List ℕ) → length xs ≡ 0 → difference xs ys ≡ pos (length xs) -ℤ pos (length ys)
ended_first [] ys e = refl
ended_first (x ∷ xs) ys e = absurd (omega arith)

ended_second : (xs ys : List ℕ) → length ys ≡ 0 → difference xs ys ≡ pos (length xs) -ℤ pos (length ys)
ended_second [] [] e = refl
ended_second (x ∷ xs) [] e = refl
ended_second xs (y ∷ ys) e = absurd (omega arith)

order : (m n : ℕ) → (m ≤ n) ⊎ (n ≤ m)
order zero n = inl (omega arith)
order (suc m) zero = inr (omega arith)
order (suc m) (suc n) = ⊎_elim (λ below. inl (omega arith)) (λ above. inr (omega arith)) (order m n)

pub difference_at_end : (xs ys : List ℕ) (k : ℕ) → k ≡ min (length xs) (length ys) → difference (drop k xs) (drop k ys) ≡ pos (length xs) -ℤ pos (length ys)
difference_at_end xs ys k e =
    let first = length-drop k xs in
    let second = length-drop k ys in
    let lengths : pos (length (drop k xs)) -ℤ pos (length (drop k ys)) ≡ pos (length xs) -ℤ pos (length ys) = omega (arith, ints) in
    ⊎_elim
    (λ below. ended_first (drop k xs) (drop k ys) (omega arith) ∙ lengths)
    (λ above. ended_second (drop k xs) (drop k ys) (omega arith) ∙ lengths)
    (order (length xs) (length ys))
