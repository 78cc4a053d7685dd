-- The first of a list that passes a test, item by item.
use Rattle.std.proofs.Common.{◌≡◌, ℕ, ◌+◌, ◌<◌, ◌≤◌, Bool, true, false, sym, ap, ◌∙◌, List, length, drop, get_or, Some, None, cond, add-one, drop-cons}
use Rattle.std.proofs.Math.ListN.{drop_of_length-le}
use Rattle.std.specs.Prelude.{Option}
use Rattle.std.specs.List.{position_from}

here : {X : Type 0} (p : X → Bool) (xs : List X) (k : ℕ) (d : X) → k < length xs
    → position_from p k (drop k xs) ≡ cond (p (get_or xs k d)) (Some k) (position_from p (k + 1) (drop (k + 1) xs))
here p xs k d less =
    ap (position_from p k) (drop-cons xs k d less) ∙ ap (λ i. cond (p (get_or xs k d)) (Some k) (position_from p (k + 1) (drop i xs))) (sym (add-one k))

pub passes : {X : Type 0} (p : X → Bool) (xs : List X) (k : ℕ) (d : X) (r : Option ℕ) → k < length xs → p (get_or xs k d) ≡ true →
    r ≡ position_from p k (drop k xs) → Some k ≡ r
passes p xs k d r less is e = sym (e ∙ here p xs k d less ∙ ap (λ b. cond b (Some k) (position_from p (k + 1) (drop (k + 1) xs))) is)

pub fails : {X : Type 0} (p : X → Bool) (xs : List X) (k : ℕ) (d : X) (r : Option ℕ) → k < length xs → p (get_or xs k d) ≡ false →
    r ≡ position_from p k (drop k xs) → r ≡ position_from p (k + 1) (drop (k + 1) xs)
fails p xs k d r less is e = e ∙ here p xs k d less ∙ ap (λ b. cond b (Some k) (position_from p (k + 1) (drop (k + 1) xs))) is

pub nowhere : {X : Type 0} (p : X → Bool) (xs : List X) (k : ℕ) (r : Option ℕ) → length xs ≤ k → r ≡ position_from p k (drop k xs) → None ≡ r
nowhere p xs k r all e = sym (e ∙ ap (position_from p k) (drop_of_length-le xs all))
