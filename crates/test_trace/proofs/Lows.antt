-- Counts that stand below their last value.
use Rattle.std.proofs.Common.{◌≡◌, ◌<◌, ◌∙◌, ℕ, zero, suc, List, [], ◌∷◌, ◌++◌, Some, map, ap, subst, sym}
use Rattle.std.specs.Prelude.{slice_get}
use Rattle.std.proofs.lemmas.List.{map-append}
use Rattle.std.proofs.lemmas.Option.{none-some, same_Some}
use Rattle.wy_framing.specs.Served.{AreLow}
use Rattle.wy_outside.specs.Counts.{last_count}

one_more : (counts : List ℕ) (count : ℕ) → AreLow counts → count < last_count → AreLow (counts ++ count ∷ [])
one_more [] count low is zero c same = subst (λ x. x < last_count) (same_Some count c same) is
one_more [] count low is (suc n) c same = absurd (none-some c same)
one_more (d ∷ ds) count low is zero c same = low zero c same
one_more (d ∷ ds) count low is (suc n) c same = one_more ds count (λ m. low (suc m)) is n c same

pub low_more : {X : Type 0} (f : X → ℕ) (xs ys : List X) (x : X) → AreLow (map f xs) → f x < last_count → ys ≡ xs ++ x ∷ [] → AreLow (map f ys)
low_more f xs ys x low is all = subst AreLow (sym (ap (map f) all ∙ map-append f xs (x ∷ []))) (one_more (map f xs) (f x) low is)
