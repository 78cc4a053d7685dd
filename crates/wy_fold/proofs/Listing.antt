-- Events by their numbers.
use Rattle.std.proofs.Common.{◌≡◌, ◌∙◌, ◌+◌, ℕ, zero, suc, List, [], ◌∷◌, ◌++◌, length, map, refl, ap, subst, arith}
use Rattle.std.specs.Prelude.{filter}
use Rattle.std.specs.List.{range_with_len}
use Rattle.std.proofs.lemmas.List.{length-map}
use Rattle.wy_event.specs.declared.record.Event.{Event}
use Rattle.wy_event.specs.Numbers.{none}
use Rattle.wy_event.specs.Record.{recorded}
use Rattle.wy_why.specs.Answer.{Rises}
use Rattle.wy_fold.specs.Shown.{numbers_of}

pub none_pass : (xs : List ℕ) → filter none xs ≡ []
unfolding none
none_pass [] = refl
none_pass (x ∷ xs) = none_pass xs

pub range_rises : (low n : ℕ) → Rises low (low + n) (range_with_len low n)
range_rises low zero = tt
range_rises low (suc n) =
    let same : suc low + n ≡ low + suc n = omega arith in
    let next : suc low ≡ low + 1 = omega arith in
    (omega arith, omega arith, subst (λ x. Rises (suc low) (low + suc n) (range_with_len x n)) next (subst (λ h. Rises (suc low) h (range_with_len (suc low) n)) same (range_rises (suc low) n)))

pub range_more : (a n j : ℕ) → a + n ≡ j → range_with_len a (n + 1) ≡ range_with_len a n ++ j ∷ []
range_more a zero j e = let same : a ≡ j = omega (arith, e) in ap (λ x. x ∷ []) same
range_more a (suc n) j e =
    let one : suc n + 1 ≡ suc (n + 1) = omega arith in
    ap (range_with_len a) one ∙ ap (λ l. a ∷ l) (range_more (a + 1) n j (omega (arith, e)))

pub numbers_rise : (events : List Event) → Rises 0 (length events) (numbers_of (map recorded events))
numbers_rise events =
    let n = length (map recorded events) in
    let same : 0 + n ≡ length events = omega (arith, length-map events recorded) in
    subst (λ h. Rises 0 h (numbers_of (map recorded events))) same (range_rises 0 n)
