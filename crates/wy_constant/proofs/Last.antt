-- The last element of a list, changed.
use Rattle.std.proofs.Common.{◌≡◌, ap, ℕ, zero, suc, ◌+◌, ◌≤◌, List, [], ◌∷◌, map, length, get_or, set, refl, arith}
use Rattle.wy_constant.specs.Scope.{with_last}

pub changed_last : {A B : Type 0} (f : A → B) (g : B → B) (xs : List A) (i : ℕ) (v d : A) → i + 1 ≡ length xs → f v ≡ g (f (get_or xs i d)) →
    map f (set xs i v) ≡ with_last g (map f xs)
changed_last f g [] i v d e is = absurd (omega (arith, e))
changed_last f g (x ∷ []) zero v d e is = ap (λ z. z ∷ []) is
changed_last f g (x ∷ []) (suc i) v d e is = absurd (omega (arith, e))
changed_last f g (x ∷ y ∷ rest) zero v d e is = absurd (omega (arith, e))
changed_last f g (x ∷ y ∷ rest) (suc i) v d e is = ap (λ z. f x ∷ z) (changed_last f g (y ∷ rest) i v d (omega (arith, e)) is)

pub unchanged : {A B : Type 0} (f : A → B) (g : B → B) (xs : List A) → length xs ≤ 0 → map f xs ≡ with_last g (map f xs)
unchanged f g [] e = refl
unchanged f g (x ∷ rest) e = absurd (omega (arith, e))
