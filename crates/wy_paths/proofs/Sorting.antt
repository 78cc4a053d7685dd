-- A strictly sorted list is determined by what it contains.
use Rattle.std.proofs.Common.{◌≡◌, ◌⊎◌, ◌∙◌, ◌∷◌, [], inl, inr, ⊎_elim, List, refl, sym, ap, ap₂, subst}
use Rattle.std.specs.List.{Contains}
use Rattle.std.specs.List.Sorted.{IsStrictlySortedBy}
use Rattle.std.specs.Cmp.{IsTotalOrder}
use Rattle.std.specs.declared.cmp.Ordering.{Ordering}
use Rattle.std.specs.declared.cmp.Ordering.TheVariants.{Less, Equal}
use Rattle.std.proofs.lemmas.Cmp.{tied_itself}
use Rattle.std.proofs.lemmas.List.Elements.{All-contains, All-from_recursion, Contains-append_cases, Contains-append_left, Contains-append_right, Contains-push}
use Rattle.wy_paths.proofs.Spreading.{nothing_in, only_in}

pub in_head : {X : Type 0} (x : X) (xs : List X) → Contains (x ∷ xs) x
in_head x xs = Contains-append_left (x ∷ []) xs x (Contains-push [] x)

pub in_tail : {X : Type 0} (x y : X) (xs : List X) → Contains xs y → Contains (x ∷ xs) y
in_tail x y xs h = Contains-append_right (x ∷ []) xs y h

pub in_cases : {X : Type 0} (x y : X) (xs : List X) → Contains (x ∷ xs) y → (x ≡ y) ⊎ Contains xs y
in_cases x y xs h = ⊎_elim (λ (i : Contains (x ∷ []) y). inl (only_in x y i)) (λ (i : Contains xs y). inr i) (Contains-append_cases (x ∷ []) xs y h)

less_not_equal : {X : Type 0} {R : X → X → Ordering} → IsTotalOrder R → (x y : X) → R x y ≡ Less → x ≡ y → ⊥
less_not_equal {X} {R} o x y less e = apart (R x x) (tied_itself o x) (ap (R x) e ∙ less)
  where
    apart : (r : Ordering) → r ≡ Equal → r ≡ Less → ⊥
    apart r a b = cc

less_both : {X : Type 0} {R : X → X → Ordering} → IsTotalOrder R → (x y : X) → R x y ≡ Less → R y x ≡ Less → ⊥
less_both o x y a b = less_not_equal o x x (o.trans x y x a b) refl

module _ {X : Type 0} {R : X → X → Ordering} (o : IsTotalOrder R) where
  above : (x y : X) (xs : List X) → IsStrictlySortedBy R (x ∷ xs) → Contains xs y → R x y ≡ Less
  unfolding IsStrictlySortedBy
  above x y xs s i = All-contains (λ z. R x z ≡ Less) xs y (All-from_recursion (λ z. R x z ≡ Less) xs s.0) i

  rest_sorted : (x : X) (xs : List X) → IsStrictlySortedBy R (x ∷ xs) → IsStrictlySortedBy R xs
  unfolding IsStrictlySortedBy
  rest_sorted x xs s = s.1

  not_in_rest : (x : X) (xs : List X) → IsStrictlySortedBy R (x ∷ xs) → Contains xs x → ⊥
  not_in_rest x xs s i = less_not_equal o x x (above x x xs s i) refl

  -- the first ones are the same
  same_first : (x y : X) (xs ys : List X) → IsStrictlySortedBy R (x ∷ xs) → IsStrictlySortedBy R (y ∷ ys) → Contains (y ∷ ys) x → Contains (x ∷ xs) y → x ≡ y
  same_first x y xs ys s t i j = ⊎_elim (λ (e : y ≡ x). sym e) (λ (k : Contains ys x). ⊎_elim (λ (e : x ≡ y). e) (λ (l : Contains xs y). absurd (less_both o x y (above x y xs s l) (above y x ys t k))) (in_cases x y xs j)) (in_cases y x ys i)

  pub sorted_same : (xs ys : List X) → IsStrictlySortedBy R xs → IsStrictlySortedBy R ys → ((z : X) → Contains xs z → Contains ys z) → ((z : X) → Contains ys z → Contains xs z) → xs ≡ ys
  sorted_same [] [] s t f g = refl
  sorted_same [] (y ∷ ys) s t f g = nothing_in y (g y (in_head y ys))
  sorted_same (x ∷ xs) [] s t f g = nothing_in x (f x (in_head x xs))
  sorted_same (x ∷ xs) (y ∷ ys) s t f g =
      let e : x ≡ y = same_first x y xs ys s t (f x (in_head x xs)) (g y (in_head y ys)) in
      ap₂ (λ z zs. z ∷ zs) e (sorted_same xs ys (rest_sorted x xs s) (rest_sorted y ys t)
      (λ z i. ⊎_elim (λ (h : y ≡ z). absurd (not_in_rest x xs s (subst (Contains xs) (sym (e ∙ h)) i))) (λ (h : Contains ys z). h) (in_cases y z ys (f z (in_tail x z xs i))))
      (λ z i. ⊎_elim (λ (h : x ≡ z). absurd (not_in_rest y ys t (subst (Contains ys) (sym (sym e ∙ h)) i))) (λ (h : Contains xs z). h) (in_cases x z xs (g z (in_tail y z ys i)))))
