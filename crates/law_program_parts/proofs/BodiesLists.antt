-- What holds of each element of a list, by its place.
use Rattle.std.proofs.Common.{◌≡◌, refl, arith, ℕ, zero, suc, ◌≤◌, List, [], ◌∷◌, ◌++◌, length}
use Rattle.std.specs.Prelude.{Some, None, slice_get}
use Rattle.std.specs.List.{AllByRecursion}
use Rattle.std.proofs.lemmas.List.Elements.{All-contains, All-from_recursion}
use Rattle.wy_members.proofs.Contained.{contained}

pub all_at : {X : Type 0} (Q : X → Type 0) (xs : List X) → ((i : ℕ) (x : X) → slice_get xs i ≡ Some x → Q x) → AllByRecursion Q xs
all_at Q [] h = tt
all_at Q (x ∷ xs) h = (h 0 x refl, all_at Q xs (λ i. h (suc i)))

pub at_all : {X : Type 0} (Q : X → Type 0) (xs : List X) (i : ℕ) (x : X) → AllByRecursion Q xs → slice_get xs i ≡ Some x → Q x
at_all Q xs i x h e = All-contains Q xs x (All-from_recursion Q xs h) (contained xs i x e)

pub all_joined : {X : Type 0} (Q : X → Type 0) (xs ys : List X) → AllByRecursion Q xs → AllByRecursion Q ys → AllByRecursion Q (xs ++ ys)
all_joined Q [] ys h i = i
all_joined Q (x ∷ xs) ys h i = (h.0, all_joined Q xs ys h.1 i)

pub beyond : {X : Type 0} (xs : List X) (i : ℕ) → slice_get xs i ≡ None → length xs ≤ i
beyond [] i e = omega arith
beyond (x ∷ xs) zero e = absurd (cc)
beyond (x ∷ xs) (suc i) e = let less : length xs ≤ i = beyond xs i e in omega arith
