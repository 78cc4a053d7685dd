-- A search through a list, element by element.
use Rattle.std.proofs.Common.{◌≡◌, ℕ, suc, ◌+◌, ◌<◌, ◌≤◌, Bool, true, false, sym, ap, ◌∙◌, List, ◌∷◌, length, map, drop, get_or, Option, Some, None, cond, find, add-one, drop-cons}
use Rattle.std.proofs.Math.ListN.{drop_of_length-le}
use Rattle.std.proofs.lemmas.Option.{slice_get_within, get_or_from_slice_get}
use Rattle.std.specs.Prelude.{slice_get}
use Rattle.std.specs.List.{position_from}

split : {X : Type 0} (xs : List X) (i : ℕ) (x : X) → i < length xs → x ≡ get_or xs i x → drop i xs ≡ x ∷ drop (i + 1) xs
split xs i x less is = drop-cons xs i x less ∙ ap (λ z. z ∷ drop (suc i) xs) (sym is) ∙ ap (λ k. x ∷ drop k xs) (sym (add-one i))

find_at : {X Y : Type 0} (p : Y → Bool) (f : X → Y) (xs : List X) (i : ℕ) (x : X) → i < length xs → x ≡ get_or xs i x →
    find p (map f (drop i xs)) ≡ cond (p (f x)) (Some (f x)) (find p (map f (drop (i + 1) xs)))
find_at p f xs i x less is = ap (λ z. find p (map f z)) (split xs i x less is)

-- an element that passes is what is found, and the search goes on behind one that doesn't
pub find_here : {X Y : Type 0} (p : Y → Bool) (f : X → Y) (xs : List X) (i : ℕ) (x : X) (r : Option Y) → i < length xs → x ≡ get_or xs i x →
    p (f x) ≡ true → r ≡ find p (map f (drop i xs)) → Some (f x) ≡ r
find_here p f xs i x r less is passes e =
    sym (ap (λ b. cond b (Some (f x)) (find p (map f (drop (i + 1) xs)))) passes) ∙ sym (find_at p f xs i x less is) ∙ sym e

pub find_further : {X Y : Type 0} (p : Y → Bool) (f : X → Y) (xs : List X) (i : ℕ) (x : X) (r : Option Y) → i < length xs → x ≡ get_or xs i x →
    p (f x) ≡ false → r ≡ find p (map f (drop i xs)) → r ≡ find p (map f (drop (i + 1) xs))
find_further p f xs i x r less is fails e =
    e ∙ find_at p f xs i x less is ∙ ap (λ b. cond b (Some (f x)) (find p (map f (drop (i + 1) xs)))) fails

pub find_nowhere : {X Y : Type 0} (p : Y → Bool) (f : X → Y) (xs : List X) (i : ℕ) (r : Option Y) → length xs ≤ i → r ≡ find p (map f (drop i xs)) → None ≡ r
find_nowhere p f xs i r all e = sym (e ∙ ap (λ z. find p (map f z)) (drop_of_length-le xs all))

-- the same for the number of an element
position_at : {X : Type 0} (p : X → Bool) (xs : List X) (k : ℕ) (x : X) → slice_get xs k ≡ Some x →
    position_from p k (drop k xs) ≡ cond (p x) (Some k) (position_from p (k + 1) (drop (k + 1) xs))
position_at p xs k x e = ap (λ z. position_from p k z) (split xs k x (slice_get_within xs k x e) (sym (get_or_from_slice_get xs k x x e)))

pub position_here : {X : Type 0} (p : X → Bool) (xs : List X) (k : ℕ) (x : X) (r : Option ℕ) → slice_get xs k ≡ Some x → p x ≡ true →
    r ≡ position_from p k (drop k xs) → Some k ≡ r
position_here p xs k x r is passes e =
    sym (ap (λ b. cond b (Some k) (position_from p (k + 1) (drop (k + 1) xs))) passes) ∙ sym (position_at p xs k x is) ∙ sym e

pub position_further : {X : Type 0} (p : X → Bool) (xs : List X) (k : ℕ) (x : X) (r : Option ℕ) → slice_get xs k ≡ Some x → p x ≡ false →
    r ≡ position_from p k (drop k xs) → r ≡ position_from p (k + 1) (drop (k + 1) xs)
position_further p xs k x r is fails e =
    e ∙ position_at p xs k x is ∙ ap (λ b. cond b (Some k) (position_from p (k + 1) (drop (k + 1) xs))) fails

pub position_nowhere : {X : Type 0} (p : X → Bool) (xs : List X) (k : ℕ) (r : Option ℕ) → length xs ≤ k → r ≡ position_from p k (drop k xs) → None ≡ r
position_nowhere p xs k r all e = sym (e ∙ ap (λ z. position_from p k z) (drop_of_length-le xs all))
