-- The last values on the stack, one more at a time.
use Rattle.std.proofs.Common.{◌≡◌, ◌∙◌, ℕ, suc, List, [], ◌∷◌, ◌++◌, map, refl, ap, sym, Some, slice_get, length, ◌-◌, reverse, take, append_assoc}
use Rattle.std.proofs.lemmas.List.{map-append, reverse-append}
use Rattle.wy_steps.specs.Sets.{nothing}
use Rattle.wy_steps.specs.State.{Carried}
use Rattle.wy_calls.proofs.Last.{split_at_last}
use Rattle.wy_calls.specs.Calls.{CallFrame as Body, event_of, first_of, rest_of}
use Rattle.wy_work.specs.Tasks.{newest}
use Rattle.wy_work.proofs.Begins.{newest_is}
use Rattle.wy_operands.specs.Values.{Values, at, top, under, last_many}

pub last_more : (n : ℕ) (vs : Values) → last_many (suc n) vs ≡ at n vs ∷ last_many n vs
last_more ℕ.zero vs = refl
last_more (ℕ.suc n) vs = ap (λ xs. xs ++ top vs ∷ []) (last_more n (under vs))

-- the last of a row is the first of it in turn
pub first_reversed : {X Y : Type 0} (f : X → List Y) (xs : List X) (x : X) → slice_get xs (length xs - 1) ≡ Some x → first_of (reverse (map f xs)) ≡ f x
first_reversed f xs x is =
    ap (λ z. first_of (reverse (map f z))) (split_at_last xs x is) ∙ ap first_of (ap reverse (map-append f (take (length xs - 1) xs) (x ∷ [])) ∙ reverse-append (map f (take (length xs - 1) xs)) (f x ∷ []))

-- a row has one value more
pub one_more : {A : Type 0} (f : A → Carried nothing) (k n count : ℕ) (vs : Values) (row items : List A) (x : A) → n ≡ suc k → map f row ++ last_many n vs ≡ last_many count vs → items ≡ row ++ x ∷ [] → f x ≡ at k vs → map f items ++ last_many k vs ≡ last_many count vs
one_more f k n count vs row items x is before new same =
    ap (λ z. map f z ++ last_many k vs) new ∙ ap (λ z. z ++ last_many k vs) (map-append f row (x ∷ [])) ∙ append_assoc (map f row) (f x ∷ []) (last_many k vs)
    ∙ ap (λ z. map f row ++ z) (ap (λ y. y ∷ last_many k vs) same ∙ sym (last_more k vs) ∙ ap (λ z. last_many z vs) (sym is)) ∙ before

-- the last of a row is taken off
pub popped : {X Y : Type 0} (f : X → List Y) (xs ys : List X) (x : X) → xs ≡ ys ++ x ∷ [] → reverse (map f xs) ≡ f x ∷ reverse (map f ys)
popped f xs ys x is = ap (λ z. reverse (map f z)) is ∙ ap reverse (map-append f ys (x ∷ [])) ∙ reverse-append (map f ys) (f x ∷ [])

pub newest_rest : (fs : List Body) → newest (rest_of (map (λ (f : Body). f.event) fs)) ≡ event_of (rest_of fs)
newest_rest [] = refl
newest_rest (f ∷ fs) = sym (newest_is fs)

pub events_rest : (fs : List Body) → map (λ (f : Body). f.event) (rest_of fs) ≡ rest_of (map (λ (f : Body). f.event) fs)
events_rest [] = refl
events_rest (f ∷ fs) = refl
