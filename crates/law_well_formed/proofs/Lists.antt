-- What holds of each element of a list.
use Rattle.std.proofs.Common.{List, [], ◌∷◌, ◌++◌}
use Rattle.std.specs.List.{All, AllByRecursion}
use Rattle.std.proofs.lemmas.List.Elements.{All-nil, All-cons, All-head, All-tail}

-- what holds of each holds of all
pub each : {X : Type 0} (Q R : X → Type 0) → ((x : X) → Q x → R x) → (xs : List X) → AllByRecursion Q xs → All R xs
each Q R f [] h = All-nil R
each Q R f (x ∷ xs) h = All-cons R x xs (f x h.0) (each Q R f xs h.1)

-- what holds of each holds of each
pub weaker : {X : Type 0} (Q R : X → Type 0) → ((x : X) → Q x → R x) → (xs : List X) → AllByRecursion Q xs → AllByRecursion R xs
weaker Q R f [] h = tt
weaker Q R f (x ∷ xs) h = (f x h.0, weaker Q R f xs h.1)

pub front_all : {X : Type 0} (Q : X → Type 0) (xs ys : List X) → All Q (xs ++ ys) → All Q xs
front_all Q [] ys h = All-nil Q
front_all Q (x ∷ xs) ys h = All-cons Q x xs (All-head Q x (xs ++ ys) h) (front_all Q xs ys (All-tail Q x (xs ++ ys) h))

pub rest_all : {X : Type 0} (Q : X → Type 0) (xs ys : List X) → All Q (xs ++ ys) → All Q ys
rest_all Q [] ys h = h
rest_all Q (x ∷ xs) ys h = rest_all Q xs ys (All-tail Q x (xs ++ ys) h)
