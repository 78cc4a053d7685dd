-- What is made of each of a list, step by step.
use Rattle.std.proofs.Common.{◌≡◌, ap, sym, ◌∙◌, ℕ, suc, ◌+◌, ◌<◌, ◌≤◌, List, [], ◌∷◌, ◌++◌, map, drop, length, get_or, append_assoc, add-one, drop-cons, refl, Result, Ok, Err}
use Rattle.std.proofs.Math.ListN.{drop_of_length-le}
use Rattle.std.proofs.lemmas.List.{append-nil, map-append}
use Rattle.wy_constant.specs.declared.rule.TypeError.{TypeError}
use Rattle.wy_constant.specs.declared.rule.TypeError.TheVariants as error
use Rattle.wy_constant.specs.Refusal.{Refusal, Fails, refused}
use Rattle.wy_elab_body.specs.Making.{Making, Makes, onward, each, behind}

along : {A : Type 0} (front : List A) (x : A) (r : Result (List A × Making) Refusal) →
    behind front (onward (λ xs m. Ok (x ∷ xs, m)) r) ≡ behind (front ++ x ∷ []) r
along front x (Ok p) = ap (λ z. Ok (z, p.1)) (sym (append_assoc front (x ∷ []) p.0))
along front x (Err e) = refl

goes : {D A : Type 0} (f : D → Makes A) (front : List A) (d : D) (rest : List D) (x : A) (m after : Making) → f d m ≡ Ok (x, after) →
    behind front (each f (d ∷ rest) m) ≡ behind (front ++ x ∷ []) (each f rest after)
unfolding each
goes f front d rest x m after is = ap (λ r. behind front (onward (λ y n. onward (λ ys o. Ok (y ∷ ys, o)) (each f rest n)) r)) is ∙ along front x (each f rest after)

fails : {D A : Type 0} (f : D → Makes A) (front : List A) (d : D) (rest : List D) (e : Refusal) (m : Making) → f d m ≡ Err e → behind front (each f (d ∷ rest) m) ≡ Err e
unfolding each
fails f front d rest e m is = ap (λ r. behind front (onward (λ y n. onward (λ ys o. Ok (y ∷ ys, o)) (each f rest n)) r)) is

-- one element more is made; see says what is made in memory
pub goes_on : {D A X : Type 0} (see : X → A) (f : D → Makes A) (front new : List X) (d : D) (rest : List D) (x : X) (m after : Making) (r : Result (List A × Making) Refusal) →
    f d m ≡ Ok (see x, after) → new ≡ front ++ x ∷ [] → behind (map see front) (each f (d ∷ rest) m) ≡ r → behind (map see new) (each f rest after) ≡ r
goes_on see f front new d rest x m after r is pushes known =
    ap (λ z. behind (map see z) (each f rest after)) pushes ∙ ap (λ z. behind z (each f rest after)) (map-append see front (x ∷ []))
    ∙ sym (goes f (map see front) d rest (see x) m after is) ∙ known

-- an element is refused
pub stops : {D A X : Type 0} (see : X → A) (f : D → Makes A) (front : List X) (d : D) (rest : List D) (e : TypeError) (m : Making) (r : Result (List A × Making) Refusal) →
    Fails e (f d m) → behind (map see front) (each f (d ∷ rest) m) ≡ r → Fails e r
stops see f front d rest error.NoMemory m r is known = tt
stops see f front d rest (error.Broken rule token) m r is known = sym known ∙ fails f (map see front) d rest (refused rule token) m is

-- none is left
pub ends : {D A X : Type 0} (see : X → A) (f : D → Makes A) (all : List X) (m : Making) (r : Result (List A × Making) Refusal) → behind (map see all) (each f [] m) ≡ r → r ≡ Ok (map see all, m)
unfolding each
ends see f all m r known = sym known ∙ ap (λ z. Ok (z, m)) (append-nil (map see all))

from_nothing : {A : Type 0} (r : Result (List A × Making) Refusal) → behind [] r ≡ r
from_nothing (Ok p) = refl
from_nothing (Err e) = refl

pub begins : {D A : Type 0} (f : D → Makes A) (ds : List D) (m : Making) → behind [] (each f ds m) ≡ each f ds m
begins f ds m = from_nothing (each f ds m)

-- ---- the same for a list in memory, at an index

next_here : {Y : Type 0} (ys : List Y) (i : ℕ) (y : Y) → i < length ys → y ≡ get_or ys i y → drop i ys ≡ y ∷ drop (i + 1) ys
next_here ys i y less is = drop-cons ys i y less ∙ ap (λ z. z ∷ drop (suc i) ys) (sym is) ∙ ap (λ k. y ∷ drop k ys) (sym (add-one i))

pub goes_on_at : {D A X Y : Type 0} (see : X → A) (view : Y → D) (f : D → Makes A) (front new : List X) (ys : List Y) (i : ℕ) (y : Y) (x : X) (m after : Making) (r : Result (List A × Making) Refusal) →
    i < length ys → y ≡ get_or ys i y → f (view y) m ≡ Ok (see x, after) → new ≡ front ++ x ∷ [] →
    behind (map see front) (each f (map view (drop i ys)) m) ≡ r → behind (map see new) (each f (map view (drop (i + 1) ys)) after) ≡ r
goes_on_at see view f front new ys i y x m after r less at is pushes known =
    goes_on see f front new (view y) (map view (drop (i + 1) ys)) x m after r is pushes
    (ap (λ z. behind (map see front) (each f (map view z) m)) (sym (next_here ys i y less at)) ∙ known)

pub stops_at : {D A X Y : Type 0} (see : X → A) (view : Y → D) (f : D → Makes A) (front : List X) (ys : List Y) (i : ℕ) (y : Y) (e : TypeError) (m : Making) (r : Result (List A × Making) Refusal) →
    i < length ys → y ≡ get_or ys i y → Fails e (f (view y) m) → behind (map see front) (each f (map view (drop i ys)) m) ≡ r → Fails e r
stops_at see view f front ys i y e m r less at is known =
    stops see f front (view y) (map view (drop (i + 1) ys)) e m r is (ap (λ z. behind (map see front) (each f (map view z) m)) (sym (next_here ys i y less at)) ∙ known)

pub ends_at : {D A X Y : Type 0} (see : X → A) (view : Y → D) (f : D → Makes A) (all : List X) (ys : List Y) (i : ℕ) (m : Making) (r : Result (List A × Making) Refusal) →
    length ys ≤ i → behind (map see all) (each f (map view (drop i ys)) m) ≡ r → r ≡ Ok (map see all, m)
ends_at see view f all ys i m r less known =
    ends see f all m r (ap (λ z. behind (map see all) (each f (map view z) m)) (sym (drop_of_length-le ys less)) ∙ known)
