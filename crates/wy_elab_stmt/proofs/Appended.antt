-- What is made of each of a list, one list behind another.
use Rattle.std.proofs.Common.{◌≡◌, ap, sym, ◌∙◌, ℕ, ◌+◌, ◌<◌, ◌≤◌, Bool, List, [], ◌∷◌, ◌++◌, map, drop, length, get_or, append_assoc, refl, Result, Ok, Err}
use Rattle.std.specs.Prelude.{flat_map}
use Rattle.std.proofs.Math.ListN.{drop_of_length-le}
use Rattle.std.proofs.lemmas.List.{append-nil, map-append}
use Rattle.wy_kernel.specs.Form as kernel
use Rattle.wy_syntax.specs.Syntax.{Declarator, WrittenType}
use Rattle.wy_constant.specs.declared.rule.TypeError.{TypeError}
use Rattle.wy_constant.specs.declared.rule.TypeError.TheVariants as error
use Rattle.wy_constant.specs.Refusal.{Refusal, Fails, refused}
use Rattle.wy_elab_body.specs.Making.{Making, Makes, onward, each}
use Rattle.wy_elab_body.specs.Statements.{Setting}
use Rattle.wy_elab_body.specs.Bodies.{field_initial, field_initials}
use Rattle.wy_elab_body.proofs.Walks.{next_here}

-- what is made of each, in one list behind what is there already
abbrev pub appended : {A : Type 0} → List A → Result (List (List A) × Making) Refusal → Result (List A × Making) Refusal
appended front (Ok p) = Ok (front ++ flat_map (λ xs. xs) p.0, p.1)
appended front (Err e) = Err e

along : {A : Type 0} (front xs : List A) (r : Result (List (List A) × Making) Refusal) →
    appended front (onward (λ xss m. Ok (xs ∷ xss, m)) r) ≡ appended (front ++ xs) r
along front xs (Ok p) = ap (λ z. Ok (z, p.1)) (sym (append_assoc front xs (flat_map (λ ys. ys) p.0)))
along front xs (Err e) = refl

goes : {D A : Type 0} (f : D → Makes (List A)) (front : List A) (d : D) (rest : List D) (xs : List A) (m after : Making) → f d m ≡ Ok (xs, after) →
    appended front (each f (d ∷ rest) m) ≡ appended (front ++ xs) (each f rest after)
unfolding each
goes f front d rest xs m after is = ap (λ r. appended front (onward (λ y n. onward (λ ys o. Ok (y ∷ ys, o)) (each f rest n)) r)) is ∙ along front xs (each f rest after)

fails : {D A : Type 0} (f : D → Makes (List A)) (front : List A) (d : D) (rest : List D) (e : Refusal) (m : Making) → f d m ≡ Err e → appended front (each f (d ∷ rest) m) ≡ Err e
unfolding each
fails f front d rest e m is = ap (λ r. appended front (onward (λ y n. onward (λ ys o. Ok (y ∷ ys, o)) (each f rest n)) r)) is

-- one list more is made; see says what is made in memory, and view what a thing in memory is
pub goes_on : {D A X Y : Type 0} (see : X → A) (view : Y → D) (f : D → Makes (List A)) (front new xs : List X) (ys : List Y) (i : ℕ) (y : Y) (m after : Making) (r : Result (List A × Making) Refusal) →
    i < length ys → y ≡ get_or ys i y → f (view y) m ≡ Ok (map see xs, after) → new ≡ front ++ xs →
    appended (map see front) (each f (map view (drop i ys)) m) ≡ r → appended (map see new) (each f (map view (drop (i + 1) ys)) after) ≡ r
goes_on see view f front new xs ys i y m after r less at is pushes known =
    let rest = map view (drop (i + 1) ys) in
    ap (λ z. appended z (each f rest after)) (ap (map see) pushes ∙ map-append see front xs)
    ∙ sym (goes f (map see front) (view y) rest (map see xs) m after is)
    ∙ ap (λ z. appended (map see front) (each f (map view z) m)) (sym (next_here ys i y less at)) ∙ known

pub stops : {D A X Y : Type 0} (see : X → A) (view : Y → D) (f : D → Makes (List A)) (front : List X) (ys : List Y) (i : ℕ) (y : Y) (e : TypeError) (m : Making) (r : Result (List A × Making) Refusal) →
    i < length ys → y ≡ get_or ys i y → Fails e (f (view y) m) → appended (map see front) (each f (map view (drop i ys)) m) ≡ r → Fails e r
stops see view f front ys i y error.NoMemory m r less at is known = tt
stops see view f front ys i y (error.Broken rule token) m r less at is known =
    sym known ∙ ap (λ z. appended (map see front) (each f (map view z) m)) (next_here ys i y less at)
    ∙ fails f (map see front) (view y) (map view (drop (i + 1) ys)) (refused rule token) m is

pub ends : {D A X Y : Type 0} (see : X → A) (view : Y → D) (f : D → Makes (List A)) (all : List X) (ys : List Y) (i : ℕ) (m : Making) (r : Result (List A × Making) Refusal) →
    length ys ≤ i → appended (map see all) (each f (map view (drop i ys)) m) ≡ r → r ≡ Ok (map see all, m)
unfolding each
ends see view f all ys i m r less known =
    sym known ∙ ap (λ z. appended (map see all) (each f (map view z) m)) (drop_of_length-le ys less) ∙ ap (λ z. Ok (z, m)) (append-nil (map see all))

-- ---- the initializers of fields

abbrev pub initial_in : Setting → ℕ → Bool → WrittenType → Declarator → Makes (List kernel.Statement)
initial_in w class is_static ty d = field_initial w class is_static ty d d.initial

from_nothing : {A : Type 0} (r : Result (List (List A) × Making) Refusal) → appended [] r ≡ onward (λ xss m. Ok (flat_map (λ xs. xs) xss, m)) r
from_nothing (Ok p) = refl
from_nothing (Err e) = refl

pub begins : (w : Setting) (class : ℕ) (is_static : Bool) (ty : WrittenType) (ds : List Declarator) (m : Making) →
    appended [] (each (initial_in w class is_static ty) ds m) ≡ field_initials w class is_static ty ds m
unfolding field_initials
begins w class is_static ty ds m = from_nothing (each (initial_in w class is_static ty) ds m)
