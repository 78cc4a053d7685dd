-- Elements of lists, and lists that a test or a map leaves as they are.
use Rattle.std.proofs.Common.{◌≡◌, refl, sym, ◌∙◌, ap, arith, ℕ, zero, suc, ◌+◌, ◌⊎◌, inl, inr, Bool, true, cond, List, [], ◌∷◌, ◌++◌, length, Option, Some, map}
use Rattle.std.specs.Prelude.{None as Absent}
use Rattle.std.specs.Prelude.{slice_get, filter, filter_map}
use Rattle.std.specs.List.{Contains, list_all, cons_option}
use Rattle.std.proofs.lemmas.Bool.{and_parts, and_from}

pub later : {X : Type 0} (x y : X) (xs : List X) → Contains xs x → Contains (y ∷ xs) x
later x y xs (k, lt, e) = (suc k, omega (arith, lt), e)

pub first : {X : Type 0} (x : X) (xs : List X) → Contains (x ∷ xs) x
first x xs = (0, omega arith, refl)

-- an element that passes a test which all pass
pub passing : {X : Type 0} (test : X → Bool) (xs : List X) (i : ℕ) (x : X) → list_all test xs ≡ true → slice_get xs i ≡ Some x → test x ≡ true
passing test [] i x all e = absurd (cc)
passing test (y ∷ ys) zero x all e = let same : y ≡ x = cc in ap test (sym same) ∙ (and_parts (test y) (list_all test ys) all).0
passing test (y ∷ ys) (suc i) x all e = passing test ys i x (and_parts (test y) (list_all test ys) all).1 e

pub all_pass : {X : Type 0} (test : X → Bool) (xs : List X) → ((x : X) → Contains xs x → test x ≡ true) → list_all test xs ≡ true
all_pass test [] h = refl
all_pass test (x ∷ xs) h = and_from (test x) (list_all test xs) (h x (first x xs)) (all_pass test xs (λ y c. h y (later y x xs c)))

pub all_left : {X : Type 0} (test : X → Bool) (xs : List X) → ((x : X) → Contains xs x → test x ≡ true) → filter test xs ≡ xs
all_left test [] h = refl
all_left test (x ∷ xs) h = ap (λ b. cond b (x ∷ filter test xs) (filter test xs)) (h x (first x xs)) ∙ ap (λ ys. x ∷ ys) (all_left test xs (λ y c. h y (later y x xs c)))

pub all_same : {X : Type 0} (f : X → X) (xs : List X) → ((i : ℕ) (x : X) → slice_get xs i ≡ Some x → f x ≡ x) → map f xs ≡ xs
all_same f [] h = refl
all_same f (x ∷ xs) h = λ i. h 0 x refl i ∷ all_same f xs (λ k y e. h (suc k) y e) i

-- what a place in two lists, one behind the other, is
pub of_two : {X : Type 0} (xs ys : List X) (c : ℕ) (x : X) → slice_get (xs ++ ys) c ≡ Some x → (slice_get xs c ≡ Some x) ⊎ ((i : ℕ) × (length xs + i ≡ c) × (slice_get ys i ≡ Some x))
of_two [] ys c x e = inr (c, omega arith, e)
of_two (y ∷ xs) ys zero x e = inl e
of_two (y ∷ xs) ys (suc c) x e = elim (of_two xs ys c x e) [ inl h ↦ inl h | inr w ↦ inr (w.0, (let same : length xs + w.0 ≡ c = w.1 in omega arith), w.2) ]

pub in_second : {X : Type 0} (xs ys : List X) (i : ℕ) (x : X) → slice_get ys i ≡ Some x → slice_get (xs ++ ys) (length xs + i) ≡ Some x
in_second [] ys i x e = (let same : 0 + i ≡ i = omega arith in ap (slice_get ys) same) ∙ e
in_second (y ∷ xs) ys i x e = (let same : suc (length xs) + i ≡ suc (length xs + i) = omega arith in ap (slice_get (y ∷ (xs ++ ys))) same) ∙ in_second xs ys i x e

-- what is made of an element
pub of_chosen : {X Y : Type 0} (f : X → Option Y) (xs : List X) (y : Y) → Contains (filter_map f xs) y → (x : X) × Contains xs x × (f x ≡ Some y)
of_chosen f [] y (k, lt, e) = absurd (omega arith)
of_chosen {X} {Y} f (x ∷ xs) y h = by (f x) refl h (of_chosen f xs y)
  where
    step : ((z : X) × Contains xs z × (f z ≡ Some y)) → (z : X) × Contains (x ∷ xs) z × (f z ≡ Some y)
    step (z, c, e) = (z, later z x xs c, e)

    by : (o : Option Y) → f x ≡ o → Contains (cons_option o (filter_map f xs)) y → (Contains (filter_map f xs) y → (z : X) × Contains xs z × (f z ≡ Some y)) → (z : X) × Contains (x ∷ xs) z × (f z ≡ Some y)
    by Absent e c rest = step (rest c)
    by (Some v) e (zero, lt, is) rest = (x, first x xs, e ∙ ap Some is)
    by (Some v) e (suc k, lt, is) rest = step (rest (k, omega arith, is))
