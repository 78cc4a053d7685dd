-- What a list contains, and what is first in it.
use Rattle.std.proofs.Common.{◌≡◌, ◌∙◌, refl, ap, subst, arith, ℕ, zero, suc, ◌+◌, ◌≤◌, Bool, true, false, cond, List, [], ◌∷◌}
use Rattle.std.specs.Prelude.{Some, slice_get, filter}
use Rattle.std.specs.List.{AllByRecursion, Contains, position_from}
use Rattle.std.proofs.lemmas.List.Elements.{All-weaker, All-contains_itself, recursion_from_All, Contains-append_right}

-- what a part contains the whole contains
abbrev pub Within : {X : Type 0} → List X → List X → Type 0
Within {X} all few = (x : X) → Contains few x → Contains all x

pub all_within : {X : Type 0} (all few : List X) → Within all few → AllByRecursion (Contains all) few
all_within all few h = recursion_from_All (Contains all) few (All-weaker (Contains few) (Contains all) h few (All-contains_itself few))

pub here : {X : Type 0} (x : X) (xs : List X) → Contains (x ∷ xs) x
here x xs = (0, omega arith, refl)

pub later : {X : Type 0} (y : X) (xs : List X) → Within (y ∷ xs) xs
later y xs x h = Contains-append_right (y ∷ []) xs x h

-- what passes is kept
pub kept : {X : Type 0} (test : X → Bool) (xs : List X) (i : ℕ) (x : X) → slice_get xs i ≡ Some x → test x ≡ true → Contains (filter test xs) x
kept test [] i x e t = absurd (cc)
kept {X} test (y ∷ xs) zero x e t = let same : y ≡ x = cc in by (test y) (ap test same ∙ t) same
  where
    by : (b : Bool) → b ≡ true → y ≡ x → Contains (cond b (y ∷ filter test xs) (filter test xs)) x
    by true f same = let P : X → Type 0 = λ z. Contains (y ∷ filter test xs) z in subst P same (here y (filter test xs))
    by false f same = absurd (cc)
kept test (y ∷ xs) (suc i) x e t = by (test y) (kept test xs i x e t)
  where
    by : (b : Bool) → Contains (filter test xs) x → Contains (cond b (y ∷ filter test xs) (filter test xs)) x
    by true h = later y (filter test xs) x h
    by false h = h

-- the first that passes, which stands no later than another one
pub record First {X : Type 0} (test : X → Bool) (xs : List X) (start n : ℕ) : Type 0 where
  pub place : ℕ
  pub one : X
  pub found : position_from test start xs ≡ Some (start + place)
  pub stands : slice_get xs place ≡ Some one
  pub passes : test one ≡ true
  pub not_later : place ≤ n

pub first_found : {X : Type 0} (test : X → Bool) (xs : List X) (start n : ℕ) (x : X) → slice_get xs n ≡ Some x → test x ≡ true → First test xs start n
first_found test [] start n x e t = absurd (cc)
first_found {X} test (y ∷ xs) start zero x e t =
    let same : y ≡ x = cc in
    record {
      place = 0;
      one = y;
      found = ap (λ (b : Bool). cond b (Some start) (position_from test (start + 1) xs)) (ap test same ∙ t) ∙ ap (λ (i : ℕ). Some i) (omega arith);
      stands = refl;
      passes = ap test same ∙ t;
      not_later = omega arith;
    }
first_found test (y ∷ xs) start (suc n) x e t = by (test y) refl (first_found test xs (start + 1) n x e t)
  where
    by : (b : Bool) → test y ≡ b → First test xs (start + 1) n → First test (y ∷ xs) start (suc n)
    by true f r = record {
      place = 0;
      one = y;
      found = ap (λ (b : Bool). cond b (Some start) (position_from test (start + 1) xs)) f ∙ ap (λ (i : ℕ). Some i) (omega arith);
      stands = refl;
      passes = f;
      not_later = omega arith;
    }
    by false f r =
        let le : r.place ≤ n = r.not_later in
        record {
          place = suc r.place;
          one = r.one;
          found = ap (λ (b : Bool). cond b (Some start) (position_from test (start + 1) xs)) f ∙ r.found ∙ ap (λ (i : ℕ). Some i) (omega arith);
          stands = r.stands;
          passes = r.passes;
          not_later = omega arith;
        }
