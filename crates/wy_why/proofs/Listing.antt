-- Sources as they are listed.
use Rattle.std.proofs.Common.{◌≡◌, ◌<◌, ℕ, zero, suc, List, [], ◌∷◌, ◌++◌, length, map, get_or, Option, Some, None, refl, ap, ◌∙◌, subst, arith}
use Rattle.std.specs.Prelude.{Contains, option_map, option_to_list}
use Rattle.std.proofs.lemmas.List.{map-append, length-map}
use Rattle.wy_event.specs.Sources.{Source}
use Rattle.wy_why.proofs.Closures.{EventsBelow}

module _ {A B : Type 0} (f : A → B) where
  pub map_option : (o : Option A) → map f (option_to_list o) ≡ option_to_list (option_map f o)
  map_option None = refl
  map_option (Some x) = refl

  pub one_listed : (xs : List A) (o : Option A) (ys zs : List B) → map f xs ≡ ys → option_to_list (option_map f o) ≡ zs → map f (xs ++ option_to_list o) ≡ ys ++ zs
  one_listed xs o ys zs first second = map-append f xs (option_to_list o) ∙ ap (λ l. l ++ map f (option_to_list o)) first ∙ ap (λ l. ys ++ l) (map_option o ∙ second)

  at_map : (xs : List A) (k : ℕ) (x : A) (y : B) → k < length xs → get_or (map f xs) k y ≡ f (get_or xs k x)
  at_map [] k x y lt = absurd (omega (arith, lt))
  at_map (a ∷ xs) zero x y lt = refl
  at_map (a ∷ xs) (suc k) x y lt = at_map xs k x y (omega (arith, lt))

  to_map : (xs : List A) (x : A) → Contains xs x → Contains (map f xs) (f x)
  to_map xs x has = (has.0, omega (arith, has.1, length-map xs f), at_map xs has.0 x (f x) has.1 ∙ ap f has.2)

  from_map : (xs : List A) (y : B) → Contains (map f xs) y → (x : A) × Contains xs x × (f x ≡ y)
  from_map [] y has = absurd (omega (arith, has.1))
  from_map (a ∷ xs) y (zero, lt, is) = (a, (0, omega arith, refl), is)
  from_map (a ∷ xs) y (suc k, lt, is) =
      let rest = from_map xs y (k, omega (arith, lt), is) in
      (rest.0, (suc rest.1.0, omega (arith, rest.1.1), rest.1.2), rest.2)

  pub same_members : (xs ys : List A) → ((x : A) → Contains xs x → Contains ys x) → (y : B) → Contains (map f xs) y → Contains (map f ys) y
  same_members xs ys all y has =
      let one = from_map xs y has in
      subst (λ z. Contains (map f ys) z) one.2 (to_map ys one.0 (all one.0 one.1))

  pub member_listed : (xs : List A) (ys : List B) (x : A) → map f xs ≡ ys → Contains xs x → Contains ys (f x)
  member_listed xs ys x is has = subst (λ l. Contains l (f x)) is (to_map xs x has)

pub contains_below : (n : ℕ) (ss : List Source) (s : Source) → EventsBelow n ss → Contains ss s → s.event < n
contains_below n [] s below has = absurd (omega (arith, has.1))
contains_below n (t ∷ ss) s below (zero, lt, is) = subst (λ (u : Source). u.event < n) is below.0
contains_below n (t ∷ ss) s below (suc k, lt, is) = contains_below n ss s below.1 (k, omega (arith, lt), is)
