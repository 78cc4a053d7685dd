-- Places that are spread over a stretch of the text: each at most once, and none outside.
use Rattle.std.proofs.Common.{◌≡◌, ◌∙◌, refl, cond, arith, ℕ, ◌+◌, ◌*◌, ◌<◌, ◌≤◌, Bool, true, false, ◌==◌, List, [], ◌∷◌, ◌++◌}
use Rattle.std.specs.Prelude.{count_by}
use Rattle.std.proofs.lemmas.Bool.Decides.{nat_tests}
use Rattle.std.proofs.lemmas.List.Sums.{sum_by-append}
use Rattle.wy_elab_body.specs.declared.place.Place.{Place}
use Rattle.wy_elab_body.specs.declared.place.Role.{Role}
use Rattle.wy_elab_body.specs.declared.place.Role.TheVariants.{InitializerBody, FieldsBody, ConstructorBody, SuperCall, FieldsCall, Written}
use Rattle.wy_elab_body.specs.Places.{at, key_of, order_of}

abbrev pub has_key : ℕ → Place → Bool
has_key n q = key_of q == n

-- how often the list has a place of this key
abbrev pub times : ℕ → List Place → ℕ
times n qs = count_by (has_key n) qs

pub times_both : (n : ℕ) (xs ys : List Place) → times n (xs ++ ys) ≡ times n xs + times n ys
times_both n xs ys = sum_by-append (λ q. cond (has_key n q) 1 0) xs ys

-- each key at most once, from the first number up to the last
pub record Once (low high : ℕ) (qs : List Place) : Type 0 where
  pub rising : low ≤ high
  pub most : (n : ℕ) → times n qs ≤ 1
  pub below : (n : ℕ) → n < low → times n qs ≡ 0
  pub above : (n : ℕ) → high ≤ n → times n qs ≡ 0

pub none_once : (low high : ℕ) → low ≤ high → Once low high []
none_once low high h = record { rising = h; most = λ n. omega arith; below = λ n less. refl; above = λ n less. refl }

cond_one : (b : Bool) → 0 + cond b 1 0 ≤ 1
cond_one true = omega arith
cond_one false = omega arith

other_key : (k n : ℕ) → (k ≡ n → ⊥) → 0 + cond (k == n) 1 0 ≡ 0
other_key k n d = grind (arith, nat_tests)

pub one_once : (low high : ℕ) (q : Place) → low ≤ key_of q → key_of q < high → Once low high (q ∷ [])
one_once low high q h i = record {
  rising = omega arith;
  most = λ n. cond_one (has_key n q);
  below = λ n less. other_key (key_of q) n (λ e. omega arith);
  above = λ n less. other_key (key_of q) n (λ e. omega arith);
}

most_of_both : (x y z n m : ℕ) → z ≡ x + y → x ≤ 1 → y ≤ 1 → (m ≤ n → x ≡ 0) → (n < m → y ≡ 0) → z ≤ 1
most_of_both x y z n m e a b f g = grind arith

nothing_twice : (x y : ℕ) → x ≡ 0 → y ≡ 0 → x + y ≡ 0
nothing_twice x y a b = omega arith

at_most : (x y : ℕ) → x ≤ y → y ≤ 1 → x ≤ 1
at_most x y a b = omega arith

no_more_than : (x y : ℕ) → x ≤ y → y ≡ 0 → x ≡ 0
no_more_than x y a b = omega arith

same_three : (x y z all front back behind : ℕ) → all ≡ front + z → front ≡ x + y → back ≡ x + behind → behind ≡ y + z → all ≤ back
same_three x y z all front back behind a b c d = omega arith

pub both_once : (low middle high : ℕ) (xs ys : List Place) → Once low middle xs → Once middle high ys → Once low high (xs ++ ys)
both_once low middle high xs ys h i =
    let rising : low ≤ middle = h.rising in
    let later : middle ≤ high = i.rising in
    record {
      rising = omega arith;
      most = λ n. most_of_both (times n xs) (times n ys) (times n (xs ++ ys)) n middle (times_both n xs ys) (h.most n) (i.most n) (h.above n) (i.below n);
      below = λ n less. times_both n xs ys ∙ nothing_twice (times n xs) (times n ys) (h.below n less) (i.below n (omega arith));
      above = λ n less. times_both n xs ys ∙ nothing_twice (times n xs) (times n ys) (h.above n (omega arith)) (i.above n less);
    }

pub wider_once : (low high less more : ℕ) (qs : List Place) → less ≤ low → high ≤ more → Once low high qs → Once less more qs
wider_once low high less more qs a b h =
    let rising : low ≤ high = h.rising in
    record { rising = omega arith; most = h.most; below = λ n i. h.below n (omega arith); above = λ n i. h.above n (omega arith) }

-- in another order, or some of them
pub fewer_once : (low high : ℕ) (xs ys : List Place) → ((n : ℕ) → times n xs ≤ times n ys) → Once low high ys → Once low high xs
fewer_once low high xs ys few h = record {
  rising = h.rising;
  most = λ n. at_most (times n xs) (times n ys) (few n) (h.most n);
  below = λ n i. no_more_than (times n xs) (times n ys) (few n) (h.below n i);
  above = λ n i. no_more_than (times n xs) (times n ys) (few n) (h.above n i);
}

-- ---- over tokens, each of which has eight keys

abbrev pub Spread : ℕ → ℕ → List Place → Type 0
Spread low high qs = Once (8 * low) (8 * high) qs

pub none_spread : (low high : ℕ) → low ≤ high → Spread low high []
none_spread low high h = none_once (8 * low) (8 * high) (omega arith)

pub few_orders : (r : Role) → order_of r < 8
unfolding order_of
few_orders r = elim r as (λ x. order_of x < 8) [
  | InitializerBody ↦ omega arith
  | FieldsBody ↦ omega arith
  | ConstructorBody ↦ omega arith
  | SuperCall ↦ omega arith
  | FieldsCall ↦ omega arith
  | Written ↦ omega arith
]

pub one_spread : (low high n : ℕ) (role : Role) → low ≤ n → n < high → Spread low high (at n role ∷ [])
one_spread low high n role h i = let few : order_of role < 8 = few_orders role in one_once (8 * low) (8 * high) (at n role) (omega arith) (omega arith)

pub both_spread : (low middle high : ℕ) (xs ys : List Place) → Spread low middle xs → Spread middle high ys → Spread low high (xs ++ ys)
both_spread low middle high xs ys h i = both_once (8 * low) (8 * middle) (8 * high) xs ys h i

pub wider_spread : (low high less more : ℕ) (qs : List Place) → less ≤ low → high ≤ more → Spread low high qs → Spread less more qs
wider_spread low high less more qs a b h = wider_once (8 * low) (8 * high) (8 * less) (8 * more) qs (omega arith) (omega arith) h

pub head_spread : (low n high : ℕ) (role : Role) (qs : List Place) → low ≤ n → Spread (n + 1) high qs → Spread low high (at n role ∷ qs)
head_spread low n high role qs a h = both_spread low (n + 1) high (at n role ∷ []) qs (one_spread low (n + 1) n role a (omega arith)) h

-- three lists, by the first and the other two
pub three_spread : (low middle high : ℕ) (xs ys zs : List Place) → Spread low middle xs → Spread middle high (ys ++ zs) → Spread low high (xs ++ ys ++ zs)
three_spread low middle high xs ys zs h i =
    fewer_once (8 * low) (8 * high) (xs ++ ys ++ zs) (xs ++ (ys ++ zs)) (λ n. same_three (times n xs) (times n ys) (times n zs) _ _ _ _ (times_both n (xs ++ ys) zs) (times_both n xs ys) (times_both n xs (ys ++ zs)) (times_both n ys zs))
    (both_spread low middle high xs (ys ++ zs) h i)
