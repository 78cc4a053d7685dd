-- A stable sort puts elements in the order that insertion gives.
use Rattle.std.proofs.Common.{◌≡◌, ℕ, zero, suc, ◌<◌, ◌≤◌, Bool, true, false, cond, List, [], ◌∷◌, length, get_or, map, filter, nat_cmp, is_lt, refl, sym, ap, ◌∙◌, subst, arith, inl, inr, suc-le-suc, zero-le}
use Rattle.std.specs.Prelude.{nat_le}
use Rattle.std.proofs.lemmas.Bool.{cond-true, cond-false, cases_Bool}
use Rattle.std.proofs.lemmas.Bool.Decides.{nat_tests}
use Rattle.std.specs.List.Sorted.{ties, IsNonDecreasingBy, IsStableByKey}
use Rattle.wy_kernel.specs.Order.{in_order, inserted}

abbrev same_key : {X : Type 0} → (X → ℕ) → X → X → Bool
same_key key = ties (λ x y. is_lt (nat_cmp (key x) (key y)))

ties_at : (m n : ℕ) → (ties (λ x y. is_lt (nat_cmp x y)) m n ≡ true → m ≡ n) × (m ≡ n → ties (λ x y. is_lt (nat_cmp x y)) m n ≡ true)
ties_at m n = (λ h. grind (arith, nat_tests), λ h. grind (arith, nat_tests))

same_key-true : {X : Type 0} (key : X → ℕ) (x y : X) → same_key key x y ≡ true → key x ≡ key y
same_key-true key x y = (ties_at (key x) (key y)).0

same_key_from : {X : Type 0} (key : X → ℕ) (x y : X) → key x ≡ key y → same_key key x y ≡ true
same_key_from key x y = (ties_at (key x) (key y)).1

le_from : (m n : ℕ) → nat_le m n ≡ true → m ≤ n
le_from m n h = grind (arith, nat_tests)

less_from : (m n : ℕ) → nat_le m n ≡ false → n < m
less_from m n h = grind (arith, nat_tests)

filter-kept : {X : Type 0} (p : X → Bool) (y : X) (ys : List X) → p y ≡ true → filter p (y ∷ ys) ≡ y ∷ filter p ys
filter-kept p y ys h = cond-true _ _ _ h

filter-dropped : {X : Type 0} (p : X → Bool) (y : X) (ys : List X) → p y ≡ false → filter p (y ∷ ys) ≡ filter p ys
filter-dropped p y ys h = cond-false _ _ _ h

inserted-stays : {X : Type 0} (key : X → ℕ) (c d : X) (ds : List X) → nat_le (key c) (key d) ≡ true → inserted key c (d ∷ ds) ≡ c ∷ d ∷ ds
inserted-stays key c d ds h = cond-true _ _ _ h

inserted-past : {X : Type 0} (key : X → ℕ) (c d : X) (ds : List X) → nat_le (key c) (key d) ≡ false → inserted key c (d ∷ ds) ≡ d ∷ inserted key c ds
inserted-past key c d ds h = cond-false _ _ _ h

filter-inserted : {X : Type 0} (key : X → ℕ) (x c : X) (ds : List X) → filter (same_key key x) (inserted key c ds) ≡ filter (same_key key x) (c ∷ ds)
filter-inserted key x c [] = refl
filter-inserted key x c (d ∷ ds) =
    let p = same_key key x in
    elim (cases_Bool (nat_le (key c) (key d))) [
      | inl stays ↦ ap (filter p) (inserted-stays key c d ds stays)
      | inr past ↦
          let below = less_from (key c) (key d) past in
          ap (filter p) (inserted-past key c d ds past)
          ∙ elim (cases_Bool (p d)) [
            | inr without ↦
                filter-dropped p d (inserted key c ds) without ∙ filter-inserted key x c ds
                ∙ ap (λ l. cond (p c) (c ∷ l) l) (sym (filter-dropped p d ds without))
            | inl with ↦
                elim (cases_Bool (p c)) [
                  | inl both ↦ absurd (omega (arith, same_key-true key x c both, same_key-true key x d with))
                  | inr only ↦
                      filter-kept p d (inserted key c ds) with ∙ ap (λ l. d ∷ l) (filter-inserted key x c ds ∙ filter-dropped p c ds only)
                      ∙ sym (filter-dropped p c (d ∷ ds) only ∙ filter-kept p d ds with)
                ]
          ]
    ]

filter-in_order : {X : Type 0} (key : X → ℕ) (x : X) (cs : List X) → filter (same_key key x) (in_order key cs) ≡ filter (same_key key x) cs
filter-in_order key x [] = refl
filter-in_order key x (c ∷ cs) =
    filter-inserted key x c (in_order key cs) ∙ ap (λ l. cond (same_key key x c) (c ∷ l) l) (filter-in_order key x cs)

-- ---- what rises

abbrev AreAtLeast : {X : Type 0} → (X → ℕ) → ℕ → List X → Type 0
AreAtLeast key n [] = Unit {0}
AreAtLeast key n (y ∷ ys) = (n ≤ key y) × AreAtLeast key n ys

abbrev Rises : {X : Type 0} → (X → ℕ) → List X → Type 0
Rises key [] = Unit {0}
Rises key (y ∷ ys) = AreAtLeast key (key y) ys × Rises key ys

at_least_less : {X : Type 0} (key : X → ℕ) (n m : ℕ) (ys : List X) → n ≤ m → AreAtLeast key m ys → AreAtLeast key n ys
at_least_less key n m [] le h = tt
at_least_less key n m (y ∷ ys) le h = let first = h.0 in (omega arith, at_least_less key n m ys le h.1)

at_least_each : {X : Type 0} (key : X → ℕ) (n : ℕ) (e : X) (ys : List X) → ((j : ℕ) → j < length ys → n ≤ key (get_or ys j e)) → AreAtLeast key n ys
at_least_each key n e [] h = tt
at_least_each key n e (y ∷ ys) h = (h zero (suc-le-suc zero-le), at_least_each key n e ys (λ j lt. h (suc j) (suc-le-suc lt)))

rises_from_sort : {X : Type 0} (key : X → ℕ) (ys : List X) → IsNonDecreasingBy key ys → Rises key ys
rises_from_sort key [] h = tt
rises_from_sort key (y ∷ ys) h = (
  at_least_each key (key y) y ys (λ j lt. h zero (suc j) y zero-le (suc-le-suc lt)),
  rises_from_sort key ys (λ i j d le lt. h (suc i) (suc j) d (suc-le-suc le) (suc-le-suc lt)),
)

at_least_inserted : {X : Type 0} (key : X → ℕ) (n : ℕ) (c : X) (ds : List X) → n ≤ key c → AreAtLeast key n ds → AreAtLeast key n (inserted key c ds)
at_least_inserted key n c [] le h = (le, tt)
at_least_inserted key n c (d ∷ ds) le h =
    elim (cases_Bool (nat_le (key c) (key d))) [
      | inl stays ↦ subst (AreAtLeast key n) (sym (inserted-stays key c d ds stays)) (le, h)
      | inr past ↦ subst (AreAtLeast key n) (sym (inserted-past key c d ds past)) (h.0, at_least_inserted key n c ds le h.1)
    ]

rises_inserted : {X : Type 0} (key : X → ℕ) (c : X) (ds : List X) → Rises key ds → Rises key (inserted key c ds)
rises_inserted key c [] h = (tt, tt)
rises_inserted key c (d ∷ ds) h =
    elim (cases_Bool (nat_le (key c) (key d))) [
      | inl stays ↦
          let le = le_from (key c) (key d) stays in
          subst (Rises key) (sym (inserted-stays key c d ds stays)) ((le, at_least_less key (key c) (key d) ds le h.0), h)
      | inr past ↦
          let below = less_from (key c) (key d) past in
          subst (Rises key) (sym (inserted-past key c d ds past)) (at_least_inserted key (key d) c ds (omega arith) h.0, rises_inserted key c ds h.1)
    ]

rises_in_order : {X : Type 0} (key : X → ℕ) (cs : List X) → Rises key (in_order key cs)
rises_in_order key [] = tt
rises_in_order key (c ∷ cs) = rises_inserted key c (in_order key cs) (rises_in_order key cs)

-- ---- two lists that rise and agree at each key are one

found_at_least : {X : Type 0} (key : X → ℕ) (n : ℕ) (x : X) (ys : List X) (w : X) (ws : List X) → AreAtLeast key n ys → filter (same_key key x) ys ≡ w ∷ ws → n ≤ key x
found_at_least key n x [] w ws h e = cc
found_at_least key n x (y ∷ ys) w ws h e =
    elim (cases_Bool (same_key key x y)) [
      | inl with ↦ omega (arith, h.0, same_key-true key x y with)
      | inr without ↦ found_at_least key n x ys w ws h.1 (sym (filter-dropped (same_key key x) y ys without) ∙ e)
    ]

same_from_keys : {X : Type 0} (key : X → ℕ) (ys zs : List X) → Rises key ys → Rises key zs → ((x : X) → filter (same_key key x) ys ≡ filter (same_key key x) zs) → ys ≡ zs
same_from_keys key [] [] left right same = refl
same_from_keys key [] (z ∷ zs) left right same =
    let clash = same z ∙ filter-kept (same_key key z) z zs (same_key_from key z z refl) in cc
same_from_keys key (y ∷ ys) [] left right same =
    let clash = sym (same y) ∙ filter-kept (same_key key y) y ys (same_key_from key y y refl) in cc
same_from_keys key (y ∷ ys) (z ∷ zs) left right same =
    let at_y = filter-kept (same_key key y) y ys (same_key_from key y y refl) in
    let at_z = filter-kept (same_key key z) z zs (same_key_from key z z refl) in
    let up = found_at_least key (key z) y (z ∷ zs) y _ (omega arith, right.0) (sym (same y) ∙ at_y) in
    let down = found_at_least key (key y) z (y ∷ ys) z _ (omega arith, left.0) (same z ∙ at_z) in
    let heads = sym at_y ∙ same y ∙ filter-kept (same_key key y) z zs (same_key_from key y z (omega arith)) in
    let head : y ≡ z = cc in
    let tails : (x : _) → filter (same_key key x) ys ≡ filter (same_key key x) zs =
    λ x. elim (cases_Bool (same_key key x y)) [
      | inl with ↦
          let both = sym (filter-kept (same_key key x) y ys with) ∙ same x ∙ filter-kept (same_key key x) z zs (ap (same_key key x) (sym head) ∙ with) in cc
      | inr without ↦
          sym (filter-dropped (same_key key x) y ys without) ∙ same x ∙ filter-dropped (same_key key x) z zs (ap (same_key key x) (sym head) ∙ without)
    ] in
    ap (λ w. w ∷ ys) head ∙ ap (λ l. z ∷ l) (same_from_keys key ys zs left.1 right.1 tails)

pub in_order_from_sort : {X : Type 0} (key : X → ℕ) (xs ys : List X) → IsNonDecreasingBy key ys → IsStableByKey key nat_cmp xs ys → ys ≡ in_order key xs
in_order_from_sort key xs ys sorted stable =
    same_from_keys key ys (in_order key xs) (rises_from_sort key ys sorted) (rises_in_order key xs) (λ x. stable x ∙ sym (filter-in_order key x xs))

-- ---- the keys of what a function makes of elements

map_either : {X Y : Type 0} (f : X → Y) (b : Bool) (xs ys : List X) → map f (cond b xs ys) ≡ cond b (map f xs) (map f ys)
map_either f true xs ys = refl
map_either f false xs ys = refl

map_inserted : {X Y : Type 0} (f : X → Y) (key : Y → ℕ) (t : X) (xs : List X) → map f (inserted (λ x. key (f x)) t xs) ≡ inserted key (f t) (map f xs)
map_inserted f key t [] = refl
map_inserted f key t (x ∷ rest) =
    map_either f (nat_le (key (f t)) (key (f x))) (t ∷ x ∷ rest) (x ∷ inserted (λ y. key (f y)) t rest)
    ∙ ap (λ l. cond (nat_le (key (f t)) (key (f x))) (f t ∷ f x ∷ map f rest) (f x ∷ l)) (map_inserted f key t rest)

pub map_in_order : {X Y : Type 0} (f : X → Y) (key : Y → ℕ) (xs : List X) → map f (in_order (λ x. key (f x)) xs) ≡ in_order key (map f xs)
map_in_order f key [] = refl
map_in_order f key (t ∷ rest) = map_inserted f key t (in_order (λ x. key (f x)) rest) ∙ ap (inserted key (f t)) (map_in_order f key rest)
