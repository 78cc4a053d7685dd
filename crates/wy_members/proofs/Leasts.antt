-- The least number with a property, found by going through a list.
use Rattle.std.proofs.Common.{◌≡◌, ℕ, zero, suc, ◌+◌, ◌<◌, ◌≤◌, List, [], ◌∷◌, length, min, refl, sym, ◌∙◌, ap, subst, arith, ◌⊎◌, inl, inr, Option, Some, IsTrue, ◌↔◌, Bool, true, false, map, get_or, below_more, nat_lt, ltb-true, ltb-false, cond, not}
use Rattle.std.specs.Prelude.{None as Absent}
use Rattle.std.specs.Prelude.{slice_get, option_map}
use Rattle.std.proofs.lemmas.List.{length-map}
use Rattle.std.proofs.lemmas.Option.{slice_get-map, slice_get-get_or, slice_get_within}
use Rattle.wy_members.specs.Least.{IsLeast, nowhere, least, lesser, Among, IsAgain, RepeatsEarlier, Either, Here}

both_below : (P Q : ℕ → Type 0) (a b : ℕ) → P a → ((m : ℕ) → P m → a ≤ m) → Q b → ((m : ℕ) → Q m → b ≤ m) → (c : ℕ) → (c ≡ a) ⊎ (c ≡ b) → c ≤ a → c ≤ b → IsLeast (Either P Q) (Some c)
both_below P Q a b p low q deep c is le less =
    least (elim is [ inl e ↦ inl (subst P (sym e) p) | inr e ↦ inr (subst Q (sym e) q) ])
    (λ m h. elim h [ inl x ↦ (let k = low m x in omega arith) | inr y ↦ (let k = deep m y in omega arith) ])

lesser_by : (a b : ℕ) (t : Bool) → nat_lt a b ≡ t → (min a b ≡ a) ⊎ (min a b ≡ b)
lesser_by a b true e = let lt = ltb-true a b e in inl (omega arith)
lesser_by a b false e = let le = ltb-false a b e in inr (omega arith)

the_lesser : (a b : ℕ) → (min a b ≡ a) ⊎ (min a b ≡ b)
the_lesser a b = lesser_by a b (nat_lt a b) refl

pub either_least : (P Q : ℕ → Type 0) (a b : Option ℕ) → IsLeast P a → IsLeast Q b → IsLeast (Either P Q) (lesser a b)
either_least P Q Absent Absent (nowhere f) (nowhere g) = nowhere (λ n h. elim h [ inl x ↦ f n x | inr y ↦ g n y ])
either_least P Q Absent (Some b) (nowhere f) (least q deep) = least (inr q) (λ m h. elim h [ inl x ↦ absurd (f m x) | inr y ↦ deep m y ])
either_least P Q (Some a) Absent (least p low) (nowhere g) = least (inl p) (λ m h. elim h [ inl x ↦ low m x | inr y ↦ absurd (g m y) ])
either_least P Q (Some a) (Some b) (least p low) (least q deep) = both_below P Q a b p low q deep (min a b) (the_lesser a b) (omega arith) (omega arith)

-- ---- a property that is another in other words

pub like : (P Q : ℕ → Type 0) (r : Option ℕ) → ((n : ℕ) → P n → Q n) → ((n : ℕ) → Q n → P n) → IsLeast P r → IsLeast Q r
like P Q Absent to from (nowhere f) = nowhere (λ n q. f n (from n q))
like P Q (Some k) to from (least p low) = least (to k p) (λ m q. low m (from m q))

-- ---- a token where a test passes

pub found_here : (Q : Type 0) (token : ℕ) → Q → IsLeast (Here Q token) (Some token)
found_here Q token q = least (q, refl) (λ m h. (let e : token ≡ m = h.1 in omega arith))

pub found_not : (Q : Type 0) (token : ℕ) → (Q → ⊥) → IsLeast (Here Q token) Absent
found_not Q token f = nowhere (λ n h. f h.0)

pub where_it_holds : (Q : Type 0) (token : ℕ) (t : Bool) (r : Option ℕ) → IsTrue t ↔ Q → r ≡ cond t (Some token) Absent → IsLeast (Here Q token) r
where_it_holds Q token true r exact is = let R : Option ℕ → Type 0 = λ o. IsLeast (Here Q token) o in subst R (sym is) (found_here Q token (exact.0 refl))
where_it_holds Q token false r exact is = let R : Option ℕ → Type 0 = λ o. IsLeast (Here Q token) o in subst R (sym is) (found_not Q token (λ q. (let e = exact.1 q in cc)))

pub where_it_fails : (Q : Type 0) (token : ℕ) (t : Bool) (r : Option ℕ) → IsTrue t ↔ Q → r ≡ cond (not t) (Some token) Absent → IsLeast (Here (Q → ⊥) token) r
where_it_fails Q token true r exact is = let R : Option ℕ → Type 0 = λ o. IsLeast (Here (Q → ⊥) token) o in subst R (sym is) (found_not (Q → ⊥) token (λ f. f (exact.0 refl)))
where_it_fails Q token false r exact is = let R : Option ℕ → Type 0 = λ o. IsLeast (Here (Q → ⊥) token) o in subst R (sym is) (found_here (Q → ⊥) token (λ q. (let e = exact.1 q in cc)))

-- ---- through a list in memory, in which each element says what is looked for

-- what holds of an element before place n
abbrev pub Before : {X : Type 0} → List X → (ℕ → X → ℕ → Type 0) → ℕ → ℕ → Type 0
Before {X} xs P n token = (i : ℕ) × (x : X) × (i < n) × (slice_get xs i ≡ Some x) × P i x token

pub at_place : {M X : Type 0} (view : M → X) (xs : List M) (i : ℕ) (x : M) → i < length xs → x ≡ get_or xs i x → slice_get (map view xs) i ≡ Some (view x)
at_place view xs i x lt e = slice_get-map view xs i ∙ ap (option_map view) (slice_get-get_or xs i x lt ∙ ap Some (sym e))

pub at_self : {X : Type 0} (xs : List X) (i : ℕ) (x : X) → i < length xs → x ≡ get_or xs i x → slice_get xs i ≡ Some x
at_self xs i x lt e = slice_get-get_or xs i x lt ∙ ap Some (sym e)

module _ {X : Type 0} (P : ℕ → X → ℕ → Type 0) (xs : List X) where
  pub none_yet : IsLeast (Before xs P 0) Absent
  none_yet = nowhere (λ n h. (let lt : h.0 < 0 = h.2 in omega arith))

  split : (i : ℕ) (x : X) → slice_get xs i ≡ Some x → (n : ℕ) → Before xs P (i + 1) n → Either (Before xs P i) (P i x) n
  split i x at n (j, y, less, is, p) =
      let Q : ℕ → Type 0 = λ k. (z : X) → slice_get xs k ≡ Some z → P k z n → Either (Before xs P i) (P i x) n in
      below_more Q i (λ k lower z there q. inl (k, z, lower, there, q)) (λ z there q. (let same : z ≡ x = cc in inr (let R : X → Type 0 = λ w. P i w n in subst R same q))) j less y is p

  join : (i : ℕ) (x : X) → slice_get xs i ≡ Some x → (n : ℕ) → Either (Before xs P i) (P i x) n → Before xs P (i + 1) n
  join i x at n h =
      elim h [
        | inl b ↦ (b.0, b.1, (let less : b.0 < i = b.2 in omega arith), b.3, b.4)
        | inr p ↦ (i, x, omega arith, at, p)
      ]

  -- with one element more
  pub one_more : (i : ℕ) (x : X) (a b r : Option ℕ) → slice_get xs i ≡ Some x → IsLeast (Before xs P i) a → IsLeast (P i x) b → r ≡ lesser a b → IsLeast (Before xs P (i + 1)) r
  one_more i x a b r at before here is =
      let Q : Option ℕ → Type 0 = λ o. IsLeast (Before xs P (i + 1)) o in
      subst Q (sym is) (like (Either (Before xs P i) (P i x)) (Before xs P (i + 1)) (lesser a b) (join i x at) (split i x at) (either_least (Before xs P i) (P i x) a b before here))

  pub all_gone : (n : ℕ) (r : Option ℕ) → length xs ≤ n → IsLeast (Before xs P n) r → IsLeast (Among xs P) r
  all_gone n r le h = like (Before xs P n) (Among xs P) r (λ m b. (b.0, b.1, b.3, b.4)) (λ m b. (b.0, b.1, (let within = slice_get_within xs b.0 b.1 b.2 in omega arith), b.2, b.3)) h

pub more_seen : {M X : Type 0} (view : M → X) (P : ℕ → X → ℕ → Type 0) (xs : List M) (i : ℕ) (x : M) (a b r : Option ℕ) → i < length xs → x ≡ get_or xs i x →
    IsLeast (Before (map view xs) P i) a → IsLeast (P i (view x)) b → r ≡ lesser a b → IsLeast (Before (map view xs) P (i + 1)) r
more_seen view P xs i x a b r lt e before here is = one_more P (map view xs) i (view x) a b r (at_place view xs i x lt e) before here is

pub gone_seen : {M X : Type 0} (view : M → X) (P : ℕ → X → ℕ → Type 0) (xs : List M) (n : ℕ) (r : Option ℕ) → length xs ≤ n → IsLeast (Before (map view xs) P n) r → IsLeast (Among (map view xs) P) r
gone_seen view P xs n r le h = all_gone P (map view xs) n r (let many = length-map xs view in omega arith) h

-- ---- in parts, and in one form

pub either : (P Q : ℕ → Type 0) (a b r : Option ℕ) → IsLeast P a → IsLeast Q b → r ≡ lesser a b → IsLeast (Either P Q) r
either P Q a b r p q is = let R : Option ℕ → Type 0 = λ o. IsLeast (Either P Q) o in subst R (sym is) (either_least P Q a b p q)

pub at_form : {M : Type 0} (P : M → ℕ → Type 0) (m x : M) (r : Option ℕ) → m ≡ x → IsLeast (P x) r → IsLeast (P m) r
at_form {M} P m x r e h = subst (λ (y : M). IsLeast (P y) r) (sym e) h

pub no_token : IsLeast (λ n. ⊥) Absent
no_token = nowhere (λ n h. h)

-- ---- what stands again, by what stands again at each place

pub again_of_each : {X : Type 0} (same : X → X → Type 0) (place : X → ℕ) (xs : List X) (r : Option ℕ) → IsLeast (Among xs (λ j x. Here (RepeatsEarlier same xs j x) (place x))) r → IsLeast (IsAgain same place xs) r
again_of_each same place xs r h =
    like (Among xs (λ j x. Here (RepeatsEarlier same xs j x) (place x))) (IsAgain same place xs) r
    (λ n (j, b, there, here). (here.0.0, j, here.0.1, b, here.0.2, here.0.3, there, here.0.4, here.1))
    (λ n (i, j, a, b, lt, at, there, s, e). (j, b, there, ((i, a, lt, at, s), e))) h

pub place_of_seen : {M X : Type 0} (view : M → X) (xs : List M) (i : ℕ) (y : X) → slice_get (map view xs) i ≡ Some y → (x : M) × (slice_get xs i ≡ Some x) × (view x ≡ y)
place_of_seen view [] i y e = absurd (cc)
place_of_seen view (x ∷ xs) zero y e = (x, refl, cc)
place_of_seen view (x ∷ xs) (suc i) y e = place_of_seen view xs i y e

pub seen_at : {M X : Type 0} (view : M → X) (xs : List M) (i : ℕ) (x : M) → slice_get xs i ≡ Some x → slice_get (map view xs) i ≡ Some (view x)
seen_at view xs i x e = slice_get-map view xs i ∙ ap (option_map view) e

-- what stands again in memory stands again as it is seen
pub again_as_seen : {M X : Type 0} (view : M → X) (same : X → X → Type 0) (place : X → ℕ) (xs : List M) (r : Option ℕ) →
    IsLeast (IsAgain (λ a b. same (view a) (view b)) (λ b. place (view b)) xs) r → IsLeast (IsAgain same place (map view xs)) r
again_as_seen {M} {X} view same place xs r h =
    like (IsAgain (λ a b. same (view a) (view b)) (λ b. place (view b)) xs) (IsAgain same place (map view xs)) r
    (λ n (i, j, a, b, lt, at, there, s, e). (i, j, view a, view b, lt, seen_at view xs i a at, seen_at view xs j b there, s, e))
    (λ n (i, j, a, b, lt, at, there, s, e). (let x = place_of_seen view xs i a at in let y = place_of_seen view xs j b there in
    (i, j, x.0, y.0, lt, x.1, y.1, subst (λ (v : X). same v (view y.0)) (sym x.2) (subst (λ (v : X). same a v) (sym y.2) s), ap place y.2 ∙ e))) h

pub again_in : {M X : Type 0} (view : M → X) (same : X → X → Type 0) (place : X → ℕ) (xs ys : List M) (r : Option ℕ) → ys ≡ xs →
    IsLeast (IsAgain (λ a b. same (view a) (view b)) (λ b. place (view b)) ys) r → IsLeast (IsAgain same place (map view xs)) r
again_in {M} view same place xs ys r e h = subst (λ (zs : List M). IsLeast (IsAgain same place (map view zs)) r) e (again_as_seen view same place ys r h)

-- ---- what holds of each element before a place

pub seen_up_to : {M X : Type 0} (view : M → X) (Q : X → Type 0) (xs : List M) (i : ℕ) (x : M) → i < length xs → x ≡ get_or xs i x →
    ((k : ℕ) (y : X) → k < i → slice_get (map view xs) k ≡ Some y → Q y) → Q (view x) → (k : ℕ) (y : X) → k < i + 1 → slice_get (map view xs) k ≡ Some y → Q y
seen_up_to {M} {X} view Q xs i x lt e before here k y less is =
    let R : ℕ → Type 0 = λ n. (z : X) → slice_get (map view xs) n ≡ Some z → Q z in
    below_more R i (λ n lower z there. before n z lower there) (λ z there. (let same : view x ≡ z = (let f = at_place view xs i x lt e in cc) in subst Q same here)) k less y is

pub seen_within : {M X : Type 0} (view : M → X) (xs : List M) (n k : ℕ) (y : X) → length xs ≤ n → slice_get (map view xs) k ≡ Some y → k < n
seen_within view xs n k y le is = let lt = slice_get_within (map view xs) k y is in let many = length-map xs view in omega arith
