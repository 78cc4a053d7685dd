-- Lines below a count, and where the last one stands.
use Rattle.std.proofs.Common.{◌≡◌, ◌+◌, ◌-◌, ◌<◌, ◌≤◌, ℕ, zero, suc, Bool, true, false, List, [], ◌∷◌, ◌++◌, length, length-append, map, get_or, take, drop, Option, Some, None, refl, sym, ap, ap₂, ◌∙◌, subst, ⊎_elim, arith}
use Rattle.std.specs.Prelude.{All, Contains, slice_get, nat_lt}
use Rattle.std.specs.List.Sorted.{IsNonDecreasingBy, IsPartitionPoint}
use Rattle.std.proofs.lemmas.Bool.{cases_lt, ltb-false, ltb-true}
use Rattle.std.proofs.lemmas.List.{append-nil, get_or_default}
use Rattle.std.proofs.lemmas.Option.{none-some, same_Some}
use Rattle.wy_why.specs.Answer.{Rises}
use Rattle.wy_cert.specs.declared.certificate.Listed.{Listed}
use Rattle.wy_cert.specs.Spelling.{events}
use Rattle.wy_check.specs.Faults.{SplitsAt}

line_low : (low high : ℕ) (ls : List Listed) (i : ℕ) (d : Listed) → Rises low high (events ls) → i < length ls → low ≤ (get_or ls i d).event
line_low low high [] i d up lt = absurd (omega (arith, lt))
line_low low high (l ∷ ls) zero d up lt = up.0
line_low low high (l ∷ ls) (suc i) d up lt = let rest = line_low (suc l.event) high ls i d up.2 (omega (arith, lt)) in omega (arith, rest, up.0)

pub lines_order : (low high : ℕ) (ls : List Listed) → Rises low high (events ls) → IsNonDecreasingBy (λ (l : Listed). l.event) ls
lines_order low high [] up i j d le lt = absurd (omega (arith, lt))
lines_order low high (l ∷ ls) up zero zero d le lt = omega arith
lines_order low high (l ∷ ls) up zero (suc j) d le lt = let rest = line_low (suc l.event) high ls j d up.2 (omega (arith, lt)) in omega (arith, rest)
lines_order low high (l ∷ ls) up (suc i) zero d le lt = absurd (omega (arith, le))
lines_order low high (l ∷ ls) up (suc i) (suc j) d le lt = lines_order (suc l.event) high ls up.2 i j d (omega (arith, le)) (omega (arith, lt))

module _ (m : ℕ) where
  below_at : (ls : List Listed) (n : ℕ) → ((i : ℕ) (d : Listed) → i < n → nat_lt (get_or ls i d).event m ≡ true) → (l : Listed) → Contains (take n ls) l → l.event < m
  below_at [] zero each l has = absurd (omega (arith, has.1))
  below_at [] (suc n) each l has = absurd (omega (arith, has.1))
  below_at (k ∷ ls) zero each l has = absurd (omega (arith, has.1))
  below_at (k ∷ ls) (suc n) each l (zero, lt, is) = subst (λ (x : Listed). x.event < m) is (ltb-true k.event m (each 0 k (omega arith)))
  below_at (k ∷ ls) (suc n) each l (suc j, lt, is) = below_at ls n (λ i d less. each (suc i) d (omega (arith, less))) l (j, omega (arith, lt), is)

  above_at : (ls : List Listed) (n : ℕ) → ((i : ℕ) (d : Listed) → n ≤ i → i < length ls → nat_lt (get_or ls i d).event m ≡ false) → (l : Listed) → Contains (drop n ls) l → m ≤ l.event
  above_at [] zero each l has = absurd (omega (arith, has.1))
  above_at [] (suc n) each l has = absurd (omega (arith, has.1))
  above_at (k ∷ ls) zero each l (zero, lt, is) = subst (λ (x : Listed). m ≤ x.event) is (ltb-false k.event m (each 0 k (omega arith) (omega arith)))
  above_at (k ∷ ls) zero each l (suc j, lt, is) = above_at ls zero (λ i d le less. each (suc i) d (omega arith) (omega (arith, less))) l (j, omega (arith, lt), is)
  above_at (k ∷ ls) (suc n) each l has = above_at ls n (λ i d le less. each (suc i) d (omega (arith, le)) (omega (arith, less))) l has

joined : (ls : List Listed) (n : ℕ) → ls ≡ take n ls ++ drop n ls
joined [] zero = refl
joined [] (suc n) = refl
joined (l ∷ ls) zero = refl
joined (l ∷ ls) (suc n) = ap (λ x. l ∷ x) (joined ls n)

pub splits : (ls : List Listed) (m n : ℕ) → IsPartitionPoint (λ (l : Listed). nat_lt l.event m ≡ true) (λ (l : Listed). nat_lt l.event m ≡ false) ls n → SplitsAt m ls (take n ls)
splits ls m n point = record {
  others = drop n ls;
  whole = joined ls n;
  below = below_at m ls n (λ i d lt. point.0 i d (omega arith) lt);
  above = above_at m ls n (λ i d le lt. point.1 i d le lt);
}

-- up to the last
pub last_rises : (low high : ℕ) (ls : List Listed) (l : Listed) → Rises low high (events ls) → slice_get ls (length ls - 1) ≡ Some l → Rises low (l.event + 1) (events ls)
last_rises low high [] l up at = tt
last_rises low high (k ∷ []) l up at = let same = ap (λ (m : Listed). m.event) (same_Some k l at) in (up.0, omega (arith, same), tt)
last_rises low high (k ∷ (m ∷ ls)) l up at =
    let step : length (k ∷ (m ∷ ls)) - 1 ≡ suc (length (m ∷ ls) - 1) = omega arith in
    let rest = last_rises (suc k.event) high (m ∷ ls) l up.2 (sym (ap (slice_get (k ∷ (m ∷ ls))) step) ∙ at) in
    (up.0, omega (arith, rest.0, rest.1), rest)

pub none_rise : (low high : ℕ) (ls : List Listed) → length ls ≡ 0 → Rises low high (events ls)
none_rise low high [] none = tt
none_rise low high (l ∷ ls) none = absurd (omega (arith, none))

pub front_rises : (low high : ℕ) (xs ys : List Listed) → Rises low high (events (xs ++ ys)) → Rises low high (events xs)
front_rises low high [] ys up = tt
front_rises low high (x ∷ xs) ys up = (up.0, up.1, front_rises (suc x.event) high xs ys up.2)

pub front_up : (high count : ℕ) (all front : List Listed) → SplitsAt count all front → Rises 0 high (events all) → Rises 0 high (events front)
front_up high count all front s up = front_rises 0 high front s.others (subst (λ ls. Rises 0 high (events ls)) s.whole up)

pub all_below : (ls : List Listed) (n : ℕ) → ((l : Listed) → Contains ls l → l.event < n) → All (λ (l : Listed). l.event < n) ls
all_below ls n below k d lt = below (get_or ls k d) (k, lt, get_or_default ls k (get_or ls k d) d lt)

-- as many numbers rise below an end as there are, at most
pub few_rise : (low high : ℕ) (ls : List Listed) → low ≤ high → Rises low high (events ls) → length ls + low ≤ high
few_rise low high [] le up = omega (arith, le)
few_rise low high (l ∷ ls) le up = let rest = few_rise (suc l.event) high ls (omega (arith, up.1)) up.2 in omega (arith, rest, up.0)

pub rises_to : (low high more : ℕ) (ls : List Listed) → Rises low high (events ls) → high ≤ more → Rises low more (events ls)
rises_to low high more [] up le = tt
rises_to low high more (l ∷ ls) up le = (up.0, omega (arith, up.1, le), rises_to (suc l.event) high more ls up.2 le)

no_others : (ls : List Listed) → length ls ≡ 0 → ls ≡ []
no_others [] none = refl
no_others (l ∷ ls) none = absurd (omega (arith, none))

-- where the front is as long as all, it is all
pub all_in_front : (count : ℕ) (all front : List Listed) → SplitsAt count all front → length all ≤ length front → all ≡ front
all_in_front count all front s le =
    let long = ap length s.whole ∙ length-append front s.others in
    s.whole ∙ ap (λ o. front ++ o) (no_others s.others (omega (arith, le, long))) ∙ append-nil front

pub below_rises : (low high n : ℕ) (ls : List Listed) → Rises low high (events ls) → ((l : Listed) → Contains ls l → l.event < n) → Rises low n (events ls)
below_rises low high n [] up below = tt
below_rises low high n (l ∷ ls) up below = (up.0, below l (0, omega arith, refl), below_rises (suc l.event) high n ls up.2 (λ k has. below k (suc has.0, omega (arith, has.1), has.2)))
