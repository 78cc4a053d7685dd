-- Points by their numbers.
use Rattle.std.proofs.Common.{◌≡◌, ◌<◌, ◌≤◌, ◌∙◌, ◌++◌, ◌∷◌, [], ⊎_elim, ℕ, zero, suc, Bool, true, false, cond, List, length, get_or, refl, sym, ap, subst, arith}
use Rattle.std.specs.List.{Contains, dedup}
use Rattle.std.specs.List.Sorted.{IsPartitionedBy, IsPartitionPoint, IsPermutation, IsSorted, IsStrictlySortedBy}
use Rattle.std.specs.Ordering.{is_eq, is_lt}
use Rattle.std.specs.declared.cmp.Ordering.{Ordering}
use Rattle.std.specs.declared.cmp.Ordering.TheVariants.{Less, Equal, Greater}
use Rattle.std.proofs.lemmas.Bool.{cases_eq, cases_lt}
use Rattle.std.proofs.lemmas.Cmp.{eq_by_cmp_equiv, tied_itself}
use Rattle.std.proofs.lemmas.List.Elements.{Contains-append_left, Contains-push, Contains-push_cases}
use Rattle.std.proofs.lemmas.List.Kept.{Contains-dedup, IsStrictlySortedBy-dedup}
use Rattle.std.proofs.lemmas.List.Sorted.{Contains-permutation}
use Rattle.std.proofs.lemmas.Map.Keys.{Less-from_sorted, sorted_tail}
use Rattle.wy_static.specs.declared.point.Point.{Point}
use Rattle.wy_static.specs.declared.point.Link.{Link}
use Rattle.wy_static.specs.Order.{point_cmp}
use Rattle.wy_static.proofs.Orders.{point_total, same_points}
use Rattle.wy_paths.specs.Numbers.{ArePoints, HasEnds, IsInOrder, point_number}
use Rattle.wy_paths.proofs.Sorting.{in_head}
use Rattle.wy_paths.proofs.Spreading.{nothing_in}

-- ---- ends

pub no_ends : (start goal : Point) → HasEnds [] start goal (start ∷ goal ∷ [])
no_ends start goal = record {
  has_start = in_head start (goal ∷ []);
  has_goal = Contains-push (start ∷ []) goal;
  ends = λ l i. nothing_in l i;
}

pub more_ends : (links : List Link) (start goal : Point) (points : List Point) (l : Link) → HasEnds links start goal points → HasEnds (links ++ l ∷ []) start goal ((points ++ l.from ∷ []) ++ l.to ∷ [])
more_ends links start goal points l h = record {
  has_start = still start h.has_start;
  has_goal = still goal h.has_goal;
  ends = λ k i. ⊎_elim
      (λ (old : Contains links k). (still k.from (h.ends k old).0, still k.to (h.ends k old).1))
      (λ (new : l ≡ k). subst (λ (x : Link). Contains ((points ++ l.from ∷ []) ++ l.to ∷ []) x.from × Contains ((points ++ l.from ∷ []) ++ l.to ∷ []) x.to) new
      (Contains-append_left (points ++ l.from ∷ []) (l.to ∷ []) l.from (Contains-push points l.from), Contains-push (points ++ l.from ∷ []) l.to))
      (Contains-push_cases links l k i);
}
  where
    still : (q : Point) → Contains points q → Contains ((points ++ l.from ∷ []) ++ l.to ∷ []) q
    still q i = Contains-append_left (points ++ l.from ∷ []) (l.to ∷ []) q (Contains-append_left points (l.from ∷ []) q i)

-- ---- in order, and each once

abbrev pub ties : Point → Point → Bool
ties a b = is_eq (point_cmp a b)

equal_from_test : (r : Ordering) → is_eq r ≡ true → r ≡ Equal
equal_from_test Less h = absurd (cc)
equal_from_test Equal h = refl
equal_from_test Greater h = absurd (cc)

pub points_ready : (links : List Link) (start goal : Point) (xs ys zs : List Point) → HasEnds links start goal xs → IsPermutation xs ys → IsSorted point_cmp ys → zs ≡ dedup ties ys → ArePoints links start goal zs
points_ready links start goal xs ys zs h moved up is = record {
  there = record { has_start = still start h.has_start; has_goal = still goal h.has_goal; ends = λ l i. (still l.from (h.ends l i).0, still l.to (h.ends l i).1) };
  in_order = subst (IsStrictlySortedBy point_cmp) (sym is) (IsStrictlySortedBy-dedup point_total (λ x y. refl) ys up);
}
  where
    still : (q : Point) → Contains xs q → Contains zs q
    still q i = subst (λ l. Contains l q) (sym is) (Contains-dedup (eq_by_cmp_equiv point_total) (λ x y e. same_points x y (equal_from_test (point_cmp x y) e)) ys q (Contains-permutation xs ys q moved i))

-- ---- numbers

lt_from_less : (r : Ordering) → r ≡ Less → is_lt r ≡ true
lt_from_less r e = ap is_lt e

less_from_test : (r : Ordering) → is_lt r ≡ true → r ≡ Less
less_from_test Less h = refl
less_from_test Equal h = absurd (cc)
less_from_test Greater h = absurd (cc)

clash : (b : Bool) {A : Type 0} → b ≡ true → b ≡ false → A
clash b h k = absurd (cc)

never_below_itself : (q : Point) → is_lt (point_cmp q q) ≡ false
never_below_itself q = ap is_lt (tied_itself point_total q)

-- those that are below a point come first
pub parted : (points : List Point) (q : Point) → IsInOrder points → IsPartitionedBy (λ (x : Point). is_lt (point_cmp x q)) points
parted points q up = λ i j d le lt below. ⊎_elim
    (λ (e : i ≡ j). subst (λ k. is_lt (point_cmp (get_or points k d) q) ≡ true) (sym e) below)
    (λ ne. lt_from_less (point_cmp (get_or points i d) q) (point_total.trans (get_or points i d) (get_or points j d) q (Less-from_sorted point_cmp points i j d up (omega (arith, ne)) lt) (less_from_test (point_cmp (get_or points j d) q) below)))
    (cases_eq i j)

-- a place at which a point stands is its number
pub place_is : (points : List Point) (q : Point) (k : ℕ) → IsInOrder points → k < length points → get_or points k q ≡ q → point_number points q ≡ k
unfolding point_number
place_is [] q k up lt at = absurd (omega arith)
place_is (x ∷ xs) q zero up lt at = ap (λ (r : Ordering). cond (is_eq r) zero (suc (point_number xs q))) (ap (λ y. point_cmp y q) at ∙ tied_itself point_total q)
place_is (x ∷ xs) q (suc k) up lt at =
    let less : point_cmp x q ≡ Less = ap (point_cmp x) (sym at) ∙ Less-from_sorted point_cmp (x ∷ xs) 0 (suc k) q up (omega arith) lt in
    ap (λ (r : Ordering). cond (is_eq r) zero (suc (point_number xs q))) less ∙ ap suc (place_is xs q k (sorted_tail point_cmp x xs up) (omega arith) at)

pub number_is : (points : List Point) (q : Point) (i : ℕ) → IsInOrder points → Contains points q
    → IsPartitionPoint (λ (x : Point). is_lt (point_cmp x q) ≡ true) (λ (x : Point). is_lt (point_cmp x q) ≡ false) points i
    → (i ≡ point_number points q) × (i < length points)
number_is points q i up there part =
    let k = there.0 in
    let upto : i ≤ k = ⊎_elim (λ (lt : k < i). clash (is_lt (point_cmp (get_or points k q) q)) (part.0 k q (omega arith) lt) (ap (λ y. is_lt (point_cmp y q)) there.2 ∙ never_below_itself q)) (λ (le : i ≤ k). le) (cases_lt k i) in
    let from : k ≤ i = ⊎_elim
    (λ (lt : i < k). clash (is_lt (point_cmp (get_or points i q) q))
    (lt_from_less (point_cmp (get_or points i q) q) (ap (point_cmp (get_or points i q)) (sym there.2) ∙ Less-from_sorted point_cmp points i k q up lt there.1))
    (part.1 i q (omega arith) (omega (arith, there.1))))
    (λ (le : k ≤ i). le) (cases_lt i k) in
    let same : i ≡ k = omega arith in
    (same ∙ sym (place_is points q k up there.1 there.2), omega (arith, there.1))

-- the point of a number
pub point_at : (points : List Point) (q d : Point) → IsInOrder points → Contains points q → get_or points (point_number points q) d ≡ q
point_at points q d up there = ap (λ k. get_or points k d) (place_is points q there.0 up there.1 there.2) ∙ default points there.0 there.1 ∙ there.2
  where
    default : (xs : List Point) (k : ℕ) → k < length xs → get_or xs k d ≡ get_or xs k q
    default [] k lt = absurd (omega arith)
    default (x ∷ xs) zero lt = refl
    default (x ∷ xs) (suc k) lt = default xs k (omega arith)

pub place_within : (points : List Point) (q : Point) → IsInOrder points → Contains points q → point_number points q < length points
place_within points q up there = omega (arith, place_is points q there.0 up there.1 there.2, there.1)
