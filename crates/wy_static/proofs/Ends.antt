-- The links in order that end at one point stand side by side.
use Rattle.std.proofs.Common.{◌≡◌, ℕ, ◌+◌, ◌-◌, ◌<◌, ◌≤◌, Bool, true, false, ltb, leb, List, length, take, drop, get_or, refl, sym, ap, ◌∙◌, subst, ⊎_elim, arith, length-drop}
use Rattle.std.specs.Prelude.{◌↔◌}
use Rattle.std.specs.List.{Contains}
use Rattle.std.specs.List.Sorted.{IsNonDecreasingBy, IsPartitionedBy, IsPartitionPoint, IsSortedBy, IsStrictlySortedBy}
use Rattle.std.specs.Ordering.{is_lt, is_le, ordering_index, ordering_reverse, ordering_then}
use Rattle.std.specs.declared.cmp.Ordering.{Ordering}
use Rattle.std.specs.declared.cmp.Ordering.TheVariants.{Less, Equal, Greater}
use Rattle.std.proofs.lemmas.Bool.{cases_lt}
use Rattle.std.proofs.lemmas.List.{get_or-take, get_or-drop, length-take}
use Rattle.std.proofs.lemmas.List.Sorted.{searchable_from_sorted, IsNonDecreasingBy-drop, IsPartitionedBy-ltb, IsPartitionedBy-leb}
use Rattle.std.proofs.lemmas.Map.Keys.{Less-from_sorted, sorted_from_all_adjacent}
use Rattle.wy_static.specs.declared.point.Point.{Point}
use Rattle.wy_static.specs.declared.point.Link.{Link}
use Rattle.wy_kernel.specs.Program.{Program}
use Rattle.wy_static.specs.Links.{AreLinks, AreLinksInto}
use Rattle.wy_static.specs.Order.{point_cmp, link_cmp}
use Rattle.wy_static.proofs.Orders.{point_total, link_total, same_points, itself}

-- ---- targets don't fall

first_decides : (o p q s r : Ordering) → o ≡ ordering_reverse r → ordering_then (ordering_then (ordering_then o p) q) s ≡ Less → is_lt r ≡ false
first_decides o p q s Less e h = let g : ordering_then (ordering_then (ordering_then Greater p) q) s ≡ Less = sym (ap (λ x. ordering_then (ordering_then (ordering_then x p) q) s) e) ∙ h in cc
first_decides o p q s Equal e h = refl
first_decides o p q s Greater e h = refl

pub targets_rise : (links : List Link) → IsStrictlySortedBy link_cmp links → IsSortedBy (λ a b. is_lt (point_cmp a.to b.to)) links
targets_rise links sorted = λ k d low here. first_decides _ _ _ _ _ (point_total.antisymm (get_or links k d).to (get_or links (k + 1) d).to) (Less-from_sorted link_cmp links k (k + 1) d sorted (omega arith) here)

-- where a link's target stands beside a point
place : Point → Link → ℕ
place q l = ordering_index (point_cmp l.to q)

rises : (q : Point) (links : List Link) → IsStrictlySortedBy link_cmp links → IsNonDecreasingBy (place q) links
unfolding place
rises q links sorted = searchable_from_sorted point_total (λ (l : Link). l.to) links q (targets_rise links sorted)

abbrev pub is_below : Point → Link → Bool
is_below q l = is_lt (point_cmp l.to q)

abbrev pub is_upto : Point → Link → Bool
is_upto q l = is_le (point_cmp l.to q)

below_one : (o : Ordering) → ltb (ordering_index o) 1 ≡ is_lt o
below_one Less = refl
below_one Equal = refl
below_one Greater = refl

upto_one : (o : Ordering) → leb (ordering_index o) 1 ≡ is_le o
upto_one Less = refl
upto_one Equal = refl
upto_one Greater = refl

pub cut_below : (q : Point) (links : List Link) → IsStrictlySortedBy link_cmp links → IsPartitionedBy (is_below q) links
unfolding place
cut_below q links sorted = subst (λ (p : Link → Bool). IsPartitionedBy p links) (λ i l. below_one (point_cmp l.to q) i) (IsPartitionedBy-ltb (place q) links 1 (rises q links sorted))

pub cut_upto : (q : Point) (links : List Link) (first : ℕ) → IsStrictlySortedBy link_cmp links → IsPartitionedBy (is_upto q) (drop first links)
unfolding place
cut_upto q links first sorted = subst (λ (p : Link → Bool). IsPartitionedBy p (drop first links)) (λ i l. upto_one (point_cmp l.to q) i) (IsPartitionedBy-leb (place q) (drop first links) 1 (IsNonDecreasingBy-drop (place q) first links (rises q links sorted)))

-- ---- the part between two cuts

-- from first on many links end at the point, and no other does
pub record IsPartAt (q : Point) (links : List Link) (first many : ℕ) : Type 0 where
  pub first_within : first ≤ length links
  pub many_within : many ≤ length (drop first links)
  pub below : IsPartitionPoint (λ l. is_below q l ≡ true) (λ l. is_below q l ≡ false) links first
  pub upto : IsPartitionPoint (λ l. is_upto q l ≡ true) (λ l. is_upto q l ≡ false) (drop first links) many

part_at : {X : Type 0} (xs : List X) (first many k : ℕ) (d : X) → k < many → get_or (take many (drop first xs)) k d ≡ get_or xs (first + k) d
part_at xs first many k d h = get_or-take many (drop first xs) k d h ∙ get_or-drop first xs k d

part_length : {X : Type 0} (xs : List X) (first many : ℕ) → first ≤ length xs → many ≤ length (drop first xs) → length (take many (drop first xs)) ≡ many
part_length xs first many f m = length-take many (drop first xs) ∙ omega (arith, m)

neither : (o : Ordering) → is_lt o ≡ false → is_le o ≡ true → o ≡ Equal
neither Less a b = cc
neither Equal a b = refl
neither Greater a b = cc

-- a link of the part ends at the point
ends_there : (q : Point) (links : List Link) (first many : ℕ) → IsPartAt q links first many → (k : ℕ) (d : Link) → k < many → (get_or links (first + k) d).to ≡ q
ends_there q links first many part k d h =
    let place : first + k < length links = omega (arith, h, part.many_within, length-drop first links) in
    let above = part.below.1 (first + k) d (omega arith) place in
    let upto : is_upto q (get_or links (first + k) d) ≡ true = rw (← get_or-drop first links k d) (part.upto.0 k d (omega arith) h) in
    same_points _ _ (neither _ above upto)

at_itself : (q r : Point) → q ≡ r → point_cmp q r ≡ Equal
at_itself q r e = rw e (itself r)

-- a link that ends at the point stands in the part
stands_in : (q : Point) (links : List Link) (first many : ℕ) → IsPartAt q links first many → (k : ℕ) (l : Link) → k < length links → get_or links k l ≡ l → l.to ≡ q → (first ≤ k) × (k - first < many)
stands_in q links first many part k l here is e =
    let equal : point_cmp l.to q ≡ Equal = at_itself l.to q e in
    let from_first : first ≤ k = ⊎_elim (λ (lt : k < first). let b : is_below q l ≡ true = rw is at (part.below.0 k l (omega arith) lt) in let c : is_lt Equal ≡ true = rw equal at b in cc) (λ (le : first ≤ k). le) (cases_lt k first) in
    let read : get_or (drop first links) (k - first) l ≡ l = get_or-drop first links (k - first) l ∙ ap (λ i. get_or links i l) (omega arith) ∙ is in
    let within : k - first < length (drop first links) = omega (arith, length-drop first links) in
    (from_first, ⊎_elim (λ (lt : k - first < many). lt) (λ (le : many ≤ k - first). let b : is_upto q l ≡ false = rw read at (part.upto.1 (k - first) l le within) in let c : is_le Equal ≡ false = rw equal at b in cc) (cases_lt (k - first) many))

pub part_exact : (q : Point) (links : List Link) (first many : ℕ) → IsPartAt q links first many → (l : Link) → Contains (take many (drop first links)) l ↔ (Contains links l × (l.to ≡ q))
part_exact q links first many part l =
    let long = part_length links first many part.first_within part.many_within in (
      λ c. let k = c.0 in
          let lt : k < many = omega (arith, c.1, long) in
          let read : get_or links (first + k) l ≡ l = sym (part_at links first many k l lt) ∙ c.2 in
          let place : first + k < length links = omega (arith, lt, part.many_within, length-drop first links) in
          ((first + k, place, read), sym (ap (λ (x : Link). x.to) read) ∙ ends_there q links first many part k l lt),
      λ c. let k = c.0.0 in
          let stands = stands_in q links first many part k l c.0.1 c.0.2 c.1 in
          (k - first, omega (arith, long, stands.1), part_at links first many (k - first) l stands.1 ∙ ap (λ i. get_or links i l) (omega (arith, stands.0)) ∙ c.0.2),
    )

pub part_in_order : (links : List Link) (first many : ℕ) (d : Link) → first ≤ length links → many ≤ length (drop first links) → IsStrictlySortedBy link_cmp links → IsStrictlySortedBy link_cmp (take many (drop first links))
part_in_order links first many d f m sorted =
    let long = part_length links first many f m in
    sorted_from_all_adjacent link_total (take many (drop first links)) d
    (λ k here.
    let low : k < many = omega (arith, here, long) in
    let high : k + 1 < many = omega (arith, here, long) in
    let place : first + (k + 1) < length links = omega (arith, high, m, length-drop first links) in
    rw (part_at links first many k d low, part_at links first many (k + 1) d high) (Less-from_sorted link_cmp links (first + k) (first + (k + 1)) d sorted (omega arith) place))

pub links_into : (p : Program) (q : Point) (links : List Link) (first many : ℕ) (d : Link) → AreLinks p links → IsPartAt q links first many → AreLinksInto p q (take many (drop first links))
links_into p q links first many d all part = record {
  exact = λ l.
      let here = part_exact q links first many part l in
      let there = all.exact l in
      (λ h. let r = here.0 h in (there.0 r.0, r.1), λ h. here.1 (there.1 h.0, h.1));
  in_order = part_in_order links first many d part.first_within part.many_within all.in_order;
}
