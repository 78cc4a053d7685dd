-- What the searches between numbers find is what the definition says of points.
use Rattle.std.proofs.Common.{◌≡◌, ◌+◌, ◌<◌, ◌∙◌, ◌++◌, ◌∷◌, [], ⊎_elim, ℕ, Bool, true, false, not, cond, List, length, get_or, map, replicate, refl, sym, ap, ap₂, subst, arith}
use Rattle.std.specs.Prelude.{◌&&◌, filter}
use Rattle.std.specs.List.{Contains}
use Rattle.std.proofs.lemmas.Bool.{and_parts}
use Rattle.std.proofs.lemmas.List.{get_or-map, get_or-replicate, length-map}
use Rattle.wy_static.specs.declared.point.Point.{Point}
use Rattle.wy_static.specs.declared.point.Point.TheVariants as point
use Rattle.wy_static.specs.declared.point.LinkKind.TheVariants as kind
use Rattle.wy_static.specs.declared.point.Link.{Link}
use Rattle.wy_paths.specs.declared.graph.Edge.{Edge}
use Rattle.wy_paths.specs.declared.search.Found.{Found}
use Rattle.wy_paths.specs.Graph.{along, edge, here, IsMarked, IsSpread, IsWay}
use Rattle.wy_paths.proofs.Numbering.{place_within, point_at}
use Rattle.wy_paths.proofs.Sorting.{in_cases, in_head, in_tail}
use Rattle.wy_paths.proofs.Spreading.{nothing_in}
use Rattle.std.specs.List.Sorted.{IsPermutation, IsSorted, IsStrictlySortedBy}
use Rattle.std.specs.List.{dedup}
use Rattle.std.specs.Ordering.{is_eq}
use Rattle.std.specs.declared.cmp.Ordering.{Ordering}
use Rattle.std.specs.declared.cmp.Ordering.TheVariants.{Less, Equal, Greater}
use Rattle.std.proofs.lemmas.Cmp.{eq_by_cmp_equiv}
use Rattle.std.proofs.lemmas.List.Kept.{Contains-dedup, Contains-from_dedup, IsStrictlySortedBy-dedup}
use Rattle.std.proofs.lemmas.List.Sorted.{Contains-permutation, IsPermutation-sym}
use Rattle.wy_paths.specs.Frontier.{AreFrontier, IsFrontier, IsUnmet}
use Rattle.wy_paths.specs.Leads.{Leads}
use Rattle.wy_paths.specs.Numbers.{ArePoints, edge_of, is_picked, IsFound, point_number, told, turned}
use Rattle.wy_paths.specs.Order.{item_cmp}
use Rattle.wy_paths.proofs.Chaining.{leads_on}
use Rattle.wy_paths.proofs.Numbering.{place_within, point_at}
use Rattle.wy_paths.proofs.Orders.{items_apart, items_total}

-- ---- lists

pub in_map : {X Y : Type 0} (f : X → Y) (xs : List X) (x : X) → Contains xs x → Contains (map f xs) (f x)
in_map f [] x i = nothing_in x i
in_map f (y ∷ ys) x i = ⊎_elim
    (λ (e : y ≡ x). subst (λ z. Contains (f y ∷ map f ys) (f z)) e (in_head (f y) (map f ys)))
    (λ (j : Contains ys x). in_tail (f y) (f x) (map f ys) (in_map f ys x j))
    (in_cases y x ys i)

pub from_map : {X Y : Type 0} (f : X → Y) (xs : List X) (y : Y) → Contains (map f xs) y → (x : X) × Contains xs x × (f x ≡ y)
from_map f [] y i = nothing_in y i
from_map f (x ∷ xs) y i = ⊎_elim
    (λ (e : f x ≡ y). (x, in_head x xs, e))
    (λ (j : Contains (map f xs) y). let h = from_map f xs y j in (h.0, in_tail x h.0 xs h.1, h.2))
    (in_cases (f x) y (map f xs) i)

kept_one : (test : Link → Bool) (l : Link) (ls : List Link) → test l ≡ true → Contains (filter test (l ∷ ls)) l
kept_one test l ls h = subst (λ b. Contains (cond b (l ∷ filter test ls) (filter test ls)) l) (sym h) (in_head l (filter test ls))

kept_more : (test : Link → Bool) (k l : Link) (ls : List Link) (b : Bool) → Contains (filter test ls) l → Contains (cond b (k ∷ filter test ls) (filter test ls)) l
kept_more test k l ls true i = in_tail k l (filter test ls) i
kept_more test k l ls false i = i

pub in_filter : (test : Link → Bool) (ls : List Link) (l : Link) → Contains ls l → test l ≡ true → Contains (filter test ls) l
in_filter test [] l i h = nothing_in l i
in_filter test (k ∷ ls) l i h = ⊎_elim
    (λ (e : k ≡ l). subst (Contains (filter test (k ∷ ls))) e (kept_one test k ls (ap test e ∙ h)))
    (λ (j : Contains ls l). kept_more test k l ls (test k) (in_filter test ls l j h))
    (in_cases k l ls i)

from_kept : (test : Link → Bool) (k l : Link) (ls : List Link) (b : Bool) → test k ≡ b → (Contains (filter test ls) l → Contains ls l × (test l ≡ true))
    → Contains (cond b (k ∷ filter test ls) (filter test ls)) l → Contains (k ∷ ls) l × (test l ≡ true)
from_kept test k l ls true e more i = ⊎_elim
    (λ (h : k ≡ l). (subst (Contains (k ∷ ls)) h (in_head k ls), ap test (sym h) ∙ e))
    (λ (h : Contains (filter test ls) l). let r = more h in (in_tail k l ls r.0, r.1))
    (in_cases k l (filter test ls) i)
from_kept test k l ls false e more i = let r = more i in (in_tail k l ls r.0, r.1)

pub from_filter : (test : Link → Bool) (ls : List Link) (l : Link) → Contains (filter test ls) l → Contains ls l × (test l ≡ true)
from_filter test [] l i = nothing_in l i
from_filter test (k ∷ ls) l i = from_kept test k l ls (test k) refl (from_filter test ls l) i

-- ---- edges in another order

way_same : (edges moved : List Edge) (open' : List Bool) (start a : ℕ) → IsPermutation edges moved → IsWay moved open' start a → IsWay edges open' start a
way_same edges moved open' start _ p (here h) = here h
way_same edges moved open' start _ p (along a b w e h) = along a b (way_same edges moved open' start a p w) (Contains-permutation moved edges (edge a b) (IsPermutation-sym edges moved p) e) h

pub spread_same : (edges moved : List Edge) (open' : List Bool) (start : ℕ) (marks : List Bool) → IsPermutation edges moved → IsSpread moved open' start marks → IsSpread edges open' start marks
spread_same edges moved open' start marks p s = record {
  sized = s.sized;
  begun = s.begun;
  closed = λ a b h e o. s.closed a b h (Contains-permutation edges moved (edge a b) p e) o;
  ways = λ a h. way_same edges moved open' start a p (s.ways a h);
}

-- ---- the frontier, by the numbers of points

abbrev pub some_link : Link
some_link = record { kind = kind.Into; from = point.Start; to = point.Start; site = 0 }

module _ (links : List Link) (ex : Point → Bool) (start goal : Point) (points : List Point) (placed : ArePoints links start goal points) where
  abbrev at : Point → ℕ
  at = point_number points

  abbrev edges : List Edge
  edges = map (edge_of points) links

  abbrev Idle : Link → Type 0
  Idle = IsUnmet (Contains links) ex

  same_place : (q r : Point) → Contains points q → Contains points r → at q ≡ at r → q ≡ r
  same_place q r i j e = sym (point_at points q point.Start placed.in_order i) ∙ ap (λ k. get_or points k point.Start) e ∙ point_at points r point.Start placed.in_order j

  ex_at : (q : Point) → Contains points q → get_or (map ex points) (at q) false ≡ ex q
  ex_at q i = get_or-map ex points (at q) point.Start false (place_within points q placed.in_order i) ∙ ap ex (point_at points q point.Start placed.in_order i)

  idle_at : (q : Point) → Contains points q → get_or (map not (map ex points)) (at q) false ≡ not (ex q)
  idle_at q i = get_or-map not (map ex points) (at q) false false (subst (λ k. at q < k) (sym (length-map points ex)) (place_within points q placed.in_order i)) ∙ ap not (ex_at q i)

  no_longer : (b : Bool) → not b ≡ true → b ≡ false
  no_longer true h = sym h
  no_longer false h = refl

  -- ---- from the start

  record Arrives (a : ℕ) : Type 0 where
    q : Point
    number : at q ≡ a
    there : Contains points q
    chain : List Link
    leads : Leads (Contains links) start chain q

  arrives : (open' : List Bool) (a : ℕ) → IsWay edges open' (at start) a → Arrives a
  arrives open' _ (here h) = record { q = start; number = refl; there = placed.there.has_start; chain = []; leads = refl }
  arrives open' _ (along a b w e h) =
      let before = arrives open' a w in
      let own = from_map (edge_of points) links (edge a b) e in
      let ends = placed.there.ends own.0 own.1 in
      let from : before.q ≡ own.0.from = same_place before.q own.0.from before.there ends.0 (before.number ∙ sym (ap (λ (x : Edge). x.from) own.2)) in
      record {
        q = own.0.to;
        number = ap (λ (x : Edge). x.to) own.2;
        there = ends.1;
        chain = before.chain ++ own.0 ∷ [];
        leads = leads_on (Contains links) start before.chain own.0 (subst (Leads (Contains links) start before.chain) from before.leads) own.1;
      }

  marks_on : (marks : List Bool) → IsSpread edges (replicate (length points) true) (at start) marks → (q r : Point) (ls : List Link) → Leads (Contains links) q ls r → IsMarked marks (at q) → IsMarked marks (at r)
  marks_on marks s q r [] c h = subst (λ x. IsMarked marks (at x)) c h
  marks_on marks s q r (l ∷ ls) c h =
      marks_on marks s l.to r ls c.2
      (s.closed (at l.from) (at l.to) (subst (λ x. IsMarked marks (at x)) (sym c.1) h) (in_map (edge_of points) links l c.0)
      (get_or-replicate (length points) (at l.to) true false (place_within points l.to placed.in_order (placed.there.ends l c.0).1)))

  -- ---- to the goal

  record Leaves (a : ℕ) : Type 0 where
    q : Point
    number : at q ≡ a
    there : Contains points q
    never : ex q ≡ false
    chain : List Link
    leads : Leads Idle q chain goal

  leaves : ex goal ≡ false → (a : ℕ) → IsWay (map turned edges) (map not (map ex points)) (at goal) a → Leaves a
  leaves never _ (here h) = record { q = goal; number = refl; there = placed.there.has_goal; never = never; chain = []; leads = refl }
  leaves never _ (along a b w e h) =
      let behind = leaves never a w in
      let back = from_map turned edges (edge a b) e in
      let own = from_map (edge_of points) links back.0 back.1 in
      let ends = placed.there.ends own.0 own.1 in
      let to : behind.q ≡ own.0.to = same_place behind.q own.0.to behind.there ends.1 (behind.number ∙ sym (ap (λ (x : Edge). x.from) back.2) ∙ sym (ap (λ (x : Edge). x.to) own.2)) in
      let from : at own.0.from ≡ b = ap (λ (x : Edge). x.from) own.2 ∙ ap (λ (x : Edge). x.to) back.2 in
      record {
        q = own.0.from;
        number = from;
        there = ends.0;
        never = no_longer (ex own.0.from) (sym (idle_at own.0.from ends.0) ∙ ap (λ k. get_or (map not (map ex points)) k false) from ∙ h);
        chain = own.0 ∷ behind.chain;
        leads = ((own.1, ap ex (sym to) ∙ behind.never), refl, subst (λ x. Leads Idle x behind.chain goal) to behind.leads);
      }

  marks_back : (marks : List Bool) → IsSpread (map turned edges) (map not (map ex points)) (at goal) marks
      → (q : Point) (ls : List Link) → Leads Idle q ls goal → ex q ≡ false → Contains points q → IsMarked marks (at q)
  marks_back marks s q [] c never i =
      subst (λ x. IsMarked marks (at x)) (sym c) (s.begun (idle_at goal placed.there.has_goal ∙ ap not (ap ex (sym c) ∙ never)))
  marks_back marks s q (l ∷ ls) c never i =
      let own : Contains links l = c.0.0 in
      let ends = placed.there.ends l own in
      let before : IsMarked marks (at l.to) = marks_back marks s l.to ls c.2 c.0.1 ends.1 in
      subst (λ x. IsMarked marks (at x)) c.1
      (s.closed (at l.to) (at l.from) before (in_map turned edges (edge_of points l) (in_map (edge_of points) links l own)) (idle_at l.from ends.0 ∙ ap not (ap ex c.1 ∙ never)))

module _ (links : List Link) (met : Point → Bool) (start goal : Point) (found : Found) (f : IsFound links start goal found)
    (is : found.begun.items ≡ map met found.points.items) (never : met goal ≡ false) where
  abbrev points : List Point
  points = found.points.items

  leading : IsSpread (map turned (map (edge_of points) links)) (map not (map met points)) (point_number points goal) found.leading.items
  leading = subst (λ b. IsSpread (map turned (map (edge_of points) links)) (map not b) (point_number points goal) found.leading.items) is f.leading

  begun_at : (q : Point) → Contains points q → told points found.begun.items q ≡ met q
  begun_at q i = ap (λ b. get_or b (point_number points q) false) is ∙ ex_at links met start goal points f.points q i

  start_marked : IsMarked found.reached.items (point_number points start)
  start_marked = f.reached.begun (get_or-replicate (length points) (point_number points start) true false (place_within points start f.points.in_order f.points.there.has_start))

  pub picked_frontier : (l : Link) → Contains links l → is_picked found l ≡ true → IsFrontier (Contains links) met start goal l
  picked_frontier l i h =
      let ends = f.points.there.ends l i in
      let parts = and_parts (told points found.begun.items l.from) (told points found.reached.items l.from && told points found.leading.items l.to) h in
      let more = and_parts (told points found.reached.items l.from) (told points found.leading.items l.to) parts.1 in
      let to = arrives links met start goal points f.points (replicate (length points) true) (point_number points l.from) (f.reached.ways (point_number points l.from) more.0) in
      let on = leaves links met start goal points f.points never (point_number points l.to) (leading.ways (point_number points l.to) more.1) in
      let from : to.q ≡ l.from = same_place links met start goal points f.points to.q l.from to.there ends.0 to.number in
      let target : on.q ≡ l.to = same_place links met start goal points f.points on.q l.to on.there ends.1 on.number in
      record {
        is_link = i;
        begun = sym (begun_at l.from ends.0) ∙ parts.0;
        before = to.chain;
        reached = subst (Leads (Contains links) start to.chain) from to.leads;
        never = ap met (sym target) ∙ on.never;
        onward = on.chain;
        leads = subst (λ x. Leads (IsUnmet (Contains links) met) x on.chain goal) target on.leads;
      }

  pub frontier_picked : (l : Link) → IsFrontier (Contains links) met start goal l → Contains links l × (is_picked found l ≡ true)
  frontier_picked l b =
      let i : Contains links l = b.is_link in
      let ends = f.points.there.ends l i in
      let reached : told points found.reached.items l.from ≡ true = marks_on links met start goal points f.points found.reached.items f.reached start l.from b.before b.reached start_marked in
      let on : told points found.leading.items l.to ≡ true = marks_back links met start goal points f.points found.leading.items leading l.to b.onward b.leads b.never ends.1 in
      (i, ap₂ (λ x y. x && y) (begun_at l.from ends.0 ∙ b.begun) (ap₂ (λ x y. x && y) reached on))

-- ---- in the order of items

abbrev pub ties : Link → Link → Bool
ties a b = is_eq (item_cmp a b)

equal_from_test : (r : Ordering) → is_eq r ≡ true → r ≡ Equal
equal_from_test Less h = absurd (cc)
equal_from_test Equal h = refl
equal_from_test Greater h = absurd (cc)

from_dedup : (ls : List Link) (l : Link) → Contains (dedup ties ls) l → Contains ls l
from_dedup ls l i = Contains-from_dedup ties ls l i

pub are_frontier : (links : List Link) (met : Point → Bool) (start goal : Point) (picked sorted once : List Link) (found : Found) → IsFound links start goal found
    → found.begun.items ≡ map met found.points.items → met goal ≡ false → picked ≡ filter (is_picked found) links
    → IsPermutation picked sorted → IsSorted item_cmp sorted → once ≡ dedup ties sorted → AreFrontier (Contains links) met start goal once
are_frontier links met start goal picked sorted once found f begun never is moved order single = record {
  exact = λ l. (
    λ i. let own = from_filter (is_picked found) links l (subst (λ ls. Contains ls l) is (Contains-permutation sorted picked l (IsPermutation-sym picked sorted moved) (from_dedup sorted l (subst (λ ls. Contains ls l) single i)))) in
        picked_frontier links met start goal found f begun never l own.0 own.1,
    λ b. let own = frontier_picked links met start goal found f begun never l b in
        subst (λ ls. Contains ls l) (sym single) (Contains-dedup (eq_by_cmp_equiv items_total) (λ x y e. items_apart x y (equal_from_test (item_cmp x y) e)) sorted l
        (Contains-permutation picked sorted l moved (subst (λ ls. Contains ls l) (sym is) (in_filter (is_picked found) links l own.0 own.1)))),
  );
  in_order = subst (IsStrictlySortedBy item_cmp) (sym single) (IsStrictlySortedBy-dedup items_total (λ x y. refl) sorted order);
}
