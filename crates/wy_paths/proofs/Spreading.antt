-- What each step of a search keeps.
use Rattle.std.proofs.Common.{◌≡◌, ◌⊎◌, ◌+◌, ◌<◌, ◌≤◌, ◌∙◌, ◌++◌, ◌∷◌, [], inl, inr, ⊎_elim, ℕ, zero, suc, Bool, true, false, List, length, get_or, set, replicate, refl, sym, ap, subst, arith, get_or-set_same, get_or-set_other, length-set, length-append, length-take, length-drop, get_or-take, get_or-drop, take, drop, ltb, leb, ◌-◌}
use Rattle.std.proofs.lemmas.Bool.{cases_eq, cases_lt, leb-false, leb-true, ltb-false, ltb-true}
use Rattle.std.proofs.lemmas.List.{length-replicate, map-append, take_more}
use Rattle.std.proofs.lemmas.List.Elements.{All-contains, Contains-get_or, Contains-append_cases, Contains-append_left, Contains-append_right, Contains-push, Contains-push_cases}
use Rattle.std.specs.List.{Contains}
use Rattle.std.specs.List.Sorted.{IsPartitionPoint}
use Rattle.std.specs.Prelude.{◌↔◌, All}
use Rattle.wy_paths.specs.declared.graph.Edge.{Edge}
use Rattle.wy_paths.specs.declared.graph.Walk.{Walk}
use Rattle.wy_paths.specs.Graph.{HasVisited, IsMarked, IsSpread, IsSpreading, IsWay, along, edge, ends_of, here, unmarked}

pub nothing_in : {X A : Type 0} (x : X) → Contains [] x → A
nothing_in x h = absurd (omega (arith, h.1))

pub only_in : {X : Type 0} (x y : X) → Contains (x ∷ []) y → x ≡ y
only_in x y h = ⊎_elim (λ none. nothing_in y none) (λ e. e) (Contains-push_cases [] x y h)

not_both : (b : Bool) {A : Type 0} → b ≡ true → b ≡ false → A
not_both b h k = absurd (cc)

-- ---- marks

pub within_marks : (marks : List Bool) (a : ℕ) → IsMarked marks a → a < length marks
within_marks [] a h = absurd (cc)
within_marks (m ∷ marks) zero h = omega arith
within_marks (m ∷ marks) (suc a) h = let i = within_marks marks a h in omega arith

unmarked_set : (marks : List Bool) (x : ℕ) → x < length marks → get_or marks x false ≡ false → suc (unmarked (set marks x true)) ≡ unmarked marks
unmarked_set [] x lt h = absurd (omega arith)
unmarked_set (true ∷ marks) zero lt h = absurd (cc)
unmarked_set (false ∷ marks) zero lt h = refl
unmarked_set (true ∷ marks) (suc x) lt h = unmarked_set marks x (omega arith) h
unmarked_set (false ∷ marks) (suc x) lt h = ap suc (unmarked_set marks x (omega arith) h)

none_marked : (n a : ℕ) → IsMarked (replicate n false) a → ⊥
none_marked zero a h = cc
none_marked (suc n) zero h = cc
none_marked (suc n) (suc a) h = none_marked n a h

marked_still : (marks : List Bool) (x a : ℕ) → x < length marks → IsMarked marks a → IsMarked (set marks x true) a
marked_still marks x a lt h = ⊎_elim (λ (e : a ≡ x). subst (IsMarked (set marks x true)) (sym e) (get_or-set_same marks x true false lt)) (λ ne. get_or-set_other marks x a true false ne ∙ h) (cases_eq a x)

marked_or_new : (marks : List Bool) (x a : ℕ) → IsMarked (set marks x true) a → IsMarked marks a ⊎ (x ≡ a)
marked_or_new marks x a h = ⊎_elim (λ (e : a ≡ x). inr (sym e)) (λ ne. inl (sym (get_or-set_other marks x a true false ne) ∙ h)) (cases_eq a x)

-- ---- visits

module _ (open' : List Bool) where
  -- a point that is open and was not marked waits now
  pub visited_anew : (x : ℕ) (old new : Walk) → x < length old.marks.items → IsMarked open' x → get_or old.marks.items x false ≡ false
      → new.marks.items ≡ set old.marks.items x true → new.waiting.items ≡ old.waiting.items ++ x ∷ [] → HasVisited open' (x ∷ []) old new
  visited_anew x old new lt is_open fresh marks waiting =
      let marked : IsMarked new.marks.items x = ap (λ m. get_or m x false) marks ∙ get_or-set_same old.marks.items x true false lt in
      let waits : Contains new.waiting.items x = subst (λ w. Contains w x) (sym waiting) (Contains-push old.waiting.items x) in
      record {
        sized = ap length marks ∙ length-set old.marks.items x true;
        left = omega (arith, ap unmarked marks, unmarked_set old.marks.items x lt fresh, ap length waiting, length-append old.waiting.items (x ∷ []));
        stay = λ a h. subst (λ m. IsMarked m a) (sym marks) (marked_still old.marks.items x a lt h);
        marks = λ a h _. subst (IsMarked new.marks.items) (only_in x a h) marked;
        news = λ a h. ⊎_elim (λ (was : IsMarked old.marks.items a). inl was)
            (λ (e : x ≡ a). inr (subst (λ y. Contains (x ∷ []) y × IsMarked open' y × Contains new.waiting.items y) e (Contains-push [] x, is_open, waits)))
            (marked_or_new old.marks.items x a (subst (λ m. IsMarked m a) marks h));
        still = λ a h. subst (λ w. Contains w a) (sym waiting) (Contains-append_left old.waiting.items (x ∷ []) a h);
        waits = λ a h. ⊎_elim (λ (was : Contains old.waiting.items a). inl was) (λ (e : x ≡ a). inr (subst (IsMarked new.marks.items) e marked))
            (Contains-push_cases old.waiting.items x a (subst (λ w. Contains w a) waiting h));
      }

  -- nothing changes at a point that is not open, or was marked
  pub visited_again : (x : ℕ) (w : Walk) → (get_or open' x false ≡ false) ⊎ IsMarked w.marks.items x → HasVisited open' (x ∷ []) w w
  visited_again x w why = record {
    sized = refl;
    left = refl;
    stay = λ a h. h;
    marks = λ a h is_open. ⊎_elim
        (λ (shut : get_or open' x false ≡ false). not_both (get_or open' a false) is_open (ap (λ y. get_or open' y false) (sym (only_in x a h)) ∙ shut))
        (λ (was : IsMarked w.marks.items x). subst (IsMarked w.marks.items) (only_in x a h) was) why;
    news = λ a h. inl h;
    still = λ a h. h;
    waits = λ a h. inl h;
  }

  pub visited_none : (w : Walk) → HasVisited open' [] w w
  visited_none w = record {
    sized = refl;
    left = refl;
    stay = λ a h. h;
    marks = λ a h _. nothing_in a h;
    news = λ a h. inl h;
    still = λ a h. h;
    waits = λ a h. inl h;
  }

  pub visited_more : (xs ys : List ℕ) (old mid new : Walk) → HasVisited open' xs old mid → HasVisited open' ys mid new → HasVisited open' (xs ++ ys) old new
  visited_more xs ys old mid new f s = record {
    sized = s.sized ∙ f.sized;
    left = s.left ∙ f.left;
    stay = λ a h. s.stay a (f.stay a h);
    marks = λ a h is_open. ⊎_elim (λ (i : Contains xs a). s.stay a (f.marks a i is_open)) (λ (i : Contains ys a). s.marks a i is_open) (Contains-append_cases xs ys a h);
    news = λ a h. ⊎_elim
        (λ (was : IsMarked mid.marks.items a). ⊎_elim
        (λ (old' : IsMarked old.marks.items a). inl old')
        (λ (n : Contains xs a × IsMarked open' a × Contains mid.waiting.items a). inr (Contains-append_left xs ys a n.0, n.1, s.still a n.2))
        (f.news a was))
        (λ (n : Contains ys a × IsMarked open' a × Contains new.waiting.items a). inr (Contains-append_right xs ys a n.0, n.1, n.2))
        (s.news a h);
    still = λ a h. s.still a (f.still a h);
    waits = λ a h. ⊎_elim
        (λ (w : Contains mid.waiting.items a). ⊎_elim (λ (o : Contains old.waiting.items a). inl o) (λ (m : IsMarked mid.marks.items a). inr (s.stay a m)) (f.waits a w))
        (λ (m : IsMarked new.marks.items a). inr m)
        (s.waits a h);
  }

-- ---- the search

Contains-ends : (es : List Edge) (a b : ℕ) → Contains es (edge a b) → Contains (ends_of es) b
Contains-ends [] a b h = nothing_in (edge a b) h
Contains-ends (e ∷ es) a b h = ⊎_elim
    (λ (first : Contains (e ∷ []) (edge a b)). subst (Contains (ends_of (e ∷ es))) (ap (λ x. x.to) (only_in e (edge a b) first)) (Contains-append_left (e.to ∷ []) (ends_of es) e.to (Contains-push [] e.to)))
    (λ (rest : Contains es (edge a b)). Contains-append_right (e.to ∷ []) (ends_of es) b (Contains-ends es a b rest))
    (Contains-append_cases (e ∷ []) es (edge a b) h)

ends-Contains : (es : List Edge) (b : ℕ) → Contains (ends_of es) b → (e : Edge) × Contains es e × (e.to ≡ b)
ends-Contains [] b h = nothing_in b h
ends-Contains (e ∷ es) b h = ⊎_elim
    (λ (first : Contains (e.to ∷ []) b). (e, Contains-append_left (e ∷ []) es e (Contains-push [] e), only_in e.to b first))
    (λ (rest : Contains (ends_of es) b). let i = ends-Contains es b rest in (i.0, Contains-append_right (e ∷ []) es i.0 i.1, i.2))
    (Contains-append_cases (e.to ∷ []) (ends_of es) b h)

module _ (edges : List Edge) (open' : List Bool) (start : ℕ) where
  pub spreading_first : (old w : Walk) → old.marks.items ≡ replicate (length open') false → old.waiting.items ≡ [] → HasVisited open' (start ∷ []) old w → IsSpreading edges open' start w
  spreading_first old w marks waiting v =
      let fresh : (a : ℕ) → IsMarked old.marks.items a → ⊥ = λ a h. none_marked (length open') a (subst (λ m. IsMarked m a) marks h) in
      let met : (a : ℕ) → IsMarked w.marks.items a → Contains (start ∷ []) a × IsMarked open' a × Contains w.waiting.items a =
      λ a h. ⊎_elim (λ (was : IsMarked old.marks.items a). absurd (fresh a was)) (λ (n : Contains (start ∷ []) a × IsMarked open' a × Contains w.waiting.items a). n) (v.news a h) in
      record {
        sized = v.sized ∙ ap length marks ∙ length-replicate (length open') false;
        begun = λ h. v.marks start (Contains-push [] start) h;
        closed = λ a b h _ _. inr ((met a h).2);
        ways = λ a h. subst (IsWay edges open' start) (only_in start a ((met a h).0)) (here (subst (IsMarked open') (sym (only_in start a ((met a h).0))) ((met a h).1)));
        waits = λ a h. ⊎_elim (λ (was : Contains old.waiting.items a). nothing_in a (subst (λ l. Contains l a) waiting was)) (λ (m : IsMarked w.marks.items a). m) (v.waits a h);
      }

  -- the edges of a point that waited are followed
  pub spreading_on : (p : ℕ) (es : List Edge) (all old w : Walk) → ((e : Edge) → Contains es e ↔ (Contains edges e × (e.from ≡ p)))
      → old.marks.items ≡ all.marks.items → all.waiting.items ≡ old.waiting.items ++ p ∷ []
      → IsSpreading edges open' start all → HasVisited open' (ends_of es) old w → IsSpreading edges open' start w
  spreading_on p es all old w are marks waiting s v =
      let kept : (a : ℕ) → IsMarked all.marks.items a → IsMarked old.marks.items a = λ a h. subst (λ m. IsMarked m a) (sym marks) h in
      let back : (a : ℕ) → IsMarked old.marks.items a → IsMarked all.marks.items a = λ a h. subst (λ m. IsMarked m a) marks h in
      let marked_p : IsMarked all.marks.items p = s.waits p (subst (λ l. Contains l p) (sym waiting) (Contains-push old.waiting.items p)) in
      record {
        sized = v.sized ∙ ap length marks ∙ s.sized;
        begun = λ h. v.stay start (kept start (s.begun h));
        closed = λ a b h e is_open. ⊎_elim
            (λ (was : IsMarked old.marks.items a). ⊎_elim
            (λ (m : IsMarked all.marks.items b). inl (v.stay b (kept b m)))
            (λ (i : Contains all.waiting.items a). ⊎_elim
            (λ (o : Contains old.waiting.items a). inr (v.still a o))
            (λ (is : p ≡ a). inl (v.marks b (Contains-ends es a b ((are (edge a b)).1 (e, sym is))) is_open))
            (Contains-push_cases old.waiting.items p a (subst (λ l. Contains l a) waiting i)))
            (s.closed a b (back a was) e is_open))
            (λ (n : Contains (ends_of es) a × IsMarked open' a × Contains w.waiting.items a). inr n.2)
            (v.news a h);
        ways = λ a h. ⊎_elim
            (λ (was : IsMarked old.marks.items a). s.ways a (back a was))
            (λ (n : Contains (ends_of es) a × IsMarked open' a × Contains w.waiting.items a).
            let i = ends-Contains es a n.0 in
            let own = (are i.0).0 i.1 in
            along p a (s.ways p marked_p) (subst (λ q. Contains edges (edge q a)) own.1 (subst (λ q. Contains edges (edge i.0.from q)) i.2 own.0)) n.1)
            (v.news a h);
        waits = λ a h. ⊎_elim
            (λ (o : Contains old.waiting.items a). v.stay a (kept a (s.waits a (subst (λ l. Contains l a) (sym waiting) (Contains-append_left old.waiting.items (p ∷ []) a o)))))
            (λ (m : IsMarked w.marks.items a). m)
            (v.waits a h);
      }

  pub spread_at_end : (w : Walk) → w.waiting.items ≡ [] → IsSpreading edges open' start w → IsSpread edges open' start w.marks.items
  spread_at_end w none s = record {
    sized = s.sized;
    begun = s.begun;
    closed = λ a b h e is_open. ⊎_elim (λ (m : IsMarked w.marks.items b). m) (λ (i : Contains w.waiting.items a). nothing_in a (subst (λ l. Contains l a) none i)) (s.closed a b h e is_open);
    ways = s.ways;
  }

-- ---- edges by their first points

module _ (edges : List Edge) (point low high : ℕ)
    (l : IsPartitionPoint (λ (e : Edge). ltb e.from point ≡ true) (λ (e : Edge). ltb e.from point ≡ false) edges low)
    (h : IsPartitionPoint (λ (e : Edge). leb e.from point ≡ true) (λ (e : Edge). leb e.from point ≡ false) edges high) where
  -- those that begin below the point end before those that begin at it do
  pub places_rise : low ≤ length edges → low ≤ high
  places_rise within = ⊎_elim
      (λ (lt : high < low). let below = ltb-true (get_or edges high (edge 0 0)).from point (l.0 high (edge 0 0) (omega arith) lt) in
      let above = leb-false (get_or edges high (edge 0 0)).from point (h.1 high (edge 0 0) (omega arith) (omega arith)) in
      absurd (omega (arith, below, above)))
      (λ (le : low ≤ high). le)
      (cases_lt high low)

  -- between the two places stand the edges that begin at the point
  pub edges_between : low ≤ high → high ≤ length edges → (e : Edge) → Contains (take (high - low) (drop low edges)) e ↔ (Contains edges e × (e.from ≡ point))
  edges_between ordered within e = (taken, back)
    where
      here_at : (k : ℕ) → get_or edges k e ≡ e → low ≤ k → k < high → k < length edges → e.from ≡ point
      here_at k at from until lt =
          let above = ltb-false e.from point (subst (λ (x : Edge). ltb x.from point ≡ false) at (l.1 k e from lt)) in
          let below = leb-true e.from point (subst (λ (x : Edge). leb x.from point ≡ true) at (h.0 k e (omega arith) until)) in
          omega (arith, above, below)

      taken : Contains (take (high - low) (drop low edges)) e → Contains edges e × (e.from ≡ point)
      taken i =
          let lt : i.0 < high - low = omega (arith, i.1, length-take (high - low) (drop low edges)) in
          let at : get_or edges (low + i.0) e ≡ e = sym (get_or-drop low edges i.0 e) ∙ sym (get_or-take (high - low) (drop low edges) i.0 e lt) ∙ i.2 in
          ((low + i.0, omega arith, at), here_at (low + i.0) at (omega arith) (omega arith) (omega arith))

      not_below : (k : ℕ) → get_or edges k e ≡ e → e.from ≡ point → k < low → ⊥
      not_below k at own lt = let below = ltb-true e.from point (subst (λ (x : Edge). ltb x.from point ≡ true) at (l.0 k e (omega arith) lt)) in omega (arith, below)

      not_above : (k : ℕ) → get_or edges k e ≡ e → e.from ≡ point → high ≤ k → k < length edges → ⊥
      not_above k at own le lt = let above = leb-false e.from point (subst (λ (x : Edge). leb x.from point ≡ false) at (h.1 k e le lt)) in omega (arith, above)

      back : Contains edges e × (e.from ≡ point) → Contains (take (high - low) (drop low edges)) e
      back i =
          let k = i.0.0 in
          let from : low ≤ k = ⊎_elim (λ (lt : k < low). absurd (not_below k i.0.2 i.1 lt)) (λ le. le) (cases_lt k low) in
          let until : k < high = ⊎_elim (λ (lt : k < high). lt) (λ (le : high ≤ k). absurd (not_above k i.0.2 i.1 le i.0.1)) (cases_lt k high) in
          let back_again : low + (k - low) ≡ k = omega arith in
          let lt : k - low < high - low = omega arith in (
            k - low,
            omega (arith, length-take (high - low) (drop low edges), length-drop low edges),
            get_or-take (high - low) (drop low edges) (k - low) e lt ∙ get_or-drop low edges (k - low) e ∙ ap (λ j. get_or edges j e) back_again ∙ i.0.2,
          )

pub ends_more : (edges : List Edge) (i : ℕ) (e : Edge) → i < length edges → ends_of (take (i + 1) edges) ≡ ends_of (take i edges) ++ (get_or edges i e).to ∷ []
ends_more edges i e lt = ap ends_of (take_more edges i e lt) ∙ map-append (λ (x : Edge). x.to) (take i edges) (get_or edges i e ∷ [])

pub all_among : (P : Edge → Type 0) (edges es : List Edge) (point : ℕ) → All P edges → ((e : Edge) → Contains es e ↔ (Contains edges e × (e.from ≡ point))) → All P es
all_among P edges es point all are = λ k d lt. let e = get_or es k d in All-contains P edges e all (((are e).0 (Contains-get_or es k d lt)).0)

pub none_left : (xs : List ℕ) → length xs ≡ 0 → xs ≡ []
none_left [] h = refl
none_left (x ∷ xs) h = absurd (omega arith)
