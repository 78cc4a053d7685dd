-- What each step of a search for a class above another keeps.
use Rattle.std.proofs.Common.{◌≡◌, ◌≢◌, ◌⊎◌, ◌+◌, ◌<◌, ◌≤◌, ◌∙◌, ◌++◌, ◌∷◌, [], inl, inr, ⊎_elim, ℕ, zero, suc, Bool, true, false, List, length, get_or, set, replicate, Option, Some, Result, Ok, Err, refl, sym, ap, subst, arith, get_or-set_same, get_or-set_other, length-set, length-append, ◌-◌}
use Rattle.std.specs.Prelude.{None as Absent, ◌||◌, ◌==◌, OnOk}
use Rattle.std.specs.Option.{option_to_list}
use Rattle.std.specs.List.{Contains}
use Rattle.std.proofs.lemmas.Bool.{cases_eq, cases_lt}
use Rattle.std.proofs.lemmas.Bool.Decides.{eqb_tells}
use Rattle.std.proofs.lemmas.List.{get_or_past, length-replicate}
use Rattle.std.proofs.lemmas.List.Elements.{Contains-append_cases, Contains-append_left, Contains-append_right, Contains-push, Contains-push_cases}
use Rattle.wy_kernel.specs.declared.types.Class.{Class as Row}
use Rattle.wy_kernel.specs.View.{class_of, present}
use Rattle.wy_calls.proofs.Chain.{nobody, somebody}
use Rattle.wy_kernel.specs.Program.{Class, Program, class, class_below, is_above, is_one_of, is_subclass}
use Rattle.wy_state.specs.declared.above.Climb.{Climb}
use Rattle.wy_state.specs.Above.{HasVisited, IsMarked, right_above, unmarked}
use Rattle.wy_state.proofs.Lying.{rises, round}

nothing_in : {X A : Type 0} (x : X) → Contains [] x → A
nothing_in x h = absurd (omega (arith, h.1))

pub only_in : {X : Type 0} (x y : X) → Contains (x ∷ []) y → x ≡ y
only_in x y h = ⊎_elim (λ none. nothing_in y none) (λ e. e) (Contains-push_cases [] x y h)

both : (b : Bool) {A : Type 0} → b ≡ true → b ≡ false → A
both b h k = absurd (cc)

left_true : (a b : Bool) → a ≡ true → a || b ≡ true
left_true true b is = refl
left_true false b is = cc

right_true : (a b : Bool) → b ≡ true → a || b ≡ true
right_true true b is = refl
right_true false b is = is

one_true : (a b : Bool) → a || b ≡ true → (a ≡ true) ⊎ (b ≡ true)
one_true true b is = inl refl
one_true false b is = inr is

-- ---- marks

within_marks : (marks : List Bool) (a : ℕ) → IsMarked marks a → a < length marks
within_marks [] a h = absurd (cc)
within_marks (m ∷ marks) zero h = omega arith
within_marks (m ∷ marks) (suc a) h = let i = within_marks marks a h in omega arith

unmarked_set : (marks : List Bool) (x : ℕ) → x < length marks → get_or marks x false ≡ false → suc (unmarked (set marks x true)) ≡ unmarked marks
unmarked_set [] x lt h = absurd (omega arith)
unmarked_set (true ∷ marks) zero lt h = absurd (cc)
unmarked_set (false ∷ marks) zero lt h = refl
unmarked_set (true ∷ marks) (suc x) lt h = unmarked_set marks x (omega arith) h
unmarked_set (false ∷ marks) (suc x) lt h = ap suc (unmarked_set marks x (omega arith) h)

unmarked_within : (marks : List Bool) → unmarked marks ≤ length marks
unmarked_within [] = omega arith
unmarked_within (true ∷ marks) = let i = unmarked_within marks in omega arith
unmarked_within (false ∷ marks) = let i = unmarked_within marks in omega arith

none_marked : (n a : ℕ) → IsMarked (replicate n false) a → ⊥
none_marked zero a h = cc
none_marked (suc n) zero h = cc
none_marked (suc n) (suc a) h = none_marked n a h

marked_still : (marks : List Bool) (x a : ℕ) → x < length marks → IsMarked marks a → IsMarked (set marks x true) a
marked_still marks x a lt h = ⊎_elim (λ (e : a ≡ x). subst (IsMarked (set marks x true)) (sym e) (get_or-set_same marks x true false lt)) (λ ne. get_or-set_other marks x a true false ne ∙ h) (cases_eq a x)

marked_or_new : (marks : List Bool) (x a : ℕ) → IsMarked (set marks x true) a → IsMarked marks a ⊎ (x ≡ a)
marked_or_new marks x a h = ⊎_elim (λ (e : a ≡ x). inr (sym e)) (λ ne. inl (sym (get_or-set_other marks x a true false ne) ∙ h)) (cases_eq a x)

-- ---- visits

-- what a visit leaves in `met`
record Meets (classes : List ℕ) (old new : Climb) : Type 0 where
  still : old.met ≡ true → new.met ≡ true
  meets : Contains classes old.goal → new.met ≡ true
  by' : new.met ≡ true → (old.met ≡ true) ⊎ Contains classes old.goal

meets_one : (x : ℕ) (old new : Climb) → new.met ≡ old.met || x == old.goal → Meets (x ∷ []) old new
meets_one x old new is = record {
  still = λ h. is ∙ left_true old.met (x == old.goal) h;
  meets = λ h. is ∙ right_true old.met (x == old.goal) (⊎_elim (λ same. same.0) (λ differ. absurd (differ.1 (only_in x old.goal h))) (eqb_tells x old.goal));
  by' = λ h. ⊎_elim (λ was. inl was) (λ eq. inr (⊎_elim (λ same. subst (Contains (x ∷ [])) same.1 (Contains-push [] x)) (λ differ. both (x == old.goal) eq differ.0) (eqb_tells x old.goal)))
      (one_true old.met (x == old.goal) (sym is ∙ h));
}

-- a class that was not found waits now
pub visited_anew : (x : ℕ) (old new : Climb) → x < length old.found.items → get_or old.found.items x false ≡ false → new.goal ≡ old.goal
    → new.met ≡ old.met || x == old.goal → new.found.items ≡ set old.found.items x true → new.waiting.items ≡ old.waiting.items ++ x ∷ [] → HasVisited (x ∷ []) old new
visited_anew x old new lt fresh goal met found waiting =
    let m = meets_one x old new met in
    let marked : IsMarked new.found.items x = ap (λ l. get_or l x false) found ∙ get_or-set_same old.found.items x true false lt in
    let waits : Contains new.waiting.items x = subst (λ w. Contains w x) (sym waiting) (Contains-push old.waiting.items x) in
    let less : unmarked new.found.items < unmarked old.found.items = omega (arith, ap unmarked found, unmarked_set old.found.items x lt fresh) in
    record {
      goal = goal;
      sized = ap length found ∙ length-set old.found.items x true;
      left = omega (arith, ap unmarked found, unmarked_set old.found.items x lt fresh, ap length waiting, length-append old.waiting.items (x ∷ []));
      fewer = omega (arith, less);
      stay = λ a h. subst (λ l. IsMarked l a) (sym found) (marked_still old.found.items x a lt h);
      found = λ a h _. subst (IsMarked new.found.items) (only_in x a h) marked;
      news = λ a h. ⊎_elim (λ (was : IsMarked old.found.items a). inl was)
          (λ (e : x ≡ a). inr (subst (λ y. Contains (x ∷ []) y × Contains new.waiting.items y × (unmarked new.found.items < unmarked old.found.items)) e (Contains-push [] x, waits, less)))
          (marked_or_new old.found.items x a (subst (λ l. IsMarked l a) found h));
      still = λ a h. subst (λ w. Contains w a) (sym waiting) (Contains-append_left old.waiting.items (x ∷ []) a h);
      waits = λ a h. ⊎_elim (λ (was : Contains old.waiting.items a). inl was) (λ (e : x ≡ a). inr (subst (IsMarked new.found.items) e marked))
          (Contains-push_cases old.waiting.items x a (subst (λ w. Contains w a) waiting h));
      met_still = m.still;
      meets = m.meets;
      met_by = m.by';
    }

-- one that was found, or that the program has not, changes nothing but whether the goal was met
pub visited_again : (x : ℕ) (old new : Climb) → (x < length old.found.items → IsMarked old.found.items x) → new.goal ≡ old.goal
    → new.met ≡ old.met || x == old.goal → new.found.items ≡ old.found.items → new.waiting.items ≡ old.waiting.items → HasVisited (x ∷ []) old new
visited_again x old new known goal met found waiting =
    let m = meets_one x old new met in
    record {
      goal = goal;
      sized = ap length found;
      left = omega (arith, ap unmarked found, ap length waiting);
      fewer = omega (arith, ap unmarked found);
      stay = λ a h. subst (λ l. IsMarked l a) (sym found) h;
      found = λ a h lt. subst (λ l. IsMarked l a) (sym found) (subst (λ y. y < length old.found.items → IsMarked old.found.items y) (only_in x a h) known lt);
      news = λ a h. inl (subst (λ l. IsMarked l a) found h);
      still = λ a h. subst (λ w. Contains w a) (sym waiting) h;
      waits = λ a h. inl (subst (λ w. Contains w a) waiting h);
      met_still = m.still;
      meets = m.meets;
      met_by = m.by';
    }

pub visited_none : (s : Climb) → HasVisited [] s s
visited_none s = record {
  goal = refl;
  sized = refl;
  left = refl;
  fewer = omega arith;
  stay = λ a h. h;
  found = λ a h _. nothing_in a h;
  news = λ a h. inl h;
  still = λ a h. h;
  waits = λ a h. inl h;
  met_still = λ h. h;
  meets = λ h. nothing_in s.goal h;
  met_by = λ h. inl h;
}

pub visited_more : (xs ys : List ℕ) (old mid new : Climb) → HasVisited xs old mid → HasVisited ys mid new → HasVisited (xs ++ ys) old new
visited_more xs ys old mid new f s =
    let same : mid.goal ≡ old.goal = f.goal in
    record {
      goal = s.goal ∙ f.goal;
      sized = s.sized ∙ f.sized;
      left = s.left ∙ f.left;
      fewer = omega (arith, f.fewer, s.fewer);
      stay = λ a h. s.stay a (f.stay a h);
      found = λ a h lt. ⊎_elim (λ (i : Contains xs a). s.stay a (f.found a i lt)) (λ (i : Contains ys a). s.found a i (omega (arith, lt, f.sized))) (Contains-append_cases xs ys a h);
      news = λ a h. ⊎_elim
          (λ (was : IsMarked mid.found.items a). ⊎_elim
          (λ (old' : IsMarked old.found.items a). inl old')
          (λ (n : Contains xs a × Contains mid.waiting.items a × (unmarked mid.found.items < unmarked old.found.items)). inr (Contains-append_left xs ys a n.0, s.still a n.1, omega (arith, n.2, s.fewer)))
          (f.news a was))
          (λ (n : Contains ys a × Contains new.waiting.items a × (unmarked new.found.items < unmarked mid.found.items)). inr (Contains-append_right xs ys a n.0, n.1, omega (arith, n.2, f.fewer)))
          (s.news a h);
      still = λ a h. s.still a (f.still a h);
      waits = λ a h. ⊎_elim
          (λ (w : Contains mid.waiting.items a). ⊎_elim (λ (o : Contains old.waiting.items a). inl o) (λ (m : IsMarked mid.found.items a). inr (s.stay a m)) (f.waits a w))
          (λ (m : IsMarked new.found.items a). inr m)
          (s.waits a h);
      met_still = λ h. s.met_still (f.met_still h);
      meets = λ h. ⊎_elim (λ (i : Contains xs old.goal). s.met_still (f.meets i)) (λ (i : Contains ys old.goal). s.meets (subst (Contains ys) (sym same) i)) (Contains-append_cases xs ys old.goal h);
      met_by = λ h. ⊎_elim
          (λ (m : mid.met ≡ true). ⊎_elim (λ (o : old.met ≡ true). inl o) (λ (i : Contains xs old.goal). inr (Contains-append_left xs ys old.goal i)) (f.met_by m))
          (λ (i : Contains ys mid.goal). inr (Contains-append_right xs ys old.goal (subst (Contains ys) same i)))
          (s.met_by h);
    }

-- ---- what stands right above a class

in_one : (f : ℕ → Bool) (ns : List ℕ) → is_one_of f ns ≡ true → (e : ℕ) × Contains ns e × (f e ≡ true)
unfolding is_one_of
in_one f [] is = absurd (cc)
in_one f (n ∷ ns) is = ⊎_elim
    (λ (h : f n ≡ true). (n, Contains-append_left (n ∷ []) ns n (Contains-push [] n), h))
    (λ (h : is_one_of f ns ≡ true). let x = in_one f ns h in (x.0, Contains-append_right (n ∷ []) ns x.0 x.1, x.2))
    (one_true (f n) (is_one_of f ns) is)

of_one : (f : ℕ → Bool) (ns : List ℕ) (e : ℕ) → Contains ns e → f e ≡ true → is_one_of f ns ≡ true
unfolding is_one_of
of_one f [] e h is = nothing_in e h
of_one f (n ∷ ns) e h is = ⊎_elim
    (λ (first : Contains (n ∷ []) e). left_true (f n) (is_one_of f ns) (ap f (only_in n e first) ∙ is))
    (λ (rest : Contains ns e). right_true (f n) (is_one_of f ns) (of_one f ns e rest is))
    (Contains-append_cases (n ∷ []) ns e h)

in_above : (f : ℕ → Bool) (o : Option ℕ) → is_above f o ≡ true → (e : ℕ) × Contains (option_to_list o) e × (f e ≡ true)
unfolding is_above
in_above f Absent is = absurd (cc)
in_above f (Some n) is = (n, Contains-push [] n, is)

of_above : (f : ℕ → Bool) (o : Option ℕ) (e : ℕ) → Contains (option_to_list o) e → f e ≡ true → is_above f o ≡ true
unfolding is_above
of_above f Absent e h is = nothing_in e h
of_above f (Some n) e h is = ap f (only_in n e h) ∙ is

rises_by : (f : ℕ → Bool) (k : Class) → rises f k ≡ true → (e : ℕ) × Contains (right_above k) e × (f e ≡ true)
unfolding rises
rises_by f k is = ⊎_elim
    (λ (h : is_above f k.above ≡ true). let x = in_above f k.above h in (x.0, Contains-append_left (option_to_list k.above) k.interfaces x.0 x.1, x.2))
    (λ (h : is_one_of f k.interfaces ≡ true). let x = in_one f k.interfaces h in (x.0, Contains-append_right (option_to_list k.above) k.interfaces x.0 x.1, x.2))
    (one_true (is_above f k.above) (is_one_of f k.interfaces) is)

by_rise : (f : ℕ → Bool) (k : Class) (e : ℕ) → Contains (right_above k) e → f e ≡ true → rises f k ≡ true
unfolding rises
by_rise f k e h is = ⊎_elim
    (λ (i : Contains (option_to_list k.above) e). left_true (is_above f k.above) (is_one_of f k.interfaces) (of_above f k.above e i is))
    (λ (i : Contains k.interfaces e). right_true (is_above f k.above) (is_one_of f k.interfaces) (of_one f k.interfaces e i is))
    (Contains-append_cases (option_to_list k.above) k.interfaces e h)

-- a class that the program has not has nothing above it
nothing_past : (p : Program) (a e : ℕ) → length p.classes ≤ a → Contains (right_above (class p a)) e → ⊥
unfolding class
nothing_past p a e past h =
    let is : class p a ≡ record { name = []; site = 0; is_interface = false; is_abstract = false; is_final = false; above = Absent; interfaces = [] } = get_or_past p.classes a _ past in
    nothing_in e (subst (λ (k : Class). Contains (right_above k) e) is h)

-- ---- chains

module _ (p : Program) (d : ℕ) (other : d ≢ 0) where
  up : (k a e : ℕ) → Contains (right_above (class p a)) e → class_below p k e d ≡ true → class_below p (suc k) a d ≡ true
  up k a e h is = round p k a d other ∙ right_true (a == d) (rises (λ x. class_below p k x d) (class p a)) (by_rise (λ x. class_below p k x d) (class p a) e h is)

  itself : (k a : ℕ) → a ≡ d → class_below p (suc k) a d ≡ true
  itself k a is = round p k a d other ∙ left_true (a == d) (rises (λ x. class_below p k x d) (class p a)) (⊎_elim (λ same. same.0) (λ differ. absurd (differ.1 is)) (eqb_tells a d))

  next : (k a : ℕ) → class_below p (suc k) a d ≡ true → (a ≡ d) ⊎ ((e : ℕ) × Contains (right_above (class p a)) e × (class_below p k e d ≡ true))
  next k a is = ⊎_elim
      (λ (h : (a == d) ≡ true). inl (⊎_elim (λ same. same.1) (λ differ. both (a == d) h differ.0) (eqb_tells a d)))
      (λ (h : rises (λ x. class_below p k x d) (class p a) ≡ true). inr (rises_by (λ x. class_below p k x d) (class p a) h))
      (one_true (a == d) (rises (λ x. class_below p k x d) (class p a)) (sym (round p k a d other) ∙ is))

  none_so_short : (a : ℕ) → class_below p zero a d ≡ true → ⊥
  unfolding class_below
  none_so_short a is = cc

  one_more : (k a : ℕ) → class_below p k a d ≡ true → class_below p (suc k) a d ≡ true
  one_more zero a is = absurd (none_so_short a is)
  one_more (suc k) a is = ⊎_elim
      (λ (h : a ≡ d). itself (suc k) a h)
      (λ (h : (e : ℕ) × Contains (right_above (class p a)) e × (class_below p k e d ≡ true)). up (suc k) a h.0 h.1 (one_more k h.0 h.2))
      (next k a is)

  longer : (j k n a : ℕ) → n ≡ j + k → class_below p k a d ≡ true → class_below p n a d ≡ true
  longer zero k n a is h = subst (λ m. class_below p m a d ≡ true) (let e : k ≡ n = omega (arith, is) in e) h
  longer (suc j) k n a is h =
      let e : suc (j + k) ≡ n = omega (arith, is) in
      subst (λ m. class_below p m a d ≡ true) e (one_more (j + k) a (longer j k (j + k) a refl h))

  -- no shorter chain is lost
  within : (k n a : ℕ) → k ≤ n → class_below p k a d ≡ true → class_below p n a d ≡ true
  within k n a le h = longer (n - k) k n a (omega (arith, le)) h

-- ---- the search

-- in the middle of a search: what stands above the classes that wait is still to be met
pub record IsClimbing (p : Program) (class' goal : ℕ) (s : Climb) : Type 0 where
  aim : s.goal ≡ goal
  sized : length s.found.items ≡ length p.classes
  begun : class' < length s.found.items → IsMarked s.found.items class'
  begins : class' ≡ goal → s.met ≡ true
  closed : (a e : ℕ) → IsMarked s.found.items a → Contains (right_above (class p a)) e
      → ((e < length s.found.items → IsMarked s.found.items e) × (e ≡ goal → s.met ≡ true)) ⊎ Contains s.waiting.items a
  deep : (a n m : ℕ) → IsMarked s.found.items a → m + unmarked s.found.items ≡ length p.classes → class_below p (suc n) a goal ≡ true → class_below p (n + m) class' goal ≡ true
  pub right : s.met ≡ true → is_subclass p class' goal ≡ true
  waits : (a : ℕ) → Contains s.waiting.items a → IsMarked s.found.items a

module _ (p : Program) (class' goal : ℕ) (other : goal ≢ 0) where
  whole : (n : ℕ) → n ≤ suc (length p.classes) → class_below p n class' goal ≡ true → is_subclass p class' goal ≡ true
  unfolding is_subclass
  whole n le h = within p goal other n (suc (length p.classes)) class' le h

  pub climbing_first : (old s : Climb) → old.goal ≡ goal → old.met ≡ false → old.found.items ≡ replicate (length p.classes) false → old.waiting.items ≡ []
      → HasVisited (class' ∷ []) old s → IsClimbing p class' goal s
  climbing_first old s is unmet found waiting v =
      let fresh : (a : ℕ) → IsMarked old.found.items a → ⊥ = λ a h. none_marked (length p.classes) a (subst (λ l. IsMarked l a) found h) in
      let sized : length old.found.items ≡ length p.classes = ap length found ∙ length-replicate (length p.classes) false in
      let new : (a : ℕ) → IsMarked s.found.items a → Contains (class' ∷ []) a × Contains s.waiting.items a × (unmarked s.found.items < unmarked old.found.items) =
      λ a h. ⊎_elim (λ (was : IsMarked old.found.items a). absurd (fresh a was)) (λ (n : Contains (class' ∷ []) a × Contains s.waiting.items a × (unmarked s.found.items < unmarked old.found.items)). n) (v.news a h) in
      record {
        aim = v.goal ∙ is;
        sized = v.sized ∙ sized;
        begun = λ lt. v.found class' (Contains-push [] class') (omega (arith, lt, v.sized));
        begins = λ e. v.meets (subst (Contains (class' ∷ [])) (e ∙ sym is) (Contains-push [] class'));
        closed = λ a e h _. inr ((new a h).1);
        deep = λ a n m h count below.
            let few = unmarked_within old.found.items in
            within p goal other (suc n) (n + m) class' (omega (arith, (new a h).2, few, sized, count)) (subst (λ x. class_below p (suc n) x goal ≡ true) (sym (only_in class' a ((new a h).0))) below);
        right = λ h. ⊎_elim
            (λ (was : old.met ≡ true). both old.met was unmet)
            (λ (i : Contains (class' ∷ []) old.goal). whole (suc zero) (omega arith) (itself p goal other zero class' (only_in class' old.goal i ∙ is)))
            (v.met_by h);
        waits = λ a h. ⊎_elim (λ (was : Contains old.waiting.items a). nothing_in a (subst (λ l. Contains l a) waiting was)) (λ (m : IsMarked s.found.items a). m) (v.waits a h);
      }

  -- what stands above a class that waited is met
  pub climbing_on : (c : ℕ) (es : List ℕ) (all old s : Climb) → es ≡ right_above (class p c)
      → old.goal ≡ all.goal → old.met ≡ all.met → old.found.items ≡ all.found.items → all.waiting.items ≡ old.waiting.items ++ c ∷ []
      → IsClimbing p class' goal all → HasVisited es old s → IsClimbing p class' goal s
  climbing_on c es all old s are goal' met found waiting i v =
      let kept : (a : ℕ) → IsMarked all.found.items a → IsMarked old.found.items a = λ a h. subst (λ l. IsMarked l a) (sym found) h in
      let back : (a : ℕ) → IsMarked old.found.items a → IsMarked all.found.items a = λ a h. subst (λ l. IsMarked l a) found h in
      let as_many : length s.found.items ≡ length all.found.items = v.sized ∙ ap length found in
      let is : old.goal ≡ goal = goal' ∙ i.aim in
      let marked : IsMarked all.found.items c = i.waits c (subst (λ l. Contains l c) (sym waiting) (Contains-push old.waiting.items c)) in
      let few = unmarked_within all.found.items in
      let long = i.sized in
      let m : ℕ = length p.classes - unmarked all.found.items in
      let sum : m + unmarked all.found.items ≡ length p.classes = omega (arith, few, long) in
      let same : unmarked old.found.items ≡ unmarked all.found.items = ap unmarked found in
      record {
        aim = v.goal ∙ is;
        sized = as_many ∙ i.sized;
        begun = λ lt. v.stay class' (kept class' (i.begun (omega (arith, lt, as_many))));
        begins = λ e. v.met_still (met ∙ i.begins e);
        closed = λ a e h j. ⊎_elim
            (λ (was : IsMarked old.found.items a). ⊎_elim
            (λ (k : (e < length all.found.items → IsMarked all.found.items e) × (e ≡ goal → all.met ≡ true)).
            inl (λ lt. v.stay e (kept e (k.0 (omega (arith, lt, as_many)))), λ eq. v.met_still (met ∙ k.1 eq)))
            (λ (w : Contains all.waiting.items a). ⊎_elim
            (λ (o : Contains old.waiting.items a). inr (v.still a o))
            (λ (own : c ≡ a).
            let k : Contains es e = subst (λ l. Contains l e) (sym are) (subst (λ x. Contains (right_above (class p x)) e) (sym own) j) in
            inl (λ lt. v.found e k (omega (arith, lt, v.sized)), λ eq. v.meets (subst (Contains es) (eq ∙ sym is) k)))
            (Contains-push_cases old.waiting.items c a (subst (λ l. Contains l a) waiting w)))
            (i.closed a e (back a was) j))
            (λ (n : Contains es a × Contains s.waiting.items a × (unmarked s.found.items < unmarked old.found.items)). inr n.1)
            (v.news a h);
        deep = λ a n k h count below. ⊎_elim
            (λ (was : IsMarked old.found.items a). within p goal other (n + m) (n + k) class' (omega (arith, sum, count, same, v.fewer)) (i.deep a n m (back a was) sum below))
            (λ (j : Contains es a × Contains s.waiting.items a × (unmarked s.found.items < unmarked old.found.items)).
            within p goal other (suc n + m) (n + k) class' (omega (arith, sum, count, same, j.2))
            (i.deep c (suc n) m marked sum (up p goal other (suc n) c a (subst (λ l. Contains l a) are j.0) below)))
            (v.news a h);
        right = λ h. ⊎_elim
            (λ (was : old.met ≡ true). i.right (sym met ∙ was))
            (λ (j : Contains es old.goal).
            whole (suc zero + m) (omega (arith, sum)) (i.deep c (suc zero) m marked sum (up p goal other (suc zero) c goal (subst (λ l. Contains l goal) are (subst (Contains es) is j)) (itself p goal other zero goal refl))))
            (v.met_by h);
        waits = λ a h. ⊎_elim
            (λ (o : Contains old.waiting.items a). v.stay a (kept a (i.waits a (subst (λ l. Contains l a) (sym waiting) (Contains-append_left old.waiting.items (c ∷ []) a o)))))
            (λ (k : IsMarked s.found.items a). k)
            (v.waits a h);
      }

  pub within_classes : (s : Climb) (a : ℕ) → IsClimbing p class' goal s → Contains s.waiting.items a → a < length p.classes
  within_classes s a i h = let lt = within_marks s.found.items a (i.waits a h) in omega (arith, lt, i.sized)

  module _ (s : Climb) (none : s.waiting.items ≡ []) (unmet : s.met ≡ false) (i : IsClimbing p class' goal s) where
    -- nothing that was found reaches the goal
    barren : (n a : ℕ) → (a < length s.found.items → IsMarked s.found.items a) → (a ≡ goal → s.met ≡ true) → class_below p n a goal ≡ true → ⊥
    barren zero a here apart h = none_so_short p goal other a h
    barren (suc n) a here apart h = ⊎_elim
        (λ (e : a ≡ goal). both s.met (apart e) unmet)
        (λ (j : (e : ℕ) × Contains (right_above (class p a)) e × (class_below p n e goal ≡ true)). ⊎_elim
        (λ (lt : a < length s.found.items). ⊎_elim
        (λ (k : (j.0 < length s.found.items → IsMarked s.found.items j.0) × (j.0 ≡ goal → s.met ≡ true)). barren n j.0 k.0 k.1 j.2)
        (λ (w : Contains s.waiting.items a). nothing_in a (subst (λ l. Contains l a) none w))
        (i.closed a j.0 (here lt) j.1))
        (λ (le : length s.found.items ≤ a). nothing_past p a j.0 (omega (arith, le, i.sized)) j.1)
        (cases_lt a (length s.found.items)))
        (next p goal other n a h)

    is_not : (b : Bool) → is_subclass p class' goal ≡ b → b ≡ false
    unfolding is_subclass
    is_not true h = absurd (barren (suc (length p.classes)) class' i.begun i.begins h)
    is_not false h = refl

    pub nothing_above : is_subclass p class' goal ≡ false
    nothing_above = is_not (is_subclass p class' goal) refl

  pub climbed : (s : Climb) → s.waiting.items ≡ [] → IsClimbing p class' goal s → (b : Bool) → s.met ≡ b → b ≡ is_subclass p class' goal
  climbed s none i true is = sym (i.right is)
  climbed s none i false is = sym (nothing_above s none is i)

pub none_left : (xs : List ℕ) → length xs ≡ 0 → xs ≡ []
none_left [] h = refl
none_left (x ∷ xs) h = absurd (omega arith)

-- ---- by a row of the program's memory

pub above_alone : (row : Row) → row.above ≡ 4294967295 → row.interfaces.items ≡ right_above (class_of row)
above_alone row is = ap (λ o. option_to_list o ++ row.interfaces.items) (sym nobody ∙ ap present (sym is))

pub above_both : (row : Row) → (row.above ≡ 4294967295 → ⊥) → (row.above ∷ []) ++ row.interfaces.items ≡ right_above (class_of row)
above_both row other = ap (λ o. option_to_list o ++ row.interfaces.items) (sym (somebody row.above other))

pub on_ok : {T E : Type 0} {P Q : Type 0} (r : Result T E) → (P → Q) → OnOk r P → OnOk r Q
on_ok (Ok x) f h = f h
on_ok (Err e) f h = h
