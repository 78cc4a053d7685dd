-- Groups, one more at a time; and what holds of all groups.
use Rattle.std.proofs.Common.{◌≡◌, ◌∙◌, ◌<◌, ◌≤◌, ◌+◌, ◌-◌, ℕ, suc, Bool, true, false, ◌||◌, List, [], ◌∷◌, ◌++◌, length, get_or, map, take, refl, sym, ap, cond, nat_eq, subst, eq-eqb, ne_eqb, arith}
use Rattle.std.specs.Prelude.{◌==◌, filter, not, if◌then◌else◌, slice_index_or}
use Rattle.std.specs.List.{list_any}
use native.Mathlib.Numerals.{unary_clauses}
use Rattle.std.proofs.lemmas.List.{append-nil, map-append}
use Rattle.std.proofs.lemmas.Bool.{eqb-true}
use Rattle.std.proofs.lemmas.List.Elements.{filter_more, filter_passes}
use Rattle.std.proofs.lemmas.List.Folds.{list_any_at}
use Rattle.wy_fold.specs.declared.group.Group.{Group}
use Rattle.wy_fold.specs.Groups.{group_of}
use Rattle.wy_fold.specs.Places.{Places, is_last, last_ones, on_line, stands_on}

-- the last of a list decides
pub last_read : (xs : List ℕ) (n : ℕ) → 1 ≤ length xs → nat_eq (slice_index_or xs (length xs - 1) 0) n ≡ is_last xs n
last_read [] n some = absurd (omega arith)
last_read (x ∷ []) n some = refl
last_read (x ∷ y ∷ rest) n some = simp unary_clauses (simp unary_clauses at (last_read (y ∷ rest) n (omega arith)))

-- some pass exactly where those that pass are some
pub some_pass : (p : ℕ → Bool) (xs : List ℕ) → list_any p xs ≡ not (length (filter p xs) == 0)
some_pass p [] = refl
some_pass p (x ∷ xs) = go (p x) (some_pass p xs)
  where
    go : (b : Bool) → list_any p xs ≡ not (length (filter p xs) == 0) → (b || list_any p xs) ≡ not (length (if b then x ∷ filter p xs else filter p xs) == 0)
    go true rest = ap not (sym (ne_eqb (suc (length (filter p xs))) 0 (λ same. omega (arith, same))))
    go false rest = rest

abbrev pub is_end : Places → List ℕ → ℕ → Bool
is_end at all n = is_last (on_line at (at n) all) n

pub one_more_group : (at : Places) (all flow : List ℕ) (i : ℕ) (found more : List Group) (g : Group) → i < length all → found ≡ map (group_of at all flow) (filter (is_end at all) (take i all))
    → is_end at all (get_or all i 0) ≡ true → g ≡ group_of at all flow (get_or all i 0) → more ≡ found ++ g ∷ []
    → more ≡ map (group_of at all flow) (filter (is_end at all) (take (i + 1) all))
one_more_group at all flow i found more g lt so end same is =
    let p = is_end at all in
    let e = get_or all i 0 in
    let make = group_of at all flow in
    is ∙ ap (λ x. found ++ x ∷ []) same ∙ ap (λ gs. gs ++ make e ∷ []) so
    ∙ sym (ap (map make) (filter_more p all i 0 lt ∙ ap (λ b. filter p (take i all) ++ cond b (e ∷ []) []) end) ∙ map-append make (filter p (take i all)) (e ∷ []))

pub no_more_group : (at : Places) (all flow : List ℕ) (i : ℕ) (found : List Group) → i < length all → found ≡ map (group_of at all flow) (filter (is_end at all) (take i all))
    → is_end at all (get_or all i 0) ≡ false → found ≡ map (group_of at all flow) (filter (is_end at all) (take (i + 1) all))
no_more_group at all flow i found lt so other =
    let p = is_end at all in
    let e = get_or all i 0 in
    so ∙ sym (ap (map (group_of at all flow)) (filter_more p all i 0 lt ∙ ap (λ b. filter p (take i all) ++ cond b (e ∷ []) []) other ∙ append-nil (filter p (take i all))))

-- the group that is made of two rows
pub same_group : (at : Places) (all flow : List ℕ) (line last count : ℕ) (of_data : Bool) → line ≡ at last → count ≡ length (on_line at line all) → of_data ≡ stands_on at line flow
    → record { line = line; last = last; count = count; of_data = of_data } ≡ group_of at all flow last
same_group at all flow line last count of_data here many some =
    let made : ℕ → ℕ → Bool → Group = λ l n b. record { line = l; last = last; count = n; of_data = b } in
    ap (λ n. made line n of_data) many ∙ ap (λ b. made line (length (on_line at line all)) b) some
    ∙ ap (λ l. made l (length (on_line at l all)) (stands_on at l flow)) here

-- ---- a line has a group exactly where an event stands on it

any_of_both : (p q : ℕ → Bool) (xs : List ℕ) → list_any p (filter q xs) ≡ list_any q (filter p xs)
any_of_both p q [] = refl
any_of_both p q (x ∷ xs) = go (p x) (q x) refl refl (any_of_both p q xs)
  where
    go : (u v : Bool) → p x ≡ u → q x ≡ v → list_any p (filter q xs) ≡ list_any q (filter p xs)
        → list_any p (if v then x ∷ filter q xs else filter q xs) ≡ list_any q (if u then x ∷ filter p xs else filter p xs)
    go true true is there more = ap (λ b. b || list_any p (filter q xs)) is ∙ sym (ap (λ b. b || list_any q (filter p xs)) there)
    go true false is there more = more ∙ sym (ap (λ b. b || list_any q (filter p xs)) there)
    go false true is there more = ap (λ b. b || list_any p (filter q xs)) is ∙ more
    go false false is there more = more

-- the last event on a line ends its group
last_ends : (at : Places) (events : List ℕ) (k : ℕ) (here : List ℕ) → here ≡ on_line at k events → list_any (is_end at events) here ≡ not (length here == 0)
last_ends at events k [] is = refl
last_ends at events k (x ∷ xs) is =
    let here : List ℕ = x ∷ xs in
    let i = length here - 1 in
    let inside : i < length here = omega arith in
    let m = get_or here i 0 in
    let stands : (at m == k) ≡ true = ap (λ l. at (get_or l i 0) == k) is ∙ filter_passes (λ n. at n == k) events i 0 (subst (λ l. i < length l) is inside) in
    let ends : is_end at events m ≡ true =
    ap (λ j. is_last (on_line at j events) m) (eqb-true (at m) k stands) ∙ ap (λ l. is_last l m) (sym is) ∙ sym (last_read here m (omega arith)) ∙ eq-eqb m m refl in
    list_any_at (is_end at events) here i 0 inside ends ∙ sym (ap not (ne_eqb (suc (length xs)) 0 (λ same. omega (arith, same))))

pub group_where_one_stands : (at : Places) (events : List ℕ) (k : ℕ) → stands_on at k (last_ones at events) ≡ stands_on at k events
group_where_one_stands at events k =
    any_of_both (λ n. at n == k) (is_end at events) events ∙ last_ends at events k (on_line at k events) refl ∙ sym (some_pass (λ n. at n == k) events)
