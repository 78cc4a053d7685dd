-- The statements of a program have all numbers, in the order of the text, where its classes have different places.
use Rattle.std.proofs.Common.{◌≡◌, ◌∙◌, refl, sym, ap, cond, subst, inl, inr, arith, ℕ, zero, suc, ◌+◌, ◌-◌, ◌*◌, ◌<◌, ◌≤◌, ◌≢◌, Bool, true, false, ◌==◌, nat_lt, List, [], ◌∷◌, ◌++◌, length}
use Rattle.std.specs.Prelude.{◌⊎◌, Option, None, map}
use Rattle.std.specs.List.{Contains}
use Rattle.std.proofs.lemmas.Bool.{eqb-true}
use Rattle.std.proofs.lemmas.Bool.Decides.{nat_tests}
use Rattle.std.proofs.lemmas.List.{length-map}
use Rattle.std.proofs.lemmas.List.Elements.{Contains-append_left, Contains-append_right, Contains-append_cases}
use Rattle.wy_kernel.specs.Form.{Statement, Stmt}
use Rattle.wy_kernel.specs.Program.{Program, Body, Class, first_source_class}
use Rattle.wy_kernel.specs.Builtin as builtin
use Rattle.wy_kernel.specs.Table.{Table}
use Rattle.wy_kernel.specs.Statements.{number_of, has_number, statements_of_body, statements_of_bodies}
use Rattle.wy_syntax.specs.Syntax.{ClassSyntax}
use Rattle.wy_members.specs.Declarations.{CompilationUnit, classes_of}
use Rattle.wy_elab_body.specs.declared.place.Place.{Place}
use Rattle.wy_elab_body.specs.Places.{stands_before, key_of, order_of, number_at, places_of}
use Rattle.wy_elab_body.specs.Statements.{Setting}
use Rattle.wy_elab_body.proofs.Numbering.{key_before}
use Rattle.wy_library.specs.Library.{library_bodies, library_init_bodies}
use Rattle.wy_elab_stmt.specs.Classes.{class_bodies}
use Rattle.wy_elab_stmt.specs.Program.{Bodies, no_bodies, and_more, bodies_from, setting}
use Rattle.law_structure.specs.Numbers.{site_of, AreDense, numbers_from}
use Rattle.law_structure.proofs.Yields.{Yields, given, then_found}
use Rattle.law_structure.proofs.Members.{none_in, head_or_behind}
use Rattle.law_structure.proofs.Elaborated.{MadeFrom}
use Rattle.law_structure.proofs.Marks.{Mark, mark_of, mark_at, Marked, both_marked}
use Rattle.law_structure.proofs.ClassMarks.{BodiesStand, bodies_append, bodies_both, ClassStands, class_stands, initializer_places, class_body_places}
use Rattle.law_structure.proofs.Spread.{has_key, Once, few_orders}
use Rattle.law_structure.proofs.Dense.{tally, In, tally_alike, rank, rank_before, rank_below, Distinct, dense, three_ways}
use Rattle.law_structure.proofs.Tallies.{tally_both, tally_is, tally_map, all_initializers, all_bodies, AllBodiless, classes_tally}

-- ---- the bodies of all classes

pub record ListStands (w : Setting) (is bs : List Place) (b : Bodies) : Type 0 where
  pub methods : BodiesStand w bs b.methods
  pub initializers : BodiesStand w is b.initializers

bodies_stand : (w : Setting) (c : ℕ) (ks : List ClassSyntax) → Yields (bodies_from w c ks) (ListStands w (all_initializers ks) (all_bodies w.table c ks))
unfolding bodies_from
bodies_stand w c [] = given (ListStands w [] []) no_bodies (record { methods = refl; initializers = refl })
bodies_stand w c (k ∷ rest) =
    let P : Bodies → Type 0 = ListStands w (initializer_places k ++ all_initializers rest) (class_body_places w.table c k ++ all_bodies w.table (suc c) rest) in
    then_found (class_bodies w c k) _ (ClassStands w (initializer_places k) (class_body_places w.table c k)) P (class_stands w c k) (λ x h.
    then_found (bodies_from w (suc c) rest) _ (ListStands w (all_initializers rest) (all_bodies w.table (suc c) rest)) P (bodies_stand w (suc c) rest) (λ xs i.
    given P (and_more x xs) (record {
      methods = bodies_both w (class_body_places w.table c k) (all_bodies w.table (suc c) rest) x.bodies xs.methods h.bodies i.methods;
      initializers = both_marked w (initializer_places k) (all_initializers rest) (statements_of_body x.initializer) (statements_of_bodies xs.initializers) h.initializer i.initializers;
    })))

-- ---- numbers by keys

abbrev pub keys : List Place → List ℕ
keys qs = map key_of qs

pub number_is : (all : List Place) (p : Place) → number_at all p ≡ 74 + rank (keys all) (key_of p)
unfolding number_at
number_is all p =
    ap (λ n. 74 + n) (sym (tally_is (λ q. stands_before q p) all) ∙ tally_alike (λ q. stands_before q p) (λ q. nat_lt (key_of q) (key_of p)) all (λ q m. key_before q p) ∙ sym (tally_map (λ x. nat_lt x (key_of p)) key_of all))

-- ---- lists

pub contains_in : {X : Type 0} (xs : List X) (x : X) → Contains xs x → In x xs
contains_in [] x c = none_in x c
contains_in (y ∷ ys) x c = elim (head_or_behind y ys x c) [ inl e ↦ inl (sym e) | inr h ↦ inr (contains_in ys x h) ]

pub in_map : {X Y : Type 0} (f : X → Y) (xs : List X) (x : X) → In x xs → In (f x) (map f xs)
in_map f [] x m = m
in_map f (y ∷ ys) x (inl e) = inl (ap f e)
in_map f (y ∷ ys) x (inr m) = inr (in_map f ys x m)

pub map_in : {X Y : Type 0} (f : X → Y) (xs : List X) (y : Y) → In y (map f xs) → (x : X) × In x xs × (f x ≡ y)
map_in f [] y m = absurd m
map_in f (x ∷ xs) y (inl e) = (x, inl refl, sym e)
map_in f (x ∷ xs) y (inr m) = let found = map_in f xs y m in (found.0, inr found.1, found.2)

one_more : (b : Bool) (n : ℕ) → b ≡ true → 1 ≤ cond b 1 0 + n
one_more true n e = omega arith
one_more false n e = absurd cc

or_more : (b : Bool) (n : ℕ) → 1 ≤ n → 1 ≤ cond b 1 0 + n
or_more true n e = omega arith
or_more false n e = omega arith

pub tally_in : {X : Type 0} (f : X → Bool) (xs : List X) (x : X) → In x xs → f x ≡ true → 1 ≤ tally f xs
tally_in f [] x m e = absurd m
tally_in f (y ∷ ys) x (inl i) e = one_more (f y) (tally f ys) (ap f (sym i) ∙ e)
tally_in f (y ∷ ys) x (inr m) e = or_more (f y) (tally f ys) (tally_in f ys x m e)

in_tally : {X : Type 0} (f : X → Bool) (xs : List X) → 1 ≤ tally f xs → (x : X) × In x xs × (f x ≡ true)
in_tally f [] h = absurd (omega arith)
in_tally {X} f (x ∷ xs) h = by (f x) refl h (in_tally f xs)
  where
    by : (b : Bool) → f x ≡ b → 1 ≤ cond b 1 0 + tally f xs → (1 ≤ tally f xs → (y : X) × In y xs × (f y ≡ true)) → (y : X) × In y (x ∷ xs) × (f y ≡ true)
    by true e i rest = (x, inl refl, e)
    by false e i rest = let found = rest (omega arith) in (found.0, inr found.1, found.2)

-- ---- different keys

same_key : (k x n : ℕ) → x ≡ k → 1 ≤ n → cond (k == x) 1 0 + n ≤ 1 → ⊥
same_key k x n e h i = grind (arith, nat_tests)

pub is_itself : (x : ℕ) → (x == x) ≡ true
is_itself x = grind (arith, nat_tests)

fewer : (b : Bool) (n : ℕ) → cond b 1 0 + n ≤ 1 → n ≤ 1
fewer true n h = omega arith
fewer false n h = omega arith

distinct_keys : (ks : List ℕ) → ((n : ℕ) → tally (λ k. k == n) ks ≤ 1) → Distinct ks
distinct_keys [] h = tt
distinct_keys (k ∷ ks) h = (
  λ x m e. same_key k x (tally (λ y. y == x) ks) e (tally_in (λ y. y == x) ks x m (is_itself x)) (h x),
  distinct_keys ks (λ n. fewer (k == n) (tally (λ y. y == n) ks) (h n)),
)

different_places : (low high : ℕ) (qs : List Place) → Once low high qs → Distinct (keys qs)
different_places low high qs h = distinct_keys (keys qs) (λ n. subst (λ m. m ≤ 1) (sym (tally_is (has_key n) qs) ∙ sym (tally_map (λ k. k == n) key_of qs)) (h.most n))

-- ---- the library

no_test : (m n t : ℕ) → m ≢ n → t ≡ 0 → cond (m == n) 1 0 + t ≡ 0
no_test m n t d e = grind (arith, nat_tests)

no_test_more : (m n t : ℕ) → m ≢ n → t ≡ 1 → cond (m == n) 1 0 + t ≡ 1
no_test_more m n t d e = grind (arith, nat_tests)

own_test : (m n t : ℕ) → m ≡ n → t ≡ 0 → cond (m == n) 1 0 + t ≡ 1
own_test m n t d e = grind (arith, nat_tests)

numbers_below : (m k n : ℕ) → n < m → tally (λ x. x == n) (numbers_from m k) ≡ 0
numbers_below m zero n h = refl
numbers_below m (suc k) n h = no_test m n (tally (λ x. x == n) (numbers_from (m + 1) k)) (omega arith) (numbers_below (m + 1) k n (omega arith))

numbers_among : (m k n : ℕ) → m ≤ n → n < m + k → tally (λ x. x == n) (numbers_from m k) ≡ 1
numbers_among m zero n h i = absurd (omega arith)
numbers_among m (suc k) n h i = elim (three_ways n m) [
  | inl j ↦ absurd (omega arith)
  | inr j ↦ elim j [
    | inl e ↦ own_test m n (tally (λ x. x == n) (numbers_from (m + 1) k)) (sym e) (numbers_below (m + 1) k n (omega arith))
    | inr g ↦ no_test_more m n (tally (λ x. x == n) (numbers_from (m + 1) k)) (omega arith) (numbers_among (m + 1) k n (omega arith) (omega arith))
  ]
]

numbers_above : (m k n : ℕ) → m + k ≤ n → tally (λ x. x == n) (numbers_from m k) ≡ 0
numbers_above m zero n h = refl
numbers_above m (suc k) n h = no_test m n (tally (λ x. x == n) (numbers_from (m + 1) k)) (omega arith) (numbers_above (m + 1) k n (omega arith))

numbers_are_less : (m k x : ℕ) → In x (numbers_from m k) → x < m + k
numbers_are_less m zero x i = absurd i
numbers_are_less m (suc k) x (inl e) = omega arith
numbers_are_less m (suc k) x (inr i) = let less : x < (m + 1) + k = numbers_are_less (m + 1) k x i in omega arith

pub library_numbers : map number_of (statements_of_bodies library_bodies) ≡ numbers_from 0 74
unfolding library_bodies
library_numbers = refl

no_statements : (ks : List Class) → statements_of_bodies (map (λ (k : Class). None) ks) ≡ []
no_statements [] = refl
no_statements (k ∷ rest) = no_statements rest

library_inits : statements_of_bodies library_init_bodies ≡ []
unfolding library_init_bodies
library_inits = no_statements builtin.classes

-- ---- the numbers of a program

pub number_of_mark : (s : Statement) → (mark_of s).0 ≡ number_of s
number_of_mark (Stmt number site askable reach act) = refl

pub site_of_mark : (s : Statement) → (mark_of s).1 ≡ site_of s
site_of_mark (Stmt number site askable reach act) = refl

-- as many statements have a number as places
marked_tally : (w : Setting) (qs : List Place) (xs : List Statement) → Marked w qs xs → (n : ℕ) → tally (has_number n) xs ≡ tally (λ q. number_at w.places q == n) qs
marked_tally w qs xs h n =
    tally_alike (has_number n) (λ s. (mark_of s).0 == n) xs (λ s m. ap (λ k. k == n) (sym (number_of_mark s)))
    ∙ sym (tally_map (λ (m : Mark). m.0 == n) mark_of xs)
    ∙ ap (tally (λ (m : Mark). m.0 == n)) h
    ∙ tally_map (λ (m : Mark). m.0 == n) (mark_at w) qs

-- what the classes of a program became, by the places of their statements
pub record Stand (w : Setting) (is bs : List Place) (methods initializers : List (Option Body)) : Type 0 where
  pub methods_stand : BodiesStand w bs methods
  pub initializers_stand : BodiesStand w is initializers
  -- the places of the bodies are those of the classes
  pub same : (f : Place → Bool) → tally f w.places ≡ tally f is + tally f bs
  pub different : Distinct (keys w.places)

sums : (all front back lib methods first last inits : ℕ) → all ≡ front + back → front ≡ lib + methods → back ≡ first + last → first ≡ 0 → all ≡ lib + (last + methods)
sums all front back lib methods first last inits a b c d = omega arith

statement_sum : (f : Statement → Bool) (methods initializers : List (Option Body)) →
    tally f (statements_of_bodies (library_bodies ++ methods) ++ statements_of_bodies (library_init_bodies ++ initializers)) ≡ tally f (statements_of_bodies library_bodies) + (tally f (statements_of_bodies initializers) + tally f (statements_of_bodies methods))
statement_sum f methods initializers =
    sums _ (tally f (statements_of_bodies (library_bodies ++ methods))) (tally f (statements_of_bodies (library_init_bodies ++ initializers))) (tally f (statements_of_bodies library_bodies)) (tally f (statements_of_bodies methods)) (tally f (statements_of_bodies library_init_bodies)) (tally f (statements_of_bodies initializers)) 0
    (tally_both f (statements_of_bodies (library_bodies ++ methods)) (statements_of_bodies (library_init_bodies ++ initializers)))
    (ap (tally f) (bodies_append library_bodies methods) ∙ tally_both f (statements_of_bodies library_bodies) (statements_of_bodies methods))
    (ap (tally f) (bodies_append library_init_bodies initializers) ∙ tally_both f (statements_of_bodies library_init_bodies) (statements_of_bodies initializers))
    (ap (tally f) library_inits)

library_tally : (n : ℕ) → tally (has_number n) (statements_of_bodies library_bodies) ≡ tally (λ x. x == n) (numbers_from 0 74)
library_tally n = sym (tally_map (λ x. x == n) number_of (statements_of_bodies library_bodies)) ∙ ap (tally (λ x. x == n)) library_numbers

low_number : (r n : ℕ) → n < 74 → (74 + r == n) ≡ false
low_number r n h = grind (arith, nat_tests)

high_number : (r n : ℕ) → 74 ≤ n → (74 + r == n) ≡ (r == n - 74)
high_number r n h = grind (arith, nat_tests)

tally_none : {X : Type 0} (f : X → Bool) (xs : List X) → ((x : X) → f x ≡ false) → tally f xs ≡ 0
tally_none f [] h = refl
tally_none f (x ∷ xs) h = (λ i. cond (h x i) 1 0 + tally_none f xs h i)

places_below : (all : List Place) (n : ℕ) → n < 74 → tally (λ q. number_at all q == n) all ≡ 0
places_below all n h = tally_none (λ q. number_at all q == n) all (λ q. ap (λ k. k == n) (number_is all q) ∙ low_number (rank (keys all) (key_of q)) n h)

places_among : (all : List Place) → Distinct (keys all) → (n : ℕ) → 74 ≤ n → n < 74 + length all → tally (λ q. number_at all q == n) all ≡ 1
places_among all d n h i =
    tally_alike (λ q. number_at all q == n) (λ q. rank (keys all) (key_of q) == n - 74) all (λ q m. ap (λ k. k == n) (number_is all q) ∙ high_number (rank (keys all) (key_of q)) n h)
    ∙ sym (tally_map (λ k. rank (keys all) k == n - 74) key_of all)
    ∙ dense (keys all) d (n - 74) (let e : length (keys all) ≡ length all = length-map all key_of in omega arith)

together : (all lib is bs places : ℕ) → all ≡ lib + (is + bs) → places ≡ is + bs → all ≡ lib + places
together all lib is bs places a b = omega arith

one_each : (w : Setting) (is bs : List Place) (methods initializers : List (Option Body)) → Stand w is bs methods initializers → (n : ℕ) → n < 74 + length w.places →
    tally (has_number n) (statements_of_bodies (library_bodies ++ methods) ++ statements_of_bodies (library_init_bodies ++ initializers)) ≡ 1
one_each w is bs methods initializers h n less =
    let parts : tally (has_number n) (statements_of_bodies (library_bodies ++ methods) ++ statements_of_bodies (library_init_bodies ++ initializers)) ≡ tally (has_number n) (statements_of_bodies library_bodies) + tally (λ q. number_at w.places q == n) w.places =
    together _ _ _ _ _ (statement_sum (has_number n) methods initializers ∙ (λ i. tally (has_number n) (statements_of_bodies library_bodies) + (marked_tally w is (statements_of_bodies initializers) h.initializers_stand n i + marked_tally w bs (statements_of_bodies methods) h.methods_stand n i))) (h.same (λ q. number_at w.places q == n)) in
    parts ∙ by (three_ways n 74)
  where
    by : ((n < 74) ⊎ (n ≡ 74) ⊎ (74 < n)) → tally (has_number n) (statements_of_bodies library_bodies) + tally (λ q. number_at w.places q == n) w.places ≡ 1
    by (inl low) = λ i. (library_tally n ∙ numbers_among 0 74 n (omega arith) (omega arith)) i + places_below w.places n low i
    by (inr (inl e)) = λ i. (library_tally n ∙ numbers_above 0 74 n (omega arith)) i + places_among w.places h.different n (omega arith) less i
    by (inr (inr high)) = λ i. (library_tally n ∙ numbers_above 0 74 n (omega arith)) i + places_among w.places h.different n (omega arith) less i

-- ---- each statement by its place

-- a place of the classes, with the number and the site of the statement
abbrev HasPlace : Setting → Statement → Type 0
HasPlace w s = (q : Place) × In (key_of q) (keys w.places) × (number_at w.places q ≡ number_of s) × (q.site ≡ site_of s)

pub is_same : (q : Place) → has_key (key_of q) q ≡ true
is_same q = is_itself (key_of q)

pub key_among : (w : Setting) (n : ℕ) → 1 ≤ tally (has_key n) w.places → In n (keys w.places)
key_among w n h =
    let found = in_tally (has_key n) w.places h in
    let P : ℕ → Type 0 = λ k. In k (keys w.places) in
    subst P (eqb-true (key_of found.0) n found.2) (in_map key_of w.places found.0 found.1)

pub some_first : (a b all : ℕ) → all ≡ a + b → 1 ≤ a → 1 ≤ all
some_first a b all e h = omega arith

pub some_second : (a b all : ℕ) → all ≡ a + b → 1 ≤ b → 1 ≤ all
some_second a b all e h = omega arith

place_of : (w : Setting) (qs : List Place) (xs : List Statement) → Marked w qs xs → ((q : Place) → In q qs → In (key_of q) (keys w.places)) → (s : Statement) → In s xs → HasPlace w s
place_of w qs xs h among s m =
    let P : List Mark → Type 0 = λ ms. In (mark_of s) ms in
    let found = map_in (mark_at w) qs (mark_of s) (subst P h (in_map mark_of xs s m)) in
    (found.0, among found.0 found.1, ap (λ (x : Mark). x.0) found.2 ∙ number_of_mark s, ap (λ (x : Mark). x.1) found.2 ∙ site_of_mark s)

pub has_place : (w : Setting) (is bs : List Place) (methods initializers : List (Option Body)) → Stand w is bs methods initializers → (s : Statement) →
    Contains (statements_of_bodies methods ++ statements_of_bodies initializers) s → HasPlace w s
has_place w is bs methods initializers h s c = elim (Contains-append_cases (statements_of_bodies methods) (statements_of_bodies initializers) s c) [
  | inl l ↦ place_of w bs (statements_of_bodies methods) h.methods_stand
      (λ q m. key_among w (key_of q) (some_second (tally (has_key (key_of q)) is) (tally (has_key (key_of q)) bs) _ (h.same (has_key (key_of q))) (tally_in (has_key (key_of q)) bs q m (is_same q))))
      s (contains_in (statements_of_bodies methods) s l)
  | inr r ↦ place_of w is (statements_of_bodies initializers) h.initializers_stand
      (λ q m. key_among w (key_of q) (some_first (tally (has_key (key_of q)) is) (tally (has_key (key_of q)) bs) _ (h.same (has_key (key_of q))) (tally_in (has_key (key_of q)) is q m (is_same q))))
      s (contains_in (statements_of_bodies initializers) s r)
]

pub placed_below : (w : Setting) (s : Statement) → HasPlace w s → number_of s < 74 + length w.places
placed_below w s p =
    let less : rank (keys w.places) (key_of p.0) < length (keys w.places) = rank_below (keys w.places) (key_of p.0) p.1 in
    let same : length (keys w.places) ≡ length w.places = length-map w.places key_of in
    let number : number_at w.places p.0 ≡ 74 + rank (keys w.places) (key_of p.0) = number_is w.places p.0 in
    let own : number_at w.places p.0 ≡ number_of s = p.2 in
    omega arith

pub placed_behind : (w : Setting) (s : Statement) → HasPlace w s → 74 ≤ number_of s
placed_behind w s p =
    let number : number_at w.places p.0 ≡ 74 + rank (keys w.places) (key_of p.0) = number_is w.places p.0 in
    let own : number_at w.places p.0 ≡ number_of s = p.2 in
    omega arith

earlier : (a b i j : ℕ) → i < 8 → a < b → a * 8 + i < b * 8 + j
earlier a b i j h k = omega arith

pub placed_by_site : (w : Setting) (s t : Statement) → HasPlace w s → HasPlace w t → site_of s < site_of t → number_of s < number_of t
placed_by_site w s t p q less =
    let first : p.0.site ≡ site_of s = p.3 in
    let second : q.0.site ≡ site_of t = q.3 in
    let before : key_of p.0 < key_of q.0 = earlier p.0.site q.0.site (order_of p.0.role) (order_of q.0.role) (few_orders p.0.role) (omega arith) in
    let ranks : rank (keys w.places) (key_of p.0) < rank (keys w.places) (key_of q.0) = rank_before (keys w.places) (key_of p.0) (key_of q.0) p.1 before in
    let number : number_at w.places p.0 ≡ 74 + rank (keys w.places) (key_of p.0) = number_is w.places p.0 in
    let later : number_at w.places q.0 ≡ 74 + rank (keys w.places) (key_of q.0) = number_is w.places q.0 in
    let own : number_at w.places p.0 ≡ number_of s = p.2 in
    let other : number_at w.places q.0 ≡ number_of t = q.2 in
    omega arith

library_below : (s : Statement) → Contains (statements_of_bodies library_bodies) s → number_of s < 74
library_below s c =
    let P : List ℕ → Type 0 = λ ns. In (number_of s) ns in
    numbers_are_less 0 74 (number_of s) (subst P library_numbers (in_map number_of (statements_of_bodies library_bodies) s (contains_in (statements_of_bodies library_bodies) s c)))

-- ---- the program

all_below : (w : Setting) (is bs : List Place) (methods initializers : List (Option Body)) → Stand w is bs methods initializers → (s : Statement) →
    Contains (statements_of_bodies (library_bodies ++ methods) ++ statements_of_bodies (library_init_bodies ++ initializers)) s → number_of s < 74 + length w.places
all_below w is bs methods initializers h s c = elim (Contains-append_cases (statements_of_bodies (library_bodies ++ methods)) (statements_of_bodies (library_init_bodies ++ initializers)) s c) [
  | inl l ↦ elim (Contains-append_cases (statements_of_bodies library_bodies) (statements_of_bodies methods) s (rw bodies_append at l)) [
    | inl a ↦ let less : number_of s < 74 = library_below s a in omega arith
    | inr b ↦ placed_below w s (has_place w is bs methods initializers h s (Contains-append_left (statements_of_bodies methods) (statements_of_bodies initializers) s b))
  ]
  | inr r ↦ elim (Contains-append_cases (statements_of_bodies library_init_bodies) (statements_of_bodies initializers) s (rw bodies_append at r)) [
    | inl a ↦ let P : List Statement → Type 0 = λ xs. Contains xs s in absurd (none_in s (subst P library_inits a))
    | inr b ↦ placed_below w s (has_place w is bs methods initializers h s (Contains-append_right (statements_of_bodies methods) (statements_of_bodies initializers) s b))
  ]
]

-- the bodies of a program, where its classes have different places and its interfaces no bodies
pub stand : (unit : CompilationUnit) (p : Program) (m : MadeFrom unit p) (low high : ℕ) → ((t : Table) → Once low high (places_of t unit)) → AllBodiless (classes_of unit) →
    Stand (setting m.judgement m.table unit) (all_initializers (classes_of unit)) (all_bodies m.table first_source_class (classes_of unit)) m.bodies.methods m.bodies.initializers
stand unit p m low high once free =
    let all = (bodies_stand (setting m.judgement m.table unit) first_source_class (classes_of unit)).by m.texts m.after m.bodies m.made in
    record {
      methods_stand = all.methods;
      initializers_stand = all.initializers;
      same = λ f. classes_tally f m.table first_source_class (classes_of unit) free;
      different = different_places low high (places_of m.table unit) (once m.table);
    }

pub are_dense : (unit : CompilationUnit) (p : Program) → MadeFrom unit p → (low high : ℕ) → ((t : Table) → Once low high (places_of t unit)) → AllBodiless (classes_of unit) → AreDense p
are_dense unit p m low high once free =
    let w = setting m.judgement m.table unit in
    let h = stand unit p m low high once free in
    let is = all_initializers (classes_of unit) in
    let bs = all_bodies m.table first_source_class (classes_of unit) in
    subst AreDense m.is (record {
      each = λ n less. sym (tally_is (has_number n) _) ∙ one_each w is bs m.bodies.methods m.bodies.initializers h n less;
      below = all_below w is bs m.bodies.methods m.bodies.initializers h;
    })
