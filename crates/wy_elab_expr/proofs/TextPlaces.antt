-- The places of texts by what they hold: once one more is there, and once one has another token.
use Rattle.std.proofs.Common.{◌≡◌, ◌∙◌, ap, sym, refl, ℕ, zero, suc, ◌+◌, ◌<◌, ◌≤◌, Bool, true, false, cond, not, List, [], ◌∷◌, ◌++◌, length, set, get_or, take, Option, Some, None, Vec, map, add-zero, zero-add, arith}
use Rattle.std.specs.Global.{Global}
use Rattle.std.specs.List.{position_from, position_or_len}
use Rattle.std.specs.Prelude.{is_some}
use Rattle.std.specs.Str.{bytes_eq}
use Rattle.std.specs.Map.{lookup}
use Rattle.std.proofs.lemmas.Slice.Eq.{bytes_eq-Decides}
use Rattle.indexmap.specs.IndexMap.{IndexMap, Updates}
use Rattle.std.proofs.lemmas.List.{length-map, length-take-le, map-append, map-set, get_or-map, take_more}
use Rattle.wy_constant.specs.declared.variable.FixedText as memory
use Rattle.wy_constant.specs.Scope.{FixedText}
use Rattle.wy_constant.specs.Scopes.{text_of}
use Rattle.wy_table.specs.Names.{numbered_also}
use Rattle.wy_elab_expr.specs.Meaning.{has_units, text_number}
use Rattle.wy_elab_expr.specs.TextPlaces.{KeepsTextPlaces, place_in}

-- ---- the first place in a list

pub first_push : {X : Type 0} (p : X → Bool) (n : ℕ) (xs : List X) (y : X) → position_from p n (xs ++ y ∷ []) ≡ numbered_also (position_from p n xs) (p y) (n + length xs)
first_push p n [] y = ap (λ k. cond (p y) (Some k) None) (sym (add-zero n))
first_push p n (x ∷ xs) y = by (p x) (first_push p (n + 1) xs y ∙ ap (numbered_also (position_from p (n + 1) xs) (p y)) (omega arith))
  where
    by : (b : Bool) → position_from p (n + 1) (xs ++ y ∷ []) ≡ numbered_also (position_from p (n + 1) xs) (p y) (n + suc (length xs)) →
        cond b (Some n) (position_from p (n + 1) (xs ++ y ∷ [])) ≡ numbered_also (cond b (Some n) (position_from p (n + 1) xs)) (p y) (n + suc (length xs))
    by true e = refl
    by false e = e

pub first_set : {X : Type 0} (p : X → Bool) (n : ℕ) (xs : List X) (i : ℕ) (y d : X) → p y ≡ p (get_or xs i d) → position_from p n (set xs i y) ≡ position_from p n xs
first_set p n [] i y d e = refl
first_set p n (x ∷ xs) zero y d e = ap (λ b. cond b (Some n) (position_from p (n + 1) xs)) e
first_set p n (x ∷ xs) (suc i) y d e = ap (λ o. cond (p x) (Some n) o) (first_set p (n + 1) xs i y d e)

step : {X : Type 0} (p : X → Bool) (x : X) (xs : List X) (b : Bool) → p x ≡ b → position_or_len p (x ∷ xs) ≡ cond b 0 (1 + position_or_len p xs)
step p x xs true e = ap (λ b. cond (not b) (1 + position_or_len p xs) 0) e
step p x xs false e = ap (λ b. cond (not b) (1 + position_or_len p xs) 0) e

pub present : {X : Type 0} (p : X → Bool) (n : ℕ) (xs : List X) (k : ℕ) → position_from p n xs ≡ Some k → (k ≡ n + position_or_len p xs) × (position_or_len p xs < length xs)
present p n [] k e = absurd (cc)
present p n (x ∷ xs) k e = by (p x) refl (present p (n + 1) xs k)
  where
    by : (b : Bool) → p x ≡ b → (position_from p (n + 1) xs ≡ Some k → (k ≡ n + 1 + position_or_len p xs) × (position_or_len p xs < length xs)) →
        (k ≡ n + position_or_len p (x ∷ xs)) × (position_or_len p (x ∷ xs) < length (x ∷ xs))
    by true is more =
        let s = step p x xs true is in
        let here : n ≡ k = (let f : Some n ≡ Some k = sym (ap (λ b. cond b (Some n) (position_from p (n + 1) xs)) is) ∙ e in cc) in
        (omega arith, omega arith)
    by false is more =
        let s = step p x xs false is in
        let m = more (sym (ap (λ b. cond b (Some n) (position_from p (n + 1) xs)) is) ∙ e) in
        let m0 = m.0 in
        let m1 = m.1 in
        (omega arith, omega arith)

pub absent : {X : Type 0} (p : X → Bool) (n : ℕ) (xs : List X) → position_from p n xs ≡ None → position_or_len p xs ≡ length xs
absent p n [] e = refl
absent p n (x ∷ xs) e = by (p x) refl (absent p (n + 1) xs)
  where
    by : (b : Bool) → p x ≡ b → (position_from p (n + 1) xs ≡ None → position_or_len p xs ≡ length xs) → position_or_len p (x ∷ xs) ≡ length (x ∷ xs)
    by true is more = let no : Some n ≡ None = sym (ap (λ b. cond b (Some n) (position_from p (n + 1) xs)) is) ∙ e in absurd (cc)
    by false is more =
        let s = step p x xs false is in
        let m = more (sym (ap (λ b. cond b (Some n) (position_from p (n + 1) xs)) is) ∙ e) in
        omega arith

nowhere : {X : Type 0} (p : X → Bool) (n : ℕ) (xs : List X) → position_or_len p xs ≡ length xs → position_from p n xs ≡ None
nowhere p n [] e = refl
nowhere p n (x ∷ xs) e = by (p x) refl (nowhere p (n + 1) xs)
  where
    by : (b : Bool) → p x ≡ b → (position_or_len p xs ≡ length xs → position_from p (n + 1) xs ≡ None) → position_from p n (x ∷ xs) ≡ None
    by true is more = let s = step p x xs true is in absurd (omega arith)
    by false is more =
        let s = step p x xs false is in
        ap (λ b. cond b (Some n) (position_from p (n + 1) xs)) is ∙ more (omega arith)

pub not_some : (o : Option ℕ) → is_some o ≡ false → o ≡ None
not_some None e = refl
not_some (Some n) e = cc

-- ---- the place in a map, once one more is put there

pub placed_more : {S : Type 0} (m n : IndexMap (Vec ℕ Global) ℕ S) (k : Vec ℕ Global) (at : ℕ) → place_in m k ≡ None → Updates (λ a b. bytes_eq a.items b.items) m n k (Some at) →
    (q : Vec ℕ Global) → place_in n q ≡ numbered_also (place_in m q) (bytes_eq k.items q.items) at
placed_more m n k at none u q = u.0 q ∙ by (bytes_eq k.items q.items) refl
  where
    other : (o : Option ℕ) → o ≡ numbered_also o false at
    other (Some n) = refl
    other None = refl

    by : (b : Bool) → bytes_eq k.items q.items ≡ b → cond b (Some at) (place_in m q) ≡ numbered_also (place_in m q) b at
    by true is =
        let same : k.items ≡ q.items = (bytes_eq-Decides k.items q.items).0 is in
        let nothing : place_in m q ≡ None = ap (λ w. lookup (λ b. bytes_eq w b.items) m.entries) (sym same) ∙ none in
        sym (ap (λ o. numbered_also o true at) nothing)
    by false is = other (place_in m q)

-- ---- a map that keeps the places of texts

-- once one text more of a list has its place
pub placed_push : {S : Type 0} (list : List memory.FixedText) (i : ℕ) (text : memory.FixedText) (m n : IndexMap (Vec ℕ Global) ℕ S) → i < length list → text ≡ get_or list i text →
    KeepsTextPlaces (map text_of (take i list)) m → ((q : Vec ℕ Global) → place_in n q ≡ numbered_also (place_in m q) (bytes_eq text.units.items q.items) i) → KeepsTextPlaces (map text_of (take (i + 1) list)) n
placed_push list i text m n less is keeps more q =
    let one : take (i + 1) list ≡ take i list ++ text ∷ [] = take_more list i text less ∙ ap (λ x. take i list ++ x ∷ []) (sym is) in
    let many : length (map text_of (take i list)) ≡ i = length-map (take i list) text_of ∙ length-take-le i list (omega arith) in
    more q ∙ ap (λ o. numbered_also o (bytes_eq text.units.items q.items) i) (keeps q)
    ∙ ap (numbered_also (position_from (has_units q.items) 0 (map text_of (take i list))) (bytes_eq text.units.items q.items)) (sym many ∙ sym (zero-add _))
    ∙ sym (first_push (has_units q.items) 0 (map text_of (take i list)) (text_of text))
    ∙ ap (position_from (has_units q.items) 0) (sym (map-append text_of (take i list) (text ∷ [])))
    ∙ ap (λ xs. position_from (has_units q.items) 0 (map text_of xs)) (sym one)

-- once a text that is not there yet stands behind the others
pub placed_behind : {S : Type 0} (xs ys : List memory.FixedText) (text : memory.FixedText) (m n : IndexMap (Vec ℕ Global) ℕ S) (k : Vec ℕ Global) → ys ≡ xs ++ text ∷ [] → k.items ≡ text.units.items →
    position_or_len (has_units text.units.items) (map text_of xs) ≡ length xs → KeepsTextPlaces (map text_of xs) m → Updates (λ a b. bytes_eq a.items b.items) m n k (Some (length xs)) → KeepsTextPlaces (map text_of ys) n
placed_behind xs ys text m n k e same beyond keeps u q =
    let none : place_in m k ≡ None = keeps k ∙ ap (λ w. position_from (has_units w) 0 (map text_of xs)) same ∙ nowhere (has_units text.units.items) 0 (map text_of xs) (beyond ∙ sym (length-map xs text_of)) in
    placed_more m n k (length xs) none u q
    ∙ ap (λ o. numbered_also o (bytes_eq k.items q.items) (length xs)) (keeps q)
    ∙ ap (λ w. numbered_also (position_from (has_units q.items) 0 (map text_of xs)) (bytes_eq w q.items) (length xs)) same
    ∙ ap (numbered_also (position_from (has_units q.items) 0 (map text_of xs)) (bytes_eq text.units.items q.items)) (sym (length-map xs text_of) ∙ sym (zero-add _))
    ∙ sym (first_push (has_units q.items) 0 (map text_of xs) (text_of text))
    ∙ ap (position_from (has_units q.items) 0) (sym (map-append text_of xs (text ∷ [])))
    ∙ ap (λ zs. position_from (has_units q.items) 0 (map text_of zs)) (sym e)

-- once a text has another token
pub placed_again : {S : Type 0} (xs : List memory.FixedText) (i : ℕ) (text : memory.FixedText) (token : ℕ) (m : IndexMap (Vec ℕ Global) ℕ S) → i < length xs → text ≡ get_or xs i text →
    KeepsTextPlaces (map text_of xs) m → KeepsTextPlaces (map text_of (set xs i (record { units = text.units; token = token }))) m
placed_again xs i text token m less is keeps q =
    keeps q
    ∙ sym (ap (position_from (has_units q.items) 0) (map-set text_of xs i (record { units = text.units; token = token }))
    ∙ first_set (has_units q.items) 0 (map text_of xs) i (record { units = text.units.items; token = token }) (text_of text)
    (ap (has_units q.items) (ap text_of is ∙ sym (get_or-map text_of xs i text (text_of text) less))))

-- a text that has a place stands there, and one that has none doesn't stand in the list
pub stands : {S : Type 0} (xs : List memory.FixedText) (m : IndexMap (Vec ℕ Global) ℕ S) (k : Vec ℕ Global) (i : ℕ) → KeepsTextPlaces (map text_of xs) m → place_in m k ≡ Some i →
    (i ≡ text_number (map text_of xs) k.items) × (i < length xs)
stands xs m k i keeps e =
    let p = present (has_units k.items) 0 (map text_of xs) i (sym (keeps k) ∙ e) in
    let p0 = p.0 in let p1 = p.1 in let many = length-map xs text_of in
    (omega arith, omega arith)

pub stands_nowhere : {S : Type 0} (xs : List memory.FixedText) (m : IndexMap (Vec ℕ Global) ℕ S) (k : Vec ℕ Global) → KeepsTextPlaces (map text_of xs) m → place_in m k ≡ None →
    text_number (map text_of xs) k.items ≡ length (map text_of xs)
stands_nowhere xs m k keeps e = absent (has_units k.items) 0 (map text_of xs) (sym (keeps k) ∙ e)

-- where a text that is not there yet will stand
pub stands_behind : (xs : List memory.FixedText) (now : List FixedText) (units : List ℕ) (at : ℕ) → map text_of xs ≡ now → at ≡ length xs → text_number now units ≡ length now →
    at ≡ text_number (map text_of xs) units
stands_behind xs now units at view is beyond =
    is ∙ sym (length-map xs text_of) ∙ ap length view ∙ sym beyond ∙ sym (ap (λ ts. text_number ts units) view)
