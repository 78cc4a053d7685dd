-- The events of a list, row by row.
use Rattle.std.proofs.Common.{◌≡◌, ◌≢◌, ◌∙◌, ◌<◌, ◌≤◌, ◌+◌, ℕ, zero, suc, Bool, true, false, List, [], ◌∷◌, ◌++◌, length, get_or, set, take, replicate, refl, sym, ap, cond, ⊎_elim, arith, get_or-set_same, get_or-set_other}
use Rattle.std.specs.Prelude.{◌==◌, EachIndex, MatchOption, Option, Some, None, unwrap_or, slice_get, slice_index}
use Rattle.std.specs.declared.vec.Vec.{Vec}
use Rattle.std.specs.declared.alloc.Global.{Global}
use Rattle.std.proofs.lemmas.Bool.{cases_lt, eq-eqb, eqb-true}
use Rattle.std.proofs.lemmas.List.{append-nil, get_or-map, get_or_past, length-map, length-replicate, length-set, map-append, map-set, replicate_more}
use Rattle.std.proofs.lemmas.List.Elements.{filter_more}
use Rattle.std.proofs.lemmas.Option.{unwrap_or-slice_get}
use Rattle.wy_event.specs.Record.{Recorded}
use Rattle.wy_fold.specs.declared.table.Table.{Table}
use Rattle.wy_fold.specs.Groups.{lists_of, row_of}
use Rattle.wy_fold.specs.Places.{Places, line_at, line_of_record, on_line}

-- ---- lines

pub below_greatest : (lines : List ℕ) (r : Option ℕ) → MatchOption r (length lines ≡ 0) (λ m. EachIndex lines (λ k. slice_index lines k ≤ m)) → (rs : List Recorded) (n : ℕ)
    → line_at lines rs n ≤ unwrap_or r 0
unfolding line_at
below_greatest lines r h rs n = go (slice_get rs n)
  where
    bound : (r : Option ℕ) → MatchOption r (length lines ≡ 0) (λ m. EachIndex lines (λ k. slice_index lines k ≤ m)) → (k : ℕ) → get_or lines k 0 ≤ unwrap_or r 0
    bound None none k = omega (arith, get_or_past lines k 0 (omega (arith, none)))
    bound (Some m) below k = ⊎_elim (λ (lt : k < length lines). below k lt) (λ (ge : length lines ≤ k). omega (arith, get_or_past lines k 0 ge)) (cases_lt k (length lines))

    go : (e : Option Recorded) → line_of_record lines e ≤ unwrap_or r 0
    go None = omega arith
    go (Some e) = omega (arith, unwrap_or-slice_get lines e.site 0, bound r h e.site)

-- ---- rows

pub one_more_row : (rows more : List (Vec ℕ Global)) (n : ℕ) (v : Vec ℕ Global) → lists_of rows ≡ replicate n [] → v.items ≡ [] → more ≡ rows ++ v ∷ [] → lists_of more ≡ replicate (n + 1) []
one_more_row rows more n v is empty e =
    ap lists_of e ∙ map-append (λ (v : Vec ℕ Global). v.items) rows (v ∷ []) ∙ ap (λ xs. xs ++ v.items ∷ []) is ∙ ap (λ x. replicate n [] ++ x ∷ []) empty ∙ replicate_more n []

pub as_many : (rows : List (Vec ℕ Global)) (n : ℕ) → lists_of rows ≡ replicate n [] → length rows ≡ n
as_many rows n e = sym (length-map rows (λ (v : Vec ℕ Global). v.items)) ∙ ap length e ∙ length-replicate n []

pub put_there : (rows : List (Vec ℕ Global)) (k n : ℕ) (old pushed : Vec ℕ Global) → k < length rows → pushed.items ≡ old.items ++ n ∷ [] → old ≡ get_or rows k old
    → lists_of (set rows k pushed) ≡ set (lists_of rows) k (get_or (lists_of rows) k [] ++ n ∷ [])
put_there rows k n old pushed inside items was =
    map-set (λ (v : Vec ℕ Global). v.items) rows k pushed
    ∙ ap (λ xs. set (lists_of rows) k xs) (items ∙ ap (λ xs. xs ++ n ∷ []) (ap (λ (v : Vec ℕ Global). v.items) was ∙ sym (get_or-map (λ (v : Vec ℕ Global). v.items) rows k old [] inside)))

pub same_many : (old new : List (Vec ℕ Global)) (k : ℕ) (x : List ℕ) → lists_of new ≡ set (lists_of old) k x → length new ≡ length old
same_many old new k x is =
    sym (length-map new (λ (v : Vec ℕ Global). v.items)) ∙ ap length is ∙ length-set (lists_of old) k x ∙ length-map old (λ (v : Vec ℕ Global). v.items)

pub nothing_there : (n k : ℕ) → get_or {A = List ℕ} (replicate n []) k [] ≡ []
nothing_there zero k = refl
nothing_there (suc n) zero = refl
nothing_there (suc n) (suc k) = nothing_there n k

-- each row has the events so far that stand on its line, and so it is once the next was put
pub one_more_event : (at : Places) (events : List ℕ) (i : ℕ) (rows more : List (List ℕ)) → i < length events → at (get_or events i 0) < length rows
    → more ≡ set rows (at (get_or events i 0)) (get_or rows (at (get_or events i 0)) [] ++ get_or events i 0 ∷ [])
    → ((k : ℕ) → get_or rows k [] ≡ on_line at k (take i events)) → (k : ℕ) → get_or more k [] ≡ on_line at k (take (i + 1) events)
one_more_event at events i rows more lt inside is so k = by (at (get_or events i 0) == k) refl
  where
    by : (b : Bool) → (at (get_or events i 0) == k) ≡ b → get_or more k [] ≡ on_line at k (take (i + 1) events)
    by true h =
        let e = get_or events i 0 in
        let same : at e ≡ k = eqb-true (at e) k h in
        ap (λ xs. get_or xs k []) is
        ∙ ap (λ j. get_or (set rows (at e) (get_or rows (at e) [] ++ e ∷ [])) j []) (sym same)
        ∙ get_or-set_same rows (at e) (get_or rows (at e) [] ++ e ∷ []) [] inside
        ∙ ap (λ j. get_or rows j [] ++ e ∷ []) same
        ∙ ap (λ xs. xs ++ e ∷ []) (so k)
        ∙ sym (filter_more (λ n. at n == k) events i 0 lt ∙ ap (λ b. on_line at k (take i events) ++ cond b (e ∷ []) []) h)
    by false h =
        let e = get_or events i 0 in
        let other : k ≢ at e = λ same. let yes_same : (at e == k) ≡ true = eq-eqb (at e) k (sym same) in cc in
        ap (λ xs. get_or xs k []) is
        ∙ get_or-set_other rows (at e) k (get_or rows (at e) [] ++ e ∷ []) [] other
        ∙ so k
        ∙ sym (filter_more (λ n. at n == k) events i 0 lt ∙ ap (λ b. on_line at k (take i events) ++ cond b (e ∷ []) []) h ∙ append-nil (on_line at k (take i events)))

-- what is read of a row
pub row_read : (t : Table) (k : ℕ) (v : Vec ℕ Global) → k < length t.rows.items → v ≡ get_or t.rows.items k v → v.items ≡ row_of t k
row_read t k v inside was = ap (λ (v : Vec ℕ Global). v.items) was ∙ sym (get_or-map (λ (v : Vec ℕ Global). v.items) t.rows.items k v [] inside)
