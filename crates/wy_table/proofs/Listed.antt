-- The lists that a hierarchy stands for.
use Rattle.std.proofs.Common.{◌≡◌, ℕ, zero, suc, ◌<◌, ◌≤◌, ◌+◌, Bool, true, false, List, [], ◌∷◌, length, Some, sym, ◌∙◌, ap, subst, arith, ◌⊎◌, nat_eq, cond, get_or, IsTrue, ◌↔◌, ⊎_elim}
use Rattle.std.specs.Prelude.{map, slice_get}
use Rattle.std.specs.List.{Contains, IsDistinct, filter, range_with_len}
use Rattle.std.proofs.lemmas.Bool.{ne_eqb, cases_Bool}
use Rattle.std.proofs.lemmas.List.{length-map}
use Rattle.std.proofs.lemmas.List.Elements.{All-contains, All-filter, All-contains_itself, filter_passes}
use Rattle.std.proofs.lemmas.List.FromFn.{length-range_with_len, get_or-range_with_len}
use Rattle.std.proofs.lemmas.List.Kept.{AllPairs-filter}
use Rattle.std.proofs.lemmas.Map.Keys.{IsDistinct-from_apart}
use Rattle.wy_kernel.specs.Program.{Class}
use Rattle.wy_kernel.specs.Subtyping.{Supertype}
use Rattle.wy_kernel.specs.Table.{NamesAmong, HasSupertypes, KeepsSupertypes}
use Rattle.std.specs.declared.alloc.Global.{Global}
use Rattle.std.specs.declared.vec.Vec.{Vec}
use Rattle.std.proofs.lemmas.List.{get_or_default}
use Rattle.wy_kernel.proofs.Closing.{among}
use Rattle.wy_kernel.proofs.Indexed.{mapped}
use Rattle.wy_table.specs.Above.{AreRows, IsRow}
use Rattle.wy_table.specs.Hierarchy.{IsListed, row_of, rows_of}
use Rattle.wy_table.specs.Numbering.{IsNumbering}
use Rattle.wy_table.specs.Spans.{is_covered}
use Rattle.wy_table.specs.declared.hierarchy.Hierarchy.{Hierarchy}
use Rattle.wy_table.specs.declared.spans.Span.{Span}

behind : (x : ℕ) (xs : List ℕ) (d : ℕ) → Contains xs d → Contains (x ∷ xs) d
behind x xs d (k, lt, e) = (suc k, omega arith, e)

pub in_filter : (p : ℕ → Bool) (xs : List ℕ) (d : ℕ) → Contains xs d → p d ≡ true → Contains (filter p xs) d
in_filter p [] d (k, lt, e) t = absurd (omega arith)
in_filter p (x ∷ xs) d (zero, lt, e) t =
    let P : Bool → Type 0 = λ b. Contains (cond b (x ∷ filter p xs) (filter p xs)) d in
    subst P (sym (ap p e ∙ t)) (0, omega arith, e)
in_filter p (x ∷ xs) d (suc k, lt, e) t =
    let rest : Contains (filter p xs) d = in_filter p xs d (k, omega arith, e) t in
    let P : Bool → Type 0 = λ b. Contains (cond b (x ∷ filter p xs) (filter p xs)) d in
    ⊎_elim (λ b. subst P (sym b) (behind x (filter p xs) d rest)) (λ b. subst P (sym b) rest) (cases_Bool (p x))

in_range : (n d : ℕ) → d < n → Contains (range_with_len 0 n) d
in_range n d lt = (d, (let many = length-range_with_len 0 n in omega arith), get_or-range_with_len 0 n d d lt ∙ (let e : 0 + d ≡ d = omega arith in e))

of_range : (n d : ℕ) → Contains (range_with_len 0 n) d → d < n
of_range n d (k, lt, e) =
    let less : k < n = (let many = length-range_with_len 0 n in omega arith) in
    let at = get_or-range_with_len 0 n k d less in
    omega arith

-- the classes of a row are those whose numbers it covers
pub row_has : (numbers : List ℕ) (row : List Span) (d : ℕ) → Contains (row_of numbers row) d ↔ ((d < length numbers) × (is_covered (get_or numbers d 0) row ≡ true))
row_has numbers row d =
    let all = range_with_len 0 (length numbers) in
    let p : ℕ → Bool = λ d. is_covered (get_or numbers d 0) row in (
      λ h. (of_range (length numbers) d (All-contains (Contains all) (filter p all) d (All-filter p (Contains all) all (All-contains_itself all)) h), All-contains (λ x. p x ≡ true) (filter p all) d (filter_passes p all) h),
      λ (lt, t). in_filter p all d (in_range (length numbers) d lt) t,
    )

row_once : (numbers : List ℕ) (row : List Span) → IsDistinct nat_eq (row_of numbers row)
row_once numbers row =
    let n = length numbers in
    let all = range_with_len 0 n in
    let p : ℕ → Bool = λ d. is_covered (get_or numbers d 0) row in
    IsDistinct-from_apart nat_eq (filter p all)
    (AllPairs-filter (λ x y. nat_eq x y ≡ false) p all
    (λ i j d lt less. (let many = length-range_with_len 0 n in
    let a = get_or-range_with_len 0 n i d (omega arith) in
    let b = get_or-range_with_len 0 n j d (omega arith) in
    ne_eqb (get_or all i d) (get_or all j d) (λ same. omega arith))))

at_row : {R : Type 0} (g : List Span → List ℕ) (f : R → List Span) (rows : List R) (c : ℕ) (row : List ℕ) → slice_get (map (λ r. g (f r)) rows) c ≡ Some row → (c < length rows) × (g (get_or (map f rows) c []) ≡ row)
at_row g f [] c row e = absurd (cc)
at_row g f (r ∷ rows) zero row e = (omega arith, cc)
at_row g f (r ∷ rows) (suc c) row e = let rest = at_row g f rows c row e in ((let lt = rest.0 in omega arith), rest.1)

-- the rows of classes are those of their supertypes
pub keeps : {R : Type 0} (f : R → List Span) (classes : List Class) (numbers : List ℕ) (rows : List R) → NamesAmong classes → IsNumbering (length classes) numbers → AreRows classes numbers (map f rows) → KeepsSupertypes classes (map (λ r. row_of numbers (f r)) rows)
keeps f classes numbers rows names m are =
    let many : length rows ≡ length classes = sym (length-map rows f) ∙ are.long in
    record {
      a_row_a_class = length-map rows (λ r. row_of numbers (f r)) ∙ many;
      each = λ c row is. (let found = at_row (row_of numbers) f rows c row is in
          let lt : c < length classes = (let less = found.0 in omega arith) in
          let P : List ℕ → Type 0 = λ w. HasSupertypes classes c w in
          subst P found.1 (record {
            exact = λ d. exact c lt (get_or (map f rows) c []) (are.each c lt) d;
            once = row_once numbers (get_or (map f rows) c []);
          }));
    }
  where
    exact : (c : ℕ) → c < length classes → (w : List Span) → IsRow classes numbers c w → (d : ℕ) → Contains (row_of numbers w) d ↔ Supertype classes c d
    exact c lt w row d =
        let has = row_has numbers w d in
        let long = m.long in (
          λ h. (let x = has.0 h in (row d (let less = x.0 in omega arith)).0 x.1),
          λ s. (let less : d < length classes = among classes names lt s in has.1 (omega arith, (row d less).1 s)),
        )

-- ---- whether a class is listed

pub listed : (h : Hierarchy) (c d number : ℕ) (row : Vec Span Global) (answer : Bool) → c < length h.rows.items → d < length h.numbers.items → row ≡ get_or h.rows.items c row → number ≡ get_or h.numbers.items d number → answer ≡ is_covered number row.items →
    IsTrue answer ↔ IsListed (rows_of h) c d
unfolding rows_of
listed h c d number row answer in_rows in_numbers is_row is_number is =
    let numbers = h.numbers.items in
    let there : slice_get (rows_of h) c ≡ Some (row_of numbers row.items) = mapped (λ r. row_of numbers r.items) h.rows.items c row in_rows is_row in
    let has = row_has numbers row.items d in
    let same : number ≡ get_or numbers d 0 = is_number ∙ get_or_default numbers d number 0 in_numbers in
    let says : answer ≡ is_covered (get_or numbers d 0) row.items = is ∙ ap (λ n. is_covered n row.items) same in (
      λ t. (row_of numbers row.items, there, has.1 (in_numbers, sym says ∙ t)),
      λ (listed_row, at, h). (let same_row : listed_row ≡ row_of numbers row.items = (let e : Some listed_row ≡ Some (row_of numbers row.items) = sym at ∙ there in cc) in
          let P : List ℕ → Type 0 = λ w. Contains w d in
          says ∙ (has.0 (subst P same_row h)).1),
    )

pub not_listed : (h : Hierarchy) (c d : ℕ) → (length h.rows.items ≤ c) ⊎ (length h.numbers.items ≤ d) → IsListed (rows_of h) c d → ⊥
unfolding rows_of
not_listed h c d beyond (row, at, has) =
    let numbers = h.numbers.items in
    let found = at_row (row_of numbers) (λ r. r.items) h.rows.items c row at in
    let in_rows = found.0 in
    let P : List ℕ → Type 0 = λ w. Contains w d in
    let in_numbers = ((row_has numbers (get_or (map (λ (r : Vec Span Global). r.items) h.rows.items) c []) d).0 (subst P (sym found.1) has)).0 in
    ⊎_elim (λ le. absurd (omega arith)) (λ le. absurd (omega arith)) beyond
