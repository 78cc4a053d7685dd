-- Rows of what is at or above each class, while they are made.
use Rattle.std.proofs.Common.{◌≡◌, ◌≢◌, ℕ, zero, suc, ◌<◌, Bool, true, ◌||◌, List, [], ◌∷◌, length, Some, refl, sym, ◌∙◌, ap, subst, arith, ◌⊎◌, inl, inr, nat_eq, eq-eqb, get_or, IsTrue, ⊎_elim}
use Rattle.std.proofs.Common.{get_or-set_same, get_or-set_other}
use Rattle.std.proofs.Math.ListN.{set, length-set}
use Rattle.std.specs.Prelude.{map}
use Rattle.std.specs.List.{All, Contains, list_any}
use Rattle.std.proofs.lemmas.Bool.{cases_eq, eqb-true, or_cases, or_left, or_right}
use Rattle.std.proofs.lemmas.List.{length-map, map-set}
use Rattle.std.proofs.lemmas.List.Elements.{Contains-get_or, All-contains, All-head, All-tail}
use Rattle.std.proofs.lemmas.List.Folds.{Any-from_list_any, list_any_at}
use Rattle.wy_kernel.specs.Program.{Class}
use Rattle.wy_kernel.specs.Subtyping.{direct_supertypes, named_above, Supertype, itself, further}
use Rattle.wy_kernel.specs.Table.{NamesAmong}
use Rattle.wy_kernel.proofs.Closing.{named_by}
use Rattle.wy_kernel.proofs.Indexed.{mapped}
use Rattle.wy_table.specs.Above.{AreBegun, IsRow, MakesRow}
use Rattle.wy_table.specs.Numbering.{IsNumbering}
use Rattle.wy_table.specs.Spans.{is_covered}
use Rattle.wy_table.specs.declared.spans.Span.{Span}

-- what the class at a place names are its direct supertypes
pub named_at : {K : Type 0} (f : K → Class) (classes : List K) (x : ℕ) (k : K) (row : List ℕ) → x < length classes → k ≡ get_or classes x k → row ≡ named_above (Some (f k)) → row ≡ direct_supertypes (map f classes) x
named_at f classes x k row lt is e = e ∙ sym (named_by (map f classes) x (f k) (mapped f classes x k lt is))

pub all_among : (classes : List Class) (x n : ℕ) (row : List ℕ) → NamesAmong classes → row ≡ direct_supertypes classes x → length classes ≡ n → All (λ d. d < n) row
all_among classes x n row names e many k d lt =
    let P : List ℕ → Type 0 = λ ds. Contains ds (get_or row k d) in
    let less : get_or row k d < length classes = names x (get_or row k d) (subst P e (Contains-get_or row k d lt)) in
    omega arith

first_step : (classes : List Class) {c d : ℕ} → Supertype classes c d → (c ≡ d) ⊎ ((e : ℕ) × Contains (direct_supertypes classes c) e × Supertype classes e d)
first_step classes itself = inl refl
first_step classes (further {c} {d} {e} h s) = inr (d, h, s)

passes : (test : ℕ → Bool) (xs : List ℕ) (e : ℕ) → Contains xs e → test e ≡ true → list_any test xs ≡ true
passes test xs e (k, lt, is) t = list_any_at test xs k e lt (ap test is ∙ t)

-- a row of the class's own number and the rows of its direct supertypes
pub from_above : (classes : List Class) (numbers : List ℕ) (rows : List (List Span)) (c : ℕ) (above : List ℕ) (row : List Span) → NamesAmong classes → IsNumbering (length classes) numbers → AreBegun classes numbers rows → c < length classes →
    above ≡ direct_supertypes classes c → All (λ d. get_or rows d [] ≢ []) above → ((n : ℕ) → is_covered n row ≡ (nat_eq n (get_or numbers c 0) || list_any (λ d. is_covered n (get_or rows d [])) above)) → IsRow classes numbers c row
from_above classes numbers rows c above row names m begun lt is made covers d less =
    let number = get_or numbers d 0 in
    let test : ℕ → Bool = λ e. is_covered number (get_or rows e []) in
    let P : List ℕ → ℕ → Type 0 = λ ds e. Contains ds e in
    let row_at : (e : ℕ) → Contains above e → IsRow classes numbers e (get_or rows e []) =
    λ e h. ⊎_elim (λ none. absurd (All-contains (λ d. get_or rows d [] ≢ []) above e made h none)) (λ r. r) (begun.each e) in
    let up : IsTrue (is_covered number row) → Supertype classes c d =
    λ t. ⊎_elim
    (λ own. (let same : d ≡ c = m.apart d c less lt (eqb-true number (get_or numbers c 0) own) in let Q : ℕ → Type 0 = λ x. Supertype classes c x in subst Q (sym same) itself))
    (λ some. (let a = Any-from_list_any test above some in
    let h : Contains above a.1 = (a.0, a.2, a.3) in
    further (subst (λ (ds : List ℕ). P ds a.1) is h) ((row_at a.1 h d less).0 a.4)))
    (or_cases (nat_eq number (get_or numbers c 0)) (list_any test above) (sym (covers number) ∙ t)) in
    let down : Supertype classes c d → IsTrue (is_covered number row) =
    λ s. covers number ∙ ⊎_elim
    (λ same. or_left (nat_eq number (get_or numbers c 0)) (list_any test above) (eq-eqb number (get_or numbers c 0) (ap (λ x. get_or numbers x 0) (sym same))))
    (λ way. (let h : Contains above way.0 = subst (λ (ds : List ℕ). P ds way.0) (sym is) way.1 in
    or_right (nat_eq number (get_or numbers c 0)) (list_any test above) (passes test above way.0 h ((row_at way.0 h d less).1 way.2))))
    (first_step classes s) in
    (up, down)

pub set_row : (classes : List Class) (numbers : List ℕ) (rows : List (List Span)) (c : ℕ) (row : List Span) → c < length rows → AreBegun classes numbers rows → IsRow classes numbers c row → MakesRow classes numbers c rows (set rows c row)
set_row classes numbers rows c row lt begun here =
    let P : ℕ → List Span → Type 0 = λ d w. IsRow classes numbers d w in
    let at : get_or (set rows c row) c [] ≡ row = get_or-set_same rows c row [] lt in
    let here_now : IsRow classes numbers c (get_or (set rows c row) c []) = subst (λ (w : List Span). P c w) (sym at) here in
    let either : (Q : ℕ → List Span → Type 0) → Q c (get_or (set rows c row) c []) → (d : ℕ) → Q d (get_or rows d []) → Q d (get_or (set rows c row) d []) =
    λ Q q d old. ⊎_elim
    (λ e. subst (λ (x : ℕ). Q x (get_or (set rows c row) x [])) (sym e) q)
    (λ ne. subst (λ (w : List Span). Q d w) (sym (get_or-set_other rows c d row [] ne)) old)
    (cases_eq d c) in
    record {
      begun = record {
        long = length-set rows c row ∙ begun.long;
        each = λ d. either (λ x w. (w ≡ []) ⊎ IsRow classes numbers x w) (inr here_now) d (begun.each d);
      };
      here = here_now;
      stays = λ d old. either P here_now d old;
    }

-- ---- all rows

pub none_made : {R : Type 0} (f : R → List Span) (classes : List Class) (numbers : List ℕ) (rows : List R) → length rows ≡ length classes → All (λ r. f r ≡ []) rows → AreBegun classes numbers (map f rows)
none_made {R} f classes numbers rows many empty = record {
  long = length-map rows f ∙ many;
  each = λ c. inl (all_empty rows empty c);
}
  where
    all_empty : (rows : List R) → All (λ r. f r ≡ []) rows → (c : ℕ) → get_or (map f rows) c [] ≡ []
    all_empty [] e c = refl
    all_empty (r ∷ rows) e zero = All-head (λ r. f r ≡ []) r rows e
    all_empty (r ∷ rows) e (suc c) = all_empty rows (All-tail (λ r. f r ≡ []) r rows e) c

pub set_in : {R : Type 0} (f : R → List Span) (classes : List Class) (numbers : List ℕ) (rows : List R) (c : ℕ) (row : R) → c < length classes → AreBegun classes numbers (map f rows) → IsRow classes numbers c (f row) → MakesRow classes numbers c (map f rows) (map f (set rows c row))
set_in f classes numbers rows c row lt begun here =
    let P : List (List Span) → Type 0 = λ new. MakesRow classes numbers c (map f rows) new in
    let less : c < length (map f rows) = (let long = begun.long in omega arith) in
    subst P (sym (map-set f rows c row)) (set_row classes numbers (map f rows) c (f row) less begun here)

pub numbered_as : {K : Type 0} (f : K → Class) (classes : List K) (numbers : List ℕ) → IsNumbering (length classes) numbers → IsNumbering (length (map f classes)) numbers
numbered_as f classes numbers m = let P : ℕ → Type 0 = λ n. IsNumbering n numbers in subst P (sym (length-map classes f)) m
