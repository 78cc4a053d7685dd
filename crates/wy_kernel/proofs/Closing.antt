-- The supertypes of a class, while they are found: those before a place are gone through.
use Rattle.std.proofs.Common.{◌≡◌, ℕ, zero, suc, ◌<◌, ◌≤◌, ◌+◌, ◌-◌, Bool, true, false, List, [], ◌∷◌, ◌++◌, length, length-append, Option, Some, None, slice_get, get_or, refl, sym, ◌∙◌, ap, subst, arith, ◌⊎◌, inl, inr, nat_eq, below_more}
use Rattle.std.specs.Prelude.{map}
use Rattle.std.specs.List.{Contains, IsDistinct, list_any}
use Rattle.std.specs.Cmp.{nat_eq_equiv}
use Rattle.std.proofs.Math.ListN.{get_or-append}
use Rattle.std.proofs.lemmas.List.{get_or_default, length-map, map-append}
use Rattle.std.proofs.lemmas.List.Elements.{Contains-append_left}
use Rattle.std.proofs.lemmas.Map.Steps.{length-le_from_distinct_below}
use Rattle.wy_kernel.specs.Program.{Class}
use Rattle.wy_kernel.specs.Rows.{TakesEach}
use Rattle.wy_kernel.specs.Subtyping.{direct_supertypes, named_above, Supertype, itself, further}
use Rattle.wy_kernel.specs.Table.{NamesAmong, HasSupertypes}
use Rattle.wy_kernel.proofs.Supertypes.{contained}

pub record Found (classes : List Class) (c : ℕ) (row : List ℕ) (done : ℕ) : Type 0 where
  pub within : done ≤ length row
  pub only : (d : ℕ) → Contains row d → Supertype classes c d
  pub start : Contains row c
  pub closed : (k : ℕ) → k < done → (d : ℕ) → Contains (direct_supertypes classes (get_or row k 0)) d → Contains row d
  pub once : IsDistinct nat_eq row

pub begun : (classes : List Class) (c : ℕ) (row : List ℕ) → row ≡ c ∷ [] → Found classes c row 0
unfolding IsDistinct
begun classes c row e =
    let P : List ℕ → Type 0 = λ xs. Found classes c xs 0 in
    subst P (sym e) (record {
      within = omega arith;
      only = λ d h. alone d h;
      start = (0, omega arith, refl);
      closed = λ k lt. absurd (omega arith);
      once = (tt, tt);
    })
  where
    alone : (d : ℕ) → Contains (c ∷ []) d → Supertype classes c d
    alone d (zero, lt, is) = let P : ℕ → Type 0 = λ x. Supertype classes c x in subst P is itself
    alone d (suc k, lt, is) = absurd (omega arith)

pub one_more : (classes : List Class) {c d e : ℕ} → Supertype classes c d → Contains (direct_supertypes classes d) e → Supertype classes c e
one_more classes itself h = further h itself
one_more classes (further g s) h = further g (one_more classes s h)

pub among : (classes : List Class) {c d : ℕ} → NamesAmong classes → c < length classes → Supertype classes c d → d < length classes
among classes names lt itself = lt
among classes names lt (further {c} {d} {e} h s) = among classes names (names c d h) s

pub bounded : (classes : List Class) (c done : ℕ) (row : List ℕ) → NamesAmong classes → c < length classes → Found classes c row done → length row ≤ length classes
bounded classes c done row names lt f =
    length-le_from_distinct_below row (length classes) f.once (λ q h. among classes names lt (f.only q (contained q row h)))

pub gone_on : (classes : List Class) (c done x : ℕ) (row new : List ℕ) → Found classes c row done → done < length row → x ≡ get_or row done x → TakesEach row (direct_supertypes classes x) new → Found classes c new (done + 1)
gone_on classes c done x row new f lt is t =
    let longer : length new ≡ length row + length t.front.0 = ap length t.front.1 ∙ length-append row t.front.0 in
    let keeps : (d : ℕ) → Contains row d → Contains new d =
    λ d h. (let P : List ℕ → Type 0 = λ xs. Contains xs d in subst P (sym t.front.1) (Contains-append_left row t.front.0 d h)) in
    let place : (k : ℕ) → k < length row → get_or new k 0 ≡ get_or row k 0 =
    λ k less. ap (λ xs. get_or xs k 0) t.front.1 ∙ get_or-append row t.front.0 0 k less in
    let at : get_or new done 0 ≡ x = place done lt ∙ get_or_default row done 0 x lt ∙ sym is in
    let before : (k : ℕ) → k < done → (d : ℕ) → Contains (direct_supertypes classes (get_or new k 0)) d → Contains new d =
    λ k less d h. (let P : ℕ → Type 0 = λ y. Contains (direct_supertypes classes y) d in
    keeps d (f.closed k less d (subst P (place k (omega arith)) h))) in
    let here : (d : ℕ) → Contains (direct_supertypes classes (get_or new done 0)) d → Contains new d =
    λ d h. (let P : ℕ → Type 0 = λ y. Contains (direct_supertypes classes y) d in t.each d (subst P at h)) in
    record {
      within = omega arith;
      only = λ d h. elim (t.only d h) [ inl g ↦ f.only d g | inr g ↦ one_more classes (f.only x (done, lt, sym is)) g ];
      start = keeps c f.start;
      closed = below_more (λ k. (d : ℕ) → Contains (direct_supertypes classes (get_or new k 0)) d → Contains new d) done before here;
      once = t.once f.once;
    }

complete : (classes : List Class) (row : List ℕ) → ((k : ℕ) → k < length row → (d : ℕ) → Contains (direct_supertypes classes (get_or row k 0)) d → Contains row d) →
    {c d : ℕ} → Supertype classes c d → Contains row c → Contains row d
complete classes row closed itself h = h
complete classes row closed (further {c} {d} {e} g s) (k, lt, is) =
    let P : ℕ → Type 0 = λ y. Contains (direct_supertypes classes y) d in
    complete classes row closed s (closed k lt d (subst P (sym (get_or_default row k 0 c lt ∙ is)) g))

pub finished : (classes : List Class) (c done : ℕ) (row : List ℕ) → Found classes c row done → length row ≤ done → HasSupertypes classes c row
finished classes c done row f le =
    record {
      exact = λ d. (f.only d, λ s. complete classes row (λ k lt. f.closed k (omega arith)) s f.start);
      once = f.once;
    }

pub named_by : (classes : List Class) (x : ℕ) (k : Class) → slice_get classes x ≡ Some k → direct_supertypes classes x ≡ named_above (Some k)
unfolding direct_supertypes
named_by classes x k e = ap named_above e

-- the class at a place of the row is one of the list
pub found_among : {K : Type 0} (f : K → Class) (classes : List K) (c done x : ℕ) (row : List ℕ) → NamesAmong (map f classes) → c < length classes → Found (map f classes) c row done → done < length row → x ≡ get_or row done x → x < length classes
found_among f classes c done x row names lt found less is =
    let many = length-map classes f in
    let at : x < length (map f classes) = among (map f classes) names (omega arith) (found.only x (done, less, sym is)) in
    omega arith

pub left_to_do : {K : Type 0} (f : K → Class) (classes : List K) (c done : ℕ) (row : List ℕ) → NamesAmong (map f classes) → c < length classes → Found (map f classes) c row done → done < length row →
    length classes - (done + 1) < length classes - done
left_to_do f classes c done row names lt found less =
    let many = length-map classes f in
    let most : length row ≤ length (map f classes) = bounded (map f classes) c done row names (omega arith) found in
    omega arith

-- ---- the rows of all classes

pub each_row : {X : Type 0} (P : ℕ → X → Type 0) (xs : List X) (y : X) → ((k : ℕ) (x : X) → slice_get xs k ≡ Some x → P k x) → P (length xs) y → (k : ℕ) (x : X) → slice_get (xs ++ y ∷ []) k ≡ Some x → P k x
each_row {X} P [] y all here zero x e = let is : y ≡ x = cc in let Q : X → Type 0 = λ z. P 0 z in subst Q is here
each_row P [] y all here (suc k) x e = absurd (cc)
each_row P (z ∷ zs) y all here zero x e = all 0 x e
each_row P (z ∷ zs) y all here (suc k) x e = each_row (λ n w. P (suc n) w) zs y (λ n w f. all (suc n) w f) here k x e

pub rows_so_far : {R : Type 0} (f : R → List ℕ) (classes : List Class) (rows new : List R) (r : R) (c : ℕ) → length rows ≡ c → ((k : ℕ) (row : List ℕ) → slice_get (map f rows) k ≡ Some row → HasSupertypes classes k row) →
    new ≡ rows ++ r ∷ [] → HasSupertypes classes c (f r) → (k : ℕ) (row : List ℕ) → slice_get (map f new) k ≡ Some row → HasSupertypes classes k row
rows_so_far f classes rows new r c many all e here k row is =
    let last : HasSupertypes classes (length (map f rows)) (f r) = (let P : ℕ → Type 0 = λ n. HasSupertypes classes n (f r) in subst P (sym (length-map rows f ∙ many)) here) in
    each_row (λ n w. HasSupertypes classes n w) (map f rows) (f r) all last k row (ap (λ xs. slice_get xs k) (sym (map-append f rows (r ∷ []))) ∙ ap (λ xs. slice_get (map f xs) k) (sym e) ∙ is)
