-- What a class runs: the method of the nearest class of its chain that declares one, or the called one where none of them does.
use Rattle.std.proofs.Common.{◌≡◌, refl, sym, ◌∙◌, ap, subst, arith, ℕ, zero, suc, ◌+◌, ◌⊎◌, inl, inr, Bool, true, false, if◌then◌else◌, List, [], ◌∷◌, length, Option, Some}
use Rattle.std.specs.Prelude.{None as Absent}
use Rattle.std.specs.Prelude.{◌≤◌, slice_get, slice_index_or}
use Rattle.std.specs.List.{Contains}
use Rattle.std.proofs.lemmas.Option.{slice_get_cases, get_or_from_slice_get}
use Rattle.wy_kernel.specs.Program.{Program, Class, Method, class, method, runs_as, declared_in, or_above, find_method, dispatch}
use Rattle.wy_kernel.specs.Subtyping.{direct_supertypes}
use Rattle.wy_kernel.proofs.Climbing.{climb}
use Rattle.law_program_parts.proofs.Codes.{AreTyped, RunsAs, runs_so, runs_too}
use Rattle.law_program_parts.proofs.Chains.{IsAt, OfClass, AreSorted, Ascends, stays, rises, same_row, superclass_named, row_at, one_step_up}

-- class c declares no method that runs as m
abbrev pub Lacks : List Method → ℕ → Method → Type 0
Lacks methods c m = (j : ℕ) (other : Method) → slice_get methods j ≡ Some other → RunsAs c m other → ⊥

-- on the way up from class c method n is found for m, which is method k
data Finds (p : Program) (k : ℕ) (m : Method) : ℕ → ℕ → Type 0 where
  declared : {c n : ℕ} (run : Method) → slice_get p.methods n ≡ Some run → RunsAs c m run → Finds p k m c n
  inherited : {c d n : ℕ} {row : Class} → IsAt p.classes c row → row.above ≡ Some d → Lacks p.methods c m → Finds p k m d n → Finds p k m c n
  nowhere : {c : ℕ} → ((row : Class) → IsAt p.classes c row → row.above ≡ Absent) → Lacks p.methods c m → Finds p k m c k

-- ---- one class

-- it declares a method that runs as m, at place i, or none
abbrev Declares : ℕ → Method → ℕ → List Method → Type 0
Declares c m n ms = (i : ℕ) × (run : Method) × (declared_in c m n ms ≡ Some (n + i)) × (slice_get ms i ≡ Some run) × RunsAs c m run

abbrev DeclaresNone : ℕ → Method → ℕ → List Method → Type 0
DeclaresNone c m n ms = (declared_in c m n ms ≡ Absent) × Lacks ms c m

declares_or_not : (c : ℕ) (m : Method) (n : ℕ) (ms : List Method) → ((j : ℕ) (other : Method) → slice_get ms j ≡ Some other → runs_as c m other ≡ true → RunsAs c m other) →
    Declares c m n ms ⊎ DeclaresNone c m n ms
unfolding declared_in
declares_or_not c m n [] sound = inr (refl, λ j other e r. cc)
declares_or_not c m n (x ∷ rest) sound = by (runs_as c m x) refl (declares_or_not c m (suc n) rest (λ j. sound (suc j)))
  where
    later : runs_as c m x ≡ false → Declares c m (suc n) rest ⊎ DeclaresNone c m (suc n) rest → Declares c m n (x ∷ rest) ⊎ DeclaresNone c m n (x ∷ rest)
    later e (inl (i, run, is, at, runs)) = inl (suc i, run, ap (λ b. if b then Some n else declared_in c m (suc n) rest) e ∙ is ∙ (let same : suc n + i ≡ n + suc i = omega arith in ap Some same), at, runs)
    later e (inr (none, lacks)) = inr (ap (λ b. if b then Some n else declared_in c m (suc n) rest) e ∙ none, all)
      where
        all : Lacks (x ∷ rest) c m
        all zero other is runs = let same : x ≡ other = cc in let yes : runs_as c m x ≡ true = subst (λ (y : Method). runs_as c m y ≡ true) (sym same) (runs_too c m other runs) in let no : true ≡ false = sym yes ∙ e in cc
        all (suc j) other is runs = lacks j other is runs

    by : (b : Bool) → runs_as c m x ≡ b → Declares c m (suc n) rest ⊎ DeclaresNone c m (suc n) rest → Declares c m n (x ∷ rest) ⊎ DeclaresNone c m n (x ∷ rest)
    by true e more = inl (0, x, ap (λ b. if b then Some n else declared_in c m (suc n) rest) e ∙ (let same : n ≡ n + 0 = omega arith in ap Some same), refl, sound 0 x refl e)
    by false e more = later e more

-- ---- all of them

module _ (p : Program) (k : ℕ) (m : Method) where
  -- the number of the method that class c declares and that runs as method k
  abbrev number_in : ℕ → Option ℕ
  number_in c = declared_in c (method p k) 0 p.methods

  given : (find : ℕ → ℕ) (o above : Option ℕ) (n : ℕ) → o ≡ Some n → or_above find k o above ≡ n
  unfolding or_above
  given find o above n e = ap (λ x. or_above find k x above) e

  taken_above : (find : ℕ → ℕ) (o above : Option ℕ) (d : ℕ) → o ≡ Absent → above ≡ Some d → or_above find k o above ≡ find d
  unfolding or_above
  taken_above find o above d e f = ap (λ x. or_above find k x above) e ∙ ap (or_above find k Absent) f

  itself_taken : (find : ℕ → ℕ) (o above : Option ℕ) → o ≡ Absent → above ≡ Absent → or_above find k o above ≡ k
  unfolding or_above
  itself_taken find o above e f = ap (λ x. or_above find k x above) e ∙ ap (or_above find k Absent) f

  class_is : (c : ℕ) (row : Class) → IsAt p.classes c row → class p c ≡ row
  unfolding class
  class_is c row at = get_or_from_slice_get p.classes c row _ at

  nothing_above : (c : ℕ) → length p.classes ≤ c → (class p c).above ≡ Absent
  unfolding class
  nothing_above c le = by p.classes c le
    where
      by : (xs : List Class) (i : ℕ) → length xs ≤ i → (slice_index_or xs i (record { name = []; site = 0; is_interface = false; is_abstract = false; is_final = false; above = Absent; interfaces = [] })).above ≡ Absent
      by [] i le = refl
      by (x ∷ xs) zero le = absurd (omega arith)
      by (x ∷ xs) (suc i) le = by xs i (omega arith)

  found_above : (f c : ℕ) → ((d : ℕ) → Contains (direct_supertypes p.classes c) d → Finds p k m d (find_method p f k d)) → number_in c ≡ Absent → Lacks p.methods c m → Finds p k m c (find_method p (suc f) k c)
  unfolding find_method
  found_above f c up none lacks =
      elim (slice_get_cases p.classes c).1 [
        | inl s ↦ of_row s.0 s.2 s.0.above refl
        | inr past ↦ subst (Finds p k m c) (sym (itself_taken (λ d. find_method p f k d) (number_in c) (class p c).above none (nothing_above c past.0)))
            (nowhere (λ row at. let gone : Some row ≡ Absent = sym at ∙ past.1 in cc) lacks)
      ]
    where
      of_row : (row : Class) → IsAt p.classes c row → (o : Option ℕ) → row.above ≡ o → Finds p k m c (find_method p (suc f) k c)
      of_row row at Absent e =
          subst (Finds p k m c) (sym (itself_taken (λ d. find_method p f k d) (number_in c) (class p c).above none (ap (λ (x : Class). x.above) (class_is c row at) ∙ e)))
          (nowhere (λ other there. ap (λ (x : Class). x.above) (same_row p.classes c other row there at) ∙ e) lacks)
      of_row row at (Some d) e =
          subst (Finds p k m c) (sym (taken_above (λ x. find_method p f k x) (number_in c) (class p c).above d none (ap (λ (x : Class). x.above) (class_is c row at) ∙ e)))
          (inherited at e lacks (up d (superclass_named p.classes c d row at e)))

  one_class : slice_get p.methods k ≡ Some m → ((c j : ℕ) (other : Method) → slice_get p.methods j ≡ Some other → runs_as c m other ≡ true → RunsAs c m other) →
      (f c : ℕ) → ((d : ℕ) → Contains (direct_supertypes p.classes c) d → Finds p k m d (find_method p f k d)) → Finds p k m c (find_method p (suc f) k c)
  unfolding find_method method
  one_class found sound f c up =
      let same : number_in c ≡ declared_in c m 0 p.methods = ap (λ (x : Method). declared_in c x 0 p.methods) (get_or_from_slice_get p.methods k m _ found) in
      elim (declares_or_not c m 0 p.methods (sound c)) [
        | inl d ↦ subst (Finds p k m c) (sym (given (λ x. find_method p f k x) (number_in c) (class p c).above d.0 (same ∙ d.2 ∙ (let zeroth : 0 + d.0 ≡ d.0 = omega arith in ap Some zeroth)))) (declared d.1 d.3 d.4)
        | inr n ↦ found_above f c up (same ∙ n.0) n.1
      ]

-- ---- what is run

-- method n of class d on the chain of class c: no nearer class declares one, and class c itself declares none where it is another
pub record IsRun (p : Program) (m : Method) (c n : ℕ) : Type 0 where
  pub class : ℕ
  pub run : Method
  pub way : Ascends p.classes c class
  pub found : slice_get p.methods n ≡ Some run
  pub runs : RunsAs class m run
  pub nearest : (e j : ℕ) (other : Method) → Ascends p.classes c e → slice_get p.methods j ≡ Some other → RunsAs e m other → Ascends p.classes class e
  pub own : (class ≡ c) ⊎ Lacks p.methods c m

-- no class on the chain of class c, which ends with Object, declares one
pub record IsNowhere (p : Program) (m : Method) (c : ℕ) : Type 0 where
  pub object : Ascends p.classes c 0
  pub lacks : (e : ℕ) → Ascends p.classes c e → Lacks p.methods e m

module _ (p : Program) (k : ℕ) (m : Method) (sorted : AreSorted p.classes) where
  found_up : {c d n : ℕ} {row : Class} → IsAt p.classes c row → row.above ≡ Some d → Lacks p.methods c m → IsRun p m d n → IsRun p m c n
  found_up {c} {d} {n} {row} at is lacks r = record {
    class = r.class;
    run = r.run;
    way = rises at is r.way;
    found = r.found;
    runs = r.runs;
    nearest = λ e j other way there runs.
        elim (one_step_up p.classes way) [
          | inl here ↦ absurd (lacks j other there (subst (λ x. RunsAs x m other) (sym here) runs))
          | inr w ↦ (let same : w.0 ≡ d = (let rows : w.1 ≡ row = same_row p.classes c w.1 row w.2 at in cc) in r.nearest e j other (subst (λ x. Ascends p.classes x e) same w.4) there runs)
        ];
    own = inr lacks;
  }

  nowhere_up : {c d : ℕ} {row : Class} → IsAt p.classes c row → row.above ≡ Some d → Lacks p.methods c m → IsNowhere p m d → IsNowhere p m c
  nowhere_up {c} {d} {row} at is lacks r = record {
    object = rises at is r.object;
    lacks = λ e way j other there runs.
        elim (one_step_up p.classes way) [
          | inl here ↦ lacks j other there (subst (λ x. RunsAs x m other) (sym here) runs)
          | inr w ↦ (let same : w.0 ≡ d = (let rows : w.1 ≡ row = same_row p.classes c w.1 row w.2 at in cc) in r.lacks e (subst (λ x. Ascends p.classes x e) same w.4) j other there runs)
        ];
  }

  at_the_end : (c : ℕ) → OfClass p.classes c → ((row : Class) → IsAt p.classes c row → row.above ≡ Absent) → Lacks p.methods c m → IsNowhere p m c
  at_the_end c (row, at, is) none lacks = record {
    object = subst (Ascends p.classes c) (sorted.object c row at is (none row at)) stays;
    lacks = λ e way j other there runs.
        elim (one_step_up p.classes way) [
          | inl here ↦ lacks j other there (subst (λ x. RunsAs x m other) (sym here) runs)
          | inr w ↦ (let gone : Some w.0 ≡ Absent = sym w.3 ∙ none w.1 w.2 in cc)
        ];
  }

  run_or_nowhere : {c n : ℕ} → Finds p k m c n → OfClass p.classes c → IsRun p m c n ⊎ (IsNowhere p m c × (n ≡ k))
  run_or_nowhere (declared {c} {n} run at runs) class = inl (record { class = c; run = run; way = stays; found = at; runs = runs; nearest = λ e j other way there also. way; own = inl refl })
  run_or_nowhere (inherited {c} {d} {n} {row} at is lacks finds) class =
      let up = row_at p.classes d (sorted.among c d (superclass_named p.classes c d row at is)) in
      elim (run_or_nowhere finds (up.0, up.1, sorted.extends c d row up.0 at is up.1)) [
        | inl r ↦ inl (found_up at is lacks r)
        | inr r ↦ inr (nowhere_up at is lacks r.0, r.1)
      ]
  run_or_nowhere (nowhere {c} none lacks) class = inr (at_the_end c class none lacks, refl)

  -- what a call of method k on an object of class c runs
  pub dispatched : (many : ℕ) → many ≤ 1048594 → ((j : ℕ) (other : Method) → slice_get p.methods j ≡ Some other → AreTyped many other.params) → slice_get p.methods k ≡ Some m → (c : ℕ) → OfClass p.classes c →
      IsRun p m c (dispatch p k c) ⊎ (IsNowhere p m c × (dispatch p k c ≡ k))
  unfolding dispatch
  dispatched many le typed found c class =
      run_or_nowhere
      (climb p.classes sorted.acyclic (λ f x. Finds p k m x (find_method p f k x))
      (one_class p k m found (λ x j other there test. runs_so many x m other le (typed k m found) (typed j other there) test)) c)
      class
