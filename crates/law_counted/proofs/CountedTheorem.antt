-- What the covers say at the end of a run, and what each start of a statement counts.
use Rattle.std.proofs.Common.{◌≡◌, ℕ, zero, suc, ◌+◌, ◌-◌, ◌<◌, ◌≤◌, Bool, true, false, List, length, Option, Some, refl, sym, ap, ap₂, ◌∙◌, subst, arith, eq-eqb}
use Rattle.std.proofs.Math.Path.{fun_ext}
use Rattle.std.specs.Prelude.{None as Absent}
use Rattle.std.specs.Prelude.{nat_eq, if◌then◌else◌, slice_get}
use Rattle.wy_kernel.specs.Form.{Stmt}
use Rattle.wy_kernel.specs.Program.{Program}
use Rattle.wy_steps.specs.Sets.{Sets}
use Rattle.wy_steps.specs.State.{Covered, State, Stop, StepLimit, EventLimit, UseLimit, ElementLimit, UnitLimit, OutputLimit, DepthLimit, Unassigned, FellOff, InitFailed, Reason, Outcome, Done, Left, Stopped, Run, go_on, ◌>>=◌, ◌>>◌, choose}
use Rattle.wy_kernel.specs.Limits.{event_limit, depth_limit}
use Rattle.wy_steps.specs.Steps.{going_on, never_left, pay, tick, without, end_reaches, reaching, cover_with, covering, first_moment, begun, ended, left_by, stop_cause, event_of, arrives, end_normally, be_left, cover_end, covered}
use Rattle.wy_meaning.specs.Expression.{eval}
use Rattle.wy_meaning.specs.Statement.{statement, exec, exec_act}
use Rattle.wy_meaning.specs.Run.{world, start, outcome, end, covers, stop_number, stop_of, tail_of, tail}
use Rattle.law_counted.specs.Counted.{AtTheEnd, Balances, GoesOnOnlyAtAStop, EachBeginTakesAStep, anew, counted, earlier, added, AddsWhatItCounts, StatementsAddWhatTheyCount, ExpressionsAddWhatTheyCount, one_if_done, last_cause, CountsOnce, EachStartCountsOnce, NothingCountsWithoutAStep}
use Rattle.law_counted.proofs.CountedRules.{Between, total, bound, Within, over, over_all, Counts, cover_other}
use Rattle.law_counted.proofs.CountedPrograms.{counts_eval, counts_exec, counts_act, counts_main_run, world_counts}

-- ---- at the end

each_cover : (Q : Covered → Type 0) (f : ℕ → Covered) → ((k : ℕ) → Q (f k)) → (n i k : ℕ) (c : Covered) → slice_get (covers f i n) k ≡ Some c → Q c
unfolding covers
each_cover Q f h zero i k c there = absurd (cc)
each_cover Q f h (suc n) i zero c there = let e : f i ≡ c = cc in subst Q e (h i)
each_cover Q f h (suc n) i (suc k) c there = each_cover Q f h n (suc i) k c there

-- nothing left a statement whose cover says so
none : (b cause left : ℕ) → b ≤ never_left → (0 < left → cause < b) → cause ≡ never_left → left ≡ 0
none b cause zero le told e = refl
none b cause (suc left) le told e = let lt = told (omega arith) in absurd (omega (arith, lt, le, e))

balances : (b stop : ℕ) (a c : Covered) → b ≤ never_left → a.begins ≡ 0 → a.ends ≡ 0 → a.cause ≡ never_left → Between b a c → Balances stop c
balances b stop a c le no_begin no_end no_cause h =
    let h1 = h.begins in
    let h2 = h.ends in
    record {
      all_ended = λ e. h.same (omega (arith, e, h1, h2, no_begin, no_end)) ∙ no_cause;
      not_left = λ e. let n = none b c.cause h.left le h.told e in omega (arith, n, h1, h2, no_begin, no_end);
    }

told_of : (left before cause : ℕ) → before ≡ never_left → (left ≡ 0 → cause ≡ before) → (0 < left → cause < event_limit) → cause ≡ going_on → ⊥
told_of zero before cause from same told e = let s = same refl in absurd (omega (arith, s, e, from))
told_of (suc left) before cause from same told e = let t = told (omega arith) in absurd (omega (arith, t, e))

over_with : (a c : Covered) → a.cause ≡ never_left → Between event_limit a c → c.cause ≡ going_on → ⊥
over_with a c from h e = told_of h.left a.cause c.cause from h.same h.told e

bound_below : (why : Stop) → bound why ≤ never_left
bound_below (InitFailed last) = omega arith
bound_below StepLimit = omega arith
bound_below EventLimit = omega arith
bound_below UseLimit = omega arith
bound_below ElementLimit = omega arith
bound_below UnitLimit = omega arith
bound_below OutputLimit = omega arith
bound_below DepthLimit = omega arith
bound_below Unassigned = omega arith
bound_below FellOff = omega arith

none_began : (f : ℕ → Covered) → ((n : ℕ) → (f n).begins ≡ 0) → (i k : ℕ) → total f i k ≡ 0
unfolding covers
none_began f h i zero = refl
none_began f h i (suc k) = let h1 = h i in let h2 = none_began f h (suc i) k in omega (arith, h1, h2)

within_steps : (all left none budget : ℕ) → all + left ≤ none + budget → none ≡ 0 → all ≤ budget - left
within_steps all left none budget h e = omega (arith, h, e)

module _ (A : Sets) where
  -- what holds of a cover at the end, from what holds of it between the start and the end
  at_end : {X : Type 0} (f : ℕ → Covered) (n k : ℕ) (o : Outcome A X) → (f k).begins ≡ 0 → (f k).ends ≡ 0 → (f k).cause ≡ never_left → Within A f n o → Balances (stop_of o) ((end o).coverage k) × GoesOnOnlyAtAStop (stop_of o) ((end o).coverage k)
  unfolding end stop_of stop_number
  at_end f n k (Done x s) b e c h = (balances _ _ (f k) _ (omega arith) b e c (h.covers k), λ g. absurd (over_with (f k) _ c (h.covers k) g))
  at_end f n k (Left why s) b e c h = (balances _ _ (f k) _ (omega arith) b e c (h.0.covers k), λ g. absurd (over_with (f k) _ c (h.0.covers k) g))
  at_end f n k (Stopped (InitFailed last) s) b e c h = (balances _ _ (f k) _ (omega arith) b e c (h.0.covers k), λ g. absurd (over_with (f k) _ c (h.0.covers k) g))
  at_end f n k (Stopped StepLimit s) b e c h = (balances _ _ (f k) _ (omega arith) b e c (h.0.covers k), λ g. (omega arith, omega arith))
  at_end f n k (Stopped EventLimit s) b e c h = (balances _ _ (f k) _ (omega arith) b e c (h.0.covers k), λ g. (omega arith, omega arith))
  at_end f n k (Stopped UseLimit s) b e c h = (balances _ _ (f k) _ (omega arith) b e c (h.0.covers k), λ g. (omega arith, omega arith))
  at_end f n k (Stopped ElementLimit s) b e c h = (balances _ _ (f k) _ (omega arith) b e c (h.0.covers k), λ g. (omega arith, omega arith))
  at_end f n k (Stopped UnitLimit s) b e c h = (balances _ _ (f k) _ (omega arith) b e c (h.0.covers k), λ g. (omega arith, omega arith))
  at_end f n k (Stopped OutputLimit s) b e c h = (balances _ _ (f k) _ (omega arith) b e c (h.0.covers k), λ g. (omega arith, omega arith))
  at_end f n k (Stopped DepthLimit s) b e c h = (balances _ _ (f k) _ (omega arith) b e c (h.0.covers k), λ g. (omega arith, omega arith))
  at_end f n k (Stopped Unassigned s) b e c h = (balances _ _ (f k) _ (omega arith) b e c (h.0.covers k), λ g. (omega arith, omega arith))
  at_end f n k (Stopped FellOff s) b e c h = (balances _ _ (f k) _ (omega arith) b e c (h.0.covers k), λ g. (omega arith, omega arith))

  paid_at_end : {X : Type 0} (f : ℕ → Covered) (n i k : ℕ) (o : Outcome A X) → Within A f n o → total (end o).coverage i k + (end o).left ≤ total f i k + n
  unfolding end
  paid_at_end f n i k (Done x s) h = h.paid i k
  paid_at_end f n i k (Left why s) h = h.0.paid i k
  paid_at_end f n i k (Stopped why s) h = h.0.paid i k

  of_run : (p : Program) (input : List ℕ) (budget : ℕ) → Within A (start {A = A} input budget).coverage budget (outcome {A = A} p input budget)
  unfolding outcome start
  of_run p input budget = (counts_main_run A (world p depth_limit) (world_counts A p depth_limit)).within (start input budget)

  both_at_end : (p : Program) (input : List ℕ) (budget number : ℕ) (c : Covered) → slice_get (tail A p input budget).coverage number ≡ Some c → Balances (tail A p input budget).stop c × GoesOnOnlyAtAStop (tail A p input budget).stop c
  unfolding tail tail_of start
  both_at_end p input budget number c there =
      each_cover (λ c. Balances (stop_of (outcome {A = A} p input budget)) c × GoesOnOnlyAtAStop (stop_of (outcome {A = A} p input budget)) c) (end (outcome {A = A} p input budget)).coverage
      (λ k. at_end _ budget k (outcome {A = A} p input budget) refl refl refl (of_run p input budget)) p.statements 0 number c there

  pub balance : (p : Program) → AtTheEnd A p Balances
  balance p input budget number c there = (both_at_end p input budget number c there).0

  pub goes_on : (p : Program) → AtTheEnd A p GoesOnOnlyAtAStop
  goes_on p input budget number c there = (both_at_end p input budget number c there).1

  pub takes_steps : (p : Program) → EachBeginTakesAStep A p
  unfolding tail tail_of start
  takes_steps p input budget = within_steps _ _ _ budget (paid_at_end _ budget 0 p.statements _ (of_run p input budget)) (none_began _ (λ n. refl) 0 p.statements)

  -- ---- what was counted before

  earlier_none : (o : Option ℕ) → earlier o Absent ≡ o
  earlier_none (Some n) = refl
  earlier_none Absent = refl

  whole_cover : (c : Covered) → added c (record c { begins = 0; ends = 0; first = Absent }) ≡ c
  whole_cover c =
      let b : 0 + c.begins ≡ c.begins = omega arith in
      let e : 0 + c.ends ≡ c.ends = omega arith in
      ap₂ (λ x y. record { begins = x; ends = y; first = earlier c.first Absent; cause = c.cause }) b e
      ∙ ap (λ o. record { begins = c.begins; ends = c.ends; first = o; cause = c.cause }) (earlier_none c.first)

  whole_state : (s : State A) → over A s.coverage (anew s) ≡ s
  whole_state s = ap (λ f. record s { coverage = f }) (fun_ext (λ n. whole_cover (s.coverage n)))

  end_over : {X : Type 0} (b : ℕ → Covered) (o : Outcome A X) (n : ℕ) → (end (over_all A b o)).coverage n ≡ added (b n) ((end o).coverage n)
  unfolding end
  end_over b (Done x s) n = refl
  end_over b (Left why s) n = refl
  end_over b (Stopped why s) n = refl

  from_anew : {X : Type 0} (m : Run A X) → Counts A m → (s : State A) → m s ≡ over_all A s.coverage (m (anew s))
  from_anew m h s = ap m (sym (whole_state s)) ∙ h.blind s.coverage (anew s)

  adds : {X : Type 0} (m : Run A X) → Counts A m → AddsWhatItCounts m
  adds m h s n = ap (λ o. (end o).coverage n) (from_anew m h s) ∙ end_over s.coverage (m (anew s)) n

  pub statements_add : (p : Program) → StatementsAddWhatTheyCount A p
  statements_add p depth x = adds (exec (world p depth) x) (counts_exec A (world p depth) (world_counts A p depth) x)

  pub expressions_add : (p : Program) → ExpressionsAddWhatTheyCount A p
  expressions_add p depth e = adds (eval (world p depth) e) (counts_eval A (world p depth) (world_counts A p depth) e)

  -- ---- a statement that starts

  -- the cover of a statement that just began for the first time
  first_begin : ℕ → Covered
  first_begin moment = record { begins = 1; ends = 0; first = Some moment; cause = never_left }

  no_begin : Covered
  no_begin = record { begins = 0; ends = 0; first = Absent; cause = never_left }

  one : ℕ → ℕ → ℕ → Covered
  one n moment j = if nat_eq j n then first_begin moment else no_begin

  begun_anew : (moment : ℕ) (b : Bool) (c : Covered) → (if b then begun moment (record c { begins = 0; ends = 0; first = Absent }) else record c { begins = 0; ends = 0; first = Absent }) ≡ added (if b then first_begin moment else no_begin) (record c { begins = 0; ends = 0; first = Absent })
  unfolding begun first_moment first_begin no_begin
  begun_anew moment true c = refl
  begun_anew moment false c = refl

  begins_anew : (n moment : ℕ) (s : State A) → covering n (begun moment) (anew s) ≡ over A (one n moment) (anew s)
  unfolding covering cover_with one
  begins_anew n moment s = ap (λ f. record s { coverage = f }) (fun_ext (λ j. begun_anew moment (nat_eq j n) (s.coverage j)))

  added_none : (c : Covered) → added no_begin c ≡ c
  unfolding no_begin
  added_none c =
      let b : c.begins + 0 ≡ c.begins = omega arith in
      let e : c.ends + 0 ≡ c.ends = omega arith in
      ap₂ (λ x y. record { begins = x; ends = y; first = c.first; cause = c.cause }) b e

  cover_same : (n : ℕ) (F : Covered → Covered) (f : ℕ → Covered) → cover_with n F f n ≡ F (f n)
  unfolding cover_with
  cover_same n F f = ap (λ b. if b then F (f n) else f n) (eq-eqb n n refl)

  one_same : (n moment : ℕ) → one n moment n ≡ first_begin moment
  unfolding one
  one_same n moment = ap (λ b. if b then first_begin moment else no_begin) (eq-eqb n n refl)

  one_other : (n moment j : ℕ) → nat_eq j n ≡ false → one n moment j ≡ no_begin
  unfolding one
  one_other n moment j e = ap (λ b. if b then first_begin moment else no_begin) e

  -- a cover that is closed on top of one begin
  at_number : (n moment : ℕ) (F : Covered → Covered) (g : ℕ → Covered) → cover_with n F (λ j. added (one n moment j) (g j)) n ≡ F (added (first_begin moment) (g n))
  at_number n moment F g = cover_same n F (λ j. added (one n moment j) (g j)) ∙ ap (λ c. F (added c (g n))) (one_same n moment)

  at_other : (n moment j : ℕ) (F : Covered → Covered) (g : ℕ → Covered) → nat_eq j n ≡ false → cover_with n F (λ j. added (one n moment j) (g j)) j ≡ g j
  at_other n moment j F g e = cover_other n j F (λ j. added (one n moment j) (g j)) e ∙ ap (λ c. added c (g j)) (one_other n moment j e) ∙ added_none (g j)

  ends_once : (n moment : ℕ) (o : Outcome A Unit) (g : ℕ → Covered) → one_if_done o ≡ 1 → last_cause o (g n).cause ≡ (g n).cause → CountsOnce n moment o (cover_with n ended (λ j. added (one n moment j) (g j))) g
  unfolding ended first_begin
  ends_once n moment o g h k = record {
    begins = ap (λ c. c.begins) (at_number n moment ended g) ∙ (omega arith);
    ends = ap (λ c. c.ends) (at_number n moment ended g) ∙ (omega (arith, h));
    first = ap (λ c. c.first) (at_number n moment ended g);
    cause = ap (λ c. c.cause) (at_number n moment ended g) ∙ sym k;
    others = λ j e. at_other n moment j ended g e;
  }

  leaves_once : (n moment e : ℕ) (o : Outcome A Unit) (g : ℕ → Covered) → one_if_done o ≡ 0 → last_cause o (g n).cause ≡ e → CountsOnce n moment o (cover_with n (left_by e) (λ j. added (one n moment j) (g j))) g
  unfolding left_by first_begin
  leaves_once n moment e o g h k = record {
    begins = ap (λ c. c.begins) (at_number n moment (left_by e) g) ∙ (omega arith);
    ends = ap (λ c. c.ends) (at_number n moment (left_by e) g) ∙ (omega (arith, h));
    first = ap (λ c. c.first) (at_number n moment (left_by e) g);
    cause = ap (λ c. c.cause) (at_number n moment (left_by e) g) ∙ sym k;
    others = λ j x. at_other n moment j (left_by e) g x;
  }

  -- what a statement did, from what stood in it
  arrived : (n moment : ℕ) (f : Option ℕ) (why : Reason A) (s : State A) (b : Bool) →
      CountsOnce n moment (end_reaches f n (choose b (end_normally n) (be_left n why) (over A (one n moment) s))) (end (end_reaches f n (choose b (end_normally n) (be_left n why) (over A (one n moment) s)))).coverage s.coverage
  unfolding end_reaches without choose end_normally be_left covering end
  arrived n moment f why s true = ends_once n moment _ s.coverage refl refl
  arrived n moment f why s false = leaves_once n moment (event_of why) _ s.coverage refl refl

  closes : (n moment : ℕ) (f : Option ℕ) (o : Outcome A Unit) →
      CountsOnce n moment (end_reaches f n (cover_end n (over_all A (one n moment) o))) (end (end_reaches f n (cover_end n (over_all A (one n moment) o)))).coverage (end o).coverage
  unfolding cover_end end_reaches without end_normally covering end
  closes n moment f (Done x s) = ends_once n moment _ s.coverage refl refl
  closes n moment f (Left why s) = arrived n moment f why s (arrives n why)
  closes n moment f (Stopped why s) = leaves_once n moment (stop_cause why) _ s.coverage refl refl

  paid_start : (l left : ℕ) (s : State A) → l ≡ suc left → pay l s ≡ Done tt (record s { left = left })
  unfolding pay
  paid_start l left s e = ap (λ k. pay k s) e

  starts : (n left : ℕ) (m : Run A Unit) (s : State A) → Counts A m → s.left ≡ suc left →
      statement n m (anew s) ≡ end_reaches s.frame n (cover_end n (over_all A (one n (length s.noted)) (m (anew (record s { left = left })))))
  unfolding statement tick ◌>>◌ ◌>>=◌ go_on reaching covered
  starts n left m s h e =
      ap (λ o. go_on o (λ u. reaching n (covered n m))) (paid_start s.left left (anew s) e)
      ∙ ap (λ t. end_reaches s.frame n (cover_end n (m t))) (begins_anew n (length s.noted) (record s { left = left }))
      ∙ ap (λ o. end_reaches s.frame n (cover_end n o)) (h.blind (one n (length s.noted)) (anew (record s { left = left })))

  same_end : {X : Type 0} (b : ℕ → Covered) (o : Outcome A X) → one_if_done (over_all A b o) ≡ one_if_done o
  same_end b (Done x s) = refl
  same_end b (Left why s) = refl
  same_end b (Stopped why s) = refl

  same_cause : {X : Type 0} (b : ℕ → Covered) (o : Outcome A X) (before : ℕ) → last_cause (over_all A b o) before ≡ last_cause o before
  same_cause b (Done x s) before = refl
  same_cause b (Left why s) before = refl
  same_cause b (Stopped why s) before = refl

  once : (n left : ℕ) (m : Run A Unit) (s : State A) → Counts A m → Counts A (statement n m) → s.left ≡ suc left →
      CountsOnce n (length s.noted) (statement n m s) (counted (statement n m) s) (counted m (record s { left = left }))
  once n left m s h k e =
      let from = from_anew (statement n m) k s in
      let inner = (end (m (anew (record s { left = left })))).coverage in
      let anewed : CountsOnce n (length s.noted) (statement n m (anew s)) (counted (statement n m) s) inner =
      subst (λ o. CountsOnce n (length s.noted) o (end o).coverage inner) (sym (starts n left m s h e)) (closes n (length s.noted) s.frame (m (anew (record s { left = left })))) in
      record {
        begins = anewed.begins;
        ends = anewed.ends ∙ ap (λ k. k + (inner n).ends) (sym (ap one_if_done from ∙ same_end s.coverage (statement n m (anew s))));
        first = anewed.first;
        cause = anewed.cause ∙ sym (ap (λ o. last_cause o (inner n).cause) from ∙ same_cause s.coverage (statement n m (anew s)) (inner n).cause);
        others = anewed.others;
      }

  pub each_once : (p : Program) → EachStartCountsOnce A p
  unfolding exec
  each_once p depth (Stmt number site askable reach act) s left e =
      once number left (exec_act (world p depth) site reach act) s
      (counts_act A (world p depth) (world_counts A p depth) site reach act)
      (counts_exec A (world p depth) (world_counts A p depth) (Stmt number site askable reach act)) e

  unstarted : (n l : ℕ) (m : Run A Unit) (s : State A) → l ≡ 0 → (end (go_on (pay l s) (λ u. reaching n (covered n m)))).coverage ≡ s.coverage
  unfolding pay go_on end
  unstarted n l m s e = ap (λ k. (end (go_on (pay k s) (λ u. reaching n (covered n m)))).coverage) e

  pub none_without : (p : Program) → NothingCountsWithoutAStep A p
  unfolding exec statement tick ◌>>◌ ◌>>=◌
  none_without p depth (Stmt number site askable reach act) s e = unstarted number s.left (exec_act (world p depth) site reach act) s e
