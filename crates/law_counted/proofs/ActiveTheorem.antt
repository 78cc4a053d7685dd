-- What the records and the states of every run show of its active entries.
use Rattle.std.proofs.Common.{◌≡◌, ℕ, zero, suc, Bool, true, false, ◌≤◌, List, [], ◌∷◌, ◌++◌, length, inl, inr, Option, Some, refl, sym, ap, ◌∙◌, subst, le_refl, arith, eq-eqb, ne_eqb}
use Rattle.std.specs.Prelude.{None as Absent}
use Rattle.std.specs.Prelude.{nat_eq, if◌then◌else◌, slice_get}
use Rattle.std.proofs.lemmas.Bool.Decides.{eqb_tells}
use Rattle.std.proofs.lemmas.List.{map-append, length-map, length-reverse}
use mathlib.Core.List.{map, reverse, reverse-cons}
use Rattle.wy_kernel.specs.Form.{Statement, Stmt}
use Rattle.wy_kernel.specs.Program.{Program}
use Rattle.wy_value.specs.declared.value.Value.TheVariants.{Arm}
use Rattle.wy_event.specs.Record.{Recorded}
use Rattle.wy_steps.specs.Sets.{Sets}
use Rattle.wy_steps.specs.State.{Carried, Noted, Active, Around, Through, State, Outcome, Done, Left, Stopped, Run, go_on, ◌>>=◌, ◌>>◌, return, choose}
use Rattle.wy_kernel.specs.Limits.{depth_limit}
use Rattle.wy_steps.specs.Steps.{Made, pay, tick, frame, event_in, code_of, parent, note, note_write, with_active, entered, go_in, activating, active_again, scoped, ends_with, without, end_reaches, reaching, covered}
use Rattle.wy_steps.specs.Laws.{IfDone}
use Rattle.wy_event.specs.declared.record.Kind.{Kind}
use Rattle.wy_event.specs.declared.record.Kind.TheVariants as kind
use Rattle.wy_event.specs.declared.record.Slot.TheVariants.{Local}
use Rattle.wy_meaning.specs.World.{plain, into, is_true, arm_of_truth}
use Rattle.wy_meaning.specs.Expression.{arm, conditional, eval, eval_part}
use Rattle.wy_meaning.specs.Statement.{statement, armed, tested, caught, exec, exec_act}
use Rattle.wy_meaning.specs.Run.{world, start, outcome, end, history, events}
use Rattle.law_counted.specs.Entries.{IsControlOf, ControlIsOfTheBody, NothingIsActiveAtTheEnd, IsAmong, StatementsKeepEntries, EntriesEndWithTheirReach, AreInOrder, IsControlledBy, ArmsAreControlledByTheirTest, ExpressionsAddNoEntry, IsGreatest, TheParentIsTheGreatest, BecameActive, TestsBecomeActive, CatchesBecomeActive}
use Rattle.law_counted.proofs.ActiveRules.{AreMade, Controls, AllControlled, core, Fine, Level, Levels, later_one, controls_up, level_same, level_kept, level_order, level_choose, under_same, all_below, IfNext, records_note, records_note_write, spared_among}
use Rattle.law_induction.proofs.Composed.{on_arm}
use Rattle.law_counted.proofs.ActiveForms.{IsLevel, level_by_steps}
use Rattle.law_counted.proofs.ActivePrograms.{level_eval, level_part, keeps_exec, level_main_run, world_levels}

-- ---- records in the order of time

same_next : (n m : ℕ) → nat_eq (suc n) (suc m) ≡ nat_eq n m
same_next n m = elim (eqb_tells n m) as (λ _. nat_eq (suc n) (suc m) ≡ nat_eq n m) [
  | inl a ↦ let b = a.1 in eq-eqb (suc n) (suc m) (ap suc b) ∙ sym a.0
  | inr b ↦ ne_eqb (suc n) (suc m) (λ e. b.1 (omega (arith, e))) ∙ sym b.0
]

slice_snoc : {X : Type 0} (xs : List X) (y : X) (n : ℕ) → slice_get (xs ++ y ∷ []) n ≡ (if nat_eq n (length xs) then Some y else slice_get xs n)
slice_snoc [] y zero = refl
slice_snoc [] y (suc n) = sym (ap (λ b. if b then Some y else Absent) (ne_eqb (suc n) 0 (λ e. omega (arith, e))))
slice_snoc (x ∷ xs) y zero = sym (ap (λ b. if b then Some y else Some x) (ne_eqb 0 (suc (length xs)) (λ e. omega (arith, e))))
slice_snoc (x ∷ xs) y (suc n) = slice_snoc xs y n ∙ sym (ap (λ b. if b then Some y else slice_get xs n) (same_next n (length xs)))

module _ (A : Sets) where
  abbrev pub in_order : List (Noted A) → List Recorded
  in_order noted = map (λ e. e.event) (reverse noted)

  in_order-cons : (e : Noted A) (rest : List (Noted A)) → in_order (e ∷ rest) ≡ in_order rest ++ e.event ∷ []
  in_order-cons e rest = ap (map (λ (x : Noted A). x.event)) (reverse-cons e rest) ∙ map-append (λ (x : Noted A). x.event) (reverse rest) (e ∷ [])

  length-in_order : (noted : List (Noted A)) → length (in_order noted) ≡ length noted
  length-in_order noted = length-map (reverse noted) (λ e. e.event) ∙ length-reverse noted

  pub in_time : (noted : List (Noted A)) (n : ℕ) → event_in noted n ≡ slice_get (in_order noted) n
  unfolding event_in
  in_time [] n = refl
  in_time (e ∷ rest) n =
      ap (λ o. if nat_eq n (length rest) then Some e.event else o) (in_time rest n)
      ∙ ap (λ k. if nat_eq n k then Some e.event else slice_get (in_order rest) n) (sym (length-in_order rest))
      ∙ sym (slice_snoc (in_order rest) e.event n)
      ∙ sym (ap (λ l. slice_get l n) (in_order-cons e rest))

  each_controlled : (noted : List (Noted A)) → AllControlled A noted → (n : ℕ) (e : Recorded) → event_in noted n ≡ Some e → Controls A noted e.frame e.control
  unfolding event_in
  each_controlled [] h n e there = absurd (cc)
  each_controlled (x ∷ rest) h n e there = here (nat_eq n (length rest)) there (each_controlled rest h.1 n e)
    where
      here : (b : Bool) → (if b then Some x.event else event_in rest n) ≡ Some e → (event_in rest n ≡ Some e → Controls A rest e.frame e.control) → Controls A (x ∷ rest) e.frame e.control
      here true is up = let same : x.event ≡ e = cc in subst (λ (r : Recorded). Controls A (x ∷ rest) r.frame r.control) same (controls_up A rest (x ∷ rest) x.event.frame x.event.control (later_one A x rest) h.0.control)
      here false is up = controls_up A rest (x ∷ rest) e.frame e.control (later_one A x rest) (up is)

  shown : (noted : List (Noted A)) (fr control : Option ℕ) → Controls A noted fr control → IsControlOf (in_order noted) fr control
  shown noted fr Absent h = h
  shown noted fr (Some c) (inl h) = inl h
  shown noted fr (Some c) (inr h) = inr (record { event = h.event; there = sym (in_time noted c) ∙ h.there; of_body = h.of_body })

  -- ---- whole runs

  of_run : (p : Program) (input : List ℕ) (budget : ℕ) → Level A (core A (start input budget)) (core A (end (outcome {A = A} p input budget)))
  unfolding outcome
  of_run p input budget = (level_main_run A (world p depth_limit) (world_levels A p depth_limit)).by (start input budget)

  fine_start : (input : List ℕ) (budget : ℕ) → Fine A (core A (start input budget))
  unfolding start
  fine_start input budget = record { stand = refl; made = tt; controlled = tt }

  -- each event was recorded while such entries were active
  pub all_controlled : (p : Program) (input : List ℕ) (budget : ℕ) → AllControlled A (end (outcome {A = A} p input budget)).noted
  all_controlled p input budget = ((of_run p input budget).fine (fine_start input budget)).controlled

  pub control : (p : Program) → ControlIsOfTheBody A p
  unfolding events history
  control p input budget n e there =
      let noted = (end (outcome {A = A} p input budget)).noted in
      shown noted e.frame e.control (each_controlled noted (all_controlled p input budget) n e (in_time noted n ∙ there))

  pub none_at_end : (p : Program) → NothingIsActiveAtTheEnd A p
  unfolding start
  none_at_end p input budget = (of_run p input budget).active

  -- ---- parts of runs

  -- the entries of a statement come from what their events come from, where those before it did
  pub statements_make : (p : Program) (depth : ℕ) (x : Statement) (s : State A) → AreMade A s.active → AreMade A (end (exec (world p depth) x s)).active
  statements_make p depth x s = ((keeps_exec A (world p depth) (world_levels A p depth) x).by s).made

  pub statements_keep : (p : Program) → StatementsKeepEntries A p
  statements_keep p depth x s =
      let k = (keeps_exec A (world p depth) (world_levels A p depth) x).by s in
      record { stays = k.stays; controls = k.under; added = k.added; order = k.order }

  pub expressions_add_none : (p : Program) → ExpressionsAddNoEntry A p
  expressions_add_none p depth e s =
      let h = (level_eval A (world p depth) (world_levels A p depth) e).by s in
      record { same = h.active; controls = h.under; order = (level_kept A (λ n. ⊥) (λ f r. ⊥) (core A s) (core A (end (eval (world p depth) e s))) h).order }

  greatest : (n : ℕ) (es : List (Active A)) → AreInOrder n es → IsGreatest (parent es) es
  unfolding parent
  greatest n [] h = refl
  greatest n (b ∷ rest) h = each
    where
      each : (a : Active A) → IsAmong a (b ∷ rest) → a.number ≤ b.number
      each a (inl is) = subst (λ (x : Active A). x.number ≤ b.number) is (le_refl _)
      each a (inr i) = let lt = all_below A b.number rest a h.1 i in omega (arith, lt)

  pub parent_greatest : TheParentIsTheGreatest A
  parent_greatest s h = greatest (length s.noted) s.active h

  gone : (fr : Option ℕ) (n : ℕ) (a : Active A) (o : Outcome A Unit) → IsAmong a (end (end_reaches fr n o)).active → ends_with fr n a.reach ≡ false
  unfolding end_reaches without end
  gone fr n a (Done x t) i = spared_among A fr n a t.active i
  gone fr n a (Left why t) i = spared_among A fr n a t.active i
  gone fr n a (Stopped why t) i = spared_among A fr n a t.active i

  after_start : (n l left : ℕ) (m : Run A Unit) (s : State A) → l ≡ suc left → go_on (pay l s) (λ u. reaching n (covered n m)) ≡ end_reaches s.frame n (covered n m (record s { left = left }))
  unfolding pay go_on reaching
  after_start n l left m s e = ap (λ k. go_on (pay k s) (λ u. reaching n (covered n m))) e

  pub end_with_reach : (p : Program) → EntriesEndWithTheirReach A p
  unfolding exec statement tick ◌>>◌ ◌>>=◌
  end_with_reach p depth (Stmt number site askable reach act) s left e a i =
      let m = exec_act (world p depth) site reach act in
      gone s.frame number a (covered number m (record s { left = left }))
      (subst (λ (o : Outcome A Unit). IsAmong a (end o).active) (after_start number s.left left m s e) i)

  noted_test : {X : Type 0} (k : Kind) (r : ℕ) (b : X) (s t : State A) (o : Outcome A (Made A)) → Level A (core A s) (core A t) → Level A (core A t) (core A (end o)) → IfNext A k t o →
      IfDone (go_on (go_in (Through t.frame r) o) (λ e. return b)) (λ z u. BecameActive (Through s.frame r) s u)
  unfolding go_in entered with_active go_on return end
  noted_test k r b s t (Done e u) h l next =
      let one = next.number in
      let more = ap length next.noted in
      record {
        entry = record { number = e.number; from_all = e.from_all; reach = Through t.frame r };
        active = ap (λ l. record { number = e.number; from_all = e.from_all; reach = Through t.frame r } ∷ l) (l.active ∙ h.active);
        last = omega (arith, one, more);
        reaches = ap (λ f. Through f r) h.frame;
      }
  noted_test k r b s t (Left why u) h l next = tt
  noted_test k r b s t (Stopped why u) h l next = tt

  armed_then : {X : Type 0} (b : X) (o : Outcome A Unit) (s : State A) (r : ℕ) → IfDone o (λ u t. BecameActive (Through s.frame r) s t) → IfDone (go_on o (λ u. return b)) (λ z t. BecameActive (Through s.frame r) s t)
  unfolding go_on return
  armed_then b (Done u t) s r h = h
  armed_then b (Left why t) s r h = tt
  armed_then b (Stopped why t) s r h = tt

  arm_active : (site r n : ℕ) (v : Carried A) (s t : State A) → Level A (core A s) (core A t) → IfDone (armed site r n v t) (λ u t. BecameActive (Through s.frame r) s t)
  unfolding armed frame ◌>>=◌ activating go_on end
  arm_active site r n v s t k = noted_test _ r tt s t (note (plain kind.Test site (Arm n)) v t) k ((records_note A _ v).level.by t) ((records_note A _ v).next t)

  test_active : (site r : ℕ) (s : State A) (m : Run A (Carried A)) → Levels A m → IfDone (tested site r m s) (λ b t. BecameActive (Through s.frame r) s t)
  unfolding tested ◌>>=◌ ◌>>◌ go_on end
  test_active site r s m h = from (m s) (h.by s)
    where
      from : (o : Outcome A (Carried A)) → Level A (core A s) (core A (end o)) → IfDone (go_on o (λ v. armed site r (arm_of_truth (is_true v.value)) v >> return (is_true v.value))) (λ b t. BecameActive (Through s.frame r) s t)
      from (Done v t) k = armed_then (is_true v.value) (armed site r (arm_of_truth (is_true v.value)) v t) s r (arm_active site r (arm_of_truth (is_true v.value)) v s t k)
      from (Left why t) k = tt
      from (Stopped why t) k = tt

  pub tests_active : (p : Program) → TestsBecomeActive A p
  tests_active p depth e site reach s = test_active site reach s (eval (world p depth) e) (level_eval A (world p depth) (world_levels A p depth) e)

  pub catches_active : CatchesBecomeActive A
  unfolding caught frame ◌>>=◌ ◌>>◌ activating go_on end
  catches_active c v s = noted_test _ c.number tt s s (note_write (into kind.Catch c.site (Local (code_of s.frame) c.local) v.value) v s) (level_same A _) ((records_note_write A _ v).level.by s) ((records_note_write A _ v).next s)

  -- ---- the arms of `?:`

  noted_again : {X : Type 0} (es : List (Active A)) (o : Outcome A X) → (end (active_again es o)).noted ≡ (end o).noted
  unfolding active_again end
  noted_again es (Done x t) = refl
  noted_again es (Left why t) = refl
  noted_again es (Stopped why t) = refl

  none_more : (k : ℕ) (before after : List (Noted A)) → after ≡ before → IsControlledBy k (suc (length before)) after
  none_more k before after same n e le there = under_same A k before n e (omega (arith, le)) (subst (λ l. event_in l n ≡ Some e) same there)

  arm_controlled : (d : Kind) (t : State A) (o : Outcome A (Made A)) (k : Made A → Run A (Carried A)) → Level A (core A t) (core A (end o)) → IfNext A d t o → AreInOrder (length t.noted) t.active → ((e : Made A) → Levels A (k e)) →
      IsControlledBy (length t.noted) (suc (length t.noted)) (end (go_on (go_in Around o) k)).noted
  unfolding go_in entered with_active go_on end
  arm_controlled d t (Done e u) k h next order levels =
      let entry : Active A = record { number = e.number; from_all = e.from_all; reach = Around } in
      let at = next.number in
      let up : length u.noted ≡ suc (length t.noted) = ap length next.noted in
      let inner : AreInOrder e.number u.active = subst (AreInOrder e.number) (sym h.active) (subst (λ n. AreInOrder n t.active) (sym next.number) order) in
      let all = ((levels e).by (record u { active = entry ∷ u.active })).under entry (inl refl) (omega (arith, up, at), inner) in
      let last = (end (k e (record u { active = entry ∷ u.active }))).noted in
      subst (λ m. IsControlledBy {A = A} (length t.noted) m last) up (subst (λ m. IsControlledBy {A = A} m (length u.noted) last) at all)
  arm_controlled d t (Left why u) k h next order levels = none_more (length t.noted) t.noted u.noted next
  arm_controlled d t (Stopped why u) k h next order levels = none_more (length t.noted) t.noted u.noted next

  pub arms_controlled : (p : Program) → ArmsAreControlledByTheirTest A p
  unfolding conditional scoped ◌>>=◌ activating go_on end
  arms_controlled p depth test a b site s t v is order =
      let w = world p depth in
      let pw = world_levels A p depth in
      let h : Level A (core A s) (core A t) = subst (λ (o : Outcome A (Carried A)). Level A (core A s) (core A (end o))) is ((level_eval A w pw test).by s) in
      let k : Made A → Run A (Carried A) = λ e. choose (is_true v.value) (arm e v.value (eval_part w a)) (arm e v.value (eval_part w b)) in
      let levels : (e : Made A) → Levels A (k e) = λ e. level_choose A (is_true v.value) (on_arm A (IsLevel A) (level_by_steps A) w pw e v.value _ (level_part A w pw a)) (on_arm A (IsLevel A) (level_by_steps A) w pw e v.value _ (level_part A w pw b)) in
      let f : Carried A → Run A (Carried A) = λ v. activating Around (note (plain kind.Test site (Arm (arm_of_truth (is_true v.value)))) v) >>= (λ e. choose (is_true v.value) (arm e v.value (eval_part w a)) (arm e v.value (eval_part w b))) in
      let rest = arm_controlled _ t (note (plain kind.Test site (Arm (arm_of_truth (is_true v.value)))) v t) k ((records_note A _ v).level.by t) ((records_note A _ v).next t) (level_order A (core A s) (core A t) h.active h.later order) levels in
      subst (IsControlledBy (length t.noted) (suc (length t.noted))) (sym (noted_again s.active (go_on (eval w test s) f) ∙ ap (λ o. (end (go_on o f)).noted) is)) rest
