-- What every expression, every statement and every call does to the active entries.
use Rattle.std.proofs.Common.{◌≡◌, ℕ, zero, suc, Bool, true, false, List, [], ◌∷◌, ◌++◌, ◌⊎◌, inl, inr, ⊎_elim, Option, Some, refl}
use Rattle.std.specs.Prelude.{None as Absent}
use Rattle.wy_kernel.specs.Form.{Expression, Part, Statement, Stmt, Act, Block, Eval, Declare, If, While, Do, For, Labelled, Jump, Return, Throw, Try, Print, Other, nothing, this, Statements, done, first, Catches, uncaught, catch}
use Rattle.wy_kernel.specs.Program.{Program, Body, Method, body, init_body}
use Rattle.wy_value.specs.declared.value.Value.TheVariants.{Arm}
use Rattle.wy_steps.specs.Sets.{Sets}
use Rattle.wy_steps.specs.State.{Carried, Reach, Around, Through, Run, StepLimit, DepthLimit, FellOff, InitFailed, Reason, Jumped, Returned, Threw, ◌>>◌, catching}
use Rattle.wy_meaning.specs.World.{World}
use Rattle.wy_meaning.specs.Call.{bind_all, end_body, at_return, run_body, frame_of_call, call_method, at_failure, initialize_above, initialization}
use Rattle.wy_meaning.specs.Expression.{eval, eval_part}
use Rattle.wy_meaning.specs.Statement.{number_of, armed, tested, if_form, turns, while_form, do_form, for_test, for_form, jump, return_form, Clause, caught, handle, at_throw, finally, try_form, other_or, exec, exec_act, exec_other, exec_all, exec_catches}
use Rattle.wy_meaning.specs.Run.{call_body, init_block, world, main_run, strings}
use Rattle.wy_kernel.specs.Statements.{statements, statements_within, statements_of_other, statements_of_all, statements_of_catches}
use Rattle.law_counted.specs.Entries.{OneOf, IsNumberOf, IsReachOf, IsThroughOneOf}
use Rattle.law_counted.proofs.ActiveRules.{test_runs_none, catch_runs_none, call_runs, init_runs, Levels, Keeps, lift, bind, after, bind_kept, after_kept, kept_catching, kept_choose, widen, level_return, level_leave, level_stop, level_tick, level_steps_left, level_note, level_note_write, records_note, records_note_write, records_note_new, kept_activating, with_frame, bind_at, level_body, keeps_statement, level_choose, level_unassigned, level_frame, level_event_at, level_is_begun, level_read, level_declare, level_take_elements, level_take_units, level_room_for_output, level_write_out, level_next_byte, level_note_new}
use Rattle.law_induction.proofs.Composed.{WorldHas, PartHas, on_type_of, on_initialize, on_make_array, on_part_or, on_eval, on_part, on_evaluated, on_declaration, on_throw_form, on_print_form}
use Rattle.law_counted.proofs.ActiveForms.{IsLevel, level_by_steps}

of_left : (xs ys : List Statement) (Q : Statement → Type 0) → OneOf xs Q → OneOf (xs ++ ys) Q
of_left [] ys Q h = elim h [ ]
of_left (x ∷ xs) ys Q (inl is) = inl is
of_left (x ∷ xs) ys Q (inr h) = inr (of_left xs ys Q h)

of_right : (xs ys : List Statement) (Q : Statement → Type 0) → OneOf ys Q → OneOf (xs ++ ys) Q
of_right [] ys Q h = h
of_right (x ∷ xs) ys Q h = inr (of_right xs ys Q h)

-- what one of these statements says of a reach, or the statement around them
abbrev InAct : ℕ → List Statement → Option ℕ → Reach → Type 0
InAct reach xs frame Around = ⊥
InAct reach xs frame (Through f n) = (f ≡ frame) × ((n ≡ reach) ⊎ IsReachOf xs n)

through_more : (ys xs : List Statement) → ((Q : Statement → Type 0) → OneOf ys Q → OneOf xs Q) → (f : Option ℕ) (r : Reach) → IsThroughOneOf ys f r → IsThroughOneOf xs f r
through_more ys xs into f Around h = h
through_more ys xs into f (Through g n) h = (h.0, into _ h.1)

through_act : (reach : ℕ) (ys xs : List Statement) → ((Q : Statement → Type 0) → OneOf ys Q → OneOf xs Q) → (f : Option ℕ) (r : Reach) → IsThroughOneOf ys f r → InAct reach xs f r
through_act reach ys xs into f Around h = h
through_act reach ys xs into f (Through g n) h = (h.0, inr (into _ h.1))

through_statement : (number site : ℕ) (askable : Bool) (reach : ℕ) (act : Act) (f : Option ℕ) (r : Reach) → InAct reach (statements_within act) f r → IsThroughOneOf (statements (Stmt number site askable reach act)) f r
through_statement number site askable reach act f Around h = h
through_statement number site askable reach act f (Through g n) h = (h.0, ⊎_elim (λ is. inl (inl is)) (λ i. inr i) h.1)

own_number : (x : Statement) → IsReachOf (statements x) (number_of x)
own_number (Stmt number site askable reach act) = inl (inr refl)

ruleset steps = (bind, after, level_choose, level_return, level_unassigned, level_tick, level_frame, level_event_at, level_is_begun, level_read, level_declare, level_take_elements, level_take_units, level_room_for_output, level_write_out, level_next_byte, level_note, level_note_write, level_note_new)

module _ (A : Sets) (w : World A) (pw : WorldHas A (IsLevel A) w) where
  pub level_eval : (e : Expression) → Levels A (eval w e)
  level_eval e = on_eval A (IsLevel A) (level_by_steps A) w pw e

  pub level_part : (x : Part) → PartHas A (IsLevel A) (eval_part w x)
  level_part x = on_part A (IsLevel A) (level_by_steps A) w pw x

  -- ---- statements

  module _ (N : ℕ → Type 0) (P : Option ℕ → Reach → Type 0) where
    keeps_armed : (site reach n : ℕ) (v : Carried A) → ((f : Option ℕ) → P f (Through f reach)) → Keeps A N P (armed site reach n v)
    unfolding armed
    keeps_armed site reach n v allowed =
        with_frame A N P _ (λ s.
        bind_at A N P _ _ s (kept_activating A N P (Through s.frame reach) s (allowed s.frame) (records_note A _ v) (test_runs_none site (Arm n))) (λ e.
        lift A (level_return A _)))

    keeps_tested : (site reach : ℕ) (test : Run A (Carried A)) → ((f : Option ℕ) → P f (Through f reach)) → Levels A test → Keeps A N P (tested site reach test)
    unfolding tested
    keeps_tested site reach test allowed h =
        bind_kept A (lift A h) (λ v. after_kept A (keeps_armed site reach _ v allowed) (lift A (level_return A _)))

    keeps_if : (test : Run A Bool) (a b : Run A Unit) → Keeps A N P test → Keeps A N P a → Keeps A N P b → Keeps A N P (if_form test a b)
    unfolding if_form
    keeps_if test a b ht ha hb = bind_kept A ht (λ z. kept_choose A z ha hb)

    keeps_turns : (n : ℕ) (test : Run A Bool) (m : Run A Unit) → Keeps A N P test → Keeps A N P m → Keeps A N P (turns n test m)
    unfolding turns
    keeps_turns zero test m ht hm = lift A (level_stop A StepLimit)
    keeps_turns (suc n) test m ht hm = bind_kept A ht (λ b. kept_choose A b (after_kept A hm (keeps_turns n test m ht hm)) (lift A (level_return A tt)))

    keeps_while : (test : Run A Bool) (m : Run A Unit) → Keeps A N P test → Keeps A N P m → Keeps A N P (while_form test m)
    unfolding while_form
    keeps_while test m ht hm = bind_kept A (lift A (level_steps_left A)) (λ n. keeps_turns (suc n) test m ht hm)

    keeps_do : (m : Run A Unit) (test : Run A Bool) → Keeps A N P m → Keeps A N P test → Keeps A N P (do_form m test)
    unfolding do_form
    keeps_do m test hm ht = bind_kept A (lift A (level_steps_left A)) (λ n. after_kept A hm (keeps_turns (suc n) test m ht hm))

    keeps_for_test : (site reach : ℕ) (o : Option (Run A (Carried A))) → ((f : Option ℕ) → P f (Through f reach)) → PartHas A (IsLevel A) o → Keeps A N P (for_test site reach o)
    unfolding for_test
    keeps_for_test site reach Absent allowed h = lift A (level_return A true)
    keeps_for_test site reach (Some m) allowed h = keeps_tested site reach m allowed h

    keeps_for : (inits : Run A Unit) (test : Run A Bool) (updates m : Run A Unit) → Keeps A N P inits → Keeps A N P test → Keeps A N P updates → Keeps A N P m → Keeps A N P (for_form inits test updates m)
    unfolding for_form
    keeps_for inits test updates m hi ht hu hm = after_kept A hi (keeps_while test _ ht (after_kept A hm hu))

    abbrev ClausesHold : List (Clause A) → Type 0
    ClausesHold [] = Unit {0}
    ClausesHold (c ∷ rest) = (Keeps A N P c.block × ((f : Option ℕ) → P f (Through f c.number))) × ClausesHold rest

    keeps_caught : (c : Clause A) (v : Carried A) → Keeps A N P c.block → ((f : Option ℕ) → P f (Through f c.number)) → Keeps A N P (caught c v)
    unfolding caught
    keeps_caught c v h allowed =
        with_frame A N P _ (λ s.
        bind_at A N P _ _ s (kept_activating A N P (Through s.frame c.number) s (allowed s.frame) (records_note_write A _ v) (catch_runs_none _ _ _)) (λ e. h))

    keeps_handle : (p : Program) (clauses : List (Clause A)) (c e : ℕ) (v : Carried A) → ClausesHold clauses → Keeps A N P (handle p clauses c e v)
    unfolding handle
    keeps_handle p [] c e v h = lift A (level_leave A _)
    keeps_handle p (clause ∷ rest) c e v h = kept_choose A _ (keeps_caught clause v h.0.0 h.0.1) (keeps_handle p rest c e v h.1)

    keeps_at_throw : (clauses : List (Clause A)) (why : Reason A) → ClausesHold clauses → Keeps A N P (at_throw w clauses why)
    unfolding at_throw
    keeps_at_throw clauses (Jumped target e) h = lift A (level_leave A _)
    keeps_at_throw clauses (Returned e v) h = lift A (level_leave A _)
    keeps_at_throw clauses (Threw e v) h = bind_kept A (lift A (on_type_of A (IsLevel A) (level_by_steps A) v.value)) (λ ty. keeps_handle w.program clauses _ e v h)

    keeps_catches : (m : Run A Unit) (clauses : List (Clause A)) → Keeps A N P m → ClausesHold clauses → Keeps A N P (catching m (at_throw w clauses))
    keeps_catches m clauses hm hc = kept_catching A hm (λ why. keeps_at_throw clauses why hc)

    keeps_finally : (m last : Run A Unit) → Keeps A N P m → Keeps A N P last → Keeps A N P (finally m last)
    unfolding finally
    keeps_finally m last hm hl = after_kept A (kept_catching A hm (λ why. after_kept A hl (lift A (level_leave A why)))) hl

    abbrev OptionHolds : Option (Run A Unit) → Type 0
    OptionHolds Absent = Unit {0}
    OptionHolds (Some m) = Keeps A N P m

    keeps_try : (m : Run A Unit) (clauses : List (Clause A)) (last : Option (Run A Unit)) → Keeps A N P m → ClausesHold clauses → OptionHolds last → Keeps A N P (try_form w m clauses last)
    unfolding try_form
    keeps_try m clauses Absent hm hc hl = keeps_catches m clauses hm hc
    keeps_try m clauses (Some last) hm hc hl = keeps_finally _ last (keeps_catches m clauses hm hc) hl

    keeps_other_or : (o : Option (Run A Unit)) → OptionHolds o → Keeps A N P (other_or o)
    unfolding other_or
    keeps_other_or Absent h = lift A (level_return A tt)
    keeps_other_or (Some m) h = h

  level_jump : (site target : ℕ) → Levels A {X = Unit {0}} (jump site target)
  unfolding jump
  level_jump site target = bind A (level_note A _ _) (λ e. level_leave A _)

  level_return_form : (site : ℕ) (m : Run A (Carried A)) → Levels A m → Levels A (return_form site m)
  unfolding return_form
  level_return_form site m h = bind A h (λ v. bind A (level_note A _ v) (λ e. level_leave A _))

  widen_option : (M N : ℕ → Type 0) (P Q : Option ℕ → Reach → Type 0) (o : Option (Run A Unit)) → ((n : ℕ) → M n → N n) → ((f : Option ℕ) (r : Reach) → P f r → Q f r) → OptionHolds M P o → OptionHolds N Q o
  widen_option M N P Q Absent into far h = tt
  widen_option M N P Q (Some m) into far h = widen A into far h

  widen_clauses : (M N : ℕ → Type 0) (P Q : Option ℕ → Reach → Type 0) (cs : List (Clause A)) → ((n : ℕ) → M n → N n) → ((f : Option ℕ) (r : Reach) → P f r → Q f r) → ClausesHold M P cs → ClausesHold N Q cs
  widen_clauses M N P Q [] into far h = tt
  widen_clauses M N P Q (c ∷ rest) into far h = ((widen A into far h.0.0, λ f. far f (Through f c.number) (h.0.1 f)), widen_clauses M N P Q rest into far h.1)

  -- what these statements may do, and what may be done in a statement that they stand in
  abbrev HoldsOf : List Statement → {X : Type 0} → Run A X → Type 0
  HoldsOf xs m = Keeps A (IsNumberOf xs) (IsThroughOneOf xs) m

  abbrev HoldsIn : ℕ → List Statement → {X : Type 0} → Run A X → Type 0
  HoldsIn reach xs m = Keeps A (IsNumberOf xs) (InAct reach xs) m

  among : (ys xs : List Statement) (m : Run A Unit) → ((Q : Statement → Type 0) → OneOf ys Q → OneOf xs Q) → HoldsOf ys m → HoldsOf xs m
  among ys xs m into h = widen A (λ n. into _) (through_more ys xs into) h

  within : (reach : ℕ) (ys xs : List Statement) (m : Run A Unit) → ((Q : Statement → Type 0) → OneOf ys Q → OneOf xs Q) → HoldsOf ys m → HoldsIn reach xs m
  within reach ys xs m into h = widen A (λ n. into _) (through_act reach ys xs into) h

  its_test : (reach : ℕ) (xs : List Statement) (f : Option ℕ) → InAct reach xs f (Through f reach)
  its_test reach xs f = (refl, inl refl)

  mutual
    unfolding exec exec_act exec_other exec_all exec_catches

    pub keeps_exec : (x : Statement) → HoldsOf (statements x) (exec w x)
    keeps_exec (Stmt number site askable reach act) =
        keeps_statement A (IsNumberOf (statements (Stmt number site askable reach act))) (IsThroughOneOf (statements (Stmt number site askable reach act))) number (inl refl)
        (widen A (λ n h. inr h) (through_statement number site askable reach act) (keeps_act site reach act))

    pub keeps_act : (site reach : ℕ) (x : Act) → HoldsIn reach (statements_within x) (exec_act w site reach x)
    keeps_act site reach (Block parts) = within reach (statements_of_all parts) (statements_of_all parts) _ (λ Q h. h) (keeps_exec_all parts)
    keeps_act site reach (Eval value) = lift A (on_evaluated A (IsLevel A) (level_by_steps A) w pw _ (level_eval value))
    keeps_act site reach (Declare i) = lift A (on_declaration A (IsLevel A) (level_by_steps A) w pw i)
    keeps_act site reach (If test a b) =
        let xs = statements_within (If test a b) in
        keeps_if (IsNumberOf xs) (InAct reach xs) _ _ _
        (keeps_tested (IsNumberOf xs) (InAct reach xs) site reach _ (its_test reach xs) (level_eval test))
        (within reach (statements a) xs _ (of_left (statements a) (statements_of_other b)) (keeps_exec a))
        (within reach (statements_of_other b) xs _ (of_right (statements a) (statements_of_other b)) (keeps_other_or (IsNumberOf (statements_of_other b)) (IsThroughOneOf (statements_of_other b)) _ (keeps_other b)))
    keeps_act site reach (While test m) =
        let xs = statements m in
        keeps_while (IsNumberOf xs) (InAct reach xs) _ _
        (keeps_tested (IsNumberOf xs) (InAct reach xs) site reach _ (its_test reach xs) (level_eval test))
        (within reach xs xs _ (λ Q h. h) (keeps_exec m))
    keeps_act site reach (Do m test) =
        let xs = statements m in
        keeps_do (IsNumberOf xs) (InAct reach xs) _ _
        (within reach xs xs _ (λ Q h. h) (keeps_exec m))
        (keeps_tested (IsNumberOf xs) (InAct reach xs) site reach _ (its_test reach xs) (level_eval test))
    keeps_act site reach (For inits test updates m) =
        let xs = statements_within (For inits test updates m) in
        let rest = statements_of_all updates ++ statements m in
        keeps_for (IsNumberOf xs) (InAct reach xs) _ _ _ _
        (within reach (statements_of_all inits) xs _ (of_left (statements_of_all inits) rest) (keeps_exec_all inits))
        (keeps_for_test (IsNumberOf xs) (InAct reach xs) site reach _ (its_test reach xs) (level_part test))
        (within reach (statements_of_all updates) xs _ (λ Q h. of_right (statements_of_all inits) rest Q (of_left (statements_of_all updates) (statements m) Q h)) (keeps_exec_all updates))
        (within reach (statements m) xs _ (λ Q h. of_right (statements_of_all inits) rest Q (of_right (statements_of_all updates) (statements m) Q h)) (keeps_exec m))
    keeps_act site reach (Labelled m) = within reach (statements m) (statements m) _ (λ Q h. h) (keeps_exec m)
    keeps_act site reach (Jump target) = lift A (level_jump site target)
    keeps_act site reach (Return value) = lift A (level_return_form site _ (on_part_or A (IsLevel A) (level_by_steps A) w pw _ _ (level_part value)))
    keeps_act site reach (Throw value) = lift A (on_throw_form A (IsLevel A) (level_by_steps A) w pw site _ (level_eval value))
    keeps_act site reach (Try m clauses last) =
        let xs = statements_within (Try m clauses last) in
        let cs = statements_of_catches clauses in
        let ls = statements_of_other last in
        let of_clauses : (Q : Statement → Type 0) → OneOf cs Q → OneOf xs Q = λ Q h. of_right (statements m) (cs ++ ls) Q (of_left cs ls Q h) in
        let of_last : (Q : Statement → Type 0) → OneOf ls Q → OneOf xs Q = λ Q h. of_right (statements m) (cs ++ ls) Q (of_right cs ls Q h) in
        keeps_try (IsNumberOf xs) (InAct reach xs) _ _ _
        (within reach (statements m) xs _ (of_left (statements m) (cs ++ ls)) (keeps_exec m))
        (widen_clauses (IsNumberOf cs) (IsNumberOf xs) (IsThroughOneOf cs) (InAct reach xs) _ (λ n. of_clauses _) (through_act reach cs xs of_clauses) (keeps_clauses clauses))
        (widen_option (IsNumberOf ls) (IsNumberOf xs) (IsThroughOneOf ls) (InAct reach xs) _ (λ n. of_last _) (through_act reach ls xs of_last) (keeps_other last))
    keeps_act site reach (Print operand ty ends_line at) = lift A (on_print_form A (IsLevel A) (level_by_steps A) w pw _ ends_line at (level_part operand))

    keeps_other : (x : Other) → OptionHolds (IsNumberOf (statements_of_other x)) (IsThroughOneOf (statements_of_other x)) (exec_other w x)
    keeps_other nothing = tt
    keeps_other (this s) = keeps_exec s

    keeps_exec_all : (x : Statements) → HoldsOf (statements_of_all x) (exec_all w x)
    keeps_exec_all done = lift A (level_return A tt)
    keeps_exec_all (first s rest) =
        let xs = statements_of_all (first s rest) in
        after_kept A
        (among (statements s) xs _ (of_left (statements s) (statements_of_all rest)) (keeps_exec s))
        (among (statements_of_all rest) xs _ (of_right (statements s) (statements_of_all rest)) (keeps_exec_all rest))

    keeps_clauses : (x : Catches) → ClausesHold (IsNumberOf (statements_of_catches x)) (IsThroughOneOf (statements_of_catches x)) (exec_catches w x)
    keeps_clauses uncaught = tt
    keeps_clauses (catch c local site block rest) =
        let xs = statements_of_catches (catch c local site block rest) in
        let rs = statements_of_catches rest in (
          (among (statements block) xs _ (of_left (statements block) rs) (keeps_exec block), λ f. (refl, of_left (statements block) rs _ (own_number block))),
          widen_clauses (IsNumberOf rs) (IsNumberOf xs) (IsThroughOneOf rs) (IsThroughOneOf xs) _ (λ n. of_right (statements block) rs _) (through_more rs xs (of_right (statements block) rs)) (keeps_clauses rest),
        )

  -- ---- calls and initializations: in a body, the statements are all its own

  abbrev All : ℕ → Type 0
  All n = Unit {0}

  abbrev Any : Option ℕ → Reach → Type 0
  Any f r = Unit {0}

  level_bind_all : (vs : List (Carried A)) (b : Body) (f i : ℕ) → Levels A (bind_all b f i vs)
  unfolding bind_all
  level_bind_all [] b f i = level_return A tt
  level_bind_all (v ∷ vs) b f i = bind A (level_note_write A _ v) (λ e. level_bind_all vs b f (suc i))

  level_end_body : (b : Bool) (site : ℕ) → Levels A {X = Carried A} (end_body b site)
  unfolding end_body
  level_end_body false site = level_stop A FellOff
  level_end_body true site = search steps depth 12

  level_at_return : (why : Reason A) → Levels A (at_return why)
  unfolding at_return
  level_at_return (Jumped target e) = level_leave A _
  level_at_return (Returned e v) = level_return A v
  level_at_return (Threw e v) = level_leave A _

  keeps_run_body : (block : Run A Unit) (b : Bool) (site : ℕ) → Keeps A All Any block → Keeps A All Any (run_body block b site)
  unfolding run_body
  keeps_run_body block b site h = kept_catching A (after_kept A h (lift A (level_end_body b site))) (λ why. lift A (level_at_return why))

  keeps_frame_of_call : (b : Body) (block : Run A Unit) (void : Bool) (f : ℕ) (vs : List (Carried A)) → Keeps A All Any block → Keeps A All Any (frame_of_call b block void f vs)
  unfolding frame_of_call
  keeps_frame_of_call b block void f vs h = after_kept A (lift A (level_bind_all vs b f 0)) (keeps_run_body block void _ h)

  level_call_method : (site n : ℕ) (m : Method) (b : Body) (block : Run A Unit) (r : Option (Carried A)) (args : List (Carried A)) → Keeps A All Any block → Levels A (call_method site n m b block r args)
  unfolding call_method
  level_call_method site n m b block r args h =
      level_body A All Any (λ e. frame_of_call b block _ e.number _) (records_note A _ _) (call_runs _ _ _) (λ e. keeps_frame_of_call b block _ e.number _ h)

  level_at_failure : (why : Reason A) → Levels A (at_failure why)
  unfolding at_failure
  level_at_failure (Jumped target e) = level_leave A _
  level_at_failure (Returned e v) = level_leave A _
  level_at_failure (Threw e v) = level_stop A (InitFailed e)

  level_initialize_above : (site : ℕ) (above : Option ℕ) → Levels A (initialize_above w site above)
  unfolding initialize_above
  level_initialize_above site Absent = level_return A tt
  level_initialize_above site (Some c) = on_initialize A (IsLevel A) (level_by_steps A) w pw site c

  level_initialization : (site c : ℕ) (block : Run A Unit) → Keeps A All Any block → Levels A (initialization w site c block)
  unfolding initialization
  level_initialization site c block h =
      level_body A All Any (λ e. initialize_above w _ _ >> catching block at_failure) (records_note_new A _ _ _) (init_runs _ _ _) (λ e.
      after_kept A (lift A (level_initialize_above _ _)) (kept_catching A h (λ why. lift A (level_at_failure why))))

  pub level_call_body : (site m : ℕ) (o : Option Body) (r : Option (Carried A)) (args : List (Carried A)) → Levels A (call_body w site m o r args)
  unfolding call_body
  level_call_body site m Absent r args = level_stop A FellOff
  level_call_body site m (Some b) r args = level_call_method site m _ b _ r args (widen A (λ n h. tt) (λ f r h. tt) (keeps_exec b.block))

  keeps_init_block : (o : Option Body) → Keeps A All Any (init_block w o)
  unfolding init_block
  keeps_init_block Absent = lift A (level_return A tt)
  keeps_init_block (Some b) = widen A (λ n h. tt) (λ f r h. tt) (keeps_exec b.block)

  pub level_enter : (site c : ℕ) (o : Option Body) → Levels A (initialization w site c (init_block w o))
  level_enter site c o = level_initialization site c _ (keeps_init_block o)

  pub level_main_run : Levels A (main_run w)
  unfolding main_run
  level_main_run = after A (on_initialize A (IsLevel A) (level_by_steps A) w pw _ _) (bind A (on_make_array A (IsLevel A) (level_by_steps A) w pw _ strings 0 _) (λ args. pw.call _ _ Absent _))

module _ (A : Sets) (p : Program) where
  pub world_levels : (depth : ℕ) → WorldHas A (IsLevel A) (world p depth)
  unfolding world
  world_levels zero = record {
    call = λ site m r args. level_stop A DepthLimit;
    enter = λ site c. level_stop A DepthLimit;
  }
  world_levels (suc depth) = record {
    call = λ site m r args. level_call_body A (world p depth) (world_levels depth) site m (body p m) r args;
    enter = λ site c. level_enter A (world p depth) (world_levels depth) site c (init_body p c);
  }
