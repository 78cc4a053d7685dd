-- What every expression, every statement and every call counts.
use Rattle.std.proofs.Common.{ℕ, zero, suc, Bool, true, false, ◌<◌, List, [], ◌∷◌, Option, Some}
use Rattle.std.specs.Prelude.{None as Absent}
use Rattle.wy_kernel.specs.Form.{Expression, Part, Statement, Stmt, Act, Block, Eval, Declare, If, While, Do, For, Labelled, Jump, Return, Throw, Try, Print, Other, nothing, this, Statements, done, first, Catches, uncaught, catch}
use Rattle.wy_kernel.specs.Program.{Program, Body, Method, body, init_body}
use Rattle.wy_steps.specs.Sets.{Sets}
use Rattle.wy_steps.specs.State.{Carried, Run, StepLimit, DepthLimit, FellOff, InitFailed, Reason, Jumped, Returned, Threw, catching}
use Rattle.wy_kernel.specs.Limits.{event_limit}
use Rattle.wy_meaning.specs.World.{World}
use Rattle.wy_meaning.specs.Call.{bind_all, end_body, at_return, run_body, frame_of_call, call_method, at_failure, initialize_above, initialization}
use Rattle.wy_meaning.specs.Expression.{eval, eval_part}
use Rattle.wy_meaning.specs.Statement.{armed, tested, if_form, turns, while_form, do_form, for_test, for_form, jump, return_form, Clause, caught, handle, at_throw, finally, try_form, other_or, exec, exec_act, exec_other, exec_all, exec_catches}
use Rattle.wy_meaning.specs.Run.{call_body, init_block, world, main_run, strings}
use Rattle.law_counted.proofs.CountedRules.{IsRecorded, Counts, bind, after, bind_note, counts_catching, counts_choose, counts_return, counts_leave, counts_stop, counts_steps_left, counts_tick, counts_note_write, counts_note_new, counts_note, counts_scoped, counts_in_frame, counts_activating, counts_statement, counts_unassigned, counts_frame, counts_event_at, counts_is_begun, counts_read, counts_declare, counts_take_elements, counts_take_units, counts_room_for_output, counts_write_out, counts_next_byte}
use Rattle.law_induction.proofs.Composed.{WorldHas, PartHas, on_type_of, on_initialize, on_make_array, on_part_or, on_eval, on_part, on_evaluated, on_declaration, on_throw_form, on_print_form}
use Rattle.law_counted.proofs.CountedForms.{DoesCount, counts_by_steps}

ruleset steps = (bind, after, counts_choose, counts_return, counts_unassigned, counts_tick, counts_frame, counts_event_at, counts_is_begun, counts_read, counts_declare, counts_take_elements, counts_take_units, counts_room_for_output, counts_write_out, counts_next_byte, counts_note, counts_note_write, counts_note_new, counts_scoped, counts_in_frame, counts_activating)

module _ (A : Sets) (w : World A) (pw : WorldHas A (DoesCount A) w) where
  pub counts_eval : (e : Expression) → Counts A (eval w e)
  counts_eval e = on_eval A (DoesCount A) (counts_by_steps A) w pw e

  counts_part : (x : Part) → PartHas A (DoesCount A) (eval_part w x)
  counts_part x = on_part A (DoesCount A) (counts_by_steps A) w pw x

  -- ---- statements

  counts_armed : (site reach n : ℕ) (v : Carried A) → Counts A (armed site reach n v)
  unfolding armed
  counts_armed site reach n v = search steps depth 14

  counts_tested : (site reach : ℕ) (test : Run A (Carried A)) → Counts A test → Counts A (tested site reach test)
  unfolding tested
  counts_tested site reach test h = search (steps, counts_armed) depth 14

  counts_if : (test : Run A Bool) (a b : Run A Unit) → Counts A test → Counts A a → Counts A b → Counts A (if_form test a b)
  unfolding if_form
  counts_if test a b ht ha hb = search steps depth 12

  counts_turns : (n : ℕ) (test : Run A Bool) (m : Run A Unit) → Counts A test → Counts A m → Counts A (turns n test m)
  unfolding turns
  counts_turns zero test m ht hm = counts_stop A StepLimit tt
  counts_turns (suc n) test m ht hm = bind A ht (λ b. counts_choose A b (after A hm (counts_turns n test m ht hm)) (counts_return A tt))

  counts_while : (test : Run A Bool) (m : Run A Unit) → Counts A test → Counts A m → Counts A (while_form test m)
  unfolding while_form
  counts_while test m ht hm = bind A (counts_steps_left A) (λ n. counts_turns (suc n) test m ht hm)

  counts_do : (m : Run A Unit) (test : Run A Bool) → Counts A m → Counts A test → Counts A (do_form m test)
  unfolding do_form
  counts_do m test hm ht = bind A (counts_steps_left A) (λ n. after A hm (counts_turns (suc n) test m ht hm))

  counts_for_test : (site reach : ℕ) (o : Option (Run A (Carried A))) → PartHas A (DoesCount A) o → Counts A (for_test site reach o)
  unfolding for_test
  counts_for_test site reach Absent h = counts_return A true
  counts_for_test site reach (Some m) h = counts_tested site reach m h

  counts_for : (inits : Run A Unit) (test : Run A Bool) (updates m : Run A Unit) → Counts A inits → Counts A test → Counts A updates → Counts A m → Counts A (for_form inits test updates m)
  unfolding for_form
  counts_for inits test updates m hi ht hu hm = after A hi (counts_while test _ ht (after A hm hu))

  counts_jump : (site target : ℕ) → Counts A {X = Unit {0}} (jump site target)
  unfolding jump
  counts_jump site target = bind_note A _ _ (λ e lt. counts_leave A _ lt)

  counts_return_form : (site : ℕ) (m : Run A (Carried A)) → Counts A m → Counts A (return_form site m)
  unfolding return_form
  counts_return_form site m h = bind A h (λ v. bind_note A _ v (λ e lt. counts_leave A _ lt))

  abbrev ClausesCount : List (Clause A) → Type 0
  ClausesCount [] = Unit {0}
  ClausesCount (c ∷ rest) = Counts A c.block × ClausesCount rest

  counts_caught : (c : Clause A) (v : Carried A) → Counts A c.block → Counts A (caught c v)
  unfolding caught
  counts_caught c v h = search steps depth 14

  counts_handle : (p : Program) (clauses : List (Clause A)) (c e : ℕ) (v : Carried A) → e < event_limit → ClausesCount clauses → Counts A (handle p clauses c e v)
  unfolding handle
  counts_handle p [] c e v lt h = counts_leave A _ lt
  counts_handle p (clause ∷ rest) c e v lt h = counts_choose A _ (counts_caught clause v h.0) (counts_handle p rest c e v lt h.1)

  counts_at_throw : (clauses : List (Clause A)) (why : Reason A) → IsRecorded A why → ClausesCount clauses → Counts A (at_throw w clauses why)
  unfolding at_throw
  counts_at_throw clauses (Jumped target e) lt h = counts_leave A _ lt
  counts_at_throw clauses (Returned e v) lt h = counts_leave A _ lt
  counts_at_throw clauses (Threw e v) lt h = bind A (on_type_of A (DoesCount A) (counts_by_steps A) v.value) (λ ty. counts_handle w.program clauses _ e v lt h)

  counts_catches : (m : Run A Unit) (clauses : List (Clause A)) → Counts A m → ClausesCount clauses → Counts A (catching m (at_throw w clauses))
  counts_catches m clauses hm hc = counts_catching A hm (λ why lt. counts_at_throw clauses why lt hc)

  counts_finally : (m last : Run A Unit) → Counts A m → Counts A last → Counts A (finally m last)
  unfolding finally
  counts_finally m last hm hl = after A (counts_catching A hm (λ why lt. after A hl (counts_leave A why lt))) hl

  abbrev OptionCounts : Option (Run A Unit) → Type 0
  OptionCounts Absent = Unit {0}
  OptionCounts (Some m) = Counts A m

  counts_try : (m : Run A Unit) (clauses : List (Clause A)) (last : Option (Run A Unit)) → Counts A m → ClausesCount clauses → OptionCounts last → Counts A (try_form w m clauses last)
  unfolding try_form
  counts_try m clauses Absent hm hc hl = counts_catches m clauses hm hc
  counts_try m clauses (Some last) hm hc hl = counts_finally _ last (counts_catches m clauses hm hc) hl

  counts_other_or : (o : Option (Run A Unit)) → OptionCounts o → Counts A (other_or o)
  unfolding other_or
  counts_other_or Absent h = counts_return A tt
  counts_other_or (Some m) h = h

  mutual
    unfolding exec exec_act exec_other exec_all exec_catches

    pub counts_exec : (x : Statement) → Counts A (exec w x)
    counts_exec (Stmt number site askable reach act) = counts_statement A number (counts_act site reach act)

    pub counts_act : (site reach : ℕ) (x : Act) → Counts A (exec_act w site reach x)
    counts_act site reach (Block parts) = counts_exec_all parts
    counts_act site reach (Eval value) = on_evaluated A (DoesCount A) (counts_by_steps A) w pw _ (counts_eval value)
    counts_act site reach (Declare i) = on_declaration A (DoesCount A) (counts_by_steps A) w pw i
    counts_act site reach (If test a b) = counts_if _ _ _ (counts_tested site reach _ (counts_eval test)) (counts_exec a) (counts_other_or _ (counts_other b))
    counts_act site reach (While test m) = counts_while _ _ (counts_tested site reach _ (counts_eval test)) (counts_exec m)
    counts_act site reach (Do m test) = counts_do _ _ (counts_exec m) (counts_tested site reach _ (counts_eval test))
    counts_act site reach (For inits test updates m) = counts_for _ _ _ _ (counts_exec_all inits) (counts_for_test site reach _ (counts_part test)) (counts_exec_all updates) (counts_exec m)
    counts_act site reach (Labelled m) = counts_exec m
    counts_act site reach (Jump target) = counts_jump site target
    counts_act site reach (Return value) = counts_return_form site _ (on_part_or A (DoesCount A) (counts_by_steps A) w pw _ _ (counts_part value))
    counts_act site reach (Throw value) = on_throw_form A (DoesCount A) (counts_by_steps A) w pw site _ (counts_eval value)
    counts_act site reach (Try m clauses last) = counts_try _ _ _ (counts_exec m) (counts_clauses clauses) (counts_other last)
    counts_act site reach (Print operand ty ends_line at) = on_print_form A (DoesCount A) (counts_by_steps A) w pw _ ends_line at (counts_part operand)

    counts_other : (x : Other) → OptionCounts (exec_other w x)
    counts_other nothing = tt
    counts_other (this s) = counts_exec s

    counts_exec_all : (x : Statements) → Counts A (exec_all w x)
    counts_exec_all done = counts_return A tt
    counts_exec_all (first s rest) = after A (counts_exec s) (counts_exec_all rest)

    counts_clauses : (x : Catches) → ClausesCount (exec_catches w x)
    counts_clauses uncaught = tt
    counts_clauses (catch c local site block rest) = (counts_exec block, counts_clauses rest)

  -- ---- calls and initializations

  counts_bind_all : (vs : List (Carried A)) (b : Body) (f i : ℕ) → Counts A (bind_all b f i vs)
  unfolding bind_all
  counts_bind_all [] b f i = counts_return A tt
  counts_bind_all (v ∷ vs) b f i = bind A (counts_note_write A _ v) (λ e. counts_bind_all vs b f (suc i))

  counts_end_body : (b : Bool) (site : ℕ) → Counts A {X = Carried A} (end_body b site)
  unfolding end_body
  counts_end_body false site = counts_stop A FellOff tt
  counts_end_body true site = search steps depth 12

  counts_at_return : (why : Reason A) → IsRecorded A why → Counts A (at_return why)
  unfolding at_return
  counts_at_return (Jumped target e) lt = counts_leave A _ lt
  counts_at_return (Returned e v) lt = counts_return A v
  counts_at_return (Threw e v) lt = counts_leave A _ lt

  counts_run_body : (block : Run A Unit) (b : Bool) (site : ℕ) → Counts A block → Counts A (run_body block b site)
  unfolding run_body
  counts_run_body block b site h = counts_catching A (after A h (counts_end_body b site)) counts_at_return

  counts_frame_of_call : (b : Body) (block : Run A Unit) (void : Bool) (f : ℕ) (vs : List (Carried A)) → Counts A block → Counts A (frame_of_call b block void f vs)
  unfolding frame_of_call
  counts_frame_of_call b block void f vs h = after A (counts_bind_all vs b f 0) (counts_run_body block void _ h)

  counts_call_method : (site n : ℕ) (m : Method) (b : Body) (block : Run A Unit) (r : Option (Carried A)) (args : List (Carried A)) → Counts A block → Counts A (call_method site n m b block r args)
  unfolding call_method
  counts_call_method site n m b block r args h =
      counts_scoped A (bind A (counts_activating A _ (counts_note A _ _)) (λ e. counts_in_frame A _ (counts_frame_of_call b block _ _ _ h)))

  counts_at_failure : (why : Reason A) → IsRecorded A why → Counts A (at_failure why)
  unfolding at_failure
  counts_at_failure (Jumped target e) lt = counts_leave A _ lt
  counts_at_failure (Returned e v) lt = counts_leave A _ lt
  counts_at_failure (Threw e v) lt = counts_stop A (InitFailed e) lt

  counts_initialize_above : (site : ℕ) (above : Option ℕ) → Counts A (initialize_above w site above)
  unfolding initialize_above
  counts_initialize_above site Absent = counts_return A tt
  counts_initialize_above site (Some c) = on_initialize A (DoesCount A) (counts_by_steps A) w pw site c

  pub counts_initialization : (site c : ℕ) (block : Run A Unit) → Counts A block → Counts A (initialization w site c block)
  unfolding initialization
  counts_initialization site c block h =
      counts_scoped A (bind A (counts_activating A _ (counts_note_new A _ _ _)) (λ e.
      counts_in_frame A _ (after A (counts_initialize_above _ _) (counts_catching A h counts_at_failure))))

  pub counts_call_body : (site m : ℕ) (o : Option Body) (r : Option (Carried A)) (args : List (Carried A)) → Counts A (call_body w site m o r args)
  unfolding call_body
  counts_call_body site m Absent r args = counts_stop A FellOff tt
  counts_call_body site m (Some b) r args = counts_call_method site m _ b _ r args (counts_exec b.block)

  pub counts_init_block : (o : Option Body) → Counts A (init_block w o)
  unfolding init_block
  counts_init_block Absent = counts_return A tt
  counts_init_block (Some b) = (counts_exec b.block)

  pub counts_main_run : Counts A (main_run w)
  unfolding main_run
  counts_main_run = after A (on_initialize A (DoesCount A) (counts_by_steps A) w pw _ _) (bind A (on_make_array A (DoesCount A) (counts_by_steps A) w pw _ strings 0 _) (λ args. pw.call _ _ Absent _))

module _ (A : Sets) (p : Program) where
  pub world_counts : (depth : ℕ) → WorldHas A (DoesCount A) (world p depth)
  unfolding world
  world_counts zero = record {
    call = λ site m r args. counts_stop A DepthLimit tt;
    enter = λ site c. counts_stop A DepthLimit tt;
  }
  world_counts (suc depth) = record {
    call = λ site m r args. counts_call_body A (world p depth) (world_counts depth) site m (body p m) r args;
    enter = λ site c. counts_initialization A (world p depth) (world_counts depth) site c _ (counts_init_block A (world p depth) (world_counts depth) (init_body p c));
  }
