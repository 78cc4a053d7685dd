-- Every expression, every statement and every call takes what it needs of the steps that are left.
use Rattle.std.proofs.Common.{ℕ, zero, suc, Bool, true, false, ◌≤◌, List, [], ◌∷◌, Option, Some, le_refl, arith}
use Rattle.std.specs.Prelude.{None as Absent}
use Rattle.wy_kernel.specs.Form.{Expression, Part, Statement, Stmt, Act, Block, Eval, Declare, If, While, Do, For, Labelled, Jump, Return, Throw, Try, Print, Other, nothing, this, Statements, done, first, Catches, uncaught, catch}
use Rattle.wy_kernel.specs.Program.{Program, Body, Method, body, init_body}
use Rattle.wy_steps.specs.Sets.{Sets}
use Rattle.wy_steps.specs.State.{Carried, State, Run, Reason, Jumped, Returned, Threw, ◌>>◌, return, catching, choose}
use Rattle.wy_meaning.specs.World.{World}
use Rattle.wy_meaning.specs.Call.{bind_all, end_body, at_return, run_body, frame_of_call, call_method, at_failure, initialize_above, initialization}
use Rattle.wy_meaning.specs.Expression.{eval, eval_part}
use Rattle.wy_meaning.specs.Statement.{statement, armed, tested, if_form, turns, while_form, do_form, for_test, for_form, jump, return_form, Clause, caught, handle, at_throw, finally, try_form, other_or, exec, exec_act, exec_other, exec_all, exec_catches}
use Rattle.wy_meaning.specs.Run.{call_body, init_block, world, main_run, strings}
use Rattle.law_budget.proofs.BudgetRules.{Within, Paid, Taking, bind, after, taking_after, taking_tick, with_steps, within_bind, within_after, paid_catching, paid_choose, paid_return, paid_leave, paid_depth_limit, paid_fell_off, paid_init_failed, paid_tick, paid_note_write, paid_note_new, paid_note, paid_scoped, paid_reaching, paid_covered, paid_in_frame, paid_activating, paid_unassigned, paid_frame, paid_event_at, paid_is_begun, paid_read, paid_declare, paid_take_elements, paid_take_units, paid_room_for_output, paid_write_out, paid_next_byte}
use Rattle.law_induction.proofs.Composed.{WorldHas, PartHas, on_type_of, on_initialize, on_make_array, on_part_or, on_eval, on_part, on_evaluated, on_declaration, on_throw_form, on_print_form}
use Rattle.law_budget.proofs.Forms.{IsPaid, paid_by_steps}

ruleset steps = (bind, after, paid_catching, paid_choose, paid_return, paid_leave, paid_unassigned, paid_tick, paid_frame, paid_event_at, paid_is_begun, paid_read, paid_declare, paid_take_elements, paid_take_units, paid_room_for_output, paid_write_out, paid_next_byte, paid_note, paid_note_write, paid_note_new, paid_scoped, paid_reaching, paid_in_frame, paid_activating, paid_covered)

module _ (A : Sets) (w : World A) (pw : WorldHas A (IsPaid A) w) where
  paid_eval : (e : Expression) → Paid A (eval w e)
  paid_eval e = on_eval A (IsPaid A) (paid_by_steps A) w pw e

  paid_part : (x : Part) → PartHas A (IsPaid A) (eval_part w x)
  paid_part x = on_part A (IsPaid A) (paid_by_steps A) w pw x

  -- ---- statements

  taking_statement : (number : ℕ) (m : Run A Unit) → Paid A m → Taking A (statement number m)
  unfolding statement
  taking_statement number m h = taking_after A (taking_tick A) (paid_reaching A number (paid_covered A number h))

  paid_armed : (site reach n : ℕ) (v : Carried A) → Paid A (armed site reach n v)
  unfolding armed
  paid_armed site reach n v = search steps depth 14

  paid_tested : (site reach : ℕ) (test : Run A (Carried A)) → Paid A test → Paid A (tested site reach test)
  unfolding tested
  paid_tested site reach test h = search (steps, paid_armed) depth 14

  paid_if : (test : Run A Bool) (a b : Run A Unit) → Paid A test → Paid A a → Paid A b → Paid A (if_form test a b)
  unfolding if_form
  paid_if test a b ht ha hb = search steps depth 12

  turn_within : (n : ℕ) (m k : Run A Unit) → Taking A m → ((u : State A) → suc u.left ≤ n → Within A u.left (k u)) → (b : Bool) (t : State A) → t.left ≤ n → Within A t.left (choose b (m >> k) (return tt) t)
  unfolding choose
  turn_within n m k hm h true t le = within_after A _ _ t hm (λ u fewer. h u (omega (arith, le, fewer)))
  turn_within n m k hm h false t le = (paid_return A tt).within t

  -- turns of which each takes a step: where they are more than the steps that are left, they do not run out
  turns_within : (n : ℕ) (test : Run A Bool) (m : Run A Unit) → Paid A test → Taking A m → (s : State A) → suc s.left ≤ n → Within A s.left (turns n test m s)
  unfolding turns
  turns_within zero test m ht hm s le = absurd (omega (arith, le))
  turns_within (suc n) test m ht hm s le = within_bind A _ _ s ht (λ b t less. turn_within n m _ hm (turns_within n test m ht hm) b t (omega (arith, le, less)))

  paid_while : (test : Run A Bool) (m : Run A Unit) → Paid A test → Taking A m → Paid A (while_form test m)
  unfolding while_form
  paid_while test m ht hm = with_steps A _ (λ s. turns_within (suc s.left) test m ht hm s (le_refl _))

  paid_do : (m : Run A Unit) (test : Run A Bool) → Taking A m → Paid A test → Paid A (do_form m test)
  unfolding do_form
  paid_do m test hm ht = with_steps A _ (λ s. within_after A _ _ s hm (λ t fewer. turns_within (suc s.left) test m ht hm t (omega (arith, fewer))))

  paid_for_test : (site reach : ℕ) (o : Option (Run A (Carried A))) → PartHas A (IsPaid A) o → Paid A (for_test site reach o)
  unfolding for_test
  paid_for_test site reach Absent h = paid_return A true
  paid_for_test site reach (Some m) h = paid_tested site reach m h

  paid_for : (inits : Run A Unit) (test : Run A Bool) (updates m : Run A Unit) → Paid A inits → Paid A test → Paid A updates → Taking A m → Paid A (for_form inits test updates m)
  unfolding for_form
  paid_for inits test updates m hi ht hu hm = after A hi (paid_while test _ ht (taking_after A hm hu))

  paid_jump : (site target : ℕ) → Paid A {X = Unit {0}} (jump site target)
  unfolding jump
  paid_jump site target = search steps depth 12

  paid_return_form : (site : ℕ) (m : Run A (Carried A)) → Paid A m → Paid A (return_form site m)
  unfolding return_form
  paid_return_form site m h = search steps depth 12

  abbrev ClausesPaid : List (Clause A) → Type 0
  ClausesPaid [] = Unit {0}
  ClausesPaid (c ∷ rest) = Paid A c.block × ClausesPaid rest

  paid_caught : (c : Clause A) (v : Carried A) → Paid A c.block → Paid A (caught c v)
  unfolding caught
  paid_caught c v h = search steps depth 14

  paid_handle : (p : Program) (clauses : List (Clause A)) (c e : ℕ) (v : Carried A) → ClausesPaid clauses → Paid A (handle p clauses c e v)
  unfolding handle
  paid_handle p [] c e v h = paid_leave A _
  paid_handle p (clause ∷ rest) c e v h = paid_choose A _ (paid_caught clause v h.0) (paid_handle p rest c e v h.1)

  paid_at_throw : (clauses : List (Clause A)) (why : Reason A) → ClausesPaid clauses → Paid A (at_throw w clauses why)
  unfolding at_throw
  paid_at_throw clauses (Jumped target e) h = paid_leave A _
  paid_at_throw clauses (Returned e v) h = paid_leave A _
  paid_at_throw clauses (Threw e v) h = bind A (on_type_of A (IsPaid A) (paid_by_steps A) v.value) (λ ty. paid_handle w.program clauses _ e v h)

  paid_catches : (m : Run A Unit) (clauses : List (Clause A)) → Paid A m → ClausesPaid clauses → Paid A (catching m (at_throw w clauses))
  paid_catches m clauses hm hc = paid_catching A hm (λ why. paid_at_throw clauses why hc)

  paid_finally : (m last : Run A Unit) → Paid A m → Paid A last → Paid A (finally m last)
  unfolding finally
  paid_finally m last hm hl = after A (paid_catching A hm (λ why. after A hl (paid_leave A why))) hl

  abbrev OptionPaid : Option (Run A Unit) → Type 0
  OptionPaid Absent = Unit {0}
  OptionPaid (Some m) = Paid A m

  paid_try : (m : Run A Unit) (clauses : List (Clause A)) (last : Option (Run A Unit)) → Paid A m → ClausesPaid clauses → OptionPaid last → Paid A (try_form w m clauses last)
  unfolding try_form
  paid_try m clauses Absent hm hc hl = paid_catches m clauses hm hc
  paid_try m clauses (Some last) hm hc hl = paid_finally _ last (paid_catches m clauses hm hc) hl

  paid_other_or : (o : Option (Run A Unit)) → OptionPaid o → Paid A (other_or o)
  unfolding other_or
  paid_other_or Absent h = paid_return A tt
  paid_other_or (Some m) h = h

  mutual
    unfolding exec exec_act exec_other exec_all exec_catches

    taking_exec : (x : Statement) → Taking A (exec w x)
    taking_exec (Stmt number site askable reach act) = taking_statement number _ (paid_act site reach act)

    paid_act : (site reach : ℕ) (x : Act) → Paid A (exec_act w site reach x)
    paid_act site reach (Block parts) = paid_exec_all parts
    paid_act site reach (Eval value) = on_evaluated A (IsPaid A) (paid_by_steps A) w pw _ (paid_eval value)
    paid_act site reach (Declare i) = on_declaration A (IsPaid A) (paid_by_steps A) w pw i
    paid_act site reach (If test a b) = paid_if _ _ _ (paid_tested site reach _ (paid_eval test)) (taking_exec a).paid (paid_other_or _ (paid_other b))
    paid_act site reach (While test m) = paid_while _ _ (paid_tested site reach _ (paid_eval test)) (taking_exec m)
    paid_act site reach (Do m test) = paid_do _ _ (taking_exec m) (paid_tested site reach _ (paid_eval test))
    paid_act site reach (For inits test updates m) = paid_for _ _ _ _ (paid_exec_all inits) (paid_for_test site reach _ (paid_part test)) (paid_exec_all updates) (taking_exec m)
    paid_act site reach (Labelled m) = (taking_exec m).paid
    paid_act site reach (Jump target) = paid_jump site target
    paid_act site reach (Return value) = paid_return_form site _ (on_part_or A (IsPaid A) (paid_by_steps A) w pw _ _ (paid_part value))
    paid_act site reach (Throw value) = on_throw_form A (IsPaid A) (paid_by_steps A) w pw site _ (paid_eval value)
    paid_act site reach (Try m clauses last) = paid_try _ _ _ (taking_exec m).paid (paid_clauses clauses) (paid_other last)
    paid_act site reach (Print operand ty ends_line at) = on_print_form A (IsPaid A) (paid_by_steps A) w pw _ ends_line at (paid_part operand)

    paid_other : (x : Other) → OptionPaid (exec_other w x)
    paid_other nothing = tt
    paid_other (this s) = (taking_exec s).paid

    paid_exec_all : (x : Statements) → Paid A (exec_all w x)
    paid_exec_all done = paid_return A tt
    paid_exec_all (first s rest) = after A (taking_exec s).paid (paid_exec_all rest)

    paid_clauses : (x : Catches) → ClausesPaid (exec_catches w x)
    paid_clauses uncaught = tt
    paid_clauses (catch c local site block rest) = ((taking_exec block).paid, paid_clauses rest)

  -- ---- calls and initializations

  paid_bind_all : (vs : List (Carried A)) (b : Body) (f i : ℕ) → Paid A (bind_all b f i vs)
  unfolding bind_all
  paid_bind_all [] b f i = paid_return A tt
  paid_bind_all (v ∷ vs) b f i = bind A (paid_note_write A _ v) (λ e. paid_bind_all vs b f (suc i))

  paid_end_body : (b : Bool) (site : ℕ) → Paid A {X = Carried A} (end_body b site)
  unfolding end_body
  paid_end_body false site = paid_fell_off A
  paid_end_body true site = search steps depth 12

  paid_at_return : (why : Reason A) → Paid A (at_return why)
  unfolding at_return
  paid_at_return (Jumped target e) = paid_leave A _
  paid_at_return (Returned e v) = paid_return A v
  paid_at_return (Threw e v) = paid_leave A _

  paid_run_body : (block : Run A Unit) (b : Bool) (site : ℕ) → Paid A block → Paid A (run_body block b site)
  unfolding run_body
  paid_run_body block b site h = paid_catching A (after A h (paid_end_body b site)) paid_at_return

  paid_frame_of_call : (b : Body) (block : Run A Unit) (void : Bool) (f : ℕ) (vs : List (Carried A)) → Paid A block → Paid A (frame_of_call b block void f vs)
  unfolding frame_of_call
  paid_frame_of_call b block void f vs h = after A (paid_bind_all vs b f 0) (paid_run_body block void _ h)

  paid_call_method : (site n : ℕ) (m : Method) (b : Body) (block : Run A Unit) (r : Option (Carried A)) (args : List (Carried A)) → Paid A block → Paid A (call_method site n m b block r args)
  unfolding call_method
  paid_call_method site n m b block r args h =
      paid_scoped A (bind A (paid_activating A _ (paid_note A _ _)) (λ e. paid_in_frame A _ (paid_frame_of_call b block _ _ _ h)))

  paid_at_failure : (why : Reason A) → Paid A (at_failure why)
  unfolding at_failure
  paid_at_failure (Jumped target e) = paid_leave A _
  paid_at_failure (Returned e v) = paid_leave A _
  paid_at_failure (Threw e v) = paid_init_failed A e

  paid_initialize_above : (site : ℕ) (above : Option ℕ) → Paid A (initialize_above w site above)
  unfolding initialize_above
  paid_initialize_above site Absent = paid_return A tt
  paid_initialize_above site (Some c) = on_initialize A (IsPaid A) (paid_by_steps A) w pw site c

  pub paid_initialization : (site c : ℕ) (block : Run A Unit) → Paid A block → Paid A (initialization w site c block)
  unfolding initialization
  paid_initialization site c block h =
      paid_scoped A (bind A (paid_activating A _ (paid_note_new A _ _ _)) (λ e.
      paid_in_frame A _ (after A (paid_initialize_above _ _) (paid_catching A h paid_at_failure))))

  pub paid_call_body : (site m : ℕ) (o : Option Body) (r : Option (Carried A)) (args : List (Carried A)) → Paid A (call_body w site m o r args)
  unfolding call_body
  paid_call_body site m Absent r args = paid_fell_off A
  paid_call_body site m (Some b) r args = paid_call_method site m _ b _ r args (taking_exec b.block).paid

  pub paid_init_block : (o : Option Body) → Paid A (init_block w o)
  unfolding init_block
  paid_init_block Absent = paid_return A tt
  paid_init_block (Some b) = (taking_exec b.block).paid

  pub paid_main_run : Paid A (main_run w)
  unfolding main_run
  paid_main_run = after A (on_initialize A (IsPaid A) (paid_by_steps A) w pw _ _) (bind A (on_make_array A (IsPaid A) (paid_by_steps A) w pw _ strings 0 _) (λ args. pw.call _ _ Absent _))

module _ (A : Sets) (p : Program) where
  pub world_paid : (depth : ℕ) → WorldHas A (IsPaid A) (world p depth)
  unfolding world
  world_paid zero = record {
    call = λ site m r args. paid_depth_limit A;
    enter = λ site c. paid_depth_limit A;
  }
  world_paid (suc depth) = record {
    call = λ site m r args. paid_call_body A (world p depth) (world_paid depth) site m (body p m) r args;
    enter = λ site c. paid_initialization A (world p depth) (world_paid depth) site c _ (paid_init_block A (world p depth) (world_paid depth) (init_body p c));
  }
