-- Every statement, call and initialization only adds to the records.
use Rattle.std.proofs.Common.{ℕ, zero, suc, Bool, true, false, List, [], ◌∷◌, Option, Some}
use Rattle.std.specs.Prelude.{None as Absent}
use Rattle.wy_kernel.specs.Form.{Expression, Part, Row, none, more, Statement, Stmt, Act, Block, Eval, Declare, If, While, Do, For, Labelled, Jump, Return, Throw, Try, Print, Other, nothing, this, Statements, done, first, Catches, uncaught, catch}
use Rattle.wy_kernel.specs.Program.{Program, Body, Method, body, init_body}
use Rattle.wy_steps.specs.Sets as sets
use Rattle.wy_steps.specs.State.{Carried, Run, Reason, Jumped, Returned, Threw, ◌>>◌, choose}
use Rattle.wy_meaning.specs.World.{World}
use Rattle.wy_meaning.specs.Call.{bind_all, end_body, at_return, run_body, frame_of_call, call_method, at_failure, initialize_above, initialization}
use Rattle.wy_meaning.specs.Expression.{eval, eval_part, eval_row}
use Rattle.wy_meaning.specs.Statement.{statement, armed, tested, if_form, turns, while_form, do_form, for_test, for_form, jump, return_form, Clause, caught, handle, at_throw, finally, try_form, other_or, exec, exec_act, exec_other, exec_all, exec_catches}
use Rattle.wy_meaning.specs.Run.{call_body, init_block, world}
use Rattle.law_induction.proofs.Composed.{WorldHas, PartHas, AllHave, on_type_of, on_initialize, on_part_or, on_eval, on_part, on_evaluated, on_declaration, on_throw_form, on_print_form}
use Rattle.law_added.proofs.Rules.{Adds, bind, after, adds_catching, adds_choose, adds_return, adds_leave, adds_stop, adds_tick, adds_steps_left, adds_frame, adds_note, adds_note_write, adds_note_new, adds_scoped, adds_reaching, adds_in_frame, adds_activating, adds_covered}
use Rattle.law_added.proofs.Forms.{OnlyAdds, by_steps}

ruleset steps = (bind, after, adds_choose, adds_return, adds_leave, adds_frame, adds_note, adds_note_write, adds_activating)

-- a part that need not be there
abbrev pub OptionAdds : Option (Run sets.nothing (Unit {0})) → Type 0
OptionAdds Absent = Unit {0}
OptionAdds (Some m) = Adds m

abbrev pub ClausesAdd : List (Clause sets.nothing) → Type 0
ClausesAdd [] = Unit {0}
ClausesAdd (c ∷ rest) = Adds c.block × ClausesAdd rest

-- ---- loops

pub adds_turns : (n : ℕ) (test : Run sets.nothing Bool) (m : Run sets.nothing (Unit {0})) → Adds test → Adds m → Adds (turns n test m)
unfolding turns
adds_turns zero test m ht hm = adds_stop _
adds_turns (suc n) test m ht hm = bind ht (λ b. adds_choose b (after hm (adds_turns n test m ht hm)) (adds_return tt))

pub adds_while : (test : Run sets.nothing Bool) (m : Run sets.nothing (Unit {0})) → Adds test → Adds m → Adds (while_form test m)
unfolding while_form
adds_while test m ht hm = bind adds_steps_left (λ n. adds_turns (suc n) test m ht hm)

adds_do : (m : Run sets.nothing (Unit {0})) (test : Run sets.nothing Bool) → Adds m → Adds test → Adds (do_form m test)
unfolding do_form
adds_do m test hm ht = bind adds_steps_left (λ n. after hm (adds_turns (suc n) test m ht hm))

adds_for : (inits : Run sets.nothing (Unit {0})) (test : Run sets.nothing Bool) (updates m : Run sets.nothing (Unit {0})) → Adds inits → Adds test → Adds updates → Adds m → Adds (for_form inits test updates m)
unfolding for_form
adds_for inits test updates m hi ht hu hm = after hi (adds_while test _ ht (after hm hu))

-- ---- what a body ends with

pub adds_end_body : (b : Bool) (site : ℕ) → Adds {X = Carried sets.nothing} (end_body b site)
unfolding end_body
adds_end_body false site = adds_stop _
adds_end_body true site = search steps depth 12

pub adds_at_return : (why : Reason sets.nothing) → Adds (at_return why)
unfolding at_return
adds_at_return (Jumped target e) = adds_leave _
adds_at_return (Returned e v) = adds_return v
adds_at_return (Threw e v) = adds_leave _

pub adds_at_failure : (why : Reason sets.nothing) → Adds (at_failure why)
unfolding at_failure
adds_at_failure (Jumped target e) = adds_leave _
adds_at_failure (Returned e v) = adds_leave _
adds_at_failure (Threw e v) = adds_stop _

module _ (w : World sets.nothing) (pw : WorldHas sets.nothing OnlyAdds w) where
  pub adds_eval : (e : Expression) → Adds (eval w e)
  adds_eval e = on_eval sets.nothing OnlyAdds by_steps w pw e

  pub adds_part : (x : Part) → PartHas sets.nothing OnlyAdds (eval_part w x)
  adds_part x = on_part sets.nothing OnlyAdds by_steps w pw x

  pub adds_row : (x : Row) → AllHave sets.nothing OnlyAdds (eval_row w x)
  unfolding eval_row
  adds_row none = tt
  adds_row (more e rest) = (adds_eval e, adds_row rest)

  -- ---- statements

  adds_statement : (number : ℕ) (m : Run sets.nothing (Unit {0})) → Adds m → Adds (statement number m)
  unfolding statement
  adds_statement number m h = after adds_tick (adds_reaching number (adds_covered number h))

  adds_armed : (site reach n : ℕ) (v : Carried sets.nothing) → Adds (armed site reach n v)
  unfolding armed
  adds_armed site reach n v = search steps depth 14

  pub adds_tested : (site reach : ℕ) (test : Run sets.nothing (Carried sets.nothing)) → Adds test → Adds (tested site reach test)
  unfolding tested
  adds_tested site reach test h = search (steps, adds_armed) depth 14

  pub adds_if : (test : Run sets.nothing Bool) (a b : Run sets.nothing (Unit {0})) → Adds test → Adds a → Adds b → Adds (if_form test a b)
  unfolding if_form
  adds_if test a b ht ha hb = search steps depth 12

  pub adds_for_test : (site reach : ℕ) (o : Option (Run sets.nothing (Carried sets.nothing))) → PartHas sets.nothing OnlyAdds o → Adds (for_test site reach o)
  unfolding for_test
  adds_for_test site reach Absent h = adds_return true
  adds_for_test site reach (Some m) h = adds_tested site reach m h

  adds_jump : (site target : ℕ) → Adds {X = Unit {0}} (jump site target)
  unfolding jump
  adds_jump site target = search steps depth 12

  pub adds_return_form : (site : ℕ) (m : Run sets.nothing (Carried sets.nothing)) → Adds m → Adds (return_form site m)
  unfolding return_form
  adds_return_form site m h = search steps depth 12

  adds_caught : (c : Clause sets.nothing) (v : Carried sets.nothing) → Adds c.block → Adds (caught c v)
  unfolding caught
  adds_caught c v h = search steps depth 14

  adds_handle : (p : Program) (clauses : List (Clause sets.nothing)) (c e : ℕ) (v : Carried sets.nothing) → ClausesAdd clauses → Adds (handle p clauses c e v)
  unfolding handle
  adds_handle p [] c e v h = adds_leave _
  adds_handle p (clause ∷ rest) c e v h = adds_choose _ (adds_caught clause v h.0) (adds_handle p rest c e v h.1)

  pub adds_at_throw : (clauses : List (Clause sets.nothing)) (why : Reason sets.nothing) → ClausesAdd clauses → Adds (at_throw w clauses why)
  unfolding at_throw
  adds_at_throw clauses (Jumped target e) h = adds_leave _
  adds_at_throw clauses (Returned e v) h = adds_leave _
  adds_at_throw clauses (Threw e v) h = bind (on_type_of sets.nothing OnlyAdds by_steps v.value) (λ ty. adds_handle w.program clauses _ e v h)

  adds_finally : (m last : Run sets.nothing (Unit {0})) → Adds m → Adds last → Adds (finally m last)
  unfolding finally
  adds_finally m last hm hl = after (adds_catching hm (λ why. after hl (adds_leave why))) hl

  adds_try : (m : Run sets.nothing (Unit {0})) (clauses : List (Clause sets.nothing)) (last : Option (Run sets.nothing (Unit {0}))) → Adds m → ClausesAdd clauses → OptionAdds last → Adds (try_form w m clauses last)
  unfolding try_form
  adds_try m clauses Absent hm hc hl = adds_catching hm (λ why. adds_at_throw clauses why hc)
  adds_try m clauses (Some last) hm hc hl = adds_finally _ last (adds_catching hm (λ why. adds_at_throw clauses why hc)) hl

  pub adds_other_or : (o : Option (Run sets.nothing (Unit {0}))) → OptionAdds o → Adds (other_or o)
  unfolding other_or
  adds_other_or Absent h = adds_return tt
  adds_other_or (Some m) h = h

  mutual
    unfolding exec exec_act exec_other exec_all exec_catches

    pub adds_exec : (x : Statement) → Adds (exec w x)
    adds_exec (Stmt number site askable reach act) = adds_statement number _ (adds_act site reach act)

    adds_act : (site reach : ℕ) (x : Act) → Adds (exec_act w site reach x)
    adds_act site reach (Block parts) = adds_all parts
    adds_act site reach (Eval value) = on_evaluated sets.nothing OnlyAdds by_steps w pw _ (adds_eval value)
    adds_act site reach (Declare i) = on_declaration sets.nothing OnlyAdds by_steps w pw i
    adds_act site reach (If test a b) = adds_if _ _ _ (adds_tested site reach _ (adds_eval test)) (adds_exec a) (adds_other_or _ (adds_other b))
    adds_act site reach (While test m) = adds_while _ _ (adds_tested site reach _ (adds_eval test)) (adds_exec m)
    adds_act site reach (Do m test) = adds_do _ _ (adds_exec m) (adds_tested site reach _ (adds_eval test))
    adds_act site reach (For inits test updates m) = adds_for _ _ _ _ (adds_all inits) (adds_for_test site reach _ (adds_part test)) (adds_all updates) (adds_exec m)
    adds_act site reach (Labelled m) = adds_exec m
    adds_act site reach (Jump target) = adds_jump site target
    adds_act site reach (Return value) = adds_return_form site _ (on_part_or sets.nothing OnlyAdds by_steps w pw _ _ (adds_part value))
    adds_act site reach (Throw value) = on_throw_form sets.nothing OnlyAdds by_steps w pw site _ (adds_eval value)
    adds_act site reach (Try m clauses last) = adds_try _ _ _ (adds_exec m) (adds_clauses clauses) (adds_other last)
    adds_act site reach (Print operand ty ends_line at) = on_print_form sets.nothing OnlyAdds by_steps w pw _ ends_line at (adds_part operand)

    pub adds_other : (x : Other) → OptionAdds (exec_other w x)
    adds_other nothing = tt
    adds_other (this s) = adds_exec s

    pub adds_all : (x : Statements) → Adds (exec_all w x)
    adds_all done = adds_return tt
    adds_all (first s rest) = after (adds_exec s) (adds_all rest)

    pub adds_clauses : (x : Catches) → ClausesAdd (exec_catches w x)
    adds_clauses uncaught = tt
    adds_clauses (catch c local site block rest) = (adds_exec block, adds_clauses rest)

  -- ---- calls and initializations

  adds_bind_all : (vs : List (Carried sets.nothing)) (b : Body) (f i : ℕ) → Adds (bind_all b f i vs)
  unfolding bind_all
  adds_bind_all [] b f i = adds_return tt
  adds_bind_all (v ∷ vs) b f i = bind (adds_note_write _ v) (λ e. adds_bind_all vs b f (suc i))

  adds_run_body : (block : Run sets.nothing (Unit {0})) (b : Bool) (site : ℕ) → Adds block → Adds (run_body block b site)
  unfolding run_body
  adds_run_body block b site h = adds_catching (after h (adds_end_body b site)) adds_at_return

  adds_frame_of_call : (b : Body) (block : Run sets.nothing (Unit {0})) (void : Bool) (f : ℕ) (vs : List (Carried sets.nothing)) → Adds block → Adds (frame_of_call b block void f vs)
  unfolding frame_of_call
  adds_frame_of_call b block void f vs h = after (adds_bind_all vs b f 0) (adds_run_body block void _ h)

  adds_call_method : (site n : ℕ) (m : Method) (b : Body) (block : Run sets.nothing (Unit {0})) (r : Option (Carried sets.nothing)) (args : List (Carried sets.nothing)) → Adds block → Adds (call_method site n m b block r args)
  unfolding call_method
  adds_call_method site n m b block r args h =
      adds_scoped (bind (adds_activating _ (adds_note _ _)) (λ e. adds_in_frame _ (adds_frame_of_call b block _ _ _ h)))

  adds_above : (site : ℕ) (above : Option ℕ) → Adds (initialize_above w site above)
  unfolding initialize_above
  adds_above site Absent = adds_return tt
  adds_above site (Some c) = on_initialize sets.nothing OnlyAdds by_steps w pw site c

  pub adds_initialization : (site c : ℕ) (block : Run sets.nothing (Unit {0})) → Adds block → Adds (initialization w site c block)
  unfolding initialization
  adds_initialization site c block h =
      adds_scoped (bind (adds_activating _ (adds_note_new _ _ _)) (λ e.
      adds_in_frame _ (after (adds_above _ _) (adds_catching h adds_at_failure))))

  pub adds_call_body : (site m : ℕ) (o : Option Body) (r : Option (Carried sets.nothing)) (args : List (Carried sets.nothing)) → Adds (call_body w site m o r args)
  unfolding call_body
  adds_call_body site m Absent r args = adds_stop _
  adds_call_body site m (Some b) r args = adds_call_method site m _ b _ r args (adds_exec b.block)

  pub adds_init_block : (o : Option Body) → Adds (init_block w o)
  unfolding init_block
  adds_init_block Absent = adds_return tt
  adds_init_block (Some b) = adds_exec b.block

module _ (p : Program) where
  pub world_adds : (depth : ℕ) → WorldHas sets.nothing OnlyAdds (world p depth)
  unfolding world
  world_adds zero = record {
    call = λ site m r args. adds_stop _;
    enter = λ site c. adds_stop _;
  }
  world_adds (suc depth) = record {
    call = λ site m r args. adds_call_body (world p depth) (world_adds depth) site m (body p m) r args;
    enter = λ site c. adds_initialization (world p depth) (world_adds depth) site c _ (adds_init_block (world p depth) (world_adds depth) (init_body p c));
  }
