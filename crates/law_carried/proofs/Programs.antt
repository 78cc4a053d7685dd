-- Every expression, every statement and every call keeps what the steps keep.
use Rattle.std.proofs.Common.{◌≡◌, ℕ, zero, suc, Bool, true, false, List, [], ◌∷◌, Option, Some, refl, sym, subst}
use Rattle.std.specs.Prelude.{None as Absent}
use Rattle.wy_kernel.specs.Program.{Program}
use Rattle.wy_event.specs.Record.{Recorded}
use Rattle.wy_steps.specs.Sets.{numbers}
use Rattle.wy_steps.specs.State.{Carried, Run, Around, Reason, Jumped, Returned, Threw, ◌>>◌, catching}
use Rattle.wy_steps.specs.Steps.{owner_in, tick}
use Rattle.wy_meaning.specs.World.{World}
use Rattle.law_carried.proofs.Rules.{Fact, nothing, Entails, newest, before, trivially, reason_fits, keeps_return, keeps_leave, keeps_stop, keeps_catching, keeps_choose, after, with_number, with_flag, with_type, with_made, all_fit, option_fits, absent_fits, no_values_fit, more_fit, first_fits, rest_fit, threw_fits, of_returned, of_threw, constant_fits, value_of_fits, keeps_tick, keeps_steps_left, keeps_scoped, keeps_in_frame}
use Rattle.wy_kernel.specs.Form.{Expression, Const, Str, Read, Set, Upd, Un, Bin, Conv, Cast, InstanceOf, Cond, New, NewArray, Call, Cat, Lib, Place, Local, Static, Field, Elem, Part, absent, the, Row, none, more, Statement, Stmt, Act, Block, Eval, Declare, If, While, Do, For, Labelled, Jump, Return, Throw, Try, Print, Other, nothing as no_statement, this, Statements, done, first, Catches, uncaught, catch}
use Rattle.wy_kernel.specs.Program.{Body, Method, body, init_body}
use Rattle.wy_meaning.specs.Call.{bind_all, end_body, at_return, run_body, frame_of_call, call_uses, bound, call_method, at_failure, initialize_above, initialization}
use Rattle.wy_meaning.specs.Expression.{eval, locate, eval_part, eval_row}
use Rattle.wy_meaning.specs.Statement.{statement, armed, tested, evaluated, declaration, if_form, turns, while_form, do_form, for_test, for_form, jump, return_form, throw_form, Clause, caught, handle, at_throw, finally, try_form, print_form, other_or, exec, exec_act, exec_other, exec_all, exec_catches}
use Rattle.wy_meaning.specs.Run.{call_body, init_block, world, main_run, strings}
use Rattle.wy_kernel.specs.declared.types.MethodForm.{MethodForm}
use Rattle.wy_kernel.specs.declared.types.MethodForm.TheVariants as kinds
use Rattle.law_carried.proofs.Forms.{steps, notes, looked, Hold, Fit, Carries, Acts, WorldKeeps, note_call, note_bind, note_init, keeps_type_of, AllCarry, PlaceCarries, keeps_initialize, keeps_read_place, keeps_set_place, keeps_cat, keeps_print_value, keeps_print_nothing}
use Rattle.law_carried.proofs.Wholes.{keeps_make_array, keeps_create, keeps_new_array, keeps_library_form, PartCarries, part_or_carries, keeps_update, keeps_unary, keeps_binary, keeps_convert, keeps_cast, keeps_instance_of, keeps_conditional, keeps_call}

module _ (p : Program) (records : List Recorded) (w : World numbers) (kw : WorldKeeps p records w) where
  ticked : (P : Fact) (m : Run numbers (Carried numbers)) → Hold p records P m (Fit p records) → Hold p records P (tick >> m) (Fit p records)
  ticked P m h = after _ _ (keeps_tick _ _) h

  mutual
    unfolding eval locate eval_part eval_row

    pub keeps_eval : (e : Expression) → Carries p records (eval w e)
    keeps_eval (Const v) = record { by = λ P. ticked P _ (keeps_return _ _ _ (constant_fits _ _ _)) }
    keeps_eval (Str n) = record { by = λ P. ticked P _ (keeps_return _ _ _ (constant_fits _ _ _)) }
    keeps_eval (Read place) = record { by = λ P. ticked P _ (keeps_read_place p records w kw P _ (keeps_locate place)) }
    keeps_eval (Set place value site) = record { by = λ P. ticked P _ (keeps_set_place p records w kw P _ _ site (keeps_locate place) (keeps_eval value)) }
    keeps_eval (Upd place o value value_ty ty wide gives_old site) = record { by = λ P. ticked P _ (keeps_update p records w kw P _ o _ ty wide gives_old site (keeps_locate place) (part_or_carries p records w kw _ _ (keeps_part value))) }
    keeps_eval (Un o operand) = record { by = λ P. ticked P _ (keeps_unary p records w kw P o _ (keeps_eval operand)) }
    keeps_eval (Bin o left right site) = record { by = λ P. ticked P _ (keeps_binary p records w kw P o _ _ site (keeps_eval left) (keeps_eval right)) }
    keeps_eval (Conv to operand) = record { by = λ P. ticked P _ (keeps_convert p records w kw P to _ (keeps_eval operand)) }
    keeps_eval (Cast ty operand site) = record { by = λ P. ticked P _ (keeps_cast p records w kw P ty _ site (keeps_eval operand)) }
    keeps_eval (InstanceOf ty operand) = record { by = λ P. ticked P _ (keeps_instance_of p records w kw P ty _ (keeps_eval operand)) }
    keeps_eval (Cond f test if_true if_false site) = record { by = λ P. ticked P _ (keeps_conditional p records w kw P _ _ _ site (keeps_eval test) (keeps_part if_true) (keeps_part if_false)) }
    keeps_eval (New c constructor args site) = record { by = λ P. ticked P _ (keeps_create p records w kw P c constructor _ site (keeps_row args)) }
    keeps_eval (NewArray ty dims elements sites site) = record { by = λ P. ticked P _ (keeps_new_array p records w kw P ty _ _ sites site (keeps_row dims) (keeps_row elements)) }
    keeps_eval (Call f m receiver ty args site) = record { by = λ P. ticked P _ (keeps_call p records w kw P f m _ _ site (keeps_part receiver) (keeps_row args)) }
    keeps_eval (Cat left right left_ty right_ty site) = record { by = λ P. ticked P _ (keeps_cat p records w kw P _ _ site (keeps_eval left) (keeps_eval right)) }
    keeps_eval (Lib o args site) = record { by = λ P. ticked P _ (keeps_library_form p records w kw P o _ site (keeps_row args)) }

    pub keeps_locate : (x : Place) → PlaceCarries p records w kw (locate w x)
    keeps_locate (Local i) = tt
    keeps_locate (Static f site) = tt
    keeps_locate (Field object f site) = keeps_eval object
    keeps_locate (Elem array index site) = (keeps_eval array, keeps_eval index)

    keeps_part : (x : Part) → PartCarries p records w kw (eval_part w x)
    keeps_part absent = tt
    keeps_part (the e) = keeps_eval e

    pub keeps_row : (x : Row) → AllCarry p records (eval_row w x)
    keeps_row none = tt
    keeps_row (more e rest) = (keeps_eval e, keeps_row rest)

  -- ---- statements

  keeps_statement : (P : Fact) (number : ℕ) (m : Run numbers Unit) → Acts p records m → Hold p records P (statement number m) (λ t. nothing)
  unfolding statement
  keeps_statement P number m h = search (steps, notes, looked) depth 14

  keeps_armed : (P : Fact) (site reach n : ℕ) (c : Carried numbers) → Entails P (Fit p records c) → Hold p records P (armed site reach n c) (λ t. nothing)
  unfolding armed
  keeps_armed P site reach n c e = search (steps, notes, looked) depth 16

  keeps_tested : (P : Fact) (site reach : ℕ) (test : Run numbers (Carried numbers)) → Carries p records test → Hold p records P (tested site reach test) (λ b. nothing)
  unfolding tested
  keeps_tested P site reach test h = search (steps, notes, looked, keeps_armed) depth 16

  keeps_evaluated : (P : Fact) (m : Run numbers (Carried numbers)) → Carries p records m → Hold p records P (evaluated m) (λ t. nothing)
  unfolding evaluated
  keeps_evaluated P m h = search (steps, notes, looked) depth 14

  keeps_declaration : (P : Fact) (i : ℕ) → Hold p records P (declaration i) (λ t. nothing)
  unfolding declaration
  keeps_declaration P i = search (steps, notes) depth 14

  keeps_if : (P : Fact) (test : Run numbers Bool) (a b : Run numbers Unit) → Acts p records test → Acts p records a → Acts p records b → Hold p records P (if_form test a b) (λ t. nothing)
  unfolding if_form
  keeps_if P test a b ht ha hb = search (steps, notes, looked) depth 14

  keeps_turns : (n : ℕ) (test : Run numbers Bool) (m : Run numbers Unit) (P : Fact) → Acts p records test → Acts p records m → Hold p records P (turns n test m) (λ t. nothing)
  unfolding turns
  keeps_turns zero test m P ht hm = keeps_stop _ _ _
  keeps_turns (suc n) test m P ht hm = with_flag _ _ (ht.by P) (λ b. keeps_choose _ _ b (after _ _ (hm.by P) (keeps_turns n test m P ht hm)) (keeps_return _ _ tt trivially))

  keeps_while : (P : Fact) (test : Run numbers Bool) (m : Run numbers Unit) → Acts p records test → Acts p records m → Hold p records P (while_form test m) (λ t. nothing)
  unfolding while_form
  keeps_while P test m ht hm = with_number _ _ (keeps_steps_left _ _) (λ n. keeps_turns (suc n) test m P ht hm)

  keeps_do : (P : Fact) (m : Run numbers Unit) (test : Run numbers Bool) → Acts p records m → Acts p records test → Hold p records P (do_form m test) (λ t. nothing)
  unfolding do_form
  keeps_do P m test hm ht = with_number _ _ (keeps_steps_left _ _) (λ n. after _ _ (hm.by P) (keeps_turns (suc n) test m P ht hm))

  keeps_for_test : (P : Fact) (site reach : ℕ) (o : Option (Run numbers (Carried numbers))) → PartCarries p records w kw o → Hold p records P (for_test site reach o) (λ b. nothing)
  unfolding for_test
  keeps_for_test P site reach Absent h = keeps_return _ _ true trivially
  keeps_for_test P site reach (Some m) h = keeps_tested P site reach m h

  both_act : (a b : Run numbers Unit) → Acts p records a → Acts p records b → Acts p records (a >> b)
  both_act a b ha hb = record { by = λ P. after _ _ (ha.by P) (hb.by P) }

  keeps_for : (P : Fact) (inits : Run numbers Unit) (test : Run numbers Bool) (updates m : Run numbers Unit) → Acts p records inits → Acts p records test → Acts p records updates → Acts p records m → Hold p records P (for_form inits test updates m) (λ t. nothing)
  unfolding for_form
  keeps_for P inits test updates m hi ht hu hm = after _ _ (hi.by P) (keeps_while P test _ ht (both_act m updates hm hu))

  keeps_jump : (P : Fact) (site target : ℕ) → Hold p records P (jump site target) (λ t. nothing)
  unfolding jump
  keeps_jump P site target = search (steps, notes) depth 14

  keeps_return_form : (P : Fact) (site : ℕ) (m : Run numbers (Carried numbers)) → Carries p records m → Hold p records P (return_form site m) (λ t. nothing)
  unfolding return_form
  keeps_return_form P site m h = search (steps, notes, looked) depth 16

  keeps_throw_form : (P : Fact) (site : ℕ) (m : Run numbers (Carried numbers)) → Carries p records m → Hold p records P (throw_form w site m) (λ t. nothing)
  unfolding throw_form
  keeps_throw_form P site m h = search (steps, notes, looked) depth 16

  abbrev ClausesAct : List (Clause numbers) → Type 1
  ClausesAct [] = Unit {1}
  ClausesAct (c ∷ rest) = Acts p records c.block × ClausesAct rest

  keeps_caught : (P : Fact) (c : Clause numbers) (v : Carried numbers) → Acts p records c.block → Entails P (Fit p records v) → Hold p records P (caught c v) (λ t. nothing)
  unfolding caught
  keeps_caught P c v h e = let block = h.by in search (steps, notes, block) depth 16

  keeps_handle : (clauses : List (Clause numbers)) (P : Fact) (c e : ℕ) (v : Carried numbers) → ClausesAct clauses → Entails P (Fit p records v) → Hold p records P (handle p clauses c e v) (λ t. nothing)
  unfolding handle
  keeps_handle [] P c e v h f = keeps_leave _ _ _ (threw_fits _ _ e v f)
  keeps_handle (clause ∷ rest) P c e v h f = keeps_choose _ _ _ (keeps_caught P clause v h.0 f) (keeps_handle rest P c e v h.1 f)

  handles : (q : Program) → q ≡ p → (clauses : List (Clause numbers)) (P : Fact) (c e : ℕ) (v : Carried numbers) → ClausesAct clauses → Entails P (Fit p records v) → Hold p records P (handle q clauses c e v) (λ t. nothing)
  handles q is clauses P c e v h f = subst (λ r. Hold p records P (handle r clauses c e v) (λ t. nothing)) (sym is) (keeps_handle clauses P c e v h f)

  keeps_at_throw : (P : Fact) (clauses : List (Clause numbers)) (why : Reason numbers) → ClausesAct clauses → Entails P (reason_fits (owner_in p) records why) → Hold p records P (at_throw w clauses why) (λ t. nothing)
  unfolding at_throw
  keeps_at_throw P clauses (Jumped target e) h f = keeps_leave _ _ _ f
  keeps_at_throw P clauses (Returned e v) h f = keeps_leave _ _ _ f
  keeps_at_throw P clauses (Threw e v) h f = with_type _ _ (keeps_type_of p records P v.value) (λ ty. handles w.program kw.program_is clauses P _ e v h (of_threw _ _ e v f))

  catches : (P : Fact) (m : Run numbers Unit) (clauses : List (Clause numbers)) → Acts p records m → ClausesAct clauses → Hold p records P (catching m (at_throw w clauses)) (λ t. nothing)
  catches P m clauses hm hc = keeps_catching _ _ (hm.by P) (λ why. keeps_at_throw _ clauses why hc (newest _ _))

  keeps_finally : (P : Fact) (m last : Run numbers Unit) → Acts p records m → Acts p records last → Hold p records P (finally m last) (λ t. nothing)
  unfolding finally
  keeps_finally P m last hm hl = after _ _ (keeps_catching _ _ (hm.by P) (λ why. after _ _ (hl.by _) (keeps_leave _ _ why (newest _ _)))) (hl.by P)

  abbrev OptionActs : Option (Run numbers Unit) → Type 1
  OptionActs Absent = Unit {1}
  OptionActs (Some m) = Acts p records m

  keeps_try : (P : Fact) (m : Run numbers Unit) (clauses : List (Clause numbers)) (last : Option (Run numbers Unit)) → Acts p records m → ClausesAct clauses → OptionActs last → Hold p records P (try_form w m clauses last) (λ t. nothing)
  unfolding try_form
  keeps_try P m clauses Absent hm hc hl = catches P m clauses hm hc
  keeps_try P m clauses (Some last) hm hc hl = keeps_finally P _ last (record { by = λ Q. catches Q m clauses hm hc }) hl

  keeps_print_form : (P : Fact) (o : Option (Run numbers (Carried numbers))) (ends_line : Bool) (site : ℕ) → PartCarries p records w kw o → Hold p records P (print_form w o ends_line site) (λ t. nothing)
  unfolding print_form
  keeps_print_form P Absent ends_line site h = keeps_print_nothing p records w kw P ends_line site
  keeps_print_form P (Some m) ends_line site h = keeps_print_value p records w kw P m ends_line site h

  keeps_other_or : (P : Fact) (o : Option (Run numbers Unit)) → OptionActs o → Hold p records P (other_or o) (λ t. nothing)
  unfolding other_or
  keeps_other_or P Absent h = keeps_return _ _ tt trivially
  keeps_other_or P (Some m) h = h.by P

  mutual
    unfolding exec exec_act exec_other exec_all exec_catches

    pub keeps_exec : (x : Statement) → Acts p records (exec w x)
    keeps_exec (Stmt number site askable reach act) = record { by = λ P. keeps_statement P number _ (keeps_act site reach act) }

    keeps_act : (site reach : ℕ) (x : Act) → Acts p records (exec_act w site reach x)
    keeps_act site reach (Block parts) = keeps_exec_all parts
    keeps_act site reach (Eval value) = record { by = λ P. keeps_evaluated P _ (keeps_eval value) }
    keeps_act site reach (Declare i) = record { by = λ P. keeps_declaration P i }
    keeps_act site reach (If test a b) = record { by = λ P. keeps_if P _ _ _ (record { by = λ Q. keeps_tested Q site reach _ (keeps_eval test) }) (keeps_exec a) (record { by = λ Q. keeps_other_or Q _ (keeps_other b) }) }
    keeps_act site reach (While test m) = record { by = λ P. keeps_while P _ _ (record { by = λ Q. keeps_tested Q site reach _ (keeps_eval test) }) (keeps_exec m) }
    keeps_act site reach (Do m test) = record { by = λ P. keeps_do P _ _ (keeps_exec m) (record { by = λ Q. keeps_tested Q site reach _ (keeps_eval test) }) }
    keeps_act site reach (For inits test updates m) = record { by = λ P. keeps_for P _ _ _ _ (keeps_exec_all inits) (record { by = λ Q. keeps_for_test Q site reach _ (keeps_part test) }) (keeps_exec_all updates) (keeps_exec m) }
    keeps_act site reach (Labelled m) = keeps_exec m
    keeps_act site reach (Jump target) = record { by = λ P. keeps_jump P site target }
    keeps_act site reach (Return value) = record { by = λ P. keeps_return_form P site _ (part_or_carries p records w kw _ _ (keeps_part value)) }
    keeps_act site reach (Throw value) = record { by = λ P. keeps_throw_form P site _ (keeps_eval value) }
    keeps_act site reach (Try m clauses last) = record { by = λ P. keeps_try P _ _ _ (keeps_exec m) (keeps_catches clauses) (keeps_other last) }
    keeps_act site reach (Print operand ty ends_line at) = record { by = λ P. keeps_print_form P _ ends_line at (keeps_part operand) }

    keeps_other : (x : Other) → OptionActs (exec_other w x)
    keeps_other no_statement = tt
    keeps_other (this s) = keeps_exec s

    keeps_exec_all : (x : Statements) → Acts p records (exec_all w x)
    keeps_exec_all done = record { by = λ P. keeps_return _ _ tt trivially }
    keeps_exec_all (first s rest) = record { by = λ P. let a = keeps_exec s in let b = keeps_exec_all rest in after _ _ (a.by P) (b.by P) }

    keeps_catches : (x : Catches) → ClausesAct (exec_catches w x)
    keeps_catches uncaught = tt
    keeps_catches (catch c local site block rest) = (keeps_exec block, keeps_catches rest)

  -- ---- calls and initializations

  keeps_bind_all : (vs : List (Carried numbers)) (b : Body) (f i : ℕ) (P : Fact) → Entails P (all_fit (owner_in p) records vs) → Hold p records P (bind_all b f i vs) (λ t. nothing)
  unfolding bind_all
  keeps_bind_all [] b f i P e = keeps_return _ _ tt trivially
  keeps_bind_all (v ∷ vs) b f i P e = with_made _ _ (note_bind p records _ _ _ v (first_fits _ _ v vs e)) (λ made. keeps_bind_all vs b f (suc i) _ (before _ _ (rest_fit _ _ v vs e)))

  keeps_end_body : (P : Fact) (b : Bool) (site : ℕ) → Hold p records P (end_body b site) (Fit p records)
  unfolding end_body
  keeps_end_body P false site = keeps_stop _ _ _
  keeps_end_body P true site = search (steps, notes) depth 16

  keeps_at_return : (P : Fact) (why : Reason numbers) → Entails P (reason_fits (owner_in p) records why) → Hold p records P (at_return why) (Fit p records)
  unfolding at_return
  keeps_at_return P (Jumped target e) f = keeps_leave _ _ _ f
  keeps_at_return P (Returned e v) f = keeps_return _ _ v (of_returned _ _ e v f)
  keeps_at_return P (Threw e v) f = keeps_leave _ _ _ f

  keeps_run_body : (P : Fact) (block : Run numbers Unit) (b : Bool) (site : ℕ) → Acts p records block → Hold p records P (run_body block b site) (Fit p records)
  unfolding run_body
  keeps_run_body P block b site h = keeps_catching _ _ (after _ _ (h.by P) (keeps_end_body P b site)) (λ why. keeps_at_return _ why (newest _ _))

  keeps_frame_of_call : (P : Fact) (b : Body) (block : Run numbers Unit) (void : Bool) (f : ℕ) (vs : List (Carried numbers)) → Acts p records block → Entails P (all_fit (owner_in p) records vs) → Hold p records P (frame_of_call b block void f vs) (Fit p records)
  unfolding frame_of_call
  keeps_frame_of_call P b block void f vs h e = after _ _ (keeps_bind_all vs b f 0 P e) (keeps_run_body P block void _ h)

  call_uses_fit : (P : Fact) (f : MethodForm) (r : Option (Carried numbers)) → Entails P (option_fits (owner_in p) records r) → Entails P (Fit p records (call_uses f r))
  unfolding call_uses option_fits
  call_uses_fit P kinds.Constructor r e = constant_fits _ _ _
  call_uses_fit P _ Absent e = constant_fits _ _ _
  call_uses_fit P _ (Some v) e = e

  bound_fit : (P : Fact) (r : Option (Carried numbers)) (args : List (Carried numbers)) → Entails P (option_fits (owner_in p) records r) → Entails P (all_fit (owner_in p) records args) → Entails P (all_fit (owner_in p) records (bound r args))
  unfolding bound option_fits
  bound_fit P Absent args e ea = ea
  bound_fit P (Some v) args e ea = more_fit _ _ v args e ea

  pub keeps_call_method : (P : Fact) (site n : ℕ) (m : Method) (b : Body) (block : Run numbers Unit) (r : Option (Carried numbers)) (args : List (Carried numbers)) → Acts p records block → Entails P (option_fits (owner_in p) records r) → Entails P (all_fit (owner_in p) records args) → Hold p records P (call_method site n m b block r args) (Fit p records)
  unfolding call_method
  keeps_call_method P site n m b block r args h er ea =
      keeps_scoped _ _ (with_made _ _ (note_call p records Around site n _ _ (call_uses_fit P m.form r er)) (λ e.
      keeps_in_frame _ _ _ (keeps_frame_of_call _ b block _ _ _ h (before _ _ (bound_fit P r args er ea)))))

  keeps_at_failure : (P : Fact) (why : Reason numbers) → Entails P (reason_fits (owner_in p) records why) → Hold p records P (at_failure why) (λ t. nothing)
  unfolding at_failure
  keeps_at_failure P (Jumped target e) f = keeps_leave _ _ _ f
  keeps_at_failure P (Returned e v) f = keeps_leave _ _ _ f
  keeps_at_failure P (Threw e v) f = keeps_stop _ _ _

  keeps_initialize_above : (P : Fact) (site : ℕ) (above : Option ℕ) → Hold p records P (initialize_above w site above) (λ t. nothing)
  unfolding initialize_above
  keeps_initialize_above P site Absent = keeps_return _ _ tt trivially
  keeps_initialize_above P site (Some c) = keeps_initialize p records w kw P site c

  pub keeps_initialization : (P : Fact) (site c : ℕ) (block : Run numbers Unit) → Acts p records block → Hold p records P (initialization w site c block) (λ t. nothing)
  unfolding initialization
  keeps_initialization P site c block h =
      keeps_scoped _ _ (with_made _ _ (note_init p records w kw P _ site c _ _ (constant_fits _ _ _)) (λ e.
      keeps_in_frame _ _ _ (after _ _ (keeps_initialize_above _ _ _) (keeps_catching _ _ (h.by _) (λ why. keeps_at_failure _ why (newest _ _))))))

  pub keeps_call_body : (P : Fact) (site m : ℕ) (o : Option Body) (r : Option (Carried numbers)) (args : List (Carried numbers)) → Entails P (option_fits (owner_in p) records r) → Entails P (all_fit (owner_in p) records args) → Hold p records P (call_body w site m o r args) (Fit p records)
  unfolding call_body
  keeps_call_body P site m Absent r args er ea = keeps_stop _ _ _
  keeps_call_body P site m (Some b) r args er ea = keeps_call_method P site m _ b _ r args (keeps_exec b.block) er ea

  pub init_block_acts : (o : Option Body) → Acts p records (init_block w o)
  unfolding init_block
  init_block_acts Absent = record { by = λ P. keeps_return _ _ tt trivially }
  init_block_acts (Some b) = keeps_exec b.block

  pub keeps_main_run : (P : Fact) → Hold p records P (main_run w) (Fit p records)
  unfolding main_run
  keeps_main_run P = after _ _ (keeps_initialize p records w kw P _ _) (with_made _ _ (keeps_make_array p records w kw P _ strings 0 _ (constant_fits _ _ _)) (λ args.
      kw.call _ _ Absent _ _ (absent_fits _ _) (more_fit _ _ _ [] (value_of_fits _ _ args _ (newest _ _)) (no_values_fit _ _))))

module _ (p : Program) (records : List Recorded) where
  pub world_keeps : (depth : ℕ) → WorldKeeps p records (world p depth)
  unfolding world
  world_keeps zero = record {
    program_is = refl;
    call = λ site m r args P er ea. keeps_stop _ _ _;
    enter = λ site c P. keeps_stop _ _ _;
  }
  world_keeps (suc depth) = record {
    program_is = refl;
    call = λ site m r args P er ea. keeps_call_body p records (world p depth) (world_keeps depth) P site m (body p m) r args er ea;
    enter = λ site c P. keeps_initialization p records (world p depth) (world_keeps depth) P site c _ (init_block_acts p records (world p depth) (world_keeps depth) (init_body p c));
  }
