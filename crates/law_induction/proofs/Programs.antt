-- Every expression, every statement and every call keeps what the steps keep.
use Rattle.std.proofs.Common.{ℕ, zero, suc, Bool, true, false, List, [], ◌∷◌, Option, Some}
use Rattle.std.specs.Prelude.{None as Absent}
use Rattle.wy_kernel.specs.Program.{Program}
use Rattle.wy_value.specs.declared.value.Value.TheVariants as val
use Rattle.wy_steps.specs.Sets.{Sets}
use Rattle.wy_steps.specs.State.{Through, Carried, Run, Around, Reason, Jumped, Returned, Threw, ◌>>◌, catching}
use Rattle.wy_steps.specs.Steps.{tick, code_of}
use Rattle.wy_meaning.specs.World.{World}
use Rattle.wy_kernel.specs.Form.{Constant, Null, Truth, Byte, Short, Char, Int, Long, Expression, Const, Str, Read, Set, Upd, Un, Bin, Conv, Cast, InstanceOf, Cond, New, NewArray, Call, Cat, Lib, Place, Local, Static, Field, Elem, Part, absent, the, Row, none, more, Statement, Stmt, Act, Block, Eval, Declare, If, While, Do, For, Labelled, Jump, Return, Throw, Try, Print, Other, nothing as no_statement, this, Statements, done, first, Catches, uncaught, catch}
use Rattle.wy_kernel.specs.Program.{Body, Method, body, init_body}
use Rattle.wy_meaning.specs.Call.{bind_all, end_body, at_return, run_body, frame_of_call, call_uses, bound, call_method, at_failure, initialize_above, initialization}
use Rattle.wy_meaning.specs.Expression.{constant_value, eval, locate, eval_part, eval_row}
use Rattle.wy_meaning.specs.Statement.{statement, armed, tested, evaluated, declaration, if_form, while_form, do_form, for_test, for_form, jump, return_form, throw_form, Clause, caught, handle, at_throw, finally, try_form, print_form, other_or, exec, exec_act, exec_other, exec_all, exec_catches}
use Rattle.wy_meaning.specs.Run.{call_body, init_block, world, main_run, strings}
use Rattle.wy_kernel.specs.declared.types.MethodForm.{MethodForm}
use Rattle.wy_kernel.specs.declared.types.MethodForm.TheVariants as kinds
use Rattle.std.proofs.Common.{refl}
use Rattle.law_induction.specs.Law.{Fact, nothing, Entails, FrameKind, OfCall, OfInit, Region, Outside, In, Ends}
use Rattle.law_induction.specs.Uniform.{IsNoReference, Uniform}
use Rattle.law_induction.proofs.Rules.{newest, before, trivially}
use Rattle.law_induction.proofs.Steps.{keeps_return, keeps_stop, keeps_choose, keeps_whiles, keeps_dos, after, keeps_tick, keeps_scoped, keeps_last, of_jumped, left_at, returned_fits, stored, body_fact, threw_fact, reason_fits, keeps_leave, keeps_failed, keeps_catching, with_type, with_frame, all_fit, option_fits, absent_fits, no_values_fit, more_fit, first_fits, rest_fit, threw_fits, of_returned, of_threw, threw_at, plain_value, carried_value, object_value, at_call, at_init, local_slot, frame_slot, constant_fits, keeps_frame, keeps_declare, keeps_in_frame, note_call, note_bind, note_catch, note_init}
use Rattle.law_induction.proofs.Forms.{keeps_called, Hold, Fit, Carries, Acts, WorldKeeps, with_new, with_call, with_bind, with_catch, with_init, valued_new, none_value, number_value, steps, notes, keeps_type_of, AllCarry, looked, PlaceCarries, keeps_initialize, keeps_read_place, keeps_set_place, keeps_cat, keeps_print_value, keeps_print_nothing}
use Rattle.law_induction.proofs.Wholes.{keeps_create, keeps_make_array, keeps_new_array, keeps_library_form, PartCarries, part_or_carries, keeps_update, keeps_unary, keeps_binary, keeps_convert, keeps_cast, keeps_instance_of, keeps_conditional, keeps_call}

module _ (A : Sets) (L : Uniform A) (w : World A) (kw : WorldKeeps A L w) (fr : FrameKind) where
  ticked : (P : (Fact L.moments)) (m : Run A (Carried A)) → Hold A L (In fr) P m (Fit A L) → Hold A L (In fr) P (tick >> m) (Fit A L)
  ticked P m h = after _ _ (keeps_tick _ _) h

  constant_plain : (v : Constant) → IsNoReference (constant_value v)
  unfolding constant_value
  constant_plain Null = tt
  constant_plain (Truth x) = tt
  constant_plain (Byte z) = tt
  constant_plain (Short z) = tt
  constant_plain (Char n) = tt
  constant_plain (Int z) = tt
  constant_plain (Long z) = tt

  mutual
    unfolding eval locate eval_part eval_row

    pub keeps_eval : (e : Expression) → Carries A L fr (eval w e)
    keeps_eval (Const v) = record { by = λ P. ticked P _ (keeps_return _ _ _ (constant_fits _ _ (constant_value v) (plain_value _ _ (constant_value v) (constant_plain v)))) }
    keeps_eval (Str n) = record { by = λ P. ticked P _ (keeps_return _ _ _ (constant_fits _ _ (val.Fixed n) (plain_value _ _ (val.Fixed n) tt))) }
    keeps_eval (Read place) = record { by = λ P. ticked P _ (keeps_read_place A L w kw fr P _ (keeps_locate place)) }
    keeps_eval (Set place value site) = record { by = λ P. ticked P _ (keeps_set_place A L w kw fr P _ _ site (keeps_locate place) (keeps_eval value)) }
    keeps_eval (Upd place o value value_ty ty wide gives_old site) = record { by = λ P. ticked P _ (keeps_update A L w kw fr P _ o _ ty wide gives_old site (keeps_locate place) (part_or_carries A L w kw fr _ _ tt (keeps_part value))) }
    keeps_eval (Un o operand) = record { by = λ P. ticked P _ (keeps_unary A L w kw fr P o _ (keeps_eval operand)) }
    keeps_eval (Bin o left right site) = record { by = λ P. ticked P _ (keeps_binary A L w kw fr P o _ _ site (keeps_eval left) (keeps_eval right)) }
    keeps_eval (Conv to operand) = record { by = λ P. ticked P _ (keeps_convert A L w kw fr P to _ (keeps_eval operand)) }
    keeps_eval (Cast ty operand site) = record { by = λ P. ticked P _ (keeps_cast A L w kw fr P ty _ site (keeps_eval operand)) }
    keeps_eval (InstanceOf ty operand) = record { by = λ P. ticked P _ (keeps_instance_of A L w kw fr P ty _ (keeps_eval operand)) }
    keeps_eval (Cond f test if_true if_false site) = record { by = λ P. ticked P _ (keeps_conditional A L w kw fr P _ _ _ site (keeps_eval test) (keeps_part if_true) (keeps_part if_false)) }
    keeps_eval (New c constructor args site) = record { by = λ P. ticked P _ (keeps_create A L w kw fr P c constructor _ site (keeps_row args)) }
    keeps_eval (NewArray ty dims elements sites site) = record { by = λ P. ticked P _ (keeps_new_array A L w kw fr P ty _ _ sites site (keeps_row dims) (keeps_row elements)) }
    keeps_eval (Call f m receiver ty args site) = record { by = λ P. ticked P _ (keeps_call A L w kw fr P f m _ _ site (keeps_part receiver) (keeps_row args)) }
    keeps_eval (Cat left right left_ty right_ty site) = record { by = λ P. ticked P _ (keeps_cat A L w kw fr P _ _ site (keeps_eval left) (keeps_eval right)) }
    keeps_eval (Lib o args site) = record { by = λ P. ticked P _ (keeps_library_form A L w kw fr P o _ site (keeps_row args)) }

    pub keeps_locate : (x : Place) → PlaceCarries A L w kw fr (locate w x)
    keeps_locate (Local i) = tt
    keeps_locate (Static f site) = tt
    keeps_locate (Field object f site) = keeps_eval object
    keeps_locate (Elem array index site) = (keeps_eval array, keeps_eval index)

    keeps_part : (x : Part) → PartCarries A L w kw fr (eval_part w x)
    keeps_part absent = tt
    keeps_part (the e) = keeps_eval e

    pub keeps_row : (x : Row) → AllCarry A L fr (eval_row w x)
    keeps_row none = tt
    keeps_row (more e rest) = (keeps_eval e, keeps_row rest)

  -- ---- statements

  keeps_statement : (P : (Fact L.moments)) (number : ℕ) (m : Run A Unit) → Acts A L fr m → Hold A L (In fr) P (statement number m) (λ t. nothing)
  unfolding statement
  keeps_statement P number m h = search (steps, notes, looked) depth 14

  keeps_armed : (P : (Fact L.moments)) (site reach n : ℕ) (c : Carried A) → Entails P (Fit A L c) → Hold A L (In fr) P (armed site reach n c) (λ t. nothing)
  unfolding armed
  keeps_armed P site reach n c e = search (steps, notes, looked) depth 16

  keeps_tested : (P : (Fact L.moments)) (site reach : ℕ) (test : Run A (Carried A)) → Carries A L fr test → Hold A L (In fr) P (tested site reach test) (λ b. nothing)
  unfolding tested
  keeps_tested P site reach test h = search (steps, notes, looked, keeps_armed) depth 16

  keeps_evaluated : (P : (Fact L.moments)) (m : Run A (Carried A)) → Carries A L fr m → Hold A L (In fr) P (evaluated m) (λ t. nothing)
  unfolding evaluated
  keeps_evaluated P m h = search (steps, notes, looked) depth 14

  keeps_declaration : (P : (Fact L.moments)) (k : ℕ) → Hold A L (In fr) P (declaration k) (λ t. nothing)
  unfolding declaration
  keeps_declaration P k = with_frame _ _ (keeps_frame _ _) (λ o. keeps_declare A L (code_of o) k (frame_slot A L fr o k (newest _ _)))

  keeps_if : (P : (Fact L.moments)) (test : Run A Bool) (a b : Run A Unit) → Acts A L fr test → Acts A L fr a → Acts A L fr b → Hold A L (In fr) P (if_form test a b) (λ t. nothing)
  unfolding if_form
  keeps_if P test a b ht ha hb = search (steps, notes, looked) depth 14

  keeps_while : (P : (Fact L.moments)) (test : Run A Bool) (m : Run A Unit) → Acts A L fr test → Acts A L fr m → Hold A L (In fr) P (while_form test m) (λ t. nothing)
  keeps_while P test m ht hm = keeps_whiles A L test m ht.by hm.by

  keeps_do : (P : (Fact L.moments)) (m : Run A Unit) (test : Run A Bool) → Acts A L fr m → Acts A L fr test → Hold A L (In fr) P (do_form m test) (λ t. nothing)
  keeps_do P m test hm ht = keeps_dos A L test m ht.by hm.by

  keeps_for_test : (P : (Fact L.moments)) (site reach : ℕ) (o : Option (Run A (Carried A))) → PartCarries A L w kw fr o → Hold A L (In fr) P (for_test site reach o) (λ b. nothing)
  unfolding for_test
  keeps_for_test P site reach Absent h = keeps_return _ _ true trivially
  keeps_for_test P site reach (Some m) h = keeps_tested P site reach m h

  both_act : (a b : Run A Unit) → Acts A L fr a → Acts A L fr b → Acts A L fr (a >> b)
  both_act a b ha hb = record { by = λ P. after _ _ (ha.by P) (hb.by P) }

  keeps_for : (P : (Fact L.moments)) (inits : Run A Unit) (test : Run A Bool) (updates m : Run A Unit) → Acts A L fr inits → Acts A L fr test → Acts A L fr updates → Acts A L fr m → Hold A L (In fr) P (for_form inits test updates m) (λ t. nothing)
  unfolding for_form
  keeps_for P inits test updates m hi ht hu hm = after _ _ (hi.by P) (keeps_while P test _ ht (both_act m updates hm hu))

  keeps_jump : (P : (Fact L.moments)) (site target : ℕ) → Hold A L (In fr) P (jump site target) (λ t. nothing)
  unfolding jump
  keeps_jump P site target = search (steps, notes) depth 14

  keeps_return_form : (P : (Fact L.moments)) (site : ℕ) (m : Run A (Carried A)) → Carries A L fr m → Hold A L (In fr) P (return_form site m) (λ t. nothing)
  unfolding return_form
  keeps_return_form P site m h = search (steps, notes, looked) depth 16

  keeps_throw_form : (P : (Fact L.moments)) (site : ℕ) (m : Run A (Carried A)) → Carries A L fr m → Hold A L (In fr) P (throw_form w site m) (λ t. nothing)
  unfolding throw_form
  keeps_throw_form P site m h = search (steps, notes, looked) depth 16

  abbrev ClausesAct : List (Clause A) → Type 1
  ClausesAct [] = Unit {1}
  ClausesAct (c ∷ rest) = Acts A L fr c.block × ClausesAct rest

  keeps_caught : (P : (Fact L.moments)) (c : Clause A) (v : Carried A) → Acts A L fr c.block → Entails P (Fit A L v) → Hold A L (In fr) P (caught c v) (λ t. nothing)
  unfolding caught
  keeps_caught P c v h e = with_frame _ _ (keeps_frame _ _) (λ o. with_catch A L (note_catch A L (Through o c.number) c.site (code_of o) c.local v.value v (frame_slot A L fr o c.local (newest _ _)) (stored A L _ _ (frame_slot A L fr o c.local (newest _ _)) (carried_value _ _ v (before _ _ e))) (carried_value _ _ v (before _ _ e)) (before _ _ e)) (λ made. h.by _))

  keeps_handle : (p : Program) (clauses : List (Clause A)) (P : (Fact L.moments)) (c e : ℕ) (v : Carried A) → ClausesAct clauses → Entails P (threw_fact A L e) → Entails P (Fit A L v) → Hold A L (In fr) P (handle p clauses c e v) (λ t. nothing)
  unfolding handle
  keeps_handle p [] P c e v h ft f = keeps_leave _ _ _ (threw_fits _ _ _ e v ft f)
  keeps_handle p (clause ∷ rest) P c e v h ft f = keeps_choose _ _ _ (keeps_caught P clause v h.0 f) (keeps_handle p rest P c e v h.1 ft f)

  keeps_at_throw : (P : (Fact L.moments)) (clauses : List (Clause A)) (why : Reason A) → ClausesAct clauses → Entails P (reason_fits A L (In fr) why) → Hold A L (In fr) P (at_throw w clauses why) (λ t. nothing)
  unfolding at_throw
  keeps_at_throw P clauses (Jumped target e) h f = keeps_leave _ _ _ f
  keeps_at_throw P clauses (Returned e v) h f = keeps_leave _ _ _ f
  keeps_at_throw P clauses (Threw e v) h f = with_type _ _ (keeps_type_of A L (In fr) P v.value) (λ ty. keeps_handle w.program clauses P _ e v h (threw_at _ _ _ e v f) (of_threw _ _ _ e v f))

  catches : (P : (Fact L.moments)) (m : Run A Unit) (clauses : List (Clause A)) → Acts A L fr m → ClausesAct clauses → Hold A L (In fr) P (catching m (at_throw w clauses)) (λ t. nothing)
  catches P m clauses hm hc = keeps_catching _ _ (hm.by P) (λ why. keeps_at_throw _ clauses why hc (newest _ _))

  keeps_finally : (P : (Fact L.moments)) (m last : Run A Unit) → Acts A L fr m → Acts A L fr last → Hold A L (In fr) P (finally m last) (λ t. nothing)
  unfolding finally
  keeps_finally P m last hm hl = after _ _ (keeps_catching _ _ (hm.by P) (λ why. after _ _ (hl.by _) (keeps_leave _ _ why (newest _ _)))) (hl.by P)

  abbrev OptionActs : Option (Run A Unit) → Type 1
  OptionActs Absent = Unit {1}
  OptionActs (Some m) = Acts A L fr m

  keeps_try : (P : (Fact L.moments)) (m : Run A Unit) (clauses : List (Clause A)) (last : Option (Run A Unit)) → Acts A L fr m → ClausesAct clauses → OptionActs last → Hold A L (In fr) P (try_form w m clauses last) (λ t. nothing)
  unfolding try_form
  keeps_try P m clauses Absent hm hc hl = catches P m clauses hm hc
  keeps_try P m clauses (Some last) hm hc hl = keeps_finally P _ last (record { by = λ Q. catches Q m clauses hm hc }) hl

  keeps_print_form : (P : (Fact L.moments)) (o : Option (Run A (Carried A))) (ends_line : Bool) (site : ℕ) → PartCarries A L w kw fr o → Hold A L (In fr) P (print_form w o ends_line site) (λ t. nothing)
  unfolding print_form
  keeps_print_form P Absent ends_line site h = keeps_print_nothing A L w kw fr P ends_line site
  keeps_print_form P (Some m) ends_line site h = keeps_print_value A L w kw fr P m ends_line site h

  keeps_other_or : (P : (Fact L.moments)) (o : Option (Run A Unit)) → OptionActs o → Hold A L (In fr) P (other_or o) (λ t. nothing)
  unfolding other_or
  keeps_other_or P Absent h = keeps_return _ _ tt trivially
  keeps_other_or P (Some m) h = h.by P

  mutual
    unfolding exec exec_act exec_other exec_all exec_catches

    pub keeps_exec : (x : Statement) → Acts A L fr (exec w x)
    keeps_exec (Stmt number site askable reach act) = record { by = λ P. keeps_statement P number _ (keeps_act site reach act) }

    keeps_act : (site reach : ℕ) (x : Act) → Acts A L fr (exec_act w site reach x)
    keeps_act site reach (Block parts) = keeps_exec_all parts
    keeps_act site reach (Eval value) = record { by = λ P. keeps_evaluated P _ (keeps_eval value) }
    keeps_act site reach (Declare i) = record { by = λ P. keeps_declaration P i }
    keeps_act site reach (If test a b) = record { by = λ P. keeps_if P _ _ _ (record { by = λ Q. keeps_tested Q site reach _ (keeps_eval test) }) (keeps_exec a) (record { by = λ Q. keeps_other_or Q _ (keeps_other b) }) }
    keeps_act site reach (While test m) = record { by = λ P. keeps_while P _ _ (record { by = λ Q. keeps_tested Q site reach _ (keeps_eval test) }) (keeps_exec m) }
    keeps_act site reach (Do m test) = record { by = λ P. keeps_do P _ _ (keeps_exec m) (record { by = λ Q. keeps_tested Q site reach _ (keeps_eval test) }) }
    keeps_act site reach (For inits test updates m) = record { by = λ P. keeps_for P _ _ _ _ (keeps_exec_all inits) (record { by = λ Q. keeps_for_test Q site reach _ (keeps_part test) }) (keeps_exec_all updates) (keeps_exec m) }
    keeps_act site reach (Labelled m) = keeps_exec m
    keeps_act site reach (Jump target) = record { by = λ P. keeps_jump P site target }
    keeps_act site reach (Return value) = record { by = λ P. keeps_return_form P site _ (part_or_carries A L w kw fr _ _ tt (keeps_part value)) }
    keeps_act site reach (Throw value) = record { by = λ P. keeps_throw_form P site _ (keeps_eval value) }
    keeps_act site reach (Try m clauses last) = record { by = λ P. keeps_try P _ _ _ (keeps_exec m) (keeps_catches clauses) (keeps_other last) }
    keeps_act site reach (Print operand ty ends_line at) = record { by = λ P. keeps_print_form P _ ends_line at (keeps_part operand) }

    keeps_other : (x : Other) → OptionActs (exec_other w x)
    keeps_other no_statement = tt
    keeps_other (this s) = keeps_exec s

    keeps_exec_all : (x : Statements) → Acts A L fr (exec_all w x)
    keeps_exec_all done = record { by = λ P. keeps_return _ _ tt trivially }
    keeps_exec_all (first s rest) = record { by = λ P. let a = keeps_exec s in let b = keeps_exec_all rest in after _ _ (a.by P) (b.by P) }

    keeps_catches : (x : Catches) → ClausesAct (exec_catches w x)
    keeps_catches uncaught = tt
    keeps_catches (catch c local site block rest) = (keeps_exec block, keeps_catches rest)

  -- ---- calls and initializations

  keeps_bind_all : (vs : List (Carried A)) (b : Body) (f i : ℕ) (P : (Fact L.moments)) → Entails P (body_fact A L fr f) → Entails P (all_fit A L vs) → Hold A L (Ends fr) P (bind_all b f i vs) (λ t. nothing)
  unfolding bind_all
  keeps_bind_all [] b f i P ef e = keeps_return _ _ tt trivially
  keeps_bind_all (v ∷ vs) b f i P ef e = with_bind A L (note_bind A L _ f i v.value v (local_slot _ _ fr f i ef) (stored A L _ _ (local_slot _ _ fr f i ef) (carried_value _ _ v (first_fits _ _ v vs e))) (carried_value _ _ v (first_fits _ _ v vs e)) (first_fits _ _ v vs e)) (λ made. keeps_bind_all vs b f (suc i) _ (before _ _ ef) (before _ _ (rest_fit _ _ v vs e)))

  keeps_end_body : (P : (Fact L.moments)) (b : Bool) (site : ℕ) → Hold A L (In fr) P (end_body b site) (Fit A L)
  unfolding end_body
  keeps_end_body P false site = keeps_stop _ _ _ tt
  keeps_end_body P true site = search (steps, notes) depth 16

  keeps_at_return : (P : (Fact L.moments)) (why : Reason A) → Entails P (reason_fits A L (In fr) why) → Hold A L (Ends fr) P (at_return why) (Fit A L)
  unfolding at_return
  keeps_at_return P (Jumped target e) f = keeps_leave _ _ _ (of_jumped _ _ _ _ target e f)
  keeps_at_return P (Returned e v) f = keeps_return _ _ v (of_returned _ _ _ e v f)
  keeps_at_return P (Threw e v) f = keeps_leave _ _ _ (threw_fits _ _ _ e v (threw_at _ _ _ e v f) (of_threw _ _ _ e v f))

  keeps_run_body : (P : (Fact L.moments)) (block : Run A Unit) (b : Bool) (site : ℕ) → Acts A L fr block → Hold A L (Ends fr) P (run_body block b site) (Fit A L)
  unfolding run_body
  keeps_run_body P block b site h = keeps_last _ _ (after _ _ (h.by P) (keeps_end_body P b site)) (λ why. keeps_at_return _ why (newest _ _))

  keeps_frame_of_call : (P : (Fact L.moments)) (b : Body) (block : Run A Unit) (void : Bool) (f : ℕ) (vs : List (Carried A)) → Acts A L fr block → Entails P (body_fact A L fr f) → Entails P (all_fit A L vs) → Hold A L (Ends fr) P (frame_of_call b block void f vs) (Fit A L)
  unfolding frame_of_call
  keeps_frame_of_call P b block void f vs h ef e = after _ _ (keeps_bind_all vs b f 0 P ef e) (keeps_run_body P block void _ h)

module _ (A : Sets) (L : Uniform A) (w : World A) (kw : WorldKeeps A L w) where
  call_uses_fit : (P : (Fact L.moments)) (f : MethodForm) (r : Option (Carried A)) → Entails P (option_fits A L r) → Entails P (Fit A L (call_uses f r))
  unfolding call_uses option_fits
  call_uses_fit P kinds.Constructor r e = constant_fits _ _ _ (none_value A L)
  call_uses_fit P _ Absent e = constant_fits _ _ _ (none_value A L)
  call_uses_fit P _ (Some v) e = e

  bound_fit : (P : (Fact L.moments)) (r : Option (Carried A)) (args : List (Carried A)) → Entails P (option_fits A L r) → Entails P (all_fit A L args) → Entails P (all_fit A L (bound r args))
  unfolding bound option_fits
  bound_fit P Absent args e ea = ea
  bound_fit P (Some v) args e ea = more_fit _ _ v args e ea

  pub keeps_call_method : (d : Region) (P : (Fact L.moments)) (site n : ℕ) (m : Method) (b : Body) (block : Run A Unit) (r : Option (Carried A)) (args : List (Carried A)) → Acts A L (OfCall n) block → Entails P (option_fits A L r) → Entails P (all_fit A L args) → Hold A L d P (call_method site n m b block r args) (Fit A L)
  unfolding call_method
  keeps_call_method d P site n m b block r args h er ea =
      keeps_scoped _ _ (with_call A L (note_call A L Around site n _ (call_uses_fit P m.form r er)) (λ e.
      keeps_in_frame _ _ {i = OfCall n} e.number (at_call A L n e (newest _ _)) (keeps_frame_of_call A L w kw (OfCall n) _ b block _ e.number _ h (at_call A L n e (newest _ _)) (before _ _ (bound_fit P r args er ea)))))

  keeps_at_failure : (fr : FrameKind) (P : (Fact L.moments)) (why : Reason A) → Entails P (reason_fits A L (In fr) why) → Hold A L (Ends fr) P (at_failure why) (λ t. nothing)
  unfolding at_failure
  keeps_at_failure fr P (Jumped target e) f = keeps_leave _ _ _ (of_jumped _ _ _ _ target e f)
  keeps_at_failure fr P (Returned e v) f = keeps_leave _ _ _ (returned_fits _ _ _ e v (left_at _ _ _ e v f) (of_returned _ _ _ e v f))
  keeps_at_failure fr P (Threw e v) f = keeps_failed _ _ e (threw_at _ _ _ e v f)

  keeps_initialize_above : (fr : FrameKind) (P : (Fact L.moments)) (site : ℕ) (above : Option ℕ) → Hold A L (Ends fr) P (initialize_above w site above) (λ t. nothing)
  unfolding initialize_above
  keeps_initialize_above fr P site Absent = keeps_return _ _ tt trivially
  keeps_initialize_above fr P site (Some c) = keeps_initialize A L w kw fr (Ends fr) P site c

  pub keeps_initialization : (d : Region) (P : (Fact L.moments)) (site c : ℕ) (block : Run A Unit) → Acts A L (OfInit c) block → Hold A L d P (initialization w site c block) (λ t. nothing)
  unfolding initialization
  keeps_initialization d P site c block h =
      keeps_scoped _ _ (with_init A L (note_init A L w.program kw.program Around site c) (λ e.
      keeps_in_frame _ _ {i = OfInit c} e.number (at_init A L c e (newest _ _)) (after _ _ (keeps_initialize_above (OfInit c) _ _ _) (keeps_last _ _ (h.by _) (λ why. keeps_at_failure (OfInit c) _ why (newest _ _))))))

  pub keeps_call_body : (d : Region) (P : (Fact L.moments)) (site m : ℕ) (o : Option Body) (r : Option (Carried A)) (args : List (Carried A)) → Entails P (option_fits A L r) → Entails P (all_fit A L args) → Hold A L d P (call_body w site m o r args) (Fit A L)
  unfolding call_body
  keeps_call_body d P site m Absent r args er ea = keeps_stop _ _ _ tt
  keeps_call_body d P site m (Some b) r args er ea = keeps_call_method d P site m _ b _ r args (keeps_exec A L w kw (OfCall m) b.block) er ea

  pub init_block_acts : (c : ℕ) (o : Option Body) → Acts A L (OfInit c) (init_block w o)
  unfolding init_block
  init_block_acts c Absent = record { by = λ P. keeps_return _ _ tt trivially }
  init_block_acts c (Some b) = keeps_exec A L w kw (OfInit c) b.block

  -- main's class and its argument are made in no frame
  pub keeps_main_run : (P : (Fact L.moments)) → Hold A L Outside P (main_run w) (Fit A L)
  unfolding main_run
  keeps_main_run P = after _ _ (keeps_initialize A L w kw (OfCall 0) Outside P _ _) (with_new A L (keeps_make_array A L w kw (OfCall 0) Outside P _ strings 0 _ (constant_fits _ _ _ (number_value A L _))) (λ args.
      keeps_called A L w kw (OfCall 0) Outside _ _ _ Absent _ (absent_fits _ _) (more_fit _ _ _ [] (valued_new A L args _ (newest _ _) (object_value _ _ args (newest _ _))) (no_values_fit _ _))))

module _ (A : Sets) (L : Uniform A) where
  pub world_keeps : (depth : ℕ) → WorldKeeps A L (world L.program depth)
  unfolding world
  world_keeps zero = record {
    program = refl;
    call = λ d site m r args P e ea. keeps_stop _ _ _ tt;
    enter = λ d site c P. keeps_stop _ _ _ tt;
  }
  world_keeps (suc depth) = record {
    program = refl;
    call = λ d site m r args P e ea. keeps_call_body A L (world L.program depth) (world_keeps depth) d P site m (body L.program m) r args e ea;
    enter = λ d site c P. keeps_initialization A L (world L.program depth) (world_keeps depth) d P site c _ (init_block_acts A L (world L.program depth) (world_keeps depth) c (init_body L.program c));
  }
