-- Every task only adds to the records, and so does all that is left to do.
use Rattle.std.proofs.Common.{ℕ, zero, suc, pos, Bool, true, false, List, [], ◌∷◌, length, map, drop, Option, Some}
use Rattle.std.specs.Prelude.{None as Absent}
use Rattle.wy_kernel.specs.declared.operator.BinOp.{BinOp}
use Rattle.wy_kernel.specs.declared.operator.Primitive.{Primitive}
use Rattle.wy_kernel.specs.declared.types.Ty.{Ty}
use Rattle.wy_kernel.specs.declared.form.CallForm.{CallForm}
use Rattle.wy_kernel.specs.declared.form.CallForm.TheVariants as form
use Rattle.wy_kernel.specs.Form.{Expression, Const, Str, Read, Set, Upd, Un, Bin, Conv, Cast, InstanceOf, Cond, New, NewArray, Call, Cat, Lib, Place, Local, Static, Field, Elem, Part, absent, the, Row, none, more, Statement, Stmt, Act, Block, Eval, Declare, If, While, Do, For, Labelled, Jump, Return, Throw, Try, Print}
use Rattle.wy_kernel.specs.Program.{Program}
use Rattle.wy_kernel.specs.View.{expression, statement, statements_of}
use Rattle.wy_event.specs.declared.record.Slot.{Slot}
use Rattle.wy_steps.specs.Sets.{nothing}
use Rattle.wy_steps.specs.State.{Carried, Noted, Reason, Outcome, Run, Around, ◌>>◌, return}
use Rattle.wy_steps.specs.Steps.{Made}
use Rattle.wy_meaning.specs.World.{World}
use Rattle.wy_meaning.specs.Place.{Located, Spot, store}
use Rattle.wy_meaning.specs.Call.{call_on}
use Rattle.wy_meaning.specs.Run.{end, strings, world}
use Rattle.wy_meaning.specs.Statement.{exec_catches, exec_other}
use Rattle.wy_operands.specs.Values.{Values, top}
use Rattle.wy_operation.specs.Spots.{spot_of}
use Rattle.wy_operation.specs.Updated.{updated}
use Rattle.wy_operation.specs.Words.{joined_texts, printed}
use Rattle.wy_work.specs.declared.task.ExprStep.{ExprStep}
use Rattle.wy_work.specs.declared.task.ExprStep.TheVariants as expr
use Rattle.wy_work.specs.declared.task.StmtStep.{StmtStep}
use Rattle.wy_work.specs.declared.task.StmtStep.TheVariants as stmt
use Rattle.wy_work.specs.declared.task.Task.{Task}
use Rattle.wy_work.specs.declared.task.Task.TheVariants as task
use Rattle.wy_work.specs.declared.task.Step.{Step}
use Rattle.wy_work.specs.declared.task.Step.TheVariants as step
use Rattle.wy_work.specs.Operands.{Given, evaluated, operate, read_at, set_at, update_at, of_one, of_two, of_first, call_with, array_with}
use Rattle.wy_work.specs.Expressions.{put_on, leaving, put_all, expr_step, showing_right, update_rest, updating, updating_of, right_side, created, decided, elements_from, element_set, ready, assigned, stored, chosen_by, constructed, filled_from, filled_at}
use Rattle.wy_work.specs.Statements as at
use Rattle.wy_work.specs.Statements.{emptied, forgotten, without_values, loop_test, loop_body, act_on, print_of, stmt_step, stmt_frame, after_first, after_all}
use Rattle.wy_work.specs.Tasks.{Context, outside, after, main_called, returned, step_of, task_of}
use Rattle.law_induction.proofs.Composed as on
use Rattle.law_induction.proofs.Composed.{WorldHas, PartHas, AllHave, PlaceHas}
use Rattle.law_added.specs.Added.{AddsToRecords}
use Rattle.law_added.proofs.Rules.{Adds, Grows, itself, at_end, go_on_grows, left_grows, again_grows, reaches_grows, frame_grows, cover_grows, bind, adds_return, adds_leave, adds_stop, adds_choose, adds_note, adds_note_new, adds_note_write, adds_activating}
use Rattle.law_added.proofs.Rules as rules
use Rattle.law_added.proofs.Forms.{OnlyAdds, by_steps}
use Rattle.law_added.proofs.Programs.{adds_turns, adds_while, adds_end_body, adds_at_return, adds_at_failure, adds_eval, adds_part, adds_row, adds_tested, adds_if, adds_for_test, adds_return_form, adds_at_throw, adds_other_or, adds_exec, adds_other, adds_all, adds_clauses, world_adds}

-- ---- values that are there

put : (vs : Values) {m : Given} → Adds m → Adds (put_on vs m)
put vs {m = m} h = record { grows = λ s. go_on_grows s.noted (m s) _ (h.grows s) (λ v. adds_return _) }

left : (vs : Values) {m : Run nothing (Unit {0})} → Adds m → Adds (leaving vs m)
left vs {m = m} h = record { grows = λ s. go_on_grows s.noted (m s) _ (h.grows s) (λ u. adds_return _) }

empty : {m : Run nothing (Unit {0})} → Adds m → Adds (emptied m)
empty {m = m} h = record { grows = λ s. go_on_grows s.noted (m s) _ (h.grows s) (λ u. adds_return _) }

found : (vs : List (Carried nothing)) → AllHave nothing OnlyAdds (evaluated vs)
found [] = tt
found (v ∷ vs) = (adds_return v, found vs)

fewer : (i : ℕ) (ms : List Given) → AllHave nothing OnlyAdds ms → AllHave nothing OnlyAdds (drop i ms)
fewer zero ms h = h
fewer (suc i) [] h = tt
fewer (suc i) (m ∷ ms) h = fewer i ms h.1

module _ (w : World nothing) (pw : WorldHas nothing OnlyAdds w) where
  -- ---- a form by operands that are evaluated

  adds_read_at : (x : Place) (vs : List (Carried nothing)) → Adds (read_at w x vs)
  adds_read_at (Local i) [] = on.on_read_place nothing OnlyAdds by_steps w pw _ tt
  adds_read_at (Local i) (v ∷ vs) = adds_return _
  adds_read_at (Static f site) [] = on.on_read_place nothing OnlyAdds by_steps w pw _ tt
  adds_read_at (Static f site) (v ∷ vs) = adds_return _
  adds_read_at (Field object f site) [] = adds_return _
  adds_read_at (Field object f site) (o ∷ []) = on.on_read_place nothing OnlyAdds by_steps w pw _ (adds_return o)
  adds_read_at (Field object f site) (o ∷ v ∷ vs) = adds_return _
  adds_read_at (Elem array index site) [] = adds_return _
  adds_read_at (Elem array index site) (a ∷ []) = adds_return _
  adds_read_at (Elem array index site) (a ∷ k ∷ []) = on.on_read_place nothing OnlyAdds by_steps w pw _ (adds_return a, adds_return k)
  adds_read_at (Elem array index site) (a ∷ k ∷ v ∷ vs) = adds_return _

  adds_set_at : (x : Place) (site : ℕ) (vs : List (Carried nothing)) → Adds (set_at w x site vs)
  adds_set_at (Local i) site [] = adds_return _
  adds_set_at (Local i) site (v ∷ []) = on.on_set_place nothing OnlyAdds by_steps w pw _ _ site tt (adds_return v)
  adds_set_at (Local i) site (v ∷ u ∷ us) = adds_return _
  adds_set_at (Static f at) site [] = adds_return _
  adds_set_at (Static f at) site (v ∷ []) = on.on_set_place nothing OnlyAdds by_steps w pw _ _ site tt (adds_return v)
  adds_set_at (Static f at) site (v ∷ u ∷ us) = adds_return _
  adds_set_at (Field object f at) site [] = adds_return _
  adds_set_at (Field object f at) site (o ∷ []) = adds_return _
  adds_set_at (Field object f at) site (o ∷ v ∷ []) = on.on_set_place nothing OnlyAdds by_steps w pw _ _ site (adds_return o) (adds_return v)
  adds_set_at (Field object f at) site (o ∷ v ∷ u ∷ us) = adds_return _
  adds_set_at (Elem array index at) site [] = adds_return _
  adds_set_at (Elem array index at) site (a ∷ []) = adds_return _
  adds_set_at (Elem array index at) site (a ∷ k ∷ []) = adds_return _
  adds_set_at (Elem array index at) site (a ∷ k ∷ v ∷ []) = on.on_set_place nothing OnlyAdds by_steps w pw _ _ site (adds_return a, adds_return k) (adds_return v)
  adds_set_at (Elem array index at) site (a ∷ k ∷ v ∷ u ∷ us) = adds_return _

  adds_update_at : (x : Place) (f : Located nothing → Given) (vs : List (Carried nothing)) → ((place : Located nothing) → PlaceHas nothing OnlyAdds place → Adds (f place)) → Adds (update_at w x f vs)
  adds_update_at (Local i) f [] h = h _ tt
  adds_update_at (Local i) f (v ∷ vs) h = adds_return _
  adds_update_at (Static n at) f [] h = h _ tt
  adds_update_at (Static n at) f (v ∷ vs) h = adds_return _
  adds_update_at (Field object n at) f [] h = adds_return _
  adds_update_at (Field object n at) f (o ∷ []) h = h _ (adds_return o)
  adds_update_at (Field object n at) f (o ∷ v ∷ vs) h = adds_return _
  adds_update_at (Elem array index at) f [] h = adds_return _
  adds_update_at (Elem array index at) f (a ∷ []) h = adds_return _
  adds_update_at (Elem array index at) f (a ∷ k ∷ []) h = h _ (adds_return a, adds_return k)
  adds_update_at (Elem array index at) f (a ∷ k ∷ v ∷ vs) h = adds_return _

  adds_of_one : (f : Given → Given) (vs : List (Carried nothing)) → ((m : Given) → Adds m → Adds (f m)) → Adds (of_one w f vs)
  adds_of_one f [] h = adds_return _
  adds_of_one f (a ∷ []) h = h _ (adds_return a)
  adds_of_one f (a ∷ b ∷ vs) h = adds_return _

  adds_of_two : (f : Given → Given → Given) (vs : List (Carried nothing)) → ((m k : Given) → Adds m → Adds k → Adds (f m k)) → Adds (of_two w f vs)
  adds_of_two f [] h = adds_return _
  adds_of_two f (a ∷ []) h = adds_return _
  adds_of_two f (a ∷ b ∷ []) h = h _ _ (adds_return a) (adds_return b)
  adds_of_two f (a ∷ b ∷ c ∷ vs) h = adds_return _

  adds_of_first : (f : Given → List Given → Given) (vs : List (Carried nothing)) → ((m : Given) (ms : List Given) → Adds m → AllHave nothing OnlyAdds ms → Adds (f m ms)) → Adds (of_first w f vs)
  adds_of_first f [] h = adds_return _
  adds_of_first f (a ∷ vs) h = h _ _ (adds_return a) (found vs)

  adds_call_on : (f : CallForm) (m : ℕ) (x : Part) (site : ℕ) (vs : List (Carried nothing)) → Adds (call_with w f m x site vs)
  adds_call_on form.Static m x site vs = on.on_call_static nothing OnlyAdds by_steps w pw m _ site (found vs)
  adds_call_on form.Chosen m absent site vs = on.on_call_on nothing OnlyAdds by_steps w pw _ m _ _ site (adds_return _) (found vs)
  adds_call_on form.Chosen m (the r) site vs = adds_of_first (λ k ks. call_on w form.Chosen m k ks site) vs (λ k ks hk hks. on.on_call_on nothing OnlyAdds by_steps w pw form.Chosen m k ks site hk hks)
  adds_call_on form.Direct m absent site vs = on.on_call_on nothing OnlyAdds by_steps w pw _ m _ _ site (adds_return _) (found vs)
  adds_call_on form.Direct m (the r) site vs = adds_of_first (λ k ks. call_on w form.Direct m k ks site) vs (λ k ks hk hks. on.on_call_on nothing OnlyAdds by_steps w pw form.Direct m k ks site hk hks)

  adds_array_with : (dims : Row) (elements : List Given) (by_dims : List Given → Given) (filled : Given) (vs : List (Carried nothing)) → ((ms : List Given) → AllHave nothing OnlyAdds ms → Adds (by_dims ms)) → Adds filled → Adds (array_with w dims elements by_dims filled vs)
  adds_array_with none elements by_dims filled vs hd hf = hf
  adds_array_with (more d ds) elements by_dims filled vs hd hf = hd _ (found vs)

  adds_operate : (e : Expression) (vs : List (Carried nothing)) → Adds (operate w e vs)
  adds_operate (Const v) vs = adds_return _
  adds_operate (Str n) vs = adds_return _
  adds_operate (Read place) vs = adds_read_at place vs
  adds_operate (Set place value site) vs = adds_set_at place site vs
  adds_operate (Upd place o value value_ty ty wide gives_old site) vs =
      adds_update_at place _ vs (λ at h. on.on_update nothing OnlyAdds by_steps w pw at o _ ty wide gives_old site h (on.on_part_or nothing OnlyAdds by_steps w pw _ _ (adds_part w pw value)))
  adds_operate (Un o operand) vs = adds_of_one _ vs (λ m h. on.on_unary nothing OnlyAdds by_steps w pw o m h)
  adds_operate (Bin o l r site) vs = adds_of_two _ vs (λ m k hm hk. on.on_binary nothing OnlyAdds by_steps w pw o m k site hm hk)
  adds_operate (Conv to operand) vs = adds_of_one _ vs (λ m h. on.on_convert nothing OnlyAdds by_steps w pw to m h)
  adds_operate (Cast ty operand site) vs = adds_of_one _ vs (λ m h. on.on_cast nothing OnlyAdds by_steps w pw ty m site h)
  adds_operate (InstanceOf ty operand) vs = adds_of_one _ vs (λ m h. on.on_instance_of nothing OnlyAdds by_steps w pw ty m h)
  adds_operate (Cond f test if_true if_false site) vs = on.on_conditional nothing OnlyAdds by_steps w pw _ _ _ site (adds_eval w pw test) (adds_part w pw if_true) (adds_part w pw if_false)
  adds_operate (New c constructor args site) vs = on.on_create nothing OnlyAdds by_steps w pw c constructor _ site (adds_row w pw args)
  adds_operate (NewArray ty dims elements sites site) vs =
      adds_array_with dims _ _ _ vs (λ ms h. on.on_create_array nothing OnlyAdds by_steps w pw ty ms site h) (on.on_create_filled nothing OnlyAdds by_steps w pw ty _ sites site (adds_row w pw elements))
  adds_operate (Call f m receiver ty args site) vs = adds_call_on f m receiver site vs
  adds_operate (Cat l r l_ty r_ty site) vs = adds_of_two _ vs (λ m k hm hk. on.on_cat nothing OnlyAdds by_steps w pw m k site hm hk)
  adds_operate (Lib o args site) vs = on.on_library_form nothing OnlyAdds by_steps w pw o _ site (found vs)

  -- ---- where an expression goes on

  adds_store : (site : ℕ) (spot : Spot nothing) (v : Carried nothing) → Adds (store w site spot v)
  adds_store site spot v = on.on_store nothing OnlyAdds by_steps w pw site spot v

  adds_updated : (o : BinOp) (ty : Ty) (wide : Primitive) (site : ℕ) (spot : Spot nothing) (old v : Carried nothing) → Adds (updated w o ty wide site spot old v)
  unfolding updated
  adds_updated o ty wide site spot old v = bind (on.on_divided nothing OnlyAdds by_steps w pw site _ _) (λ new. on.on_assign nothing OnlyAdds by_steps w pw site spot _)

  adds_update_rest : (spot : Spot nothing) (o : BinOp) (old v : Carried nothing) (ty : Ty) (wide : Option Primitive) (gives_old : Bool) (site : ℕ) → Adds (update_rest w spot o old v ty wide gives_old site)
  adds_update_rest spot o old v ty Absent gives_old site = bind (on.on_concatenated nothing OnlyAdds by_steps w pw site old v) (λ text. adds_store site spot text)
  adds_update_rest spot o old v ty (Some wide) gives_old site = bind (adds_updated o ty wide site spot old v) (λ set. adds_return _)

  adds_updating : (x : Expression) (spot : Spot nothing) (vs : Values) → Adds (updating_of w x spot vs)
  adds_updating (Upd place o value value_ty ty wide gives_old site) spot vs =
      put _ (bind (on.on_fetch nothing OnlyAdds by_steps w pw spot) (λ old. bind (on.on_part_or nothing OnlyAdds by_steps w pw _ _ (adds_part w pw value)) (λ v. adds_update_rest spot o old v ty wide gives_old site)))
  adds_updating _ spot vs = adds_return vs

  adds_created : (c : ℕ) (constructor : Option ℕ) (args : Row) (site : ℕ) → Adds (created w c constructor args site)
  adds_created c constructor args site =
      bind (adds_note_new _ _ _) (λ e. bind (on.on_all_of nothing OnlyAdds by_steps _ (adds_row w pw args)) (λ vs. rules.after (on.on_construct nothing OnlyAdds by_steps w pw site constructor _ vs) (adds_return _)))

  adds_ready : (x : Expression) (vs : Values) → Adds (ready w x vs)
  adds_ready (Read (Static f at)) vs = put _ (on.on_fetch nothing OnlyAdds by_steps w pw _)
  adds_ready (Set (Static f at) value site) vs = put _ (adds_store site _ _)
  adds_ready (Upd (Static f at) o value value_ty ty wide gives_old site) vs = adds_updating (Upd (Static f at) o value value_ty ty wide gives_old site) _ vs
  adds_ready (New c constructor args site) vs = put _ (adds_created c constructor args site)
  adds_ready (Call form.Static m receiver ty args site) vs = put _ (pw.call site m Absent _)
  adds_ready _ vs = adds_return vs

  adds_assigned : (x : Expression) (slot : Slot) (vs : Values) → Adds (assigned w x slot vs)
  adds_assigned (Upd place o value value_ty ty wide gives_old site) slot vs = put _ (adds_update_rest _ o _ _ ty wide gives_old site)
  adds_assigned _ slot vs = adds_return vs

  adds_stored : (x : Expression) (slot : Slot) (vs : Values) → Adds (stored w x slot vs)
  adds_stored (Upd place o value value_ty ty wide gives_old site) slot vs = put _ (adds_store site _ _)
  adds_stored _ slot vs = adds_return vs

  adds_decided : (v : Carried nothing) (if_true if_false : Part) (site : ℕ) → Adds (decided w v if_true if_false site)
  adds_decided v if_true if_false site =
      bind (adds_activating Around (adds_note _ v)) (λ e. adds_choose _ (on.on_arm nothing OnlyAdds by_steps w pw e v.value _ (adds_part w pw if_true)) (on.on_arm nothing OnlyAdds by_steps w pw e v.value _ (adds_part w pw if_false)))

  adds_chosen_by : (x : Expression) (vs : Values) → Adds (chosen_by w x vs)
  adds_chosen_by (Cond f test if_true if_false site) vs = put _ (adds_decided (top vs) if_true if_false site)
  adds_chosen_by _ vs = adds_return vs

  adds_constructed : (x : Expression) (vs : Values) → Adds (constructed w x vs)
  adds_constructed (New c constructor args site) vs = left _ (on.on_construct nothing OnlyAdds by_steps w pw site constructor _ _)
  adds_constructed _ vs = adds_return vs

  adds_elements : (array i : ℕ) (sites : List ℕ) (elements : Row) → Adds (elements_from w array i sites elements)
  adds_elements array i sites elements = on.on_set_elements nothing OnlyAdds by_steps w pw _ _ i _ (fewer i _ (adds_row w pw elements))

  adds_filled_from : (x : Expression) (array i : ℕ) (vs : Values) → Adds (filled_from w x array i vs)
  adds_filled_from (NewArray ty dims elements sites site) array i vs = left _ (adds_elements array i sites elements)
  adds_filled_from _ array i vs = adds_return vs

  adds_filled_at : (x : Expression) (array i : ℕ) (vs : Values) → Adds (filled_at w x array i vs)
  adds_filled_at (NewArray ty dims elements sites site) array i vs = left _ (rules.after (bind (adds_note_write _ _) (λ e. adds_return tt)) (adds_elements array (suc i) sites elements))
  adds_filled_at _ array i vs = adds_return vs

  adds_expr_step : (x : Expression) (at : ExprStep) (vs : Values) → Adds (expr_step w x at vs)
  adds_expr_step x expr.Find vs = put _ (adds_eval w pw x)
  adds_expr_step x expr.Operate vs = put _ (adds_operate x _)
  adds_expr_step x expr.Ready vs = adds_ready x vs
  adds_expr_step x (expr.Assign slot) vs = adds_assigned x slot vs
  adds_expr_step x (expr.Store slot) vs = adds_stored x slot vs
  adds_expr_step x expr.Decide vs = adds_chosen_by x vs
  adds_expr_step x expr.Chosen vs = adds_return _
  adds_expr_step x expr.Construct vs = adds_constructed x vs
  adds_expr_step x (expr.Elements array i) vs = adds_filled_from x array i vs
  adds_expr_step x (expr.Element array i) vs = adds_filled_at x array i vs

  adds_put_all : (es : List Expression) (vs : Values) → Adds (put_all w es vs)
  adds_put_all [] vs = adds_return vs
  adds_put_all (e ∷ es) vs = record { grows = λ s. go_on_grows s.noted _ _ ((adds_eval w pw e).grows s) (λ v. adds_put_all es (v ∷ vs)) }

  -- ---- texts

  adds_joined : (site : ℕ) (l r : Carried nothing) → Adds (joined_texts w site l r)
  unfolding joined_texts
  adds_joined site l r = bind (on.on_spelled_as nothing OnlyAdds by_steps w pw l.value) (λ x. bind (on.on_spelled_as nothing OnlyAdds by_steps w pw r.value) (λ y. on.on_make_text nothing OnlyAdds by_steps w pw site _ _))

  adds_printed : (ends_line : Bool) (site : ℕ) (v : Carried nothing) → Adds (printed w ends_line site v)
  unfolding printed
  adds_printed ends_line site v = bind (on.on_spelled_as nothing OnlyAdds by_steps w pw v.value) (λ units. on.on_print nothing OnlyAdds by_steps w pw site _ v)

  -- ---- where a statement goes on

  adds_loop_test : (site reach : ℕ) (x : Act) → Adds (loop_test w site reach x)
  adds_loop_test site reach (While test m) = adds_tested w pw site reach _ (adds_eval w pw test)
  adds_loop_test site reach (Do m test) = adds_tested w pw site reach _ (adds_eval w pw test)
  adds_loop_test site reach (For inits test updates m) = adds_for_test w pw site reach _ (adds_part w pw test)
  adds_loop_test site reach _ = adds_return true

  adds_loop_body : (x : Act) → Adds (loop_body w x)
  adds_loop_body (While test m) = adds_exec w pw m
  adds_loop_body (Do m test) = adds_exec w pw m
  adds_loop_body (For inits test updates m) = rules.after (adds_exec w pw m) (adds_all w pw updates)
  adds_loop_body _ = adds_return tt

  adds_act_on : (site reach : ℕ) (x : Act) (v : Carried nothing) → Adds (act_on w site reach x v)
  adds_act_on site reach (Eval value) v = adds_return tt
  adds_act_on site reach (If test main other) v = adds_if w pw _ _ _ (adds_tested w pw site reach _ (adds_return v)) (adds_exec w pw main) (adds_other_or w pw _ (adds_other w pw other))
  adds_act_on site reach (Return value) v = adds_return_form w pw site _ (adds_return v)
  adds_act_on site reach (Throw value) v = on.on_throw_form nothing OnlyAdds by_steps w pw site _ (adds_return v)
  adds_act_on site reach (Print operand ty ends_line at) v = on.on_print_value nothing OnlyAdds by_steps w pw _ ends_line at (adds_return v)
  adds_act_on site reach _ v = adds_return tt

  adds_print_of : (x : Act) (v : Carried nothing) → Adds (print_of w x v)
  adds_print_of (Print operand ty ends_line at) v = adds_printed ends_line at v
  adds_print_of _ v = adds_return tt

  adds_decided_turn : (site reach : ℕ) (x : Act) (n : ℕ) (v : Carried nothing) → Adds (at.decided w site reach x n v)
  adds_decided_turn site reach x n v =
      bind (adds_tested w pw site reach _ (adds_return v)) (λ b. adds_choose b (rules.after (adds_loop_body x) (adds_turns n _ _ (adds_loop_test site reach x) (adds_loop_body x))) (adds_return tt))

  adds_stmt_step : (x : Statement) (at : StmtStep) (vs : Values) → Adds (stmt_step w x at vs)
  adds_stmt_step x stmt.Do vs = empty (adds_exec w pw x)
  adds_stmt_step (Stmt number site askable reach act) stmt.Operate vs = empty (adds_act_on site reach act (top vs))
  adds_stmt_step (Stmt number site askable reach act) stmt.Print vs = empty (adds_print_of act (top vs))
  adds_stmt_step (Stmt number site askable reach act) stmt.Loop vs = empty (adds_while _ _ (adds_loop_test site reach act) (adds_loop_body act))
  adds_stmt_step (Stmt number site askable reach act) (stmt.Turn n) vs = empty (adds_turns n _ _ (adds_loop_test site reach act) (adds_loop_body act))
  adds_stmt_step (Stmt number site askable reach act) (stmt.Decide n) vs = empty (adds_decided_turn site reach act n (top vs))
  adds_stmt_step x stmt.Catch vs = adds_return []
  adds_stmt_step x stmt.Finally vs = adds_return []

  -- ---- outcomes

  forgotten_grows : (a : List (Noted nothing)) (o : Outcome nothing Values) → Grows a o → Grows a (forgotten o)
  forgotten_grows a o h = go_on_grows a o _ h (λ vs. adds_return tt)

  without_grows : (a : List (Noted nothing)) (o : Outcome nothing (Unit {0})) → Grows a o → Grows a (without_values o)
  without_grows a o h = go_on_grows a o _ h (λ u. adds_return [])

  first_grows : (a : List (Noted nothing)) (x : Statement) (o : Outcome nothing (Unit {0})) → Grows a o → Grows a (after_first w x o)
  first_grows a (Stmt number site askable reach (Try main catches last)) o h = left_grows a o _ h (λ why. adds_at_throw w pw (exec_catches w catches) why (adds_clauses w pw catches))
  first_grows a x o h = h

  all_grows : (a : List (Noted nothing)) (x : Statement) (o : Outcome nothing (Unit {0})) → Grows a o → Grows a (after_all w x o)
  all_grows a (Stmt number site askable reach (Try main catches last)) o h =
      let ends : Adds _ = adds_other_or w pw (exec_other w last) (adds_other w pw last) in
      go_on_grows a _ _ (left_grows a o _ h (λ why. rules.after ends (adds_leave why))) (λ u. ends)
  all_grows a x o h = h

  frame_of_statement_grows : (a : List (Noted nothing)) (x : Statement) (at : StmtStep) (o : Outcome nothing Values) → Grows a o → Grows a (stmt_frame w x at o)
  frame_of_statement_grows a x stmt.Catch o h = without_grows a _ (first_grows a x _ (forgotten_grows a o h))
  frame_of_statement_grows a x stmt.Finally o h = without_grows a _ (all_grows a x _ (forgotten_grows a o h))
  frame_of_statement_grows a x at o h = go_on_grows a o _ h (λ vs. adds_stmt_step x at vs)

  adds_main : Adds (main_called w)
  adds_main = bind (on.on_make_array nothing OnlyAdds by_steps w pw _ strings 0 _) (λ args. pw.call _ _ Absent _)

  adds_showing : (site : ℕ) (vs : Values) → Adds (showing_right w site vs)
  adds_showing site vs = put _ (bind (on.on_shown nothing OnlyAdds by_steps w pw site _) (λ right. adds_joined site (top vs) right))

  module _ (c : Context) where
    returned_grows : (a : List (Noted nothing)) (returns_none : Bool) (site : ℕ) (o : Outcome nothing Values) → Grows a o → Grows a (returned w c returns_none site o)
    returned_grows a returns_none site o h =
        go_on_grows a _ _ (left_grows a _ _ (go_on_grows a _ _ (forgotten_grows a o h) (λ u. adds_end_body returns_none site)) adds_at_return) (λ v. adds_return _)

    step_grows : (a : List (Noted nothing)) (x : Step) (o : Outcome nothing Values) → Grows a o → Grows a (step_of w c x o)
    step_grows a (step.ShowRight site) o h = go_on_grows a o _ h (λ vs. adds_showing site vs)
    step_grows a (step.Join site) o h = go_on_grows a o _ h (λ vs. put _ (adds_joined site _ _))
    step_grows a (step.Initialize class site) o h = go_on_grows a o _ h (λ vs. left _ (on.on_initialize nothing OnlyAdds by_steps w pw site class))
    step_grows a step.Main o h = go_on_grows a o _ h (λ vs. put _ adds_main)
    step_grows a (step.BodyEnd returns_none site) o h = returned_grows a returns_none site o h
    step_grows a step.Initialized o h = without_grows a _ (left_grows a _ _ (forgotten_grows a o h) adds_at_failure)
    step_grows a (step.LeaveCall n) o h = go_on_grows a _ _ (frame_grows a _ o h) (λ vs. adds_return _)
    step_grows a step.LeaveClass o h = go_on_grows a _ _ (frame_grows a _ o h) (λ vs. adds_return _)
    step_grows a (step.Again why) o h = go_on_grows a o _ h (λ vs. adds_leave _)
    step_grows a step.Forget o h = go_on_grows a o _ h (λ vs. adds_return _)
    step_grows a (step.End n) o h = without_grows a _ (reaches_grows a _ n _ (cover_grows a n _ (forgotten_grows a o h)))

    pub task_grows : (a : List (Noted nothing)) (x : Task) (o : Outcome nothing Values) → Grows a o → Grows a (task_of w c x o)
    task_grows a (task.Expr e x) o h = go_on_grows a o _ h (λ vs. adds_expr_step (expression e.now) x vs)
    task_grows a (task.Row es) o h = go_on_grows a o _ h (λ vs. adds_put_all (map expression es.now) vs)
    task_grows a (task.Stmt s x) o h = frame_of_statement_grows a (statement s.now) x o h
    task_grows a (task.Stmts ss) o h = go_on_grows a o _ h (λ vs. empty (adds_all w pw (statements_of (map statement ss.now))))
    task_grows a (task.Plain x) o h = step_grows a x o h
    task_grows a (task.Close scope) o h = again_grows a _ o h

-- ---- all that is left to do

after_grows : (p : Program) (a : List (Noted nothing)) (c : Context) (fs : List Task) (o : Outcome nothing Values) → Grows a o → Grows a (after p c fs o)
after_grows p a c [] o h = h
after_grows p a c (f ∷ fs) o h = after_grows p a (outside f c) fs _ (task_grows (world p c.depth) (world_adds p c.depth) c a f o h)

pub adds_to_records : (p : Program) → AddsToRecords p
adds_to_records p c fs o = at_end (end o).noted (after p c fs o) (after_grows p (end o).noted c fs o (itself o))
