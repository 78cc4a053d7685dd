-- `try`: what is thrown goes to a clause, and the last block runs however the rest ended.
use Rattle.std.proofs.Common.{◌≡◌, ◌∙◌, ℕ, Bool, true, false, nat_lt, nat_le, List, [], length, map, refl, ap, sym, subst, Bor, Option, Some, Result, Err}
use Rattle.std.specs.Prelude.{◌+◌}
use Rattle.std.specs.Prelude.{None as Absent}
use Rattle.std.specs.declared.alloc.Global.{Global}
use Rattle.std.specs.declared.boxed.Box.{Box}
use Rattle.std.specs.declared.vec.Vec.{Vec}
use Rattle.wy_kernel.specs.declared.form.Catch.{Catch}
use Rattle.wy_kernel.specs.declared.form.Stmt.{Stmt as Memory}
use Rattle.wy_kernel.specs.declared.form.StmtForm.TheVariants as form
use Rattle.wy_kernel.specs.declared.types.Ty.{Ty}
use Rattle.wy_kernel.specs.Program.{Program, class_of_type}
use Rattle.wy_kernel.specs.View.{clause, clauses_of, statement}
use Rattle.wy_kernel.proofs.Views.{view_statement, view_try}
use Rattle.wy_value.specs.declared.value.Value.{Value}
use Rattle.wy_event.specs.declared.record.Kind.TheVariants as kind
use Rattle.wy_event.specs.declared.record.Slot.{Slot}
use Rattle.wy_event.specs.declared.record.Slot.TheVariants.{Local}
use Rattle.wy_steps.specs.Sets.{nothing}
use Rattle.wy_steps.specs.State as run
use Rattle.wy_steps.specs.State.{State, Carried, Reach, Reason, Run, Outcome, Through, choose, go_on, go_on_left, ◌>>=◌, ◌>>◌, return, leave, stop}
use Rattle.wy_kernel.specs.Limits.{event_limit, use_limit}
use Rattle.wy_steps.specs.Steps.{Made, activating, code_of, entered, frame, go_in, made, next_event, note_write, room_for, with_event, with_stored, writing}
use Rattle.wy_meaning.specs.World.{World, into, type_of}
use Rattle.wy_meaning.specs.Run.{world}
use Rattle.wy_meaning.specs.Statement.{Clause, at_throw, caught, exec, exec_catches, exec_other, handle, number_of, other_or}
use Rattle.wy_calls.specs.Calls.{CallFrame as Body, CallStack as Calls, activated}
use Rattle.wy_state.specs.declared.parts.Halt.{Halt}
use Rattle.wy_state.specs.declared.parts.Halt.TheVariants as halt
use Rattle.wy_state.specs.declared.parts.Reason.{Reason as Cause}
use Rattle.wy_state.specs.declared.parts.Reason.TheVariants as cause
use Rattle.wy_state.specs.Seen.{made_of, reason_of, valued}
use Rattle.wy_state.specs.Steps.{activate_through, do_nothing, local_slot}
use Rattle.wy_state.specs.Agrees.{Shape, Onward, StepGives, IsSameButLocals, KeepsFrames, itself}
use Rattle.wy_state.proofs.Onward.{answers_after, answers_then, onward_as, onward_same, onward_then, within}
use Rattle.wy_operation.specs.Around.{IsSameAround, KeepsAt}
use Rattle.wy_operation.specs.Clauses.{taking}
use Rattle.wy_operation.proofs.Clauses.{clause_as, handle_is, taken}
use Rattle.wy_operation.proofs.Runs.{done_first}
use Rattle.wy_operands.specs.Values.{Values}
use Rattle.wy_work.specs.declared.task.Task.TheVariants as tasks
use Rattle.wy_work.specs.declared.task.Step.TheVariants as plain_step
use Rattle.wy_work.specs.declared.task.StmtStep.TheVariants as step
use Rattle.wy_work.specs.Tasks.{MachineState, after, around, goes, pushed, then_all, Resumed}
use Rattle.wy_work.specs.Handlers.{caught_by}
use Rattle.wy_work.specs.Statements.{emptied, without_values}
use Rattle.wy_work.proofs.Runs.{failed_at, kept_after, then_settled, turned_after, world_program}

-- ---- the last block

again_left : (o : Outcome nothing (Unit {0})) (why : Reason nothing) (k : Unit {0} → Run nothing (Unit {0})) → without_values (go_on (go_on o (λ u. leave why)) k) ≡ go_on (go_on o (λ u. return {X = Values} [])) (λ vs. leave why)
unfolding go_on leave return
again_left (run.Done x s) why k = refl
again_left (run.Left y s) why k = refl
again_left (run.Stopped y s) why k = refl

module _ (p : Program) (m : MachineState) (x b : Bor Memory) (main last : Box Memory Global) (catches : Vec Catch Global) (part : Option (Box Memory Global)) (is : x.now.form ≡ form.Try main catches part) (some : part ≡ Some last) (same : b.now ≡ last.value) where
  pub last_begins : (l q : MachineState) → l ≡ record m { values = [] } → q ≡ pushed (tasks.Stmt b step.Do) l → Onward p m.state (then_all p (pushed (tasks.Stmt x step.Finally) m) (return m.values)) q.state (goes p q)
  unfolding go_on go_on_left return other_or exec_other
  last_begins l q empty pushes = rw (pushes, empty) (onward_as (λ s. ap (after p (around m) m.work) (rw (view_statement x.now, is, view_try, some, same) refl)) (onward_same p m.state _))

  pub last_again : (l k q : MachineState) (why : Cause) → l ≡ record m { values = [] } → k ≡ pushed (tasks.Plain (plain_step.Again why)) l → q ≡ pushed (tasks.Stmt b step.Do) k → Onward p m.state (then_all p (pushed (tasks.Stmt x step.Finally) m) (leave (reason_of why))) q.state (goes p q)
  unfolding go_on go_on_left return leave other_or exec_other ◌>>◌ ◌>>=◌
  last_again l k q why empty again pushes = rw (pushes, again, empty) (onward_as (λ s. ap (after p (around m) m.work) (rw (view_statement x.now, is, view_try, some, same) (again_left (exec (world p m.depth) (statement last.value) s) (reason_of why) _))) (onward_same p m.state _))

-- ---- what a clause does

module _ (w : World nothing) (c : Catch) (event : ℕ) (v : Value) where
  abbrev block : Run nothing (Unit {0})
  block = exec w (statement c.block)

  abbrev writes : Slot → Run nothing (Made nothing)
  writes x = note_write (into kind.Catch c.site x v) (valued event v)

  abbrev then_block : Made nothing → Run nothing (Unit {0})
  then_block e = activate_through e.number c.block.number >>= (λ u. block)

  abbrev catching : Run nothing (Unit {0})
  catching = do_nothing >>= (λ u. local_slot c.local >>= (λ x. writes x >>= then_block))

  abbrev writes_in : State nothing → Run nothing (Made nothing)
  writes_in s = writing (into kind.Catch c.site (Local (code_of s.frame) c.local) v) (valued event v)

  caught_is : (s : State nothing) → caught (clause_as w c) (valued event v) s ≡ catching s
  unfolding caught frame activating go_in entered note_write room_for writing choose stop with_event made next_event with_stored ◌>>=◌ ◌>>◌ go_on return
  caught_is s = cases (nat_lt (length s.noted) event_limit) (nat_le (s.uses + 1) use_limit)
    where
      cases : (few fits : Bool) → go_on (go_in (Through s.frame c.block.number) (choose few (choose fits (writes_in s) (stop run.UseLimit)) (stop run.EventLimit) s)) (λ e. block) ≡ go_on (choose few (choose fits (writes_in s) (stop run.UseLimit)) (stop run.EventLimit) s) then_block
      cases true true = refl
      cases true false = refl
      cases false fits = refl

  caught_by_is : (s : State nothing) → caught_by w c event v s ≡ catching s
  caught_by_is s = ap (λ n. caught (record { class = c.class; local = c.local; site = c.site; number = n; block = block }) (valued event v) s) (ap number_of (view_statement c.block)) ∙ caught_is s

module _ (p : Program) (m : MachineState) (k : Shape) (c : Catch) (event : ℕ) (v : Value) (x : Slot) (early : Onward p m.state do_nothing k (return tt)) (slot : Onward p k (local_slot c.local) k (return x)) where
  abbrev w : World nothing
  w = world p m.depth

  prepared : Onward p m.state (caught_by w c event v) k (writes w c event v x >>= then_block w c event v)
  prepared = onward_as (caught_by_is w c event v) (onward_then (done_first do_nothing (λ u. local_slot c.local >>= (λ x. writes w c event v x >>= then_block w c event v)) tt early) (done_first (local_slot c.local) (λ x. writes w c event v x >>= then_block w c event v) x slot))

  pub caught_refused : (s : Shape) (us : Values) (e : Halt) → StepGives p made_of (Err e) k (writes w c event v x) s → KeepsAt e m.state.calls s.calls →
      Resumed p (then_all p m (emptied (caught_by w c event v))) m.state (Err e) (record m { state = s; values = us })
  caught_refused s us e a same = failed_at p m s us (caught_by w c event v) (λ u. return []) (itself {X = Unit {0}}) e (λ u. return us)
      (answers_then itself p e m.state k s _ _ prepared (answers_after p k s (writes w c event v x) made_of itself (then_block w c event v) _ e (λ z. refl) a)) same

  module _ (l s : Shape) (n : ℕ) (calls : k.calls ≡ m.state.calls) (wrote : Onward p k (writes w c event v x) l (return (made_of n))) (written : IsSameButLocals k.calls l.calls) (active : Onward p l (activate_through n c.block.number) s (return tt)) (reach : Reach) (same : s.calls ≡ activated n reach l.calls) where
    caught_around : IsSameAround m.state.calls s.calls
    caught_around = record {
      frames = ap (λ (z : Calls). map (λ (f : Body). f.event) z.frames) same ∙ written.frames ∙ ap (λ (z : Calls). map (λ (f : Body). f.event) z.frames) calls;
      scopes = ap (λ (z : Calls). z.scopes) same ∙ written.scopes ∙ ap (λ (z : Calls). z.scopes) calls;
    }

    caught_then : Onward p m.state (caught_by w c event v) s (block w c event v)
    caught_then = onward_then prepared (onward_then (done_first (writes w c event v x) (then_block w c event v) (made_of n) wrote) (done_first (activate_through n c.block.number) (λ u. block w c event v) tt active))

    pub caught_goes : (b : Bor Memory) (us : Values) (q : MachineState) → b.now ≡ c.block → us ≡ [] → q ≡ pushed (tasks.Stmt b step.Do) (record m { state = s; values = us }) → Onward p m.state (then_all p m (emptied (caught_by w c event v))) q.state (goes p q)
    unfolding go_on return
    caught_goes b us q is none pushes = rw (pushes, none, is) (subst (λ g. Onward p m.state (then_all p m (emptied (caught_by w c event v))) s g) (then_settled p (emptied (block w c event v)) (kept_after p m s [] caught_around))
        (within (λ o. after p (around m) m.work (go_on o (λ u. return []))) caught_then))

-- where a record was refused, what stands around is the same
pub refused_around : (e : Halt) (old k new : Calls) → k ≡ old → KeepsFrames {X = ℕ} (Err e) k new → KeepsAt e old new
refused_around (halt.Left why) old k new same a = record { frames = a.frames ∙ ap (λ (z : Calls). map (λ (f : Body). f.event) z.frames) same; scopes = a.scopes ∙ ap (λ (z : Calls). z.scopes) same }
refused_around (halt.Stopped why) old k new same a = record { frames = a.frames ∙ ap (λ (z : Calls). map (λ (f : Body). f.event) z.frames) same; scopes = a.scopes ∙ ap (λ (z : Calls). z.scopes) same }
refused_around halt.Memory old k new same a = tt

-- ---- what is thrown

module _ (p : Program) (m : MachineState) (x : Bor Memory) (main : Box Memory Global) (catches : Vec Catch Global) (last : Option (Box Memory Global)) (is : x.now.form ≡ form.Try main catches last) where
  abbrev clauses : List (Clause nothing)
  clauses = exec_catches (world p m.depth) (clauses_of (map clause catches.items))

  handles : (why : Reason nothing) (s : State nothing) → then_all p (pushed (tasks.Stmt x step.Catch) m) (leave why) s ≡ then_all p m (emptied (at_throw (world p m.depth) clauses why)) s
  unfolding go_on go_on_left leave
  handles why s = ap (after p (around m) m.work) (rw (view_statement x.now, is, view_try) refl)

  pub jump_passes : (target e : ℕ) → Onward p m.state (then_all p (pushed (tasks.Stmt x step.Catch) m) (leave (run.Jumped target e))) m.state (then_all p m (leave (run.Jumped target e)))
  unfolding at_throw go_on leave
  jump_passes target e = onward_as (handles (run.Jumped target e)) (onward_same p m.state _)

  pub return_passes : (e : ℕ) (v : Value) → Onward p m.state (then_all p (pushed (tasks.Stmt x step.Catch) m) (leave (run.Returned e (valued e v)))) m.state (then_all p m (leave (run.Returned e (valued e v))))
  unfolding at_throw go_on leave
  return_passes e v = onward_as (handles (run.Returned e (valued e v))) (onward_same p m.state _)

  pub passes : (why : Cause) → ((e : ℕ) (v : Value) → why ≡ cause.Threw e v → ⊥) → Onward p m.state (then_all p (pushed (tasks.Stmt x step.Catch) m) (leave (reason_of why))) m.state (then_all p m (leave (reason_of why)))
  passes (cause.Jumped target e) other = jump_passes target e
  passes (cause.Returned e v) other = return_passes e v
  passes (cause.Threw e v) other = absurd (other e v refl)

  module _ (why : Cause) (e : ℕ) (v : Value) (threw : why ≡ cause.Threw e v) (ty : Ty) (class : ℕ) (found : Option Catch) (typed : Onward p m.state (type_of v) m.state (return ty)) (classed : class ≡ class_of_type ty) (taker : found ≡ taking p catches.items class) where
    handled_is : (s : State nothing) → emptied (handle (world {A = nothing} p m.depth).program clauses (class_of_type ty) e (valued e v)) s ≡ emptied (taken (world p m.depth) found e (valued e v)) s
    handled_is s = ap (λ o. go_on o (λ u. return []))
        (ap (λ z. handle z clauses (class_of_type ty) e (valued e v) s) (world_program p m.depth) ∙ ap (λ z. handle p clauses z e (valued e v) s) (sym classed)
        ∙ handle_is (world p m.depth) p catches.items class e (valued e v) s ∙ ap (λ z. taken (world p m.depth) z e (valued e v) s) (sym taker))

    thrown : Onward p m.state (then_all p (pushed (tasks.Stmt x step.Catch) m) (leave (run.Threw e (valued e v)))) m.state (then_all p m (emptied (taken (world p m.depth) found e (valued e v))))
    unfolding at_throw ◌>>=◌ go_on return
    thrown = onward_then (onward_as (handles (run.Threw e (valued e v))) (within (λ o. after p (around m) m.work (go_on (go_on o (λ t. handle (world {A = nothing} p m.depth).program clauses (class_of_type t) e (valued e v))) (λ u. return []))) typed))
        (onward_as (λ s. ap (after p (around m) m.work) (handled_is s)) (onward_same p m.state _))

    pub thrown_on : found ≡ Absent → Onward p m.state (then_all p (pushed (tasks.Stmt x step.Catch) m) (leave (reason_of why))) m.state (then_all p m (leave (run.Threw e (valued e v))))
    unfolding go_on leave
    thrown_on none = rw threw (onward_then thrown (onward_as (λ s. ap (λ z. after p (around m) m.work (emptied (taken (world p m.depth) z e (valued e v)) s)) none) (onward_same p m.state _)))

    taken_by : (c : Catch) → found ≡ Some c → (s : State nothing) → emptied (taken (world p m.depth) found e (valued e v)) s ≡ emptied (caught_by (world p m.depth) c e v) s
    taken_by c some s = ap (λ z. emptied (taken (world p m.depth) z e (valued e v)) s) some
        ∙ ap (λ n. emptied (caught (record { class = c.class; local = c.local; site = c.site; number = n; block = exec (world p m.depth) (statement c.block) }) (valued e v)) s) (sym (ap number_of (view_statement c.block)))

    pub thrown_caught : (c : Catch) (q : MachineState) (r : Result (Unit {0}) Halt) → found ≡ Some c → Resumed p (then_all p m (emptied (caught_by (world p m.depth) c e v))) m.state r q → Resumed p (then_all p (pushed (tasks.Stmt x step.Catch) m) (leave (reason_of why))) m.state r q
    thrown_caught c q r some a = rw threw (turned_after p m.state m q _ _ r (λ u. return q.values) (onward_then thrown (onward_as (λ s. ap (after p (around m) m.work) (taken_by c some s)) (onward_same p m.state _))) a)
