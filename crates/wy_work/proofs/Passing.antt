-- Frames by what they are: each goes on, is passed by or is found by a stop.
use Rattle.std.proofs.Common.{◌≡◌, ℕ, Bool, [], ◌∷◌, refl, ap, Bor}
use Rattle.wy_kernel.specs.declared.form.Stmt.{Stmt as Memory}
use Rattle.wy_kernel.specs.Form.{Statement, Stmt, Block, Eval, Declare, If, While, Do, For, Labelled, Jump, Return, Throw, Try, Print}
use Rattle.wy_kernel.specs.Program.{Program}
use Rattle.wy_kernel.specs.View.{statement}
use Rattle.wy_value.specs.declared.value.Value.{Value}
use Rattle.wy_steps.specs.Sets.{nothing}
use Rattle.wy_steps.specs.State as run
use Rattle.wy_steps.specs.State.{State, Reason, Stop, Run, Outcome, go_on, go_on_left, return, leave, stop}
use Rattle.wy_meaning.specs.World.{World}
use Rattle.wy_meaning.specs.Call.{at_failure, at_return}
use Rattle.wy_meaning.specs.Run.{world}
use Rattle.wy_steps.specs.Steps.{stop_cause}
use Rattle.wy_calls.specs.Calls.{closed, ended, first_of}
use Rattle.wy_calls.specs.declared.calls.Scope.{Scope}
use Rattle.wy_state.specs.declared.parts.Reason.{Reason as Cause}
use Rattle.wy_state.specs.declared.parts.Reason.TheVariants as cause
use Rattle.wy_state.specs.Seen.{reason_of, valued}
use Rattle.wy_state.specs.Agrees.{Shape, Onward}
use Rattle.wy_state.specs.Steps.{active_be, leave_by}
use Rattle.wy_state.proofs.Onward.{onward_as, onward_same}
use Rattle.wy_operands.specs.Values.{Values}
use Rattle.wy_work.specs.declared.task.Task.{Task}
use Rattle.wy_work.specs.declared.task.Task.TheVariants as task
use Rattle.wy_work.specs.declared.task.Step.{Step}
use Rattle.wy_work.specs.declared.task.Step.TheVariants as step
use Rattle.wy_work.specs.declared.task.StmtStep.{StmtStep}
use Rattle.wy_work.specs.declared.task.StmtStep.TheVariants as doing
use Rattle.wy_work.specs.Calls.{Leaves}
use Rattle.wy_work.specs.Tasks.{MachineState, after, around, pushed, then_all}
use Rattle.wy_work.specs.Statements.{after_all, after_first, without_values}
use Rattle.wy_work.proofs.Finishes.{scope_ends, scope_left, scope_stopped, stopped_in}
use Rattle.wy_work.proofs.Returns.{body_returned}
use Rattle.wy_work.proofs.Leaving.{halts_call, halts_class, passes_call, passes_class}

-- ---- a body is left

module _ (p : Program) (m k : MachineState) (l : Leaves p m k) (x : Step) where
  pub call_passed : (count : ℕ) (why : Reason nothing) → x ≡ step.LeaveCall count → Onward p m.state (then_all p (pushed (task.Plain x) m) (leave why)) k.state (then_all p k (leave why))
  call_passed count why is = rw is (passes_call p m k l count why)

  pub class_passed : (why : Reason nothing) → x ≡ step.LeaveClass → Onward p m.state (then_all p (pushed (task.Plain x) m) (leave why)) k.state (then_all p k (leave why))
  class_passed why is = rw is (passes_class p m k l why)

  pub call_halted : (count : ℕ) (why : Stop) → x ≡ step.LeaveCall count → Onward p m.state (then_all p (pushed (task.Plain x) m) (stop why)) k.state (then_all p k (stop why))
  call_halted count why is = rw is (halts_call p m k l count why)

  pub class_halted : (why : Stop) → x ≡ step.LeaveClass → Onward p m.state (then_all p (pushed (task.Plain x) m) (stop why)) k.state (then_all p k (stop why))
  class_halted why is = rw is (halts_class p m k l why)

-- ---- what passes a task that does nothing with it

module _ (p : Program) (m : MachineState) where
  abbrev IsPassed : Task → Reason nothing → Type 0
  IsPassed f why = Onward p m.state (then_all p (pushed f m) (leave why)) m.state (then_all p m (leave why))

  abbrev IsHalted : Task → Stop → Type 0
  IsHalted f why = Onward p m.state (then_all p (pushed f m) (stop why)) m.state (then_all p m (stop why))

  pub step_passed : (x : Step) (why : Reason nothing) → ((b : Bool) (site : ℕ) → x ≡ step.BodyEnd b site → ⊥) → (x ≡ step.Initialized → ⊥) → ((n : ℕ) → x ≡ step.LeaveCall n → ⊥) → (x ≡ step.LeaveClass → ⊥) → ((n : ℕ) → x ≡ step.End n → ⊥) → IsPassed (task.Plain x) why
  unfolding go_on leave
  step_passed (step.ShowRight site) why a b c d e = onward_same p m.state _
  step_passed (step.Join site) why a b c d e = onward_same p m.state _
  step_passed (step.Initialize class site) why a b c d e = onward_same p m.state _
  step_passed step.Main why a b c d e = onward_same p m.state _
  step_passed (step.BodyEnd x site) why a b c d e = absurd (a x site refl)
  step_passed step.Initialized why a b c d e = absurd (b refl)
  step_passed (step.LeaveCall n) why a b c d e = absurd (c n refl)
  step_passed step.LeaveClass why a b c d e = absurd (d refl)
  step_passed (step.Again other) why a b c d e = onward_same p m.state _
  step_passed step.Forget why a b c d e = onward_same p m.state _
  step_passed (step.End n) why a b c d e = absurd (e n refl)

  pub stmt_passed : (s : Bor Memory) (x : StmtStep) (why : Reason nothing) → (x ≡ doing.Catch → ⊥) → (x ≡ doing.Finally → ⊥) → IsPassed (task.Stmt s x) why
  unfolding go_on leave
  stmt_passed s doing.Do why a b = onward_same p m.state _
  stmt_passed s doing.Operate why a b = onward_same p m.state _
  stmt_passed s doing.Print why a b = onward_same p m.state _
  stmt_passed s doing.Loop why a b = onward_same p m.state _
  stmt_passed s (doing.Turn n) why a b = onward_same p m.state _
  stmt_passed s (doing.Decide n) why a b = onward_same p m.state _
  stmt_passed s doing.Catch why a b = absurd (a refl)
  stmt_passed s doing.Finally why a b = absurd (b refl)

  pub frame_passed : (f : Task) (why : Reason nothing) → ((s : Bor Memory) (x : StmtStep) → f ≡ task.Stmt s x → ⊥) → ((x : Step) → f ≡ task.Plain x → ⊥) → ((scope : Scope) → f ≡ task.Close scope → ⊥) → IsPassed f why
  unfolding go_on leave
  frame_passed (task.Expr e x) why a b c = onward_same p m.state _
  frame_passed (task.Row es) why a b c = onward_same p m.state _
  frame_passed (task.Stmt s x) why a b c = absurd (a s x refl)
  frame_passed (task.Stmts ss) why a b c = onward_same p m.state _
  frame_passed (task.Plain x) why a b c = absurd (b x refl)
  frame_passed (task.Close scope) why a b c = absurd (c scope refl)

  -- a jump or a throw leaves a body
  pub body_passed : (b : Bool) (site : ℕ) (why : Cause) → ((e : ℕ) (v : Value) → why ≡ cause.Returned e v → ⊥) → IsPassed (task.Plain (step.BodyEnd b site)) (reason_of why)
  unfolding go_on go_on_left at_return leave
  body_passed b site (cause.Jumped target e) other = onward_same p m.state _
  body_passed b site (cause.Returned e v) other = absurd (other e v refl)
  body_passed b site (cause.Threw e v) other = onward_same p m.state _

  pub failure_passed : (why : Cause) → ((e : ℕ) (v : Value) → why ≡ cause.Threw e v → ⊥) → IsPassed (task.Plain step.Initialized) (reason_of why)
  unfolding go_on go_on_left at_failure leave
  failure_passed (cause.Jumped target e) other = onward_same p m.state _
  failure_passed (cause.Returned e v) other = onward_same p m.state _
  failure_passed (cause.Threw e v) other = absurd (other e v refl)

  -- an initializer that throws stops the run
  pub failure_stops : (why : Cause) (e : ℕ) (v : Value) → why ≡ cause.Threw e v → Onward p m.state (then_all p (pushed (task.Plain step.Initialized) m) (leave (reason_of why))) m.state (then_all p m (stop (run.InitFailed e)))
  unfolding go_on go_on_left at_failure leave stop
  failure_stops why e v is = rw is (onward_same p m.state _)

  -- ---- what a stop passes

  pub step_halted : (x : Step) (why : Stop) → ((n : ℕ) → x ≡ step.LeaveCall n → ⊥) → (x ≡ step.LeaveClass → ⊥) → ((n : ℕ) → x ≡ step.End n → ⊥) → IsHalted (task.Plain x) why
  unfolding go_on go_on_left stop
  step_halted (step.ShowRight site) why a b c = onward_same p m.state _
  step_halted (step.Join site) why a b c = onward_same p m.state _
  step_halted (step.Initialize class site) why a b c = onward_same p m.state _
  step_halted step.Main why a b c = onward_same p m.state _
  step_halted (step.BodyEnd x site) why a b c = onward_same p m.state _
  step_halted step.Initialized why a b c = onward_same p m.state _
  step_halted (step.LeaveCall n) why a b c = absurd (a n refl)
  step_halted step.LeaveClass why a b c = absurd (b refl)
  step_halted (step.Again other) why a b c = onward_same p m.state _
  step_halted step.Forget why a b c = onward_same p m.state _
  step_halted (step.End n) why a b c = absurd (c n refl)

-- ---- the parts of a `try`, where nothing was left

module _ (w : World nothing) where
  first_done : (x : Statement) (s : State nothing) → after_first w x (run.Done tt s) ≡ run.Done tt s
  unfolding go_on_left
  first_done (Stmt number site askable reach (Block parts)) s = refl
  first_done (Stmt number site askable reach (Eval value)) s = refl
  first_done (Stmt number site askable reach (Declare i)) s = refl
  first_done (Stmt number site askable reach (If test main other)) s = refl
  first_done (Stmt number site askable reach (While test body)) s = refl
  first_done (Stmt number site askable reach (Do body test)) s = refl
  first_done (Stmt number site askable reach (For inits test updates body)) s = refl
  first_done (Stmt number site askable reach (Labelled body)) s = refl
  first_done (Stmt number site askable reach (Jump target)) s = refl
  first_done (Stmt number site askable reach (Return value)) s = refl
  first_done (Stmt number site askable reach (Throw value)) s = refl
  first_done (Stmt number site askable reach (Try main catches last)) s = refl
  first_done (Stmt number site askable reach (Print operand ty ends_line at)) s = refl

  first_stopped : (x : Statement) (why : Stop) (s : State nothing) → after_first w x (run.Stopped why s) ≡ run.Stopped why s
  unfolding go_on_left
  first_stopped (Stmt number site askable reach (Block parts)) why s = refl
  first_stopped (Stmt number site askable reach (Eval value)) why s = refl
  first_stopped (Stmt number site askable reach (Declare i)) why s = refl
  first_stopped (Stmt number site askable reach (If test main other)) why s = refl
  first_stopped (Stmt number site askable reach (While test body)) why s = refl
  first_stopped (Stmt number site askable reach (Do body test)) why s = refl
  first_stopped (Stmt number site askable reach (For inits test updates body)) why s = refl
  first_stopped (Stmt number site askable reach (Labelled body)) why s = refl
  first_stopped (Stmt number site askable reach (Jump target)) why s = refl
  first_stopped (Stmt number site askable reach (Return value)) why s = refl
  first_stopped (Stmt number site askable reach (Throw value)) why s = refl
  first_stopped (Stmt number site askable reach (Try main catches last)) why s = refl
  first_stopped (Stmt number site askable reach (Print operand ty ends_line at)) why s = refl

  all_stopped : (x : Statement) (why : Stop) (s : State nothing) → after_all w x (run.Stopped why s) ≡ run.Stopped why s
  unfolding go_on go_on_left
  all_stopped (Stmt number site askable reach (Block parts)) why s = refl
  all_stopped (Stmt number site askable reach (Eval value)) why s = refl
  all_stopped (Stmt number site askable reach (Declare i)) why s = refl
  all_stopped (Stmt number site askable reach (If test main other)) why s = refl
  all_stopped (Stmt number site askable reach (While test body)) why s = refl
  all_stopped (Stmt number site askable reach (Do body test)) why s = refl
  all_stopped (Stmt number site askable reach (For inits test updates body)) why s = refl
  all_stopped (Stmt number site askable reach (Labelled body)) why s = refl
  all_stopped (Stmt number site askable reach (Jump target)) why s = refl
  all_stopped (Stmt number site askable reach (Return value)) why s = refl
  all_stopped (Stmt number site askable reach (Throw value)) why s = refl
  all_stopped (Stmt number site askable reach (Try main catches last)) why s = refl
  all_stopped (Stmt number site askable reach (Print operand ty ends_line at)) why s = refl

module _ (p : Program) (m : MachineState) where
  -- the first block ended normally
  pub first_ends : (x : Bor Memory) (us : Values) → us ≡ [] → Onward p m.state (then_all p (pushed (task.Stmt x doing.Catch) m) (return m.values)) m.state (then_all p (record m { values = us }) (return us))
  unfolding go_on return
  first_ends x us none = rw none (onward_as (λ s. ap (λ o. after p (around m) m.work (without_values o)) (first_done (world p m.depth) (statement x.now) s)) (onward_same p m.state _))

  stmt_halted : (s : Bor Memory) (x : StmtStep) (why : Stop) → IsHalted p m (task.Stmt s x) why
  unfolding go_on stop
  stmt_halted s doing.Do why = onward_same p m.state _
  stmt_halted s doing.Operate why = onward_same p m.state _
  stmt_halted s doing.Print why = onward_same p m.state _
  stmt_halted s doing.Loop why = onward_same p m.state _
  stmt_halted s (doing.Turn n) why = onward_same p m.state _
  stmt_halted s (doing.Decide n) why = onward_same p m.state _
  stmt_halted s doing.Catch why = onward_as (λ z. ap (λ o. after p (around m) m.work (without_values o)) (first_stopped (world p m.depth) (statement s.now) why z)) (onward_same p m.state _)
  stmt_halted s doing.Finally why = onward_as (λ z. ap (λ o. after p (around m) m.work (without_values o)) (all_stopped (world p m.depth) (statement s.now) why z)) (onward_same p m.state _)

  pub frame_halted : (f : Task) (why : Stop) → ((x : Step) → f ≡ task.Plain x → ⊥) → ((scope : Scope) → f ≡ task.Close scope → ⊥) → IsHalted p m f why
  unfolding go_on stop
  frame_halted (task.Expr e x) why a b = onward_same p m.state _
  frame_halted (task.Row es) why a b = onward_same p m.state _
  frame_halted (task.Stmt s x) why a b = stmt_halted s x why
  frame_halted (task.Stmts ss) why a b = onward_same p m.state _
  frame_halted (task.Plain x) why a b = absurd (a x refl)
  frame_halted (task.Close scope) why a b = absurd (b scope refl)

-- ---- the end of a scope and of a statement

module _ (p : Program) (m : MachineState) (s : Shape) (f : Task) (scope : Scope) (is : f ≡ task.Close scope) (same : s.calls ≡ closed m.state.calls) (a : Onward p m.state (active_be (first_of m.state.calls.scopes)) s (return tt)) where
  pub close_ends : Onward p m.state (then_all p (pushed f m) (return m.values)) s (then_all p (record m { state = s }) (return m.values))
  close_ends = rw is (scope_ends p m s scope same a)

  pub close_left : (why : Reason nothing) → Onward p m.state (then_all p (pushed f m) (leave why)) s (then_all p (record m { state = s }) (leave why))
  close_left why = rw is (scope_left p m s scope same a why)

  pub close_stopped : (why : Stop) → Onward p m.state (then_all p (pushed f m) (stop why)) s (then_all p (record m { state = s }) (stop why))
  close_stopped why = rw is (scope_stopped p m s scope same a why)

pub end_stopped : (p : Program) (m : MachineState) (n : ℕ) (s : Shape) (x : Step) → x ≡ step.End n → s.calls ≡ ended n m.state.calls → (why : Stop) (e : ℕ) → e ≡ stop_cause why → Onward p m.state (leave_by n e) s (return tt) →
    Onward p m.state (then_all p (pushed (task.Plain x) m) (stop why)) s (then_all p (record m { state = s }) (stop why))
end_stopped p m n s x is same why e by a = rw is (stopped_in p m n s same why e by a)

pub body_gives : (p : Program) (m : MachineState) (b : Bool) (site : ℕ) (us : Values) (e : ℕ) (v : Value) (why : Cause) → why ≡ cause.Returned e v → us ≡ valued e v ∷ [] →
    Onward p m.state (then_all p (pushed (task.Plain (step.BodyEnd b site)) m) (leave (reason_of why))) m.state (then_all p (record m { values = us }) (return us))
body_gives p m b site us e v why is values = rw is (body_returned p m b site us e v values)
