-- The Test of a statement's condition, and what it decides.
use Rattle.std.proofs.Common.{◌≡◌, ℕ, Bool, true, false, List, [], refl, ap, sym, subst, Bor, Option, Some, Err}
use Rattle.std.specs.Prelude.{None as Absent}
use Rattle.std.specs.declared.alloc.Global.{Global}
use Rattle.std.specs.declared.boxed.Box.{Box}
use Rattle.wy_kernel.specs.declared.form.Stmt.{Stmt as Memory}
use Rattle.wy_kernel.specs.View.{other, statement}
use Rattle.wy_kernel.proofs.Views.{view_statement, view_if}
use Rattle.wy_meaning.specs.Run.{world}
use Rattle.wy_state.proofs.Onward.{onward_as, onward_same, onward_then}
use Rattle.wy_work.specs.declared.task.Task.TheVariants as task
use Rattle.wy_work.specs.declared.task.StmtStep.TheVariants as step
use Rattle.wy_work.specs.Statements.{IsIf, emptied, stmt_step}
use Rattle.wy_kernel.specs.Program.{Program}
use Rattle.wy_value.specs.declared.value.Value.{Value}
use Rattle.wy_event.specs.declared.record.Use.{Use}
use Rattle.wy_steps.specs.Sets.{nothing}
use Rattle.wy_steps.specs.State.{State, Run, choose, go_on, ◌>>=◌, return}
use Rattle.wy_meaning.specs.Statement.{tested, if_form, exec, exec_other, other_or}
use Rattle.wy_state.specs.declared.parts.Halt.{Halt}
use Rattle.wy_state.specs.Seen.{given}
use Rattle.wy_state.specs.Agrees.{Shape, Onward, StepGives, itself}
use Rattle.wy_operation.specs.Around.{IsSameAround, KeepsAt}
use Rattle.wy_operands.specs.Values.{Values, top}
use Rattle.wy_work.specs.Tasks.{MachineState, after, around, pushed, goes, then_all, followed, Resumed, Turned}
use Rattle.wy_operation.proofs.Runs.{go_on-go_on}
use Rattle.wy_work.proofs.Runs.{failed_at, kept_after, refused, turned_as, went}

module _ (p : Program) (m : MachineState) (s : Shape) (site reach : ℕ) (v : Value) (used : List Use) (value : v ≡ (top m.values).value) (uses : used ≡ (top m.values).uses) where
  same : given v used ≡ top m.values
  same = rw (value, uses) refl

  pub test_went : (b : Bool) (us : Values) (next : Bool → Run nothing Values) → Onward p m.state (tested site reach (return (given v used))) s (return b) → IsSameAround m.state.calls s.calls →
      Onward p m.state (then_all p m (followed (tested site reach (return (top m.values))) next)) s (then_all p (record m { state = s; values = us }) (next b))
  test_went b us next a around = went p m (record m { state = s; values = us }) (tested site reach (return (top m.values))) next b (rw same at a) (kept_after p m s us around)

  pub test_failed : (e : Halt) (us : Values) (next : Bool → Run nothing Values) → StepGives p (itself {X = Bool}) (Err e) m.state (tested site reach (return (given v used))) s → KeepsAt e m.state.calls s.calls →
      Turned p (then_all p m (followed (tested site reach (return (top m.values))) next)) m.state (Err e) (record m { state = s; values = us }) next
  test_failed e us next a around = failed_at p m s us (tested site reach (return (top m.values))) next (itself {X = Bool}) e next (subst (λ c. StepGives p (itself {X = Bool}) (Err e) m.state (tested site reach (return c)) s) same a) around

-- ---- the sides of an `if`

module _ (p : Program) (m : MachineState) (x : Memory) (yes : Memory) (no : Option (Box Memory Global)) (is : IsIf x.form yes no) where
  if_is : (s : State nothing) → stmt_step (world p m.depth) (statement x) step.Operate m.values s ≡ followed (tested x.site x.reach (return (top m.values))) (λ b. emptied (choose b (exec (world p m.depth) (statement yes)) (other_or (exec_other (world p m.depth) (other no))))) s
  unfolding if_form ◌>>=◌
  if_is s = rw (view_statement x, is.is, view_if, is.same) (go_on-go_on (tested x.site x.reach (return (top m.values)) s) _ _)

  pub if_refused : (q : MachineState) (e : Halt) → ((next : Bool → Run nothing Values) → Turned {X = Bool} p (then_all p m (followed (tested x.site x.reach (return (top m.values))) next)) m.state (Err e) q next) →
      Resumed p (then_all p m (stmt_step (world p m.depth) (statement x) step.Operate m.values)) m.state (Err e) q
  if_refused q e a = refused p _ m.state q e _ (λ u. return q.values) (turned_as p m q _ _ (Err e) _ if_is (a (λ b. emptied (choose b (exec (world p m.depth) (statement yes)) (other_or (exec_other (world p m.depth) (other no)))))))

  module _ (l : MachineState) (b : Bool) (a : (next : Bool → Run nothing Values) → Onward p m.state (then_all p m (followed (tested x.site x.reach (return (top m.values))) next)) l.state (then_all p l (next b))) (depth : l.depth ≡ m.depth) where
    chosen : Onward p m.state (then_all p m (stmt_step (world p m.depth) (statement x) step.Operate m.values)) l.state (then_all p l (emptied (choose b (exec (world p l.depth) (statement yes)) (other_or (exec_other (world p l.depth) (other no))))))
    chosen = subst (λ d. Onward p m.state (then_all p m (stmt_step (world p m.depth) (statement x) step.Operate m.values)) l.state (then_all p l (emptied (choose b (exec (world p d) (statement yes)) (other_or (exec_other (world p d) (other no))))))) (sym depth)
        (onward_as (λ s. ap (after p (around m) m.work) (if_is s)) (a (λ b. emptied (choose b (exec (world p m.depth) (statement yes)) (other_or (exec_other (world p m.depth) (other no)))))))

    pub if_yes : (n : MachineState) (y : Bor Memory) → y.now ≡ yes → b ≡ true → n ≡ pushed (task.Stmt y step.Do) l → Onward p m.state (then_all p m (stmt_step (world p m.depth) (statement x) step.Operate m.values)) n.state (goes p n)
    unfolding choose go_on return
    if_yes n y same holds pushes = rw pushes (onward_then chosen (onward_as (λ s. rw (holds, same) refl) (onward_same p l.state _)))

    pub if_no : (n : MachineState) (y : Bor Memory) (box : Box Memory Global) → no ≡ Some box → y.now ≡ box.value → b ≡ false → n ≡ pushed (task.Stmt y step.Do) l → Onward p m.state (then_all p m (stmt_step (world p m.depth) (statement x) step.Operate m.values)) n.state (goes p n)
    unfolding choose other_or exec_other go_on return
    if_no n y box some same fails pushes = rw pushes (onward_then chosen (onward_as (λ s. rw (fails, some, same) refl) (onward_same p l.state _)))

    pub if_none : no ≡ Absent → b ≡ false → l.values ≡ [] → Onward p m.state (then_all p m (stmt_step (world p m.depth) (statement x) step.Operate m.values)) l.state (goes p l)
    unfolding choose other_or exec_other go_on return
    if_none none fails empty = onward_then chosen (onward_as (λ s. rw (fails, none, empty) refl) (onward_same p l.state _))
