-- What a statement does once the value of its expression is there, where it ends with that; and statements one after another.
use Rattle.std.proofs.Common.{◌≡◌, ◌∙◌, ℕ, Bool, List, [], ◌∷◌, map, refl, ap, sym, Bor, Option, Result, Err}
use Rattle.wy_kernel.specs.declared.types.Ty.{Ty}
use Rattle.wy_kernel.specs.declared.form.Expr.{Expr}
use Rattle.wy_kernel.specs.declared.form.Stmt.{Stmt as Memory}
use Rattle.wy_kernel.specs.declared.form.StmtForm.TheVariants as form
use Rattle.wy_kernel.specs.Program.{Program}
use Rattle.wy_kernel.specs.View.{statement, statements_of}
use Rattle.wy_kernel.proofs.Views.{view_statement, view_eval, view_return, view_throw, view_print}
use Rattle.wy_value.specs.declared.value.Value.{Value}
use Rattle.wy_event.specs.declared.record.Use.{Use}
use Rattle.wy_steps.specs.Sets.{nothing}
use Rattle.wy_steps.specs.State.{State, Run, go_on, ◌>>=◌, ◌>>◌, return}
use Rattle.wy_meaning.specs.Run.{world}
use Rattle.wy_meaning.specs.Text.{shown}
use Rattle.wy_meaning.specs.Statement.{return_form, throw_form, exec, exec_all}
use Rattle.wy_state.specs.declared.parts.Halt.{Halt}
use Rattle.wy_state.specs.Seen.{given}
use Rattle.wy_state.specs.Agrees.{Shape, Onward, StepGives, itself}
use Rattle.wy_state.proofs.Onward.{onward_as, onward_same}
use Rattle.wy_operation.specs.Around.{IsSameAround, KeepsAt, Leaves}
use Rattle.wy_operands.specs.Values.{Values, at, top}
use Rattle.wy_operation.specs.Words.{printed}
use Rattle.wy_operation.proofs.TextForms.{print_value_is}
use Rattle.wy_work.specs.declared.task.Task.TheVariants as task
use Rattle.wy_work.specs.declared.task.StmtStep.TheVariants as step
use Rattle.wy_work.specs.Expressions.{put_on}
use Rattle.wy_work.specs.Statements.{emptied, stmt_step}
use Rattle.wy_work.specs.Tasks.{MachineState, around, after, pushed, goes, then_all, Resumed}
use Rattle.wy_operation.proofs.Runs.{go_on-go_on}
use Rattle.wy_work.proofs.Runs.{failed_at, kept_after, turned_after, turned_as, went}

module _ (p : Program) (m : MachineState) (x : Memory) where
  ended_as : (s : Shape) (us : Values) (f : Run nothing (Unit {0})) (e : Halt) → ((z : State nothing) → stmt_step (world p m.depth) (statement x) step.Operate m.values z ≡ emptied f z) → StepGives p (itself {X = Unit {0}}) (Err e) m.state f s → KeepsAt e m.state.calls s.calls →
      Resumed p (then_all p m (stmt_step (world p m.depth) (statement x) step.Operate m.values)) m.state (Err e) (record m { state = s; values = us })
  ended_as s us f e is a same = turned_as p m (record m { state = s; values = us }) _ (emptied f) (Err e) (λ u. return us) is (failed_at p m s us f (λ u. return []) (itself {X = Unit {0}}) e (λ u. return us) a same)

  module _ (s : Shape) (e : Halt) (v : Value) (used : List Use) (value : v ≡ (top m.values).value) (uses : used ≡ (top m.values).uses) where
    same : given v used ≡ top m.values
    same = rw (value, uses) refl

    pub value_returned : (part : Option Expr) → x.form ≡ form.Return part → Leaves p e m.state (return_form x.site (return (given v used))) s → KeepsAt e m.state.calls s.calls →
        Resumed p (then_all p m (stmt_step (world p m.depth) (statement x) step.Operate m.values)) m.state (Err e) (record m { state = s })
    value_returned part is a = ended_as s m.values (return_form x.site (return (given v used))) e (λ z. rw (view_statement x, is, view_return, same) refl) a

    pub value_thrown : (value : Expr) → x.form ≡ form.Throw value → Leaves p e m.state (throw_form (world p m.depth) x.site (return (given v used))) s → KeepsAt e m.state.calls s.calls →
        Resumed p (then_all p m (stmt_step (world p m.depth) (statement x) step.Operate m.values)) m.state (Err e) (record m { state = s })
    value_thrown value is a = ended_as s m.values (throw_form (world p m.depth) x.site (return (given v used))) e (λ z. rw (view_statement x, is, view_throw, same) refl) a

  pub value_forgotten : (us : Values) (value : Expr) → x.form ≡ form.Eval value → us ≡ [] → Onward p m.state (then_all p m (stmt_step (world p m.depth) (statement x) step.Operate m.values)) m.state (goes p (record m { values = us }))
  unfolding go_on return
  value_forgotten us value is none = rw none (onward_as (λ s. rw (view_statement x, is, view_eval) refl) (onward_same p m.state _))

  -- what is printed is shown, and then printed
  pub shown_first : (q l : MachineState) (b : Bor Memory) (r : Result (Unit {0}) Halt) (part : Option Expr) (ty : Ty) (ends_line : Bool) (site : ℕ) → b.now ≡ x → x.form ≡ form.Print part ty ends_line site → l ≡ pushed (task.Stmt b step.Print) m →
      Resumed p (then_all p l (put_on l.values (shown (world p l.depth) site (at 0 l.values)))) l.state r q →
      Resumed p (then_all p m (stmt_step (world p m.depth) (statement x) step.Operate m.values)) m.state r q
  unfolding go_on return ◌>>=◌
  shown_first q l b r part ty ends_line site same is pushes a = turned_after p m.state l q _ _ r (λ u. return q.values) (rw pushes (onward_as (λ s. ap (after p (around m) m.work) (rw (same, view_statement x, is, view_print) (ap (λ o. go_on o (λ u. return [])) (print_value_is (world p m.depth) (return (top m.values)) ends_line site s) ∙ go_on-go_on (shown (world p m.depth) site (top m.values) s) _ _ ∙ sym (go_on-go_on (shown (world p m.depth) site (top m.values) s) _ _)))) (onward_same p m.state _))) a

  pub print_refused : (s : Shape) (e : Halt) (part : Option Expr) (ty : Ty) (ends_line : Bool) (site : ℕ) (v : Value) (used : List Use) → v ≡ (top m.values).value → used ≡ (top m.values).uses → x.form ≡ form.Print part ty ends_line site →
      StepGives p (itself {X = Unit {0}}) (Err e) m.state (printed (world p m.depth) ends_line site (given v used)) s → KeepsAt e m.state.calls s.calls →
      Resumed p (then_all p m (stmt_step (world p m.depth) (statement x) step.Print m.values)) m.state (Err e) (record m { state = s })
  print_refused s e part ty ends_line site v used value uses is a around =
      turned_as p m (record m { state = s }) _ (emptied (printed (world p m.depth) ends_line site (given v used))) (Err e) (λ u. return m.values) (λ z. rw (view_statement x, is, view_print, value, uses) refl)
      (failed_at p m s m.values (printed (world p m.depth) ends_line site (given v used)) (λ u. return []) (itself {X = Unit {0}}) e (λ u. return m.values) a around)

  pub print_done : (s : Shape) (us : Values) (part : Option Expr) (ty : Ty) (ends_line : Bool) (site : ℕ) (v : Value) (used : List Use) → v ≡ (top m.values).value → used ≡ (top m.values).uses → x.form ≡ form.Print part ty ends_line site →
      Onward p m.state (printed (world p m.depth) ends_line site (given v used)) s (return tt) → IsSameAround m.state.calls s.calls → us ≡ [] →
      Onward p m.state (then_all p m (stmt_step (world p m.depth) (statement x) step.Print m.values)) s (goes p (record m { state = s; values = us }))
  print_done s us part ty ends_line site v used value uses is a same none = rw none (onward_as (λ z. ap (after p (around m) m.work) (rw (view_statement x, is, view_print, value, uses) refl))
      (went p m (record m { state = s; values = [] }) (printed (world p m.depth) ends_line site (given v used)) (λ u. return []) tt a (kept_after p m s [] same)))

-- ---- statements one after another

module _ (p : Program) (m : MachineState) where
  pub none_left : (us : Values) (ss : List Memory) → ss ≡ [] → us ≡ [] → Onward p m.state (then_all p m (emptied (exec_all (world p m.depth) (statements_of (map statement ss))))) m.state (goes p (record m { values = us }))
  unfolding exec_all go_on return
  none_left us ss none empty = rw (none, empty) (onward_same p m.state _)

  pub first_goes : (l q : MachineState) (ss : List Memory) (rest : Bor (List Memory)) (first : Bor Memory) (r : Result (Unit {0}) Halt) → ss ≡ first.now ∷ rest.now → l ≡ pushed (task.Stmts rest) m →
      Resumed p (then_all p l (emptied (exec (world p l.depth) (statement first.now)))) l.state r q →
      Resumed p (then_all p m (emptied (exec_all (world p m.depth) (statements_of (map statement ss))))) m.state r q
  unfolding exec_all ◌>>◌ ◌>>=◌ go_on return
  first_goes l q ss rest first r is pushes a = turned_after p m.state l q _ _ r (λ u. return q.values) (rw (pushes, is) (onward_as (λ s. ap (after p (around m) m.work) (simp go_on-go_on)) (onward_same p m.state _))) a
