-- What each task does where all before it went through.
use Rattle.std.proofs.Common.{◌≡◌, ℕ, List, [], map, Bor, Result, Ok, Err, OnOk, IfErr}
use Rattle.wy_kernel.specs.declared.form.Expr.{Expr}
use Rattle.wy_kernel.specs.declared.form.Stmt.{Stmt as Memory}
use Rattle.wy_kernel.specs.Program.{Program}
use Rattle.wy_kernel.specs.View.{expression, statement, statements_of}
use Rattle.wy_steps.specs.State.{go_on, go_on_left, return, leave}
use Rattle.wy_meaning.specs.Place.{initialize}
use Rattle.wy_meaning.specs.Statement.{exec_all}
use Rattle.wy_state.specs.declared.parts.Halt.{Halt}
use Rattle.wy_state.specs.declared.parts.Halt.TheVariants as halt
use Rattle.wy_state.specs.declared.parts.Reason.{Reason as Cause}
use Rattle.wy_state.specs.Seen.{reason_of}
use Rattle.wy_state.specs.Agrees.{Onward}
use Rattle.wy_state.proofs.Onward.{onward_same}
use Rattle.wy_operands.specs.Values.{Values, at, top, under_many}
use Rattle.wy_operation.specs.Words.{joined_texts}
use Rattle.wy_work.specs.declared.task.ExprStep.{ExprStep}
use Rattle.wy_work.specs.declared.task.Task.{Task}
use Rattle.wy_work.specs.declared.task.Task.TheVariants as task
use Rattle.wy_work.specs.declared.task.Step.{Step}
use Rattle.wy_work.specs.declared.task.Step.TheVariants as step
use Rattle.wy_work.specs.declared.task.StmtStep.{StmtStep}
use Rattle.wy_work.specs.declared.task.StmtStep.TheVariants as doing
use Rattle.wy_work.specs.Calls.{Leaves}
use Rattle.wy_work.specs.Expressions.{expr_step, leaving, put_all, put_on, showing_right}
use Rattle.wy_work.specs.Tasks.{MachineState, main_called, pushed, then_all, Does, Ends}
use Rattle.wy_work.specs.Listed.{rows}
use Rattle.wy_work.specs.Statements.{emptied, stmt_step}
use Rattle.wy_work.proofs.Leaving.{leaves_class}
use Rattle.wy_work.proofs.Passing.{first_ends}

-- a statement goes on with what is on the stack
abbrev IsGoing : StmtStep → Type 0
IsGoing doing.Catch = ⊥
IsGoing doing.Finally = ⊥
IsGoing x = Unit {0}

module _ (p : Program) (m : MachineState) (r : Result (Unit {0}) Halt) (q : MachineState) where
  pub expr_resumed : (f : Task) (e : Bor Expr) (x : ExprStep) → f ≡ task.Expr e x → Does p (λ w. expr_step w (expression e.now) x) m r q → Ends p f (return m.values) m r q
  unfolding go_on return
  expr_resumed f e x is a = rw is a

  pub row_resumed : (f : Task) (es : Bor (List Expr)) → f ≡ task.Row es → Does p (λ w. put_all w (rows es.now)) m r q → Ends p f (return m.values) m r q
  unfolding go_on return
  row_resumed f es is a = rw is a

  pub stmt_resumed : (f : Task) (s : Bor Memory) (x : StmtStep) → f ≡ task.Stmt s x → Ends p (task.Stmt s x) (return m.values) m r q → Ends p f (return m.values) m r q
  stmt_resumed f s x is a = rw is a

  pub stmts_resumed : (f : Task) (ss : Bor (List Memory)) → f ≡ task.Stmts ss → Does p (λ w vs. emptied (exec_all w (statements_of (map statement ss.now)))) m r q → Ends p f (return m.values) m r q
  unfolding go_on return
  stmts_resumed f ss is a = rw is a

  pub step_resumed : (f : Task) (x : Step) → f ≡ task.Plain x → Ends p (task.Plain x) (return m.values) m r q → Ends p f (return m.values) m r q
  step_resumed f x is a = rw is a

  -- ---- an expression, by its step

  pub expr_at : (e : Bor Expr) (x y : ExprStep) → x ≡ y → Does p (λ w. expr_step w (expression e.now) y) m r q → Does p (λ w. expr_step w (expression e.now) x) m r q
  expr_at e x y is a = rw is a

  -- ---- a statement, by its step

  goes_on : (s : Bor Memory) (x : StmtStep) → IsGoing x → Does p (λ w. stmt_step w (statement s.now) x) m r q → Ends p (task.Stmt s x) (return m.values) m r q
  unfolding go_on return
  goes_on s doing.Do going a = a
  goes_on s doing.Operate going a = a
  goes_on s doing.Print going a = a
  goes_on s doing.Loop going a = a
  goes_on s (doing.Turn n) going a = a
  goes_on s (doing.Decide n) going a = a
  goes_on s doing.Catch going a = absurd going
  goes_on s doing.Finally going a = absurd going

  pub stmt_at : (s : Bor Memory) (x y : StmtStep) → x ≡ y → IsGoing y → Does p (λ w. stmt_step w (statement s.now) y) m r q → Ends p (task.Stmt s x) (return m.values) m r q
  stmt_at s x y is going a = rw is (goes_on s y going a)

  pub stmt_ends : (s : Bor Memory) (x y : StmtStep) → x ≡ y → Ends p (task.Stmt s y) (return m.values) m r q → Ends p (task.Stmt s x) (return m.values) m r q
  stmt_ends s x y is a = rw is a

  -- ---- what has no form, by its step

  pub step_ends : (x y : Step) → x ≡ y → Ends p (task.Plain y) (return m.values) m r q → Ends p (task.Plain x) (return m.values) m r q
  step_ends x y is a = rw is a

  pub right_shown : (x : Step) (site : ℕ) → x ≡ step.ShowRight site → Does p (λ w. showing_right w site) m r q → Ends p (task.Plain x) (return m.values) m r q
  unfolding go_on return
  right_shown x site is a = rw is a

  pub both_joined : (x : Step) (site : ℕ) → x ≡ step.Join site → Does p (λ w vs. put_on (under_many 4 vs) (joined_texts w site (at 1 vs) (top vs))) m r q → Ends p (task.Plain x) (return m.values) m r q
  unfolding go_on return
  both_joined x site is a = rw is a

  pub class_made : (x : Step) (class site : ℕ) → x ≡ step.Initialize class site → Does p (λ w vs. leaving vs (initialize w site class)) m r q → Ends p (task.Plain x) (return m.values) m r q
  unfolding go_on return
  class_made x class site is a = rw is a

  pub main_runs : (x : Step) → x ≡ step.Main → Does p (λ w vs. put_on vs (main_called w)) m r q → Ends p (task.Plain x) (return m.values) m r q
  unfolding go_on return
  main_runs x is a = rw is a

class_left : (p : Program) (m : MachineState) (r : Result (Unit {0}) Halt) (q : MachineState) → OnOk r (Leaves p m q) → IfErr r (λ e. e ≡ halt.Memory) → Ends p (task.Plain step.LeaveClass) (return m.values) m r q
class_left p m (Ok x) q a b = leaves_class p m q a
class_left p m (Err e) q a b = rw b tt

pub class_ends : (p : Program) (m : MachineState) (r : Result (Unit {0}) Halt) (q : MachineState) (x : Step) → x ≡ step.LeaveClass → OnOk r (Leaves p m q) → IfErr r (λ e. e ≡ halt.Memory) → Ends p (task.Plain x) (return m.values) m r q
class_ends p m r q x is a b = rw is (class_left p m r q a b)

module _ (p : Program) (m : MachineState) (x : Step) where
  -- what was left before is left again
  pub left_again : (why : Cause) → x ≡ step.Again why → Onward p m.state (then_all p (pushed (task.Plain x) m) (return m.values)) m.state (then_all p m (leave (reason_of why)))
  unfolding go_on return
  left_again why is = rw is (onward_same p m.state _)

  -- the initializers of a class leave no value
  pub initialized_ends : (us : Values) → x ≡ step.Initialized → us ≡ [] → Onward p m.state (then_all p (pushed (task.Plain x) m) (return m.values)) m.state (then_all p (record m { values = us }) (return us))
  unfolding go_on go_on_left return
  initialized_ends us is none = rw (is, none) (onward_same p m.state _)

  pub top_forgotten : (us : Values) → x ≡ step.Forget → us ≡ under_many 1 m.values → Onward p m.state (then_all p (pushed (task.Plain x) m) (return m.values)) m.state (then_all p (record m { values = us }) (return us))
  unfolding go_on return
  top_forgotten us is values = rw (is, values) (onward_same p m.state _)

-- the first block of a `try` ended normally
pub first_goes_on : (p : Program) (m : MachineState) (s : Bor Memory) (x : StmtStep) → x ≡ doing.Catch → (us : Values) → us ≡ [] → Onward p m.state (then_all p (pushed (task.Stmt s x) m) (return m.values)) m.state (then_all p (record m { values = us }) (return us))
first_goes_on p m s x is us none = rw is (first_ends p m s us none)
