-- What a statement does within its begin and its end, by the tasks that it pushes.
use Rattle.std.proofs.Common.{◌≡◌, ◌∙◌, ℕ, Bool, List, [], ◌∷◌, map, refl, ap, sym, Bor, Option, Some, Err}
use Rattle.std.specs.Prelude.{None as Absent}
use Rattle.std.specs.declared.alloc.Global.{Global}
use Rattle.std.specs.declared.boxed.Box.{Box}
use Rattle.std.specs.declared.vec.Vec.{Vec}
use Rattle.wy_kernel.specs.Program.{Program}
use Rattle.wy_kernel.specs.Form as plain
use Rattle.wy_kernel.specs.Form.{Expression, Act}
use Rattle.wy_kernel.specs.declared.form.Expr.{Expr}
use Rattle.wy_kernel.specs.declared.form.Stmt.{Stmt as Memory}
use Rattle.wy_kernel.specs.declared.form.StmtForm.{StmtForm}
use Rattle.wy_kernel.specs.declared.form.StmtForm.TheVariants as form
use Rattle.wy_kernel.specs.declared.form.Catch.{Catch}
use Rattle.wy_kernel.specs.declared.types.Ty.{Ty}
use Rattle.wy_kernel.specs.View.{act, clause, clauses_of, expression, statement}
use Rattle.wy_kernel.proofs.Views.{view_statement, view_block, view_eval, view_declare, view_if, view_labelled, view_jump, view_return, view_throw, view_try, view_print}
use Rattle.wy_value.specs.declared.value.Value.TheVariants.{None as Nothing}
use Rattle.wy_steps.specs.Sets.{nothing}
use Rattle.wy_steps.specs.State as run
use Rattle.wy_steps.specs.State.{State, Run, Outcome, go_on, go_on_left, catching, ◌>>=◌, ◌>>◌, return, leave}
use Rattle.wy_steps.specs.Steps.{constant}
use Rattle.wy_meaning.specs.World.{World}
use Rattle.wy_meaning.specs.Run.{world}
use Rattle.wy_meaning.specs.Expression.{eval, eval_part, part_or}
use Rattle.wy_meaning.specs.Text.{print_value, print_nothing}
use Rattle.wy_meaning.specs.Statement.{evaluated, tested, if_form, return_form, throw_form, print_form, declaration, jump, try_form, finally, at_throw, exec, exec_act, exec_catches, exec_other, other_or}
use Rattle.wy_state.specs.declared.parts.Halt.{Halt}
use Rattle.wy_state.specs.Seen.{given}
use Rattle.wy_state.specs.Agrees.{Shape, Onward, StepGives, itself}
use Rattle.wy_operation.proofs.Runs.{answers_as, go_on-go_on}
use Rattle.wy_operation.specs.Around.{IsSameAround, KeepsAt, Leaves}
use Rattle.wy_state.proofs.Onward.{onward_as, onward_same}
use Rattle.wy_operands.specs.Values.{Values}
use Rattle.wy_work.specs.declared.task.Task.TheVariants as task
use Rattle.wy_work.specs.declared.task.ExprStep.TheVariants as expr_step
use Rattle.wy_work.specs.declared.task.StmtStep.TheVariants as step
use Rattle.wy_work.specs.Statements.{act_on, emptied, forgotten, without_values, stmt_step}
use Rattle.wy_work.specs.Tasks.{MachineState, around, after, pushed, then_all, goes, Resumed}
use Rattle.wy_work.proofs.Runs.{IsSettled, went, failed_at, kept_after}

-- the expression that comes first in a statement
abbrev pub IsPartOf : Act → Expression → Type 0
IsPartOf (plain.Eval value) e = value ≡ e
IsPartOf (plain.If test main other) e = test ≡ e
IsPartOf (plain.Return (plain.the value)) e = value ≡ e
IsPartOf (plain.Throw value) e = value ≡ e
IsPartOf (plain.Print (plain.the operand) ty ends_line at) e = operand ≡ e
IsPartOf _ e = ⊥

if_is : (site reach : ℕ) (test : Run nothing (run.Carried nothing)) (a b : Run nothing (Unit {0})) (s : State nothing) → if_form (tested site reach test) a b s ≡ go_on (test s) (λ v. if_form (tested site reach (return v)) a b)
unfolding if_form tested ◌>>=◌ go_on return
if_is site reach test a b s = go_on-go_on (test s) _ _

act_is : (w : World nothing) (site reach : ℕ) (a : Act) (e : Expression) → IsPartOf a e → (s : State nothing) → exec_act w site reach a s ≡ go_on (eval w e s) (λ v. act_on w site reach a v)
unfolding exec_act evaluated return_form throw_form print_form print_value part_or eval_part ◌>>=◌ go_on return
act_is w site reach (plain.Eval value) e h s = ap (λ z. go_on (eval w z s) (λ v. return tt)) h
act_is w site reach (plain.If test main other) e h s = rw (← h) (if_is site reach (eval w test) (exec w main) (other_or (exec_other w other)) s)
act_is w site reach (plain.Return (plain.the value)) e h s = rw (← h) refl
act_is w site reach (plain.Throw value) e h s = rw (← h) refl
act_is w site reach (plain.Print (plain.the operand) ty ends_line at) e h s = rw (← h) refl
act_is w site reach (plain.Block parts) e h s = absurd h
act_is w site reach (plain.Declare i) e h s = absurd h
act_is w site reach (plain.While test body) e h s = absurd h
act_is w site reach (plain.Do body test) e h s = absurd h
act_is w site reach (plain.For inits test updates body) e h s = absurd h
act_is w site reach (plain.Labelled body) e h s = absurd h
act_is w site reach (plain.Jump target) e h s = absurd h
act_is w site reach (plain.Return plain.absent) e h s = absurd h
act_is w site reach (plain.Try main catches last) e h s = absurd h
act_is w site reach (plain.Print plain.absent ty ends_line at) e h s = absurd h

part_is : (w : World nothing) (x : Memory) (e : Expression) (vs : Values) → IsPartOf (act x.form) e → (s : State nothing) →
    go_on (exec_act w x.site x.reach (act x.form) s) (λ u. return []) ≡ go_on (go_on (eval w e s) (λ v. return (v ∷ vs))) (stmt_step w (statement x) step.Operate)
unfolding go_on return
part_is w x e vs part s = rw (view_statement x, act_is w x.site x.reach (act x.form) e part s) (simp go_on-go_on)

module _ (p : Program) (m n : MachineState) where
  -- the tasks of an expression and of the rest of its statement
  pub within_goes : (x : Bor Memory) (e : Bor Expr) → n ≡ pushed (task.Expr e expr_step.Find) (pushed (task.Stmt x step.Operate) m) → IsPartOf (act x.now.form) (expression e.now) →
      Onward p m.state (then_all p m (emptied (exec_act (world p m.depth) x.now.site x.now.reach (act x.now.form)))) n.state (goes p n)
  unfolding go_on return
  within_goes x e is part = rw is (onward_as (λ s. ap (after p (around m) m.work) (part_is (world p m.depth) x.now (expression e.now) m.values part s)) (onward_same p m.state _))

  pub block_goes : (x : Memory) (parts : Vec Memory Global) (ss : Bor (List Memory)) → x.form ≡ form.Block parts → ss.now ≡ parts.items → n ≡ pushed (task.Stmts ss) m →
      Onward p m.state (then_all p m (emptied (exec_act (world p m.depth) x.site x.reach (act x.form)))) n.state (goes p n)
  unfolding exec_act go_on return
  block_goes x parts ss is all pushes = rw (pushes, is, view_block, ← all) (onward_same p m.state _)

  pub labelled_goes : (x : Memory) (body : Box Memory Global) (b : Bor Memory) → x.form ≡ form.Labelled body → b.now ≡ body.value → n ≡ pushed (task.Stmt b step.Do) m →
      Onward p m.state (then_all p m (emptied (exec_act (world p m.depth) x.site x.reach (act x.form)))) n.state (goes p n)
  unfolding exec_act go_on return
  labelled_goes x body b is same pushes = rw (pushes, is, view_labelled, ← same) (onward_same p m.state _)

  -- a declaration takes the value of its local away
  pub declared_goes : (x : Memory) (i : ℕ) → x.form ≡ form.Declare i → Onward p m.state (declaration i) n.state (return tt) → IsSettled m n → n.values ≡ [] →
      Onward p m.state (then_all p m (emptied (exec_act (world p m.depth) x.site x.reach (act x.form)))) n.state (goes p n)
  unfolding exec_act
  declared_goes x i is a settled none = rw (is, view_declare, none) (went p m n (declaration i) (λ u. return []) tt a settled)

pub eval_part_is : (f : StmtForm) (value e : Expr) → f ≡ form.Eval value → e ≡ value → IsPartOf (act f) (expression e)
eval_part_is f value e is same = rw (is, view_eval, same) refl

pub throw_part_is : (f : StmtForm) (value e : Expr) → f ≡ form.Throw value → e ≡ value → IsPartOf (act f) (expression e)
throw_part_is f value e is same = rw (is, view_throw, same) refl

pub if_part_is : (f : StmtForm) (test e : Expr) (main : Box Memory Global) (other : Option (Box Memory Global)) → f ≡ form.If test main other → e ≡ test → IsPartOf (act f) (expression e)
if_part_is f test e main other is same = rw (is, view_if, same) refl

pub return_part_is : (f : StmtForm) (part : Option Expr) (value e : Expr) → f ≡ form.Return part → part ≡ Some value → e ≡ value → IsPartOf (act f) (expression e)
return_part_is f part value e is some same = rw (is, view_return, some, same) refl

pub print_part_is : (f : StmtForm) (part : Option Expr) (operand e : Expr) (ty : Ty) (ends_line : Bool) (at : ℕ) → f ≡ form.Print part ty ends_line at → part ≡ Some operand → e ≡ operand → IsPartOf (act f) (expression e)
print_part_is f part operand e ty ends_line at is some same = rw (is, view_print, some, same) refl

-- ---- what ends a statement at once

module _ (w : World nothing) (x : Memory) where
  jump_is : (target : ℕ) → x.form ≡ form.Jump target → (s : State nothing) → exec_act w x.site x.reach (act x.form) s ≡ jump x.site target s
  unfolding exec_act
  jump_is target is s = rw (is, view_jump) refl

  return_is : x.form ≡ form.Return Absent → (s : State nothing) → exec_act w x.site x.reach (act x.form) s ≡ return_form x.site (return (given Nothing [])) s
  unfolding exec_act part_or eval_part constant
  return_is is s = rw (is, view_return) refl

  print_is : (ty : Ty) (ends_line : Bool) (at : ℕ) → x.form ≡ form.Print Absent ty ends_line at → (s : State nothing) → exec_act w x.site x.reach (act x.form) s ≡ print_nothing ends_line at s
  unfolding exec_act print_form eval_part
  print_is ty ends_line at is s = rw (is, view_print) refl

module _ (p : Program) (m : MachineState) (s : Shape) (x : Memory) where
  ended_at : (f : Run nothing (Unit {0})) (e : Halt) → ((z : State nothing) → exec_act (world p m.depth) x.site x.reach (act x.form) z ≡ f z) → StepGives p (itself {X = Unit {0}}) (Err e) m.state f s → KeepsAt e m.state.calls s.calls →
      Resumed p (then_all p m (emptied (exec_act (world p m.depth) x.site x.reach (act x.form)))) m.state (Err e) (record m { state = s })
  ended_at f e is a same = failed_at p m s m.values (exec_act (world p m.depth) x.site x.reach (act x.form)) (λ u. return []) (itself {X = Unit {0}}) e (λ u. return m.values) (answers_as p itself (Err e) m.state s _ f is a) same

  pub jumped : (target : ℕ) (e : Halt) → x.form ≡ form.Jump target → Leaves p e m.state (jump x.site target) s → KeepsAt e m.state.calls s.calls →
      Resumed p (then_all p m (emptied (exec_act (world p m.depth) x.site x.reach (act x.form)))) m.state (Err e) (record m { state = s })
  jumped target e is a same = ended_at (jump x.site target) e (jump_is (world p m.depth) x target is) a same

  pub returned : (e : Halt) → x.form ≡ form.Return Absent → Leaves p e m.state (return_form x.site (return (given Nothing []))) s → KeepsAt e m.state.calls s.calls →
      Resumed p (then_all p m (emptied (exec_act (world p m.depth) x.site x.reach (act x.form)))) m.state (Err e) (record m { state = s })
  returned e is a same = ended_at (return_form x.site (return (given Nothing []))) e (return_is (world p m.depth) x is) a same

  pub print_failed : (ty : Ty) (ends_line : Bool) (at : ℕ) (e : Halt) → x.form ≡ form.Print Absent ty ends_line at → StepGives p (itself {X = Unit {0}}) (Err e) m.state (print_nothing ends_line at) s → KeepsAt e m.state.calls s.calls →
      Resumed p (then_all p m (emptied (exec_act (world p m.depth) x.site x.reach (act x.form)))) m.state (Err e) (record m { state = s })
  print_failed ty ends_line at e is a same = ended_at (print_nothing ends_line at) e (print_is (world p m.depth) x ty ends_line at is) a same

  pub print_went : (ty : Ty) (ends_line : Bool) (at : ℕ) (us : Values) → x.form ≡ form.Print Absent ty ends_line at → Onward p m.state (print_nothing ends_line at) s (return tt) → IsSameAround m.state.calls s.calls → us ≡ [] →
      Onward p m.state (then_all p m (emptied (exec_act (world p m.depth) x.site x.reach (act x.form)))) s (goes p (record m { state = s; values = us }))
  unfolding exec_act print_form eval_part
  print_went ty ends_line at us is a same none = rw (is, view_print, none) (went p m (record m { state = s; values = [] }) (print_nothing ends_line at) (λ u. return []) tt a (kept_after p m s [] same))

-- ---- `try`

kept_unit : (o : Outcome nothing (Unit {0})) → forgotten (without_values o) ≡ o
unfolding go_on return
kept_unit (run.Done x s) = refl
kept_unit (run.Left why s) = refl
kept_unit (run.Stopped why s) = refl

module _ (p : Program) (m n : MachineState) (x : Bor Memory) (main : Box Memory Global) (catches : Vec Catch Global) (b : Bor Memory) (same : b.now ≡ main.value) where
  pub try_goes : x.now.form ≡ form.Try main catches Absent → n ≡ pushed (task.Stmt b step.Do) (pushed (task.Stmt x step.Catch) m) →
      Onward p m.state (then_all p m (emptied (exec_act (world p m.depth) x.now.site x.now.reach (act x.now.form)))) n.state (goes p n)
  unfolding exec_act try_form catching go_on return
  try_goes is pushes = rw pushes (onward_as (λ s. ap (after p (around m) m.work)
      (rw (view_statement x.now, is, view_try, same) (ap (λ o. without_values (go_on_left o (at_throw (world p m.depth) (exec_catches (world p m.depth) (clauses_of (map clause catches.items)))))) (sym (kept_unit (exec (world p m.depth) (statement main.value) s)))))) (onward_same p m.state _))

  pub finally_goes : (last : Box Memory Global) → x.now.form ≡ form.Try main catches (Some last) → n ≡ pushed (task.Stmt b step.Do) (pushed (task.Stmt x step.Catch) (pushed (task.Stmt x step.Finally) m)) →
      Onward p m.state (then_all p m (emptied (exec_act (world p m.depth) x.now.site x.now.reach (act x.now.form)))) n.state (goes p n)
  unfolding exec_act try_form finally catching other_or ◌>>◌ ◌>>=◌ go_on return
  finally_goes last is pushes = rw pushes (onward_as (λ s. ap (after p (around m) m.work)
      (rw (view_statement x.now, is, view_try, same) (ap (λ o. without_values (go_on (go_on_left o (λ why z. go_on (exec (world p m.depth) (statement last.value) z) (λ u. leave why))) (λ u. exec (world p m.depth) (statement last.value)))) (sym (kept_unit _ ∙ ap (λ o. go_on_left o (at_throw (world p m.depth) (exec_catches (world p m.depth) (clauses_of (map clause catches.items))))) (kept_unit (exec (world p m.depth) (statement main.value) s))))))) (onward_same p m.state _))
