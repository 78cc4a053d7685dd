-- The turns of loops, by the tasks that they push.
use Rattle.std.proofs.Common.{◌≡◌, ◌∙◌, ℕ, suc, ◌+◌, add-one, Bool, true, false, List, [], ◌∷◌, map, refl, ap, sym, subst, Bor, Option, Some, Result, Err}
use Rattle.std.specs.Prelude.{None as Absent}
use Rattle.std.specs.declared.alloc.Global.{Global}
use Rattle.std.specs.declared.boxed.Box.{Box}
use Rattle.std.specs.declared.vec.Vec.{Vec}
use Rattle.wy_kernel.specs.Program.{Program}
use Rattle.wy_kernel.specs.declared.form.Expr.{Expr}
use Rattle.wy_kernel.specs.declared.form.Stmt.{Stmt as Memory}
use Rattle.wy_kernel.specs.declared.form.StmtForm.{StmtForm}
use Rattle.wy_kernel.specs.declared.form.StmtForm.TheVariants as form
use Rattle.wy_kernel.specs.View.{act, expression, statement, statements_of}
use Rattle.wy_kernel.proofs.Views.{view_statement, view_while, view_do, view_for}
use Rattle.wy_steps.specs.Sets.{nothing}
use Rattle.wy_steps.specs.State as run
use Rattle.wy_steps.specs.State.{State, Run, Outcome, go_on, choose, ◌>>=◌, ◌>>◌, return, stop, leave}
use Rattle.wy_steps.specs.Steps.{steps_left}
use Rattle.wy_meaning.specs.World.{World}
use Rattle.wy_meaning.specs.Run.{world}
use Rattle.wy_meaning.specs.Expression.{eval, eval_part}
use Rattle.wy_meaning.specs.Statement.{tested, for_test, while_form, do_form, for_form, turns, exec, exec_act, exec_all}
use Rattle.wy_state.specs.declared.parts.Halt.{Halt}
use Rattle.wy_state.specs.Agrees.{Shape, Onward}
use Rattle.wy_state.proofs.Onward.{within, onward_as, onward_then, onward_same}
use Rattle.wy_operands.specs.Values.{Values, top}
use Rattle.wy_work.specs.declared.task.Task.TheVariants as task
use Rattle.wy_work.specs.declared.task.ExprStep.TheVariants as expr_step
use Rattle.wy_work.specs.declared.task.StmtStep.TheVariants as step
use Rattle.wy_work.specs.Expressions.{put_on}
use Rattle.wy_work.specs.Statements.{IsDo, counted, emptied, loop_body, loop_test, looping, stmt_step}
use Rattle.wy_work.specs.Tasks.{MachineState, around, after, pushed, then_all, goes, followed, Resumed, Turned}
use Rattle.wy_operation.proofs.Runs.{go_on-go_on}
use Rattle.wy_work.proofs.Runs.{refused, turned_after, turned_as}

-- a `while` is its turns
pub while_is : (w : World nothing) (x : Memory) (test : Expr) (body : Box Memory Global) (vs : Values) → x.form ≡ form.While test body → (s : State nothing) →
    emptied (exec_act w x.site x.reach (act x.form)) s ≡ stmt_step w (statement x) step.Loop vs s
unfolding exec_act
while_is w x test body vs is s = rw (view_statement x, is, view_while) refl

-- the turns of a loop, at most one more than there are steps left
loop_is : (w : World nothing) (x : Memory) (vs : Values) (s : State nothing) → stmt_step w (statement x) step.Loop vs s ≡ counted (λ n. stmt_step w (statement x) (step.Turn n) vs) s
unfolding while_form ◌>>=◌ go_on return
loop_is w x vs s = rw (view_statement x) (go_on-go_on (steps_left s) _ _)

-- one more than there are steps left
pub counts_one_more : (p : Program) (s : Shape) (k : ℕ) → Onward p s steps_left s (return k) → (next : ℕ → Run nothing Values) → Onward p s (counted next) s (next (k + 1))
unfolding go_on return
counts_one_more p s k a next = rw (add-one k) (within (λ o. go_on o (λ n. next (suc n))) a)

-- a turn whose condition is evaluated first
turn_is : (site reach : ℕ) (test : Run nothing (run.Carried nothing)) (next : Bool → Run nothing (Unit {0})) (vs : Values) (s : State nothing) →
    emptied (λ z. go_on (tested site reach test z) next) s ≡ go_on (put_on vs test s) (λ us. emptied (λ z. go_on (tested site reach (return (top us)) z) next))
unfolding tested ◌>>=◌ go_on return
turn_is site reach test next vs s = ap (λ (o : Outcome nothing (Unit {0})). go_on o (λ u. return {X = Values} [])) (go_on-go_on (test s) _ next) ∙ go_on-go_on (test s) _ _ ∙ sym (go_on-go_on (test s) (λ v. return (v ∷ vs)) _)

turn_of : (site reach : ℕ) (test : Run nothing (run.Carried nothing)) (tests : Run nothing Bool) (body : Run nothing (Unit {0})) (k : ℕ) (vs : Values) (s : State nothing) → tests ≡ tested site reach test →
    emptied (turns (suc k) tests body) s ≡ go_on (put_on vs test s) (λ us. emptied (tested site reach (return (top us)) >>= (λ b. choose b (body >> turns k tests body) (return tt))))
unfolding turns ◌>>=◌
turn_of site reach test tests body k vs s is = subst (λ t. emptied (turns (suc k) t body) s ≡ go_on (put_on vs test s) (λ us. emptied (tested site reach (return (top us)) >>= (λ b. choose b (body >> turns k t body) (return tt))))) (sym is)
    (turn_is site reach test (λ b. choose b (body >> turns k (tested site reach test) body) (return tt)) vs s)

-- the condition of a loop in memory
pub record IsCondition (f : StmtForm) (test : Expr) : Type 0 where
  pub is : (w : World nothing) (site reach : ℕ) → loop_test w site reach (act f) ≡ tested site reach (eval w (expression test))

pub while_condition : (f : StmtForm) (test e : Expr) (body : Box Memory Global) → f ≡ form.While test body → e ≡ test → IsCondition f e
while_condition f test e body is same = record { is = λ w site reach. rw (is, view_while, same) refl }

pub do_condition : (f : StmtForm) (test e : Expr) (body : Box Memory Global) → f ≡ form.Do body test → e ≡ test → IsCondition f e
do_condition f test e body is same = record { is = λ w site reach. rw (is, view_do, same) refl }

pub for_condition : (f : StmtForm) (inits updates : Vec Memory Global) (part : Option Expr) (test e : Expr) (body : Box Memory Global) → f ≡ form.For inits part updates body → part ≡ Some test → e ≡ test → IsCondition f e
unfolding for_test eval_part
for_condition f inits updates part test e body is some same = record { is = λ w site reach. rw (is, view_for, some, same) refl }

module _ (p : Program) (m n : MachineState) where
  turning_is : (x : Memory) (e : Expr) (k : ℕ) → IsCondition x.form e → (s : State nothing) →
      stmt_step (world p m.depth) (statement x) (step.Turn (suc k)) m.values s ≡ go_on (put_on m.values (eval (world p m.depth) (expression e)) s) (stmt_step (world p m.depth) (statement x) (step.Decide k))
  turning_is x e k condition s = rw (view_statement x) (turn_of x.site x.reach (eval (world p m.depth) (expression e)) _ (loop_body (world p m.depth) (act x.form)) k m.values s (condition.is (world p m.depth) x.site x.reach))

  -- a turn begins with its condition
  pub turn_goes : (x : Bor Memory) (e : Bor Expr) (k j : ℕ) → k ≡ suc j → IsCondition x.now.form e.now → n ≡ pushed (task.Expr e expr_step.Find) (pushed (task.Stmt x (step.Decide j)) m) →
      Onward p m.state (then_all p m (stmt_step (world p m.depth) (statement x.now) (step.Turn k) m.values)) n.state (goes p n)
  unfolding go_on return
  turn_goes x e k j more condition pushes = rw (more, pushes) (onward_as (λ s. ap (after p (around m) m.work) (turning_is x.now e.now j condition s)) (onward_same p m.state _))

  pub no_turns : (x : Memory) (k : ℕ) → k ≡ 0 → Onward p m.state (then_all p m (stmt_step (world p m.depth) (statement x) (step.Turn k) m.values)) m.state (then_all p m (stop run.StepLimit))
  unfolding turns stop go_on
  no_turns x k none = rw (none, view_statement x) (onward_same p m.state _)

  pub turns_begin : (x : Bor Memory) (k : ℕ) → ((next : ℕ → Run nothing Values) → Onward p m.state (counted next) m.state (next k)) → n ≡ pushed (task.Stmt x (step.Turn k)) m →
      Onward p m.state (then_all p m (stmt_step (world p m.depth) (statement x.now) step.Loop m.values)) n.state (goes p n)
  unfolding go_on return
  turns_begin x k counts pushes = rw pushes (onward_as (λ s. ap (after p (around m) m.work) (loop_is (world p m.depth) x.now m.values s))
      (within (after p (around m) m.work) (counts (λ i. stmt_step (world p m.depth) (statement x.now) (step.Turn i) m.values))))

  pub while_goes : (x : Memory) (test : Expr) (body : Box Memory Global) (r : Result (Unit {0}) Halt) → x.form ≡ form.While test body → Resumed p (then_all p m (stmt_step (world p m.depth) (statement x) step.Loop m.values)) m.state r n →
      Resumed p (then_all p m (emptied (exec_act (world p m.depth) x.site x.reach (act x.form)))) m.state r n
  while_goes x test body r is a = turned_as p m n _ _ r (λ u. return n.values) (while_is (world p m.depth) x test body m.values is) a

  do_is : (x : Memory) (test : Expr) (body : Box Memory Global) (first : Memory) → x.form ≡ form.Do body test → first ≡ body.value → (s : State nothing) →
      emptied (exec_act (world p m.depth) x.site x.reach (act x.form)) s ≡ counted (λ k. followed (exec (world p m.depth) (statement first)) (λ u. stmt_step (world p m.depth) (statement x) (step.Turn k) [])) s
  unfolding exec_act do_form ◌>>=◌ ◌>>◌ go_on return
  do_is x test body first is same s = rw (view_statement x, is, view_do, same) (simp go_on-go_on)

  pub do_goes : (x b : Bor Memory) (k : ℕ) → IsDo x.now.form b.now → ((next : ℕ → Run nothing Values) → Onward p m.state (counted next) m.state (next k)) → n ≡ pushed (task.Stmt b step.Do) (pushed (task.Stmt x (step.Turn k)) m) →
      Onward p m.state (then_all p m (emptied (exec_act (world p m.depth) x.now.site x.now.reach (act x.now.form)))) n.state (goes p n)
  unfolding go_on return
  do_goes x b k is counts pushes = rw pushes (onward_as (λ s. ap (after p (around m) m.work) (do_is x.now is.test is.body b.now is.is is.same s))
      (onward_then (within (after p (around m) m.work) (counts (λ i. followed (exec (world p m.depth) (statement b.now)) (λ u. stmt_step (world p m.depth) (statement x.now) (step.Turn i) []))))
      (onward_as (λ s. ap (after p (around m) m.work) (sym (go_on-go_on (exec (world p m.depth) (statement b.now) s) (λ u. return []) (stmt_step (world p m.depth) (statement x.now) (step.Turn k))))) (onward_same p m.state _))))

  for_is : (x : Memory) (inits updates : Vec Memory Global) (test : Option Expr) (body : Box Memory Global) (ss : List Memory) → x.form ≡ form.For inits test updates body → ss ≡ inits.items → (s : State nothing) →
      emptied (exec_act (world p m.depth) x.site x.reach (act x.form)) s ≡ go_on (emptied (exec_all (world p m.depth) (statements_of (map statement ss))) s) (stmt_step (world p m.depth) (statement x) step.Loop)
  unfolding exec_act for_form ◌>>=◌ ◌>>◌ go_on return
  for_is x inits updates test body ss is same s = rw (view_statement x, is, view_for, same) (simp go_on-go_on)

  pub for_goes : (x : Bor Memory) (inits updates : Vec Memory Global) (test : Option Expr) (body : Box Memory Global) (ss : Bor (List Memory)) → x.now.form ≡ form.For inits test updates body → ss.now ≡ inits.items → n ≡ pushed (task.Stmts ss) (pushed (task.Stmt x step.Loop) m) →
      Onward p m.state (then_all p m (emptied (exec_act (world p m.depth) x.now.site x.now.reach (act x.now.form)))) n.state (goes p n)
  unfolding go_on return
  for_goes x inits updates test body ss is same pushes = rw pushes (onward_as (λ s. ap (after p (around m) m.work) (for_is x.now inits updates test body ss.now is same s)) (onward_same p m.state _))

  -- a turn goes on with the body, and the turns after it
  pub while_on : (x b : Bor Memory) (test : Expr) (body : Box Memory Global) (k : ℕ) → x.now.form ≡ form.While test body → b.now ≡ body.value → n ≡ pushed (task.Stmt b step.Do) (pushed (task.Stmt x (step.Turn k)) m) →
      Onward p m.state (then_all p m (emptied (looping (world p m.depth) (statement x.now) k))) n.state (goes p n)
  unfolding ◌>>◌ ◌>>=◌ go_on return
  while_on x b test body k is same pushes = rw pushes (onward_as (λ s. ap (after p (around m) m.work) (rw (view_statement x.now, is, view_while, same) (simp go_on-go_on))) (onward_same p m.state _))

  pub do_on : (x b : Bor Memory) (test : Expr) (body : Box Memory Global) (k : ℕ) → x.now.form ≡ form.Do body test → b.now ≡ body.value → n ≡ pushed (task.Stmt b step.Do) (pushed (task.Stmt x (step.Turn k)) m) →
      Onward p m.state (then_all p m (emptied (looping (world p m.depth) (statement x.now) k))) n.state (goes p n)
  unfolding ◌>>◌ ◌>>=◌ go_on return
  do_on x b test body k is same pushes = rw pushes (onward_as (λ s. ap (after p (around m) m.work) (rw (view_statement x.now, is, view_do, same) (simp go_on-go_on))) (onward_same p m.state _))

  pub for_on : (x b : Bor Memory) (inits updates : Vec Memory Global) (test : Option Expr) (body : Box Memory Global) (ss : Bor (List Memory)) (k : ℕ) → x.now.form ≡ form.For inits test updates body → b.now ≡ body.value → ss.now ≡ updates.items →
      n ≡ pushed (task.Stmt b step.Do) (pushed (task.Stmts ss) (pushed (task.Stmt x (step.Turn k)) m)) →
      Onward p m.state (then_all p m (emptied (looping (world p m.depth) (statement x.now) k))) n.state (goes p n)
  unfolding ◌>>◌ ◌>>=◌ go_on return
  for_on x b inits updates test body ss k is same all pushes = rw pushes (onward_as (λ s. ap (after p (around m) m.work) (rw (view_statement x.now, is, view_for, same, all) (simp go_on-go_on))) (onward_same p m.state _))

-- ---- a turn is decided

module _ (p : Program) (m q : MachineState) where
  decides : (x : Memory) (k : ℕ) (s : State nothing) → stmt_step (world p m.depth) (statement x) (step.Decide k) m.values s ≡ followed (tested x.site x.reach (return (top m.values))) (λ b. emptied (choose b (looping (world p m.depth) (statement x) k) (return tt))) s
  unfolding ◌>>=◌
  decides x k s = rw (view_statement x) (go_on-go_on (tested x.site x.reach (return (top m.values)) s) _ _)

  pub turn_refused : (x : Memory) (k : ℕ) (e : Halt) → ((next : Bool → Run nothing Values) → Turned {X = Bool} p (then_all p m (followed (tested x.site x.reach (return (top m.values))) next)) m.state (Err e) q next) →
      Resumed p (then_all p m (stmt_step (world p m.depth) (statement x) (step.Decide k) m.values)) m.state (Err e) q
  turn_refused x k e a = refused p _ m.state q e _ (λ u. return q.values) (turned_as p m q _ _ (Err e) _ (decides x k) (a (λ b. emptied (choose b (looping (world p m.depth) (statement x) k) (return tt)))))

  -- the condition held, and the body and the turns after it go on
  pub turn_held : (x : Memory) (k : ℕ) (l : MachineState) (r : Result (Unit {0}) Halt) → ((next : Bool → Run nothing Values) → Onward p m.state (then_all p m (followed (tested x.site x.reach (return (top m.values))) next)) l.state (then_all p l (next true))) → l.depth ≡ m.depth →
      Resumed p (then_all p l (emptied (looping (world p l.depth) (statement x) k))) l.state r q → Resumed p (then_all p m (stmt_step (world p m.depth) (statement x) (step.Decide k) m.values)) m.state r q
  unfolding choose
  turn_held x k l r a depth b =
      turned_after p m.state l q _ _ r (λ u. return q.values) (onward_as (λ s. ap (after p (around m) m.work) (decides x k s)) (a (λ b. emptied (choose b (looping (world p m.depth) (statement x) k) (return tt)))))
      (subst (λ d. Resumed p (then_all p l (emptied (looping (world p d) (statement x) k))) l.state r q) depth b)

  -- the condition did not hold, and the loop ends
  pub turn_ended : (x : Memory) (k : ℕ) → ((next : Bool → Run nothing Values) → Onward p m.state (then_all p m (followed (tested x.site x.reach (return (top m.values))) next)) q.state (then_all p q (next false))) → q.values ≡ [] →
      Onward p m.state (then_all p m (stmt_step (world p m.depth) (statement x) (step.Decide k) m.values)) q.state (goes p q)
  unfolding choose go_on return
  turn_ended x k a none = rw none (onward_as (λ s. ap (after p (around m) m.work) (decides x k s)) (a (λ b. emptied (choose b (looping (world p m.depth) (statement x) k) (return tt)))))

-- a `for` without condition goes on
for_ever : (w : World nothing) (x : Memory) (inits updates : Vec Memory Global) (part : Option Expr) (body : Box Memory Global) (k j : ℕ) (vs : Values) → x.form ≡ form.For inits part updates body → part ≡ Absent → k ≡ suc j → (s : State nothing) →
    stmt_step w (statement x) (step.Turn k) vs s ≡ emptied (looping w (statement x) j) s
unfolding turns for_test eval_part choose ◌>>=◌ ◌>>◌ go_on return
for_ever w x inits updates part body k j vs is none more s = rw (view_statement x, is, view_for, none, more) refl

pub for_ever_goes : (p : Program) (m q : MachineState) (x : Memory) (inits updates : Vec Memory Global) (part : Option Expr) (body : Box Memory Global) (k j : ℕ) (r : Result (Unit {0}) Halt) → x.form ≡ form.For inits part updates body → part ≡ Absent → k ≡ suc j →
    Resumed p (then_all p m (emptied (looping (world p m.depth) (statement x) j))) m.state r q → Resumed p (then_all p m (stmt_step (world p m.depth) (statement x) (step.Turn k) m.values)) m.state r q
for_ever_goes p m q x inits updates part body k j r is none more a = turned_as p m q _ _ r (λ u. return q.values) (for_ever (world p m.depth) x inits updates part body k j m.values is none more) a
