-- Where a statement goes on, by the values that are on the stack: what is still to be done of it.
use Rattle.std.specs.declared.alloc.Global.{Global}
use Rattle.std.specs.declared.boxed.Box.{Box}
use Rattle.std.specs.declared.vec.Vec.{Vec}
use Rattle.wy_kernel.specs.declared.form.Catch.{Catch}
use Rattle.wy_kernel.specs.declared.form.Stmt.{Stmt as Memory}
use Rattle.wy_kernel.specs.declared.form.StmtForm.{StmtForm}
use Rattle.wy_kernel.specs.declared.form.StmtForm.TheVariants as form
use Rattle.std.specs.Prelude.{◌≡◌, Option, suc, ℕ, Bool, true, []}
use Rattle.wy_kernel.specs.Form.{Statement, Stmt, Act, Eval, If, While, Do, For, Return, Throw, Try, Print}
use Rattle.wy_steps.specs.Sets.{nothing}
use Rattle.wy_steps.specs.State.{Carried, Run, Outcome, go_on, go_on_left, ◌>>=◌, ◌>>◌, return, leave, choose}
use Rattle.wy_kernel.specs.declared.form.Expr.{Expr}
use Rattle.wy_steps.specs.Steps.{steps_left}
use Rattle.wy_meaning.specs.World.{World}
use Rattle.wy_meaning.specs.Text.{print_value}
use Rattle.wy_operation.specs.Words.{printed}
use Rattle.wy_meaning.specs.Expression.{eval, eval_part}
use Rattle.wy_meaning.specs.Statement.{tested, for_test, if_form, while_form, turns, return_form, throw_form, at_throw, other_or, exec, exec_all, exec_catches, exec_other}
use Rattle.wy_operands.specs.Values.{Values, top}
use Rattle.wy_work.specs.declared.task.StmtStep.{StmtStep}
use Rattle.wy_work.specs.declared.task.StmtStep.TheVariants as step

-- a statement leaves no value
abbrev pub emptied : Run nothing (Unit {0}) → Run nothing Values
emptied m = λ s. go_on (m s) (λ u. return [])

abbrev pub forgotten : Outcome nothing Values → Outcome nothing (Unit {0})
forgotten o = go_on o (λ vs. return tt)

abbrev pub without_values : Outcome nothing (Unit {0}) → Outcome nothing Values
without_values o = go_on o (λ u. return [])

module _ (w : World nothing) where
  -- the condition of a loop, and what a turn does
  abbrev pub loop_test : ℕ → ℕ → Act → Run nothing Bool
  loop_test site reach (While test body) = tested site reach (eval w test)
  loop_test site reach (Do body test) = tested site reach (eval w test)
  loop_test site reach (For inits test updates body) = for_test site reach (eval_part w test)
  loop_test site reach _ = return true

  abbrev pub loop_body : Act → Run nothing (Unit {0})
  loop_body (While test body) = exec w body
  loop_body (Do body test) = exec w body
  loop_body (For inits test updates body) = exec w body >> exec_all w updates
  loop_body _ = return tt

  abbrev pub decided : ℕ → ℕ → Act → ℕ → Carried nothing → Run nothing (Unit {0})
  decided site reach act n v = do
    b ← tested site reach (return v)
    choose b (loop_body act >> turns n (loop_test site reach act) (loop_body act)) (return tt)

  -- the value of its expression is there
  abbrev pub act_on : ℕ → ℕ → Act → Carried nothing → Run nothing (Unit {0})
  act_on site reach (Eval value) v = return tt
  act_on site reach (If test main other) v = if_form (tested site reach (return v)) (exec w main) (other_or (exec_other w other))
  act_on site reach (Return value) v = return_form site (return v)
  act_on site reach (Throw value) v = throw_form w site (return v)
  act_on site reach (Print operand ty ends_line at) v = print_value w (return v) ends_line at
  act_on site reach _ v = return tt

  -- the text of what is printed is there
  abbrev pub print_of : Act → Carried nothing → Run nothing (Unit {0})
  print_of (Print operand ty ends_line at) v = printed w ends_line at v
  print_of _ v = return tt

  -- a turn of a loop goes on, and the turns after it
  abbrev pub looping : Statement → ℕ → Run nothing (Unit {0})
  looping (Stmt number site askable reach act) n = loop_body act >> turns n (loop_test site reach act) (loop_body act)

  abbrev pub stmt_step : Statement → StmtStep → Values → Run nothing Values
  stmt_step x step.Do vs = emptied (exec w x)
  stmt_step (Stmt number site askable reach act) step.Operate vs = emptied (act_on site reach act (top vs))
  stmt_step (Stmt number site askable reach act) step.Print vs = emptied (print_of act (top vs))
  stmt_step (Stmt number site askable reach act) step.Loop vs = emptied (while_form (loop_test site reach act) (loop_body act))
  stmt_step (Stmt number site askable reach act) (step.Turn n) vs = emptied (turns n (loop_test site reach act) (loop_body act))
  stmt_step (Stmt number site askable reach act) (step.Decide n) vs = emptied (decided site reach act n (top vs))
  stmt_step x step.Catch vs = return []
  stmt_step x step.Finally vs = return []

  -- ---- what ends a part of a `try`

  abbrev pub after_first : Statement → Outcome nothing (Unit {0}) → Outcome nothing (Unit {0})
  after_first (Stmt number site askable reach (Try main catches last)) o = go_on_left o (at_throw w (exec_catches w catches))
  after_first x o = o

  abbrev pub after_all : Statement → Outcome nothing (Unit {0}) → Outcome nothing (Unit {0})
  after_all (Stmt number site askable reach (Try main catches last)) o = go_on (go_on_left o (λ why. other_or (exec_other w last) >> leave why)) (λ u. other_or (exec_other w last))
  after_all x o = o

  abbrev pub stmt_frame : Statement → StmtStep → Outcome nothing Values → Outcome nothing Values
  stmt_frame x step.Catch o = without_values (after_first x (forgotten o))
  stmt_frame x step.Finally o = without_values (after_all x (forgotten o))
  stmt_frame x step o = go_on o (stmt_step x step)

-- a `try` in memory by its first block and its last
pub record IsTry (f : StmtForm) (first : Memory) (last : Option (Box Memory Global)) : Type 0 where
  pub main : Box Memory Global
  pub catches : Vec Catch Global
  pub is : f ≡ form.Try main catches last
  pub same : first ≡ main.value

-- a `do` in memory by its body
pub record IsDo (f : StmtForm) (first : Memory) : Type 0 where
  pub body : Box Memory Global
  pub test : Expr
  pub is : f ≡ form.Do body test
  pub same : first ≡ body.value

-- with one more than there are steps left
abbrev pub counted : (ℕ → Run nothing Values) → Run nothing Values
counted next = λ s. go_on (steps_left s) (λ n. next (suc n))

-- a `for` in memory by its condition
pub record IsFor (f : StmtForm) (test : Option Expr) : Type 0 where
  pub inits : Vec Memory Global
  pub updates : Vec Memory Global
  pub body : Box Memory Global
  pub is : f ≡ form.For inits test updates body

-- an `if` in memory by its sides
pub record IsIf (f : StmtForm) (yes : Memory) (no : Option (Box Memory Global)) : Type 0 where
  pub test : Expr
  pub main : Box Memory Global
  pub is : f ≡ form.If test main no
  pub same : yes ≡ main.value
