-- How the operands of an expression are found, by the tasks that the code pushes.
use Rattle.std.proofs.Common.{◌≡◌, ◌∙◌, [], refl, ap, sym, subst, Bor, Result, Ok, Err}
use Rattle.wy_kernel.specs.Program.{Program}
use Rattle.wy_kernel.specs.Form.{Expression}
use Rattle.wy_kernel.specs.View.{expression}
use Rattle.wy_kernel.specs.declared.form.Expr.{Expr}
use Rattle.wy_steps.specs.Sets.{nothing}
use Rattle.wy_steps.specs.State.{State, go_on, return}
use Rattle.wy_steps.specs.Steps.{tick}
use Rattle.wy_meaning.specs.Run.{world}
use Rattle.wy_meaning.specs.Expression.{eval}
use Rattle.wy_state.specs.declared.parts.Halt.{Halt}
use Rattle.wy_state.specs.Agrees.{Shape, Onward, StepGives, itself}
use Rattle.wy_state.proofs.Onward.{onward_as, onward_same, onward_then}
use Rattle.wy_work.specs.declared.task.Task.TheVariants as tasks
use Rattle.wy_work.specs.declared.task.ExprStep.TheVariants as step
use Rattle.wy_work.specs.declared.operand.Listed.{Listed}
use Rattle.wy_work.specs.declared.operand.Listed.TheVariants as listing
use Rattle.wy_work.specs.Expressions.{expr_step, put_all, put_on}
use Rattle.wy_work.specs.Tasks.{MachineState, around, after, followed, goes, pushed, pushed_all, then_all, Does}
use Rattle.wy_work.specs.Listed.{finding, listed}
use Rattle.wy_work.specs.Operands.{operands_of}
use Rattle.wy_operation.proofs.Runs.{go_on-go_on}
use Rattle.wy_work.proofs.Runs.{failed_at, keeps_calls, settled_calls, turned_after, went}
use Rattle.wy_work.proofs.Updates.{go_on_same}
use Rattle.wy_work.proofs.Places.{Operating, resumed_as}
use Rattle.wy_work.proofs.Evals.{begins_is, operated}

-- the tasks of operands find them
pub frames_find : (p : Program) (m : MachineState) (l : Listed) (s : State nothing) → goes p (pushed_all (finding l) m) s ≡ then_all p m (put_all (world p m.depth) (listed l) m.values) s
unfolding go_on return
frames_find p m listing.None s = refl
frames_find p m (listing.One a) s = refl
frames_find p m (listing.Two a b) s = ap (after p (around m) m.work) (go_on-go_on (eval (world p m.depth) (expression a.now) s) _ _)
frames_find p m (listing.Three a b c) s = ap (after p (around m) m.work)
    (ap (λ o. go_on o (λ vs. put_on vs (eval (world p m.depth) (expression c.now)))) (go_on-go_on (eval (world p m.depth) (expression a.now) s) _ _)
    ∙ go_on-go_on (eval (world p m.depth) (expression a.now) s) _ _ ∙ go_on_same (eval (world p m.depth) (expression a.now) s) _ _ (λ v s. go_on-go_on (eval (world p m.depth) (expression b.now) s) _ _))
frames_find p m (listing.Row es) s = refl
frames_find p m (listing.Headed a es) s = ap (after p (around m) m.work) (go_on-go_on (eval (world p m.depth) (expression a.now) s) _ _)

module _ (p : Program) (m : MachineState) (l : Shape) (x : Expression) (same : l.calls ≡ m.state.calls) where
  ticked : Onward p m.state tick l (return tt) → Onward p m.state (then_all p m (put_on m.values (eval (world p m.depth) x))) l (then_all p (record m { state = l }) (operated (world p m.depth) x m.values))
  ticked a =
      onward_as (λ s. ap (after p (around m) m.work) (begins_is (world p m.depth) x m.values s))
      (went p m (record m { state = l }) tick (λ u. operated (world p m.depth) x m.values) tt a (settled_calls m l same))

  -- there are none
  pub none_found : (r : Result (Unit {0}) Halt) (n : MachineState) → Onward p m.state tick l (return tt) → [] ≡ operands_of x → Operating p x (record m { state = l }) r n → Does p (λ w vs. put_on vs (eval w x)) m r n
  unfolding go_on return
  none_found r n a none next =
      let w = world p m.depth in
      turned_after p m.state (record m { state = l }) n (then_all p m (put_on m.values (eval w x))) (then_all p (record m { state = l }) (expr_step w x step.Operate m.values)) r (λ u. return n.values)
      (onward_then (ticked a) (onward_as (λ s. ap (λ es. then_all p (record m { state = l }) (λ s. go_on (put_all w es m.values s) (expr_step w x step.Operate)) s) (sym none)) (onward_same p l _))) next

  -- no step was left
  pub none_left : (e : Halt) → StepGives p (itself {X = Unit {0}}) (Err e) m.state tick l → Does p (λ w vs. put_on vs (eval w x)) m (Err e) (record m { state = l })
  none_left e a =
      let w = world p m.depth in
      resumed_as p m (then_all p m (put_on m.values (eval w x))) (then_all p m (followed tick (λ u. operated w x m.values))) (Err e) (record m { state = l }) (λ s. ap (after p (around m) m.work) (begins_is w x m.values s))
      (failed_at p m l m.values tick (λ u. operated w x m.values) (itself {X = Unit {0}}) e (λ u. return m.values) a (keeps_calls e m.state.calls l.calls same))

-- they are next, and then the rest
pub operands_next : (p : Program) (m : MachineState) (l : Shape) (e : Bor Expr) (operands : Listed) (n : MachineState) → l.calls ≡ m.state.calls → Onward p m.state tick l (return tt) → listed operands ≡ operands_of (expression e.now) →
    n ≡ pushed_all (finding operands) (pushed (tasks.Expr e step.Operate) (record m { state = l })) → Does p (λ w vs. put_on vs (eval w (expression e.now))) m (Ok tt) n
operands_next p m l e operands n same a are is =
    let w = world p m.depth in
    let q = pushed (tasks.Expr e step.Operate) (record m { state = l }) in
    subst (λ (z : MachineState). Does p (λ w vs. put_on vs (eval w (expression e.now))) m (Ok tt) z) (sym is)
    (onward_then (ticked p m l (expression e.now) same a)
    (onward_as (λ s. sym (frames_find p q operands s ∙ ap (λ es. then_all p q (put_all w es m.values) s) are)) (onward_same p l (goes p (pushed_all (finding operands) q)))))
