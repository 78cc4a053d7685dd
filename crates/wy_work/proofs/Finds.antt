-- How an expression begins: its operands, and then the rest of it.
use Rattle.std.proofs.Common.{◌≡◌, ◌∙◌, ℕ, zero, suc, List, [], ◌∷◌, length, map, refl, ap, ap₂, sym, subst, Bor, Result, Ok}
use Rattle.wy_kernel.specs.Program.{Program}
use Rattle.wy_kernel.specs.Form.{Row, none, more}
use Rattle.wy_kernel.specs.View.{expression}
use Rattle.wy_kernel.specs.declared.form.Expr.{Expr}
use Rattle.wy_steps.specs.Sets.{nothing}
use Rattle.wy_steps.specs.State.{State, Carried, Run, Outcome, go_on, ◌>>=◌, return}
use Rattle.wy_meaning.specs.World.{World, all_of}
use Rattle.wy_meaning.specs.Run.{world}
use Rattle.wy_meaning.specs.Expression.{eval, eval_row}
use Rattle.wy_state.specs.declared.parts.Halt.{Halt}
use Rattle.wy_state.proofs.Onward.{onward_as, onward_same}
use Rattle.wy_operands.specs.Values.{Values, top, under, under_many, last_many}
use Rattle.wy_work.specs.declared.task.Task.TheVariants as tasks
use Rattle.wy_work.specs.Expressions.{put_on, put_all}
use Rattle.wy_work.specs.Tasks.{MachineState, around, after, pushed, then_all, Does}
use Rattle.wy_work.specs.Listed.{rows}
use Rattle.wy_work.specs.Operands.{list_of}
use Rattle.wy_work.proofs.Lasts.{last_many_next}
use Rattle.wy_work.proofs.Updates.{go_on_same}
use Rattle.wy_operation.proofs.Runs.{go_on-go_on}
use Rattle.wy_work.proofs.Runs.{turned_after}

module _ (p : Program) (m q : MachineState) (r : Result (Unit {0}) Halt) (n : MachineState) (es : List Expr) (first : Expr) (row : Bor (List Expr)) where
  -- the first is found, and the row of the others is a task
  pub row_goes : es ≡ first ∷ row.now → q ≡ pushed (tasks.Row row) m → Does p (λ w vs. put_on vs (eval w (expression first))) q r n → Does p (λ w. put_all w (rows es)) m r n
  unfolding go_on return
  row_goes is pushes a =
      subst (λ z. Does p (λ w. put_all w (rows z)) m r n) (sym is)
      (turned_after p m.state m n (then_all p m (put_all (world p m.depth) (rows (first ∷ row.now)) m.values)) (then_all p (pushed (tasks.Row row) m) (put_on m.values (eval (world p m.depth) (expression first)))) r (λ u. return n.values)
      (onward_as (λ s. ap (after p (around m) m.work) (sym (go_on-go_on (eval (world p m.depth) (expression first) s) (λ v. return (v ∷ m.values)) (put_all (world p m.depth) (map expression row.now))))) (onward_same p m.state _))
      (subst (λ z. Does p (λ w vs. put_on vs (eval w (expression first))) z r n) pushes a))

-- there are no expressions left
pub row_done : (p : Program) (m : MachineState) (es : List Expr) → es ≡ [] → Does p (λ w. put_all w (rows es)) m (Ok tt) m
row_done p m es is = rw is (onward_same p m.state _)

-- ---- operands that are found one after another are the last on the stack

under_many_next : (k : ℕ) (vs : Values) → under_many (suc k) vs ≡ under (under_many k vs)
under_many_next zero vs = refl
under_many_next (suc k) vs = under_many_next k (under vs)

-- operands that are evaluated are what they are
pub all_evaluated : (vs : Values) (s : State nothing) → all_of (map return vs) s ≡ return vs s
unfolding all_of ◌>>=◌ go_on return
all_evaluated [] s = refl
all_evaluated (v ∷ vs) s = ap (λ (o : Outcome nothing Values). go_on o (λ us. return (v ∷ us))) (all_evaluated vs s)

module _ (w : World nothing) where
  pub row_found : (row : Row) (vs : Values) (next : Values → Values → Run nothing Values) (s : State nothing) →
      go_on (put_all w (list_of row) vs s) (λ us. next (last_many (length (list_of row)) us) (under_many (length (list_of row)) us)) ≡ go_on (all_of (eval_row w row) s) (λ xs. next xs vs)
  unfolding all_of eval_row ◌>>=◌ go_on return
  row_found none vs next s = refl
  row_found (more e rest) vs next s =
      let n = length (list_of rest) in
      let k = λ (v : Carried nothing) (us : Values). next (last_many (suc n) us) (under_many (suc n) us) in
      go_on-go_on (eval w e s) (λ v. put_all w (list_of rest) (v ∷ vs)) (λ us. next (last_many (suc n) us) (under_many (suc n) us))
      ∙ go_on_same (eval w e s) _ _ (λ v s. go_on_same (put_all w (list_of rest) (v ∷ vs) s) _ _ (λ us s. ap₂ (λ a b. next a b s) (last_many_next n us) (under_many_next n us))
      ∙ row_found rest (v ∷ vs) (λ xs under_them. next (top under_them ∷ xs) (under under_them)) s)
      ∙ sym (go_on-go_on (eval w e s) _ (λ xs. next xs vs) ∙ go_on_same (eval w e s) _ _ (λ v s. go_on-go_on (all_of (eval_row w rest) s) _ (λ xs. next xs vs)))
