-- How a statement begins, and what comes of it within its end.
use Rattle.std.proofs.Common.{◌≡◌, ◌∙◌, ℕ, List, [], ◌∷◌, map, refl, ap, ap₂, sym, Err}
use Rattle.wy_kernel.specs.Program.{Program}
use Rattle.wy_kernel.specs.Form.{Stmt, Act}
use Rattle.wy_kernel.specs.declared.form.Stmt.{Stmt as Memory}
use Rattle.wy_kernel.specs.View.{act, statement as seen}
use Rattle.wy_kernel.proofs.Views.{view_statement}
use Rattle.wy_steps.specs.Sets.{nothing}
use Rattle.wy_steps.specs.State as run
use Rattle.wy_steps.specs.State.{State, Run, Outcome, go_on, ◌>>=◌, ◌>>◌, return, stop, leave}
use Rattle.wy_steps.specs.Steps.{tick, reaching, end_reaches, covered, cover_end}
use Rattle.wy_meaning.specs.World.{World}
use Rattle.wy_meaning.specs.Run.{world}
use Rattle.wy_meaning.specs.Statement.{statement, exec, exec_act}
use Rattle.wy_calls.specs.Calls.{CallFrame as Body, frame_of, event_of}
use Rattle.wy_state.specs.declared.parts.Halt.{Halt}
use Rattle.wy_state.specs.Agrees.{Shape, Onward, StepGives, itself}
use Rattle.wy_state.specs.Steps.{begin}
use Rattle.wy_state.proofs.Onward.{within, onward_as, onward_bind, onward_then, onward_same, answers_after}
use Rattle.wy_work.specs.declared.task.Task.TheVariants as task
use Rattle.wy_work.specs.declared.task.Step.TheVariants as step
use Rattle.wy_work.specs.Statements.{emptied, forgotten, without_values}
use Rattle.wy_work.specs.Tasks.{MachineState, around, after, newest, pushed, then_all, Resumed}
use Rattle.wy_work.proofs.Runs.{settled_calls, then_settled, failed_at, keeps_calls}

-- the frame that stands is the newest body's
pub newest_is : (fs : List Body) → event_of fs ≡ newest (map (λ (f : Body). f.event) fs)
newest_is [] = refl
newest_is (f ∷ fs) = refl

-- the frame of a run is that of the newest body in memory
pub reaching_here : {X : Type 0} (p : Program) (m : Shape) (n : ℕ) (f : Run nothing X) → Onward p m (reaching n f) m (λ s. end_reaches (frame_of m.calls) n (f s))
unfolding reaching
reaching_here p m n f = record { from = λ s a. record { state = s; agrees = a; is = ap (λ z. end_reaches z n (f s)) (sym a.frame) }; same = refl }

pub forgotten_emptied : (o : Outcome nothing (Unit {0})) → o ≡ forgotten (go_on o (λ u. return []))
unfolding go_on return
forgotten_emptied (run.Done x s) = refl
forgotten_emptied (run.Left why s) = refl
forgotten_emptied (run.Stopped why s) = refl

covered_is : (n : ℕ) (m : Run nothing (Unit {0})) (s : State nothing) → covered n m s ≡ cover_end n ((begin n >> m) s)
unfolding covered ◌>>◌ ◌>>=◌ go_on
covered_is n m s = refl

exec_is : (w : World nothing) (number site reach : ℕ) (a : _) (f : Act) (s : State nothing) → exec w (Stmt number site a reach f) s ≡ (tick >> reaching number (covered number (exec_act w site reach f))) s
unfolding exec statement
exec_is w number site reach a f s = refl

module _ (p : Program) (m : MachineState) (l n : Shape) (x : Memory) where
  ticked : Onward p m.state tick l (return tt) → Onward p m.state (exec (world p m.depth) (seen x)) l (reaching x.number (covered x.number (exec_act (world p m.depth) x.site x.reach (act x.form))))
  unfolding ◌>>◌ ◌>>=◌ go_on return
  ticked a = rw (view_statement x) (onward_as (exec_is (world p m.depth) x.number x.site x.reach x.askable (act x.form)) (onward_bind (λ u. reaching x.number (covered x.number (exec_act (world p m.depth) x.site x.reach (act x.form)))) a))

  begun : Onward p m.state tick l (return tt) → Onward p l (begin x.number) n (return tt) →
      Onward p m.state (exec (world p m.depth) (seen x)) n (λ s. end_reaches (frame_of l.calls) x.number (cover_end x.number (exec_act (world p m.depth) x.site x.reach (act x.form) s)))
  unfolding ◌>>◌ ◌>>=◌ go_on return
  begun a b = onward_then (ticked a) (onward_then (reaching_here p l x.number (covered x.number (exec_act (world p m.depth) x.site x.reach (act x.form))))
      (onward_as (λ s. ap (end_reaches (frame_of l.calls) x.number) (covered_is x.number (exec_act (world p m.depth) x.site x.reach (act x.form)) s))
      (within (λ o. end_reaches (frame_of l.calls) x.number (cover_end x.number (go_on o (λ u. exec_act (world p m.depth) x.site x.reach (act x.form))))) b)))

  -- a statement has begun, and its end is to come
  pub begins : Onward p m.state tick l (return tt) → l.calls ≡ m.state.calls → Onward p l (begin x.number) n (return tt) → n.calls ≡ l.calls → (q : MachineState) → q ≡ pushed (task.Plain (step.End x.number)) (record m { state = n }) →
      Onward p m.state (then_all p m (emptied (exec (world p m.depth) (seen x)))) q.state (then_all p q (emptied (exec_act (world p q.depth) x.site x.reach (act x.form))))
  unfolding go_on
  begins a same b again q is =
      let x_does = exec_act (world p m.depth) x.site x.reach (act x.form) in
      let rest = λ (s : State nothing). without_values (end_reaches (newest (map (λ (f : Body). f.event) n.calls.frames)) x.number (cover_end x.number (forgotten (emptied x_does s)))) in
      let ends = λ (s : State nothing). ap₂ (λ z o. go_on (end_reaches z x.number (cover_end x.number o)) (λ u. return [])) (ap frame_of (sym again) ∙ newest_is n.calls.frames) (forgotten_emptied (x_does s)) in
      rw is (onward_then (within (λ o. after p (around m) m.work (go_on o (λ u. return []))) (begun a b))
      (onward_as (λ s. ap (after p (around m) m.work) (ends s) ∙ ap (λ f. f s) (then_settled p rest (settled_calls m n (again ∙ same)))) (onward_same p n _)))

-- no step was left
pub cannot_begin : (p : Program) (m : MachineState) (l : Shape) (x : Memory) (e : Halt) → StepGives p (itself {X = Unit {0}}) (Err e) m.state tick l → l.calls ≡ m.state.calls →
    Resumed p (then_all p m (emptied (exec (world p m.depth) (seen x)))) m.state (Err e) (record m { state = l })
unfolding ◌>>◌
cannot_begin p m l x e a same =
    let w = world p m.depth in
    let is = λ (s : State nothing). ap (λ z. exec w z s) (view_statement x) ∙ exec_is w x.number x.site x.reach x.askable (act x.form) s in
    failed_at p m l m.values (exec w (seen x)) (λ u. return []) (itself {X = Unit {0}}) e (λ u. return m.values)
    (answers_after p m.state l tick itself itself (λ u. reaching x.number (covered x.number (exec_act w x.site x.reach (act x.form)))) (exec w (seen x)) e is a) (keeps_calls e m.state.calls l.calls same)
