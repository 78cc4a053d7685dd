-- How a body ends: its frame is left, and what waited goes on.
use Rattle.std.proofs.Common.{◌≡◌, ◌∙◌, ℕ, suc, List, [], ◌∷◌, refl, ap, ap₂, sym, length, get_or, arith, ◌≤◌, ◌<◌}
use Rattle.wy_event.specs.declared.record.Use.{Use}
use Rattle.wy_kernel.specs.Program.{Program}
use Rattle.wy_steps.specs.Sets.{nothing}
use Rattle.wy_steps.specs.State as run
use Rattle.wy_steps.specs.State.{State, Reason, Stop, Run, Outcome, go_on, ◌>>=◌, return, leave, stop}
use Rattle.wy_steps.specs.Steps.{frame_again}
use Rattle.wy_calls.specs.Calls.{first_of, rest_of}
use Rattle.wy_state.specs.Agrees.{Onward}
use Rattle.wy_state.specs.Steps.{back_to}
use Rattle.wy_state.proofs.Onward.{onward_as, onward_then, onward_same}
use Rattle.wy_operands.specs.Values.{Values, top, under_many}
use Rattle.wy_work.specs.declared.task.Task.TheVariants as task
use Rattle.wy_work.specs.declared.task.Step.TheVariants as step
use Rattle.wy_work.specs.Calls.{Leaves}
use Rattle.wy_work.specs.Tasks.{MachineState, after, around, newest, pushed, then_all, without_body}

module _ (p : Program) (m k : MachineState) (l : Leaves p m k) where
  left_around : without_body (around m) ≡ around k
  left_around = sym (ap₂ (λ d b. record { depth = d; bodies = b; scopes = (around k).scopes; saved = k.saved }) l.depth l.bodies
      ∙ ap₂ (λ ss vs. record { depth = suc m.depth; bodies = rest_of (around m).bodies; scopes = ss; saved = vs }) l.scopes l.saved)

  -- the frame is left, and this run is next
  gone : (f : Run nothing Values) → Onward p m.state (back_to (newest (rest_of (around m).bodies)) >>= (λ u s. after p (without_body (around m)) m.work (f s))) k.state (then_all p k f)
  gone f = onward_then (l.onward (λ s. after p (without_body (around m)) m.work (f s)))
      (onward_as (λ s. ap₂ (λ a fs. after p a fs (f s)) left_around (sym l.work)) (onward_same p k.state _))

  -- the value of a call goes to the body that called it
  pub leaves_call : (count : ℕ) (us : Values) → us ≡ top m.values ∷ under_many count k.values → Onward p m.state (then_all p (pushed (task.Plain (step.LeaveCall count)) m) (return m.values)) k.state (then_all p (record k { values = us }) (return us))
  unfolding ◌>>=◌ go_on frame_again return
  leaves_call count us is = onward_then (gone (return (top m.values ∷ under_many count (first_of m.saved))))
      (onward_as (λ s. ap (λ v. after p (around k) k.work (run.Done v s)) (ap (λ vs. top m.values ∷ under_many count vs) (sym l.values) ∙ sym is)) (onward_same p k.state _))

  pub leaves_class : Onward p m.state (then_all p (pushed (task.Plain step.LeaveClass) m) (return m.values)) k.state (then_all p k (return k.values))
  unfolding ◌>>=◌ go_on frame_again return
  leaves_class = onward_then (gone (return (first_of m.saved))) (onward_as (λ s. ap (λ v. after p (around k) k.work (run.Done v s)) (sym l.values)) (onward_same p k.state _))

  -- what was left or stopped within a body is so where it was called
  pub passes_call : (count : ℕ) (why : Reason nothing) → Onward p m.state (then_all p (pushed (task.Plain (step.LeaveCall count)) m) (leave why)) k.state (then_all p k (leave why))
  unfolding ◌>>=◌ go_on frame_again leave
  passes_call count why = gone (leave why)

  pub passes_class : (why : Reason nothing) → Onward p m.state (then_all p (pushed (task.Plain step.LeaveClass) m) (leave why)) k.state (then_all p k (leave why))
  unfolding ◌>>=◌ go_on frame_again leave
  passes_class why = gone (leave why)

  pub halts_call : (count : ℕ) (why : Stop) → Onward p m.state (then_all p (pushed (task.Plain (step.LeaveCall count)) m) (stop why)) k.state (then_all p k (stop why))
  unfolding ◌>>=◌ go_on frame_again stop
  halts_call count why = gone (stop why)

  pub halts_class : (why : Stop) → Onward p m.state (then_all p (pushed (task.Plain step.LeaveClass) m) (stop why)) k.state (then_all p k (stop why))
  unfolding ◌>>=◌ go_on frame_again stop
  halts_class why = gone (stop why)

-- the only use there is
pub lone : (xs : List Use) (d : Use) → 1 ≤ length xs → length xs < 2 → get_or xs 0 d ∷ [] ≡ xs
lone [] d some few = absurd (omega (arith, some))
lone (x ∷ []) d some few = refl
lone (x ∷ y ∷ zs) d some few = absurd (omega (arith, few))
