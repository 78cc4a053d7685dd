-- How a statement or a scope ends, whatever came before: normally, left or stopped.
use Rattle.std.proofs.Common.{◌≡◌, ◌∙◌, ℕ, true, false, [], map, ap, refl, sym, subst, Result}
use Rattle.wy_kernel.specs.Program.{Program}
use Rattle.wy_steps.specs.Sets.{nothing}
use Rattle.wy_steps.specs.State as run
use Rattle.wy_steps.specs.State.{State, Reason, Stop, Run, Outcome, choose, go_on, ◌>>=◌, return, leave, stop}
use Rattle.wy_steps.specs.Steps.{active_again, arrives, be_left, cover_end, covering, end_normally, end_reaches, event_of, left_by, stop_cause, without}
use Rattle.wy_steps.specs.Steps as steps
use Rattle.wy_calls.specs.Calls.{CallFrame as Body, CallStack as Calls, closed, ended, first_of, rest_of}
use Rattle.wy_calls.specs.declared.calls.Scope.{Scope}
use Rattle.wy_state.specs.declared.parts.Halt.{Halt}
use Rattle.wy_state.specs.Agrees.{Shape, Onward}
use Rattle.wy_state.specs.Steps.{active_be, finish, leave_by}
use Rattle.wy_state.proofs.Onward.{within, onward_as, onward_then, onward_same}
use Rattle.wy_operation.specs.Around.{IsSameAround}
use Rattle.wy_operands.specs.Values.{Values}
use Rattle.wy_work.specs.declared.task.Task.TheVariants as task
use Rattle.wy_work.specs.declared.task.Step.TheVariants as step
use Rattle.wy_work.specs.Tasks.{Context, MachineState, after, around, newest, pushed, then_all, followed, Resumed}
use Rattle.wy_work.specs.Statements.{without_values}
use Rattle.wy_work.proofs.Begins.{newest_is}
use Rattle.wy_work.proofs.Runs.{kept_after, turned_after, went}

-- where a statement ends the same bodies run, and the same scopes are open
ended_around : (n : ℕ) (old new : Calls) → new ≡ ended n old → IsSameAround old new
ended_around n old new same = record { frames = ap (λ (c : Calls). map (λ (f : Body). f.event) c.frames) same; scopes = ap (λ (c : Calls). c.scopes) same }

module _ (p : Program) (m : MachineState) (n : ℕ) where
  -- the frame that ends is that of the newest body in memory
  finishing : Onward p m.state (then_all p (pushed (task.Plain (step.End n)) m) (return m.values)) m.state (then_all p m (followed (finish n) (λ u. return [])))
  unfolding cover_end end_normally end_reaches go_on return
  finishing = record { from = λ s a. record { state = s; agrees = a; is = ap (λ z. after p (around m) m.work (run.Done [] (without z n (covering n steps.ended s)))) (a.frame ∙ newest_is m.state.calls.frames) }; same = refl }

  leaving : (why : Reason nothing) → arrives n why ≡ false → Onward p m.state (then_all p (pushed (task.Plain (step.End n)) m) (leave why)) m.state (then_all p m (followed (leave_by n (event_of why)) (λ u. leave why)))
  unfolding cover_end be_left end_reaches choose go_on leave
  leaving why over = record {
    from = λ s a. record {
      state = s;
      agrees = a;
      is =
          ap (λ z. after p (around m) m.work (run.Left why (without z n (covering n (left_by (event_of why)) s)))) (a.frame ∙ newest_is m.state.calls.frames)
          ∙ ap (λ b. after p (around m) m.work (without_values (end_reaches (newest (around m).bodies) n (choose b (end_normally n) (be_left n why) s)))) (sym over);
    };
    same = refl;
  }

  stopping : (why : Stop) → Onward p m.state (then_all p (pushed (task.Plain (step.End n)) m) (stop why)) m.state (then_all p m (followed (leave_by n (stop_cause why)) (λ u. stop why)))
  unfolding cover_end end_reaches go_on stop
  stopping why = record { from = λ s a. record { state = s; agrees = a; is = ap (λ z. after p (around m) m.work (run.Stopped why (without z n (covering n (left_by (stop_cause why)) s)))) (a.frame ∙ newest_is m.state.calls.frames) }; same = refl }

  -- at its target a jump ends
  arriving : (why : Reason nothing) → arrives n why ≡ true → (s : State nothing) → then_all p (pushed (task.Plain (step.End n)) m) (leave why) s ≡ then_all p (pushed (task.Plain (step.End n)) m) (return m.values) s
  unfolding cover_end choose go_on leave return
  arriving why here s = ap (λ b. after p (around m) m.work (without_values (end_reaches (newest (around m).bodies) n (choose b (end_normally n) (be_left n why) s)))) here

  pub arrived : (q : MachineState) (r : Result (Unit {0}) Halt) (why : Reason nothing) → arrives n why ≡ true → Resumed p (then_all p (pushed (task.Plain (step.End n)) m) (return m.values)) m.state r q → Resumed p (then_all p (pushed (task.Plain (step.End n)) m) (leave why)) m.state r q
  arrived q r why here a = turned_after p m.state m q _ _ r (λ u. return q.values) (onward_as (arriving why here) (onward_same p m.state _)) a

  module _ (s : Shape) (same : s.calls ≡ ended n m.state.calls) where
    pub finished : (us : Values) → us ≡ [] → Onward p m.state (finish n) s (return tt) → Onward p m.state (then_all p (pushed (task.Plain (step.End n)) m) (return m.values)) s (then_all p (record m { state = s; values = us }) (return us))
    finished us none a = rw none (onward_then finishing (went p m (record m { state = s; values = [] }) (finish n) (λ u. return []) tt a (kept_after p m s [] (ended_around n m.state.calls s.calls same))))

    pub left_early : (why : Reason nothing) (e : ℕ) → arrives n why ≡ false → e ≡ event_of why → Onward p m.state (leave_by n e) s (return tt) → Onward p m.state (then_all p (pushed (task.Plain (step.End n)) m) (leave why)) s (then_all p (record m { state = s }) (leave why))
    left_early why e over is a = onward_then (leaving why over) (went p m (record m { state = s }) (leave_by n (event_of why)) (λ u. leave why) tt (rw is at a) (kept_after p m s m.values (ended_around n m.state.calls s.calls same)))

    pub stopped_in : (why : Stop) (e : ℕ) → e ≡ stop_cause why → Onward p m.state (leave_by n e) s (return tt) → Onward p m.state (then_all p (pushed (task.Plain (step.End n)) m) (stop why)) s (then_all p (record m { state = s }) (stop why))
    stopped_in why e is a = onward_then (stopping why) (went p m (record m { state = s }) (leave_by n (stop_cause why)) (λ u. stop why) tt (rw is at a) (kept_after p m s m.values (ended_around n m.state.calls s.calls same)))

-- ---- scopes

module _ (p : Program) (m : MachineState) (s : Shape) (scope : Scope) (same : s.calls ≡ closed m.state.calls) (a : Onward p m.state (active_be (first_of m.state.calls.scopes)) s (return tt)) where
  abbrev outside_scope : Context
  outside_scope = record { depth = m.depth; bodies = (around m).bodies; scopes = rest_of m.state.calls.scopes; saved = m.saved }

  closed_around : outside_scope ≡ around (record m { state = s })
  closed_around = sym (ap (λ (c : Calls). record { depth = m.depth; bodies = map (λ (f : Body). f.event) c.frames; scopes = c.scopes; saved = m.saved }) same)

  closes : (f : Run nothing Values) → Onward p m.state (λ z. after p outside_scope m.work (go_on (active_be (first_of m.state.calls.scopes) z) (λ u. f))) s (then_all p (record m { state = s }) f)
  unfolding go_on return
  closes f = subst (λ x. Onward p m.state (λ z. after p outside_scope m.work (go_on (active_be (first_of m.state.calls.scopes) z) (λ u. f))) s (λ z. after p x m.work (f z))) closed_around
      (within (λ o. after p outside_scope m.work (go_on o (λ u. f))) a)

  pub scope_ends : Onward p m.state (then_all p (pushed (task.Close scope) m) (return m.values)) s (then_all p (record m { state = s }) (return m.values))
  unfolding active_again go_on return
  scope_ends = closes (return m.values)

  pub scope_left : (why : Reason nothing) → Onward p m.state (then_all p (pushed (task.Close scope) m) (leave why)) s (then_all p (record m { state = s }) (leave why))
  unfolding active_again go_on leave
  scope_left why = closes (leave why)

  pub scope_stopped : (why : Stop) → Onward p m.state (then_all p (pushed (task.Close scope) m) (stop why)) s (then_all p (record m { state = s }) (stop why))
  unfolding active_again go_on stop
  scope_stopped why = closes (stop why)
