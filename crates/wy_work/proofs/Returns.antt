-- the end of a body, and what leaves a task that does nothing with it.
use Rattle.std.proofs.Common.{◌≡◌, ℕ, Bool, true, false, nat_lt, nat_le, [], ◌∷◌, length, refl, ap, Err}
use Rattle.std.specs.Prelude.{◌+◌}
use Rattle.wy_kernel.specs.Program.{Program}
use Rattle.wy_value.specs.declared.value.Value.{Value}
use Rattle.wy_value.specs.declared.value.Value.TheVariants as val
use Rattle.wy_event.specs.declared.record.Kind.TheVariants as kind
use Rattle.wy_steps.specs.Sets.{nothing}
use Rattle.wy_steps.specs.State as run
use Rattle.wy_steps.specs.State.{State, Carried, Reason, Run, Outcome, choose, go_on, go_on_left, ◌>>=◌, return, leave, stop}
use Rattle.wy_kernel.specs.Limits.{event_limit, use_limit}
use Rattle.wy_steps.specs.Steps.{constant, Draft, note, noting, room_for, value_of}
use Rattle.wy_meaning.specs.World.{plain}
use Rattle.wy_meaning.specs.Call.{at_return, end_body}
use Rattle.wy_state.specs.declared.parts.Halt.{Halt}
use Rattle.wy_state.specs.Seen.{valued}
use Rattle.wy_state.specs.Agrees.{Shape, Onward, StepGives}
use Rattle.wy_state.proofs.Onward.{onward_as, onward_same}
use Rattle.wy_operation.specs.Around.{IsSameAround, KeepsAt}
use Rattle.wy_operands.specs.Values.{Values}
use Rattle.wy_work.specs.declared.task.Task.TheVariants as task
use Rattle.wy_work.specs.declared.task.Step.TheVariants as step
use Rattle.wy_work.specs.Tasks.{MachineState, after, around, pushed, then_all, followed, Resumed}
use Rattle.wy_work.proofs.Runs.{failed_at, kept_after, turned_after, went}

-- ---- the end of a body is never left

abbrev IsGoing : {X : Type 0} → Outcome nothing X → Type 0
IsGoing (run.Done x s) = Unit {0}
IsGoing (run.Left why s) = ⊥
IsGoing (run.Stopped why s) = Unit {0}

going_on : {X Y : Type 0} (o : Outcome nothing X) (k : X → Run nothing Y) → IsGoing o → ((x : X) (s : State nothing) → IsGoing (k x s)) → IsGoing (go_on o k)
unfolding go_on
going_on (run.Done x s) k a b = b x s
going_on (run.Left why s) k a b = absurd a
going_on (run.Stopped why s) k a b = tt

choice_going : {X : Type 0} (b : Bool) (m k : Run nothing X) (s : State nothing) → IsGoing (m s) → IsGoing (k s) → IsGoing (choose b m k s)
unfolding choose
choice_going true m k s x y = x
choice_going false m k s x y = y

note_going : (d : Draft) (c : Carried nothing) (s : State nothing) → IsGoing (note d c s)
unfolding note room_for noting stop
note_going d c s = choice_going (nat_lt (length s.noted) event_limit) (choose (nat_le (s.uses + length c.uses) use_limit) (noting d c) (stop run.UseLimit)) (stop run.EventLimit) s (choice_going (nat_le (s.uses + length c.uses) use_limit) (noting d c) (stop run.UseLimit) s tt tt) tt

end_going : (b : Bool) (site : ℕ) (s : State nothing) → IsGoing (end_body b site s)
unfolding end_body ◌>>=◌ return stop
end_going false site s = tt
end_going true site s = going_on (note (plain kind.Return site val.None) (constant val.None) s) (λ e. return (value_of e val.None)) (note_going (plain kind.Return site val.None) (constant val.None) s) (λ e t. tt)

left_alone : {X : Type 0} (o : Outcome nothing X) (f : Reason nothing → Run nothing X) → IsGoing o → go_on_left o f ≡ o
unfolding go_on_left
left_alone (run.Done x s) f going = refl
left_alone (run.Left why s) f going = absurd going
left_alone (run.Stopped why s) f going = refl

module _ (p : Program) (m : MachineState) (b : Bool) (site : ℕ) where
  body_ends : (s : State nothing) → then_all p (pushed (task.Plain (step.BodyEnd b site)) m) (return m.values) s ≡ then_all p m (followed (end_body b site) (λ v. return (v ∷ []))) s
  unfolding go_on return
  body_ends s = ap (λ o. after p (around m) m.work (go_on o (λ v. return (v ∷ [])))) (left_alone (end_body b site s) at_return (end_going b site s))

  module _ (s : Shape) (us : Values) where
    pub body_ended : (e : ℕ) → Onward p m.state (end_body b site) s (return (valued e val.None)) → IsSameAround m.state.calls s.calls → us ≡ valued e val.None ∷ [] →
        Onward p m.state (then_all p (pushed (task.Plain (step.BodyEnd b site)) m) (return m.values)) s (then_all p (record m { state = s; values = us }) (return us))
    body_ended e a same values = rw values (onward_as body_ends (went p m (record m { state = s; values = valued e val.None ∷ [] }) (end_body b site) (λ v. return (v ∷ [])) (valued e val.None) a (kept_after p m s (valued e val.None ∷ []) same)))

    pub body_refused : (e : Halt) → StepGives p (λ n. valued n val.None) (Err e) m.state (end_body b site) s → KeepsAt e m.state.calls s.calls →
        Resumed p (then_all p (pushed (task.Plain (step.BodyEnd b site)) m) (return m.values)) m.state (Err e) (record m { state = s; values = us })
    body_refused e a same = turned_after p m.state m (record m { state = s; values = us }) _ _ (Err e) (λ u. return us) (onward_as body_ends (onward_same p m.state _)) (failed_at p m s us (end_body b site) (λ v. return (v ∷ [])) (λ n. valued n val.None) e (λ u. return us) a same)

  -- what a Return gives is the value of the body
  pub body_returned : (us : Values) (e : ℕ) (v : Value) → us ≡ valued e v ∷ [] → Onward p m.state (then_all p (pushed (task.Plain (step.BodyEnd b site)) m) (leave (run.Returned e (valued e v)))) m.state (then_all p (record m { values = us }) (return us))
  unfolding at_return go_on go_on_left leave return
  body_returned us e v values = rw values (onward_same p m.state _)
