-- Tests, and what ends a statement or a body.
use Rattle.std.proofs.Common.{◌≡◌, ℕ, Bool, true, false, List, [], length, refl, ap, ◌∙◌, subst, Result, Ok, Err}
use Rattle.std.specs.Prelude.{nat_lt, nat_le, ◌+◌}
use Rattle.wy_kernel.specs.Program.{Program}
use Rattle.wy_value.specs.declared.value.Value.{Value}
use Rattle.wy_value.specs.declared.value.Value.TheVariants.{None as Nothing, Arm}
use Rattle.wy_event.specs.declared.record.Kind.TheVariants as kind
use Rattle.wy_event.specs.declared.record.Use.{Use}
use Rattle.wy_steps.specs.Sets.{nothing}
use Rattle.wy_steps.specs.State as run
use Rattle.wy_steps.specs.State.{State, Carried, Run, Outcome, Done, Reach, Around, Through, EventLimit, UseLimit, FellOff, go_on, ◌>>=◌, ◌>>◌, return, leave, stop, choose}
use Rattle.wy_kernel.specs.Limits.{event_limit, use_limit}
use Rattle.wy_steps.specs.Steps.{Made, activating, constant, entered, frame, go_in, made, next_event, note, noting, room_for, value_of, with_event}
use Rattle.wy_meaning.specs.World.{World, arm_of_truth, fail, is_null, is_true, null_pointer, plain, throwing}
use Rattle.wy_meaning.specs.Call.{end_body}
use Rattle.wy_meaning.specs.Statement.{armed, jump, return_form, tested, throw_form}
use Rattle.wy_operation.specs.Around.{Ends, Leaves}
use Rattle.wy_operation.proofs.Exceptions.{fails, throws}
use Rattle.wy_operation.proofs.Runs.{answers_as, done_first}
use Rattle.wy_state.specs.Agrees.{Shape, Onward, StepGives, itself}
use Rattle.wy_state.specs.Seen.{given, made_of, valued}
use Rattle.wy_state.specs.Steps.{activate, activate_through}
use Rattle.wy_state.specs.declared.parts.Halt.{Halt}
use Rattle.wy_state.specs.declared.parts.Halt.TheVariants.{Left}
use Rattle.wy_state.specs.declared.parts.Reason.TheVariants.{Jumped, Returned}
use Rattle.wy_state.proofs.Onward.{answers_after, onward_as, onward_same, onward_then}

-- ---- tests

module _ (site reach arm : ℕ) (v : Value) (us : List Use) where
  abbrev pub test_event : Run nothing (Made nothing)
  test_event = note (plain kind.Test site (Arm arm)) (given (Arm arm) us)

  -- an event is the same whatever value its operands have
  value_aside : (s : State nothing) → note (plain kind.Test site (Arm arm)) (given v us) s ≡ test_event s
  unfolding note room_for noting next_event choose stop
  value_aside s = cases (nat_lt (length s.noted) event_limit) (nat_le (s.uses + length us) use_limit)
    where
      cases : (few fits : Bool) → choose few (choose fits (noting (plain kind.Test site (Arm arm)) (given v us)) (stop UseLimit)) (stop EventLimit) s ≡
          choose few (choose fits (noting (plain kind.Test site (Arm arm)) (given (Arm arm) us)) (stop UseLimit)) (stop EventLimit) s
      cases true true = refl
      cases true false = refl
      cases false fits = refl

  abbrev pub then_on : Made nothing → Run nothing (Unit {0})
  then_on e = activate_through e.number reach >>= (λ _. return tt)

  armed_is : (s : State nothing) → armed site reach arm (given v us) s ≡ (test_event >>= then_on) s
  unfolding armed frame activating go_in entered note room_for noting next_event choose stop with_event made ◌>>=◌ go_on return
  armed_is s = cases (nat_lt (length s.noted) event_limit) (nat_le (s.uses + length us) use_limit)
    where
      cases : (few fits : Bool) → go_on (go_in (Through s.frame reach) (choose few (choose fits (noting (plain kind.Test site (Arm arm)) (given v us)) (stop UseLimit)) (stop EventLimit) s)) (λ e. return tt) ≡
          go_on (choose few (choose fits (noting (plain kind.Test site (Arm arm)) (given (Arm arm) us)) (stop UseLimit)) (stop EventLimit) s) then_on
      cases true true = refl
      cases true false = refl
      cases false fits = refl

  module _ (p : Program) (m n : Shape) where
    pub armed_goes : (l : Shape) (e : ℕ) → Onward p m test_event l (return (made_of e)) → Onward p l (activate_through e reach) n (return tt) → Onward p m (armed site reach arm (given v us)) n (return tt)
    armed_goes l e noted active = onward_as armed_is (onward_then (done_first test_event then_on (made_of e) noted) (done_first (activate_through e reach) (λ _. return tt) tt active))

    pub armed_halts : (e : Halt) → StepGives p made_of (Err e) m test_event n → StepGives p (itself {X = Unit {0}}) (Err e) m (armed site reach arm (given v us)) n
    armed_halts e a = answers_after p m n test_event made_of itself then_on _ e armed_is a

    -- ---- those of an expression

    abbrev pub then_active : Made nothing → Run nothing (Made nothing)
    then_active e = activate Around e.number >>= (λ _. return e)

    around_is : (s : State nothing) → activating Around (note (plain kind.Test site (Arm arm)) (given v us)) s ≡ (test_event >>= then_active) s
    unfolding activating go_in entered go_on ◌>>=◌ return
    around_is s = ap (go_in Around) (value_aside s) ∙ cases (test_event s)
      where
        cases : (o : Outcome nothing (Made nothing)) → go_in Around o ≡ go_on o then_active
        cases (Done e t) = refl
        cases (run.Left why t) = refl
        cases (run.Stopped why t) = refl

    pub around_goes : (l : Shape) (e : ℕ) → Onward p m test_event l (return (made_of e)) → Onward p l (activate Around e) n (return tt) → Onward p m (activating Around (note (plain kind.Test site (Arm arm)) (given v us))) n (return (made_of e))
    around_goes l e noted active = onward_as around_is (onward_then (done_first test_event then_active (made_of e) noted) (done_first (activate Around e) (λ _. return (made_of e)) tt active))

    pub around_halts : (e : Halt) → StepGives p made_of (Err e) m test_event n → StepGives p made_of (Err e) m (activating Around (note (plain kind.Test site (Arm arm)) (given v us))) n
    around_halts e a = answers_after p m n test_event made_of made_of then_active _ e around_is a

-- ---- conditions

module _ (site reach : ℕ) (v : Value) (us : List Use) (p : Program) (m n : Shape) where
  abbrev arm_noted : Run nothing (Unit {0})
  arm_noted = armed site reach (arm_of_truth (is_true v)) (given v us)

  tested_is : (s : State nothing) → tested site reach (return (given v us)) s ≡ (arm_noted >>= (λ _. return (is_true v))) s
  unfolding tested ◌>>=◌ ◌>>◌ go_on return
  tested_is s = refl

  pub tested_goes : (b : Bool) (arm : ℕ) → b ≡ is_true v → arm ≡ arm_of_truth b → Onward p m (armed site reach arm (given v us)) n (return tt) → Onward p m (tested site reach (return (given v us))) n (return b)
  tested_goes b arm is takes a =
      rw is (onward_as tested_is (done_first arm_noted (λ _. return (is_true v)) tt (subst (λ k. Onward p m (armed site reach k (given v us)) n (return tt)) (takes ∙ ap arm_of_truth is) a)))

  pub tested_halts : (b : Bool) (arm : ℕ) (e : Halt) → b ≡ is_true v → arm ≡ arm_of_truth b → StepGives p (itself {X = Unit {0}}) (Err e) m (armed site reach arm (given v us)) n → StepGives p (itself {X = Bool}) (Err e) m (tested site reach (return (given v us))) n
  tested_halts b arm e is takes a =
      answers_after p m n arm_noted itself itself (λ _. return (is_true v)) _ e tested_is (subst (λ k. StepGives p (itself {X = Unit {0}}) (Err e) m (armed site reach k (given v us)) n) (takes ∙ ap arm_of_truth is) a)

-- ---- jumps and returns

module _ (p : Program) (m n : Shape) (site : ℕ) where
  abbrev pub jump_event : Run nothing (Made nothing)
  jump_event = note (plain kind.Jump site Nothing) (given Nothing [])

  jump_is : (target : ℕ) (s : State nothing) → jump site target s ≡ (jump_event >>= (λ e. leave (run.Jumped target e.number))) s
  unfolding jump constant
  jump_is target s = refl

  pub jump_goes : (target e : ℕ) → Onward p m jump_event n (return (made_of e)) → Leaves p (Left (Jumped target e)) m (jump site target) n
  jump_goes target e a = onward_as (jump_is target) (done_first jump_event (λ e. leave (run.Jumped target e.number)) (made_of e) a)

  pub jump_halts : (target : ℕ) (e : Halt) → StepGives p made_of (Err e) m jump_event n → Leaves p e m (jump site target) n
  jump_halts target e a = answers_after p m n jump_event made_of itself _ _ e (jump_is target) a

  module _ (v : Value) (us : List Use) where
    abbrev pub return_event : Run nothing (Made nothing)
    return_event = note (plain kind.Return site v) (given v us)

    return_is : (s : State nothing) → return_form site (return (given v us)) s ≡ (return_event >>= (λ e. leave (run.Returned e.number (value_of e v)))) s
    unfolding return_form ◌>>=◌ go_on return
    return_is s = refl

    pub return_goes : (e : ℕ) → Onward p m return_event n (return (made_of e)) → Leaves p (Left (Returned e v)) m (return_form site (return (given v us))) n
    unfolding value_of
    return_goes e a = onward_as return_is (done_first return_event (λ e. leave (run.Returned e.number (value_of e v))) (made_of e) a)

    pub return_halts : (e : Halt) → StepGives p made_of (Err e) m return_event n → Leaves p e m (return_form site (return (given v us))) n
    return_halts e a = answers_after p m n return_event made_of itself _ _ e return_is a

    -- ---- a throw of a value

    pub throw_null : (w : World nothing) (e : Halt) → is_null v ≡ true → Ends p e m (fail w null_pointer site (given v us)) n → Leaves p e m (throw_form w site (return (given v us))) n
    unfolding throw_form ◌>>=◌ go_on return choose
    throw_null w e null a = answers_as p itself (Err e) m n _ _ same (fails w null_pointer site (Unit {0}) p e m n (given v us) a)
      where
        same : (s : State nothing) → throw_form w site (return (given v us)) s ≡ fail w null_pointer site (given v us) s
        same s = rw null refl

    pub throw_object : (w : World nothing) (e : Halt) → is_null v ≡ false → Ends p e m (throwing site (given v us)) n → Leaves p e m (throw_form w site (return (given v us))) n
    unfolding throw_form ◌>>=◌ go_on return choose
    throw_object w e null a = answers_as p itself (Err e) m n _ _ same (throws (Unit {0}) p e m n site (given v us) a)
      where
        same : (s : State nothing) → throw_form w site (return (given v us)) s ≡ throwing site (given v us) s
        same s = rw null refl

  -- ---- the end of a body

  abbrev pub end_event : Run nothing (Made nothing)
  end_event = note (plain kind.Return site Nothing) (given Nothing [])

  end_is : (s : State nothing) → end_body true site s ≡ (end_event >>= (λ e. return (value_of e Nothing))) s
  unfolding end_body constant
  end_is s = refl

  pub end_goes : (r : Result ℕ Halt) (b : Bool) → b ≡ true → StepGives p made_of r m end_event n → StepGives p (λ e. valued e Nothing) r m (end_body b site) n
  unfolding value_of
  end_goes (Ok e) b is a = rw is (onward_as end_is (done_first end_event (λ e. return (value_of e Nothing)) (made_of e) a))
  end_goes (Err e) b is a = rw is (answers_after p m n end_event made_of (λ e. valued e Nothing) _ _ e end_is a)

pub end_fell : (p : Program) (m : Shape) (site : ℕ) (b : Bool) → b ≡ false → Onward p m (end_body b site) m (stop FellOff)
unfolding end_body
end_fell p m site b is = rw is (onward_same p m _)
