-- Throws, and exceptions of the machine.
use Rattle.std.proofs.Common.{◌≡◌, ◌∙◌, ℕ, List, refl, ap, Err}
use Rattle.wy_kernel.specs.Program.{Program}
use Rattle.wy_value.specs.declared.value.Value.{Value}
use Rattle.wy_value.specs.declared.value.Value.TheVariants.{None as Nothing, Object}
use Rattle.wy_event.specs.declared.record.Kind.TheVariants as kind
use Rattle.wy_event.specs.declared.record.Use.{Use}
use Rattle.wy_steps.specs.Sets.{nothing}
use Rattle.wy_steps.specs.State as run
use Rattle.wy_steps.specs.State.{State, Carried, Run, Outcome, Done, go_on, ◌>>=◌, return, leave}
use Rattle.wy_steps.specs.Steps.{Draft, Made, creating, held_by, made, next_event, note, note_new, room_for, value_of, with_created, with_event}
use Rattle.wy_meaning.specs.World.{World, about, class_code, fail, plain, throwing}
use Rattle.wy_operation.specs.Around.{Ends}
use Rattle.wy_operation.proofs.Runs.{done_first}
use Rattle.wy_state.specs.Agrees.{Shape, Onward, StepGives, itself}
use Rattle.wy_state.specs.Seen.{given, made_of, valued}
use Rattle.wy_state.specs.declared.parts.Halt.{Halt}
use Rattle.wy_state.specs.declared.parts.Halt.TheVariants.{Left}
use Rattle.wy_state.specs.declared.parts.Reason.TheVariants.{Threw}
use Rattle.wy_state.proofs.Onward.{answers_after, answers_then, onward_as}

-- ---- a throw

abbrev pub thrown : {X : Type 0} → Value → Made nothing → Run nothing X
thrown v e = leave (run.Threw e.number (value_of e v))

throwing_is : {X : Type 0} (site : ℕ) (v : Carried nothing) (s : State nothing) → throwing {X = X} site v s ≡ (note (plain kind.Throw site v.value) v >>= thrown v.value) s
unfolding throwing
throwing_is site v s = refl

module _ (p : Program) (m n : Shape) (site : ℕ) (v : Value) (us : List Use) where
  pub throw_goes : (e : ℕ) → Onward p m (note (plain kind.Throw site v) (given v us)) n (return (made_of e)) → Ends p (Left (Threw e v)) m (throwing site (given v us)) n
  unfolding value_of
  throw_goes e a = onward_as (throwing_is site (given v us)) (done_first _ (thrown v) (made_of e) a)

  pub throw_halts : (e : Halt) → StepGives p made_of (Err e) m (note (plain kind.Throw site v) (given v us)) n → Ends p e m (throwing site (given v us)) n
  throw_halts e a = answers_after p m n _ made_of (itself {X = ⊥}) (thrown v) _ e (throwing_is site (given v us)) a

-- what throws goes on with nothing, whatever would come after it
throwing_typed : {X : Type 0} (site : ℕ) (v : Carried nothing) (s : State nothing) → throwing {X = X} site v s ≡ (throwing {X = ⊥} site v >>= (λ x. absurd x)) s
unfolding throwing ◌>>=◌ go_on leave
throwing_typed {X = X} site v s = cases (note (plain kind.Throw site v.value) v s)
  where
    cases : (o : Outcome nothing (Made nothing)) → go_on o (thrown {X = X} v.value) ≡ go_on (go_on o (thrown {X = ⊥} v.value)) (λ x. absurd x)
    cases (Done e t) = refl
    cases (run.Left why t) = refl
    cases (run.Stopped why t) = refl

pub throws : (X : Type 0) (p : Program) (e : Halt) (m n : Shape) (site : ℕ) (v : Carried nothing) → Ends p e m (throwing site v) n → StepGives p (itself {X = X}) (Err e) m (throwing site v) n
throws X p e m n site v a = answers_after p m n _ (itself {X = ⊥}) itself (λ x. absurd x) _ e (throwing_typed site v) a

-- ---- an exception of a class

module _ (w : World nothing) (c site : ℕ) where
  fail_is : {X : Type 0} (v : Carried nothing) (s : State nothing) → fail {X = X} w c site v s ≡ (note_new w.program (about kind.New site (class_code c) Nothing) v >>= (λ e. throwing site (value_of e (Object e.number)))) s
  unfolding fail
  fail_is v s = refl

  fail_typed : {X : Type 0} (v : Carried nothing) (s : State nothing) → fail {X = X} w c site v s ≡ (fail {X = ⊥} w c site v >>= (λ x. absurd x)) s
  unfolding fail ◌>>=◌ go_on
  fail_typed {X = X} v s = cases (note_new w.program (about kind.New site (class_code c) Nothing) v s)
    where
      cases : (o : Outcome nothing (Made nothing)) → go_on o (λ e. throwing {X = X} site (value_of e (Object e.number))) ≡ go_on (go_on o (λ e. throwing {X = ⊥} site (value_of e (Object e.number)))) (λ x. absurd x)
      cases (Done e t) = throwing_typed site (value_of e (Object e.number)) t
      cases (run.Left why t) = refl
      cases (run.Stopped why t) = refl

  pub fails : (X : Type 0) (p : Program) (e : Halt) (m n : Shape) (v : Carried nothing) → Ends p e m (fail w c site v) n → StepGives p (itself {X = X}) (Err e) m (fail w c site v) n
  fails X p e m n v a = answers_after p m n _ (itself {X = ⊥}) itself (λ x. absurd x) _ e (fail_typed v) a

-- a record is made of the uses alone
pub note_new_as : (p : Program) (d : Draft) (v u : Value) (us : List Use) (s : State nothing) → note_new p d (given v us) s ≡ note_new p d (given u us) s
unfolding note_new room_for creating next_event made with_event with_created held_by
note_new_as p d v u us s = refl

module _ (p : Program) (m n : Shape) (w : World nothing) (is : w.program ≡ p) (c site : ℕ) (v : Value) (us : List Use) where
  abbrev pub new_exception : Run nothing (Made nothing)
  new_exception = note_new p (about kind.New site (class_code c) Nothing) (given Nothing us)

  starts : (s : State nothing) → fail {X = ⊥} w c site (given v us) s ≡ (new_exception >>= (λ e. throwing site (value_of e (Object e.number)))) s
  unfolding ◌>>=◌
  starts s = fail_is w c site (given v us) s ∙ ap (λ o. go_on o (λ e. throwing site (value_of e (Object e.number)))) (rw is (note_new_as p _ v Nothing us s))

  pub fail_goes : (l : Shape) (e : ℕ) (h : Halt) → Onward p m new_exception l (return (made_of e)) → Ends p h l (throwing site (valued e (Object e))) n → Ends p h m (fail w c site (given v us)) n
  unfolding value_of
  fail_goes l e h a b = answers_then itself p h m l n _ _ (onward_as starts (done_first _ _ (made_of e) a)) b

  pub fail_halts : (h : Halt) → StepGives p made_of (Err h) m new_exception n → Ends p h m (fail w c site (given v us)) n
  fail_halts h a = answers_after p m n _ made_of (itself {X = ⊥}) _ _ h starts a
