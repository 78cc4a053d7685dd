-- How what is run from states that agree is put together.
use Rattle.std.proofs.Common.{◌≡◌, ◌∙◌, ap, refl, sym, Err}
use Rattle.wy_kernel.specs.Program.{Program}
use Rattle.wy_steps.specs.Sets.{nothing}
use Rattle.wy_steps.specs.State.{State, Run, Outcome, go_on, ◌>>=◌, stop, leave}
use Rattle.wy_state.specs.Agrees.{Shape, Onward, StepGives}
use Rattle.wy_state.specs.declared.parts.Halt.{Halt}
use Rattle.wy_state.specs.declared.parts.Halt.TheVariants.{Left, Stopped, Memory}

module _ {X Y : Type 0} {p : Program} {m n : Shape} {f g : Run nothing X} where
  -- within what is done with the outcome
  pub within : (C : Outcome nothing X → Outcome nothing Y) → Onward p m f n g → Onward p m (λ s. C (f s)) n (λ s. C (g s))
  within C h = record { from = λ s a. record { state = (h.from s a).state; agrees = (h.from s a).agrees; is = ap C (h.from s a).is }; same = h.same }

  -- before what comes after
  pub onward_bind : (k : X → Run nothing Y) → Onward p m f n g → Onward p m (f >>= k) n (g >>= k)
  unfolding ◌>>=◌
  onward_bind k h = within (λ o. go_on o k) h

-- one after another
pub onward_then : {X : Type 0} {p : Program} {m n l : Shape} {f g h : Run nothing X} → Onward p m f n g → Onward p n g l h → Onward p m f l h
onward_then a b = record {
  from = λ s at. record {
    state = (b.from (a.from s at).state (a.from s at).agrees).state;
    agrees = (b.from (a.from s at).state (a.from s at).agrees).agrees;
    is = (b.from (a.from s at).state (a.from s at).agrees).is ∙ (a.from s at).is;
  };
  same = b.same ∙ a.same;
}

pub onward_same : {X : Type 0} (p : Program) (m : Shape) (f : Run nothing X) → Onward p m f m f
onward_same p m f = record { from = λ s a. record { state = s; agrees = a; is = refl }; same = refl }

-- the same run, said in another way
pub onward_as : {X : Type 0} {p : Program} {m n : Shape} {f g h : Run nothing X} → ((s : State nothing) → f s ≡ h s) → Onward p m h n g → Onward p m f n g
onward_as said a = record { from = λ s at. record { state = (a.from s at).state; agrees = (a.from s at).agrees; is = (a.from s at).is ∙ sym (said s) }; same = a.same }

-- what stopped, or was refused, has that of all that would have come after it
pub answers_after : {X Y Z W : Type 0} (p : Program) (m n : Shape) (f : Run nothing Y) (v : X → Y) (w : Z → W) (k : Y → Run nothing W) (h : Run nothing W) (e : Halt) → ((s : State nothing) → h s ≡ (f >>= k) s) → StepGives p v (Err e) m f n → StepGives p w (Err e) m h n
unfolding ◌>>=◌ stop leave go_on
answers_after p m n f v w k h (Stopped why) same a = onward_as same (within (λ o. go_on o k) a)
answers_after p m n f v w k h (Left why) same a = onward_as same (within (λ o. go_on o k) a)
answers_after p m n f v w k h Memory same a = tt

-- what was refused, after another run
pub answers_then : {X W : Type 0} (w : X → W) (p : Program) (e : Halt) (m n l : Shape) (f g : Run nothing W) → Onward p m f n g → StepGives p w (Err e) n g l → StepGives p w (Err e) m f l
answers_then w p (Stopped why) m n l f g a b = onward_then a b
answers_then w p (Left why) m n l f g a b = onward_then a b
answers_then w p Memory m n l f g a b = tt
