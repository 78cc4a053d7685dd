-- The Binds of a body, one after another.
use Rattle.std.proofs.Common.{◌≡◌, ◌≤◌, ◌<◌, ℕ, ◌+◌, List, map, length, drop, get_or, refl, add-one, Err}
use Rattle.std.proofs.Math.ListN.{drop_of_length-le}
use Rattle.std.proofs.Math.Seq.{drop-cons}
use Rattle.wy_kernel.specs.Program.{Program, Body}
use Rattle.wy_steps.specs.Sets.{nothing}
use Rattle.wy_steps.specs.Steps.{Made}
use Rattle.wy_steps.specs.State.{State, Run, ◌>>=◌, return}
use Rattle.wy_meaning.specs.Call.{bind_all}
use Rattle.wy_operation.specs.Binding.{binding}
use Rattle.wy_operation.specs.Operands.{carried}
use Rattle.wy_operation.specs.declared.operand.Part.{Part}
use Rattle.wy_operation.proofs.Runs.{answers_next, done_first}
use Rattle.wy_state.specs.Agrees.{Shape, Onward, StepGives, itself}
use Rattle.wy_state.specs.Seen.{made_of}
use Rattle.wy_state.specs.declared.parts.Halt.{Halt}
use Rattle.wy_state.proofs.Onward.{answers_after, onward_as, onward_same, onward_then}

module _ (p : Program) (b : Body) (f : ℕ) (ps : List Part) (m l : Shape) (i : ℕ) (start : Run nothing (Unit {0})) (before : Onward p m start l (bind_all b f i (map carried (drop i ps)))) where
  pub bind_done : length ps ≤ i → Onward p m start l (return tt)
  unfolding bind_all
  bind_done over = onward_then before (rw (drop_of_length-le ps over) (onward_same p l (return tt)))

  -- one more, by its number as the code has it
  module _ (k : Shape) (d : Part) (j : ℕ) (same : j ≡ i) (less : i < length ps) where
    abbrev pub rest : Run nothing (Unit {0})
    rest = bind_all b f (i + 1) (map carried (drop (i + 1) ps))

    abbrev pub one : Run nothing (Made nothing)
    one = binding b f j (carried (get_or ps i d))

    turn_is : (s : State nothing) → bind_all b f i (map carried (drop i ps)) s ≡ (one >>= (λ _. rest)) s
    unfolding bind_all
    turn_is s = rw (same, drop-cons ps i d less, add-one) refl

    pub bind_next : (e : ℕ) → Onward p l one k (return (made_of e)) → Onward p m start k rest
    bind_next e a = onward_then before (onward_as turn_is (done_first one (λ _. rest) (made_of e) a))

    pub bind_halts : (e : Halt) → StepGives p made_of (Err e) l one k → StepGives p (itself {X = Unit {0}}) (Err e) m start k
    bind_halts e a = answers_next p itself (Err e) m l k _ _ before (answers_after p l k one made_of itself (λ _. rest) _ e turn_is a)
