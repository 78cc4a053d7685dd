-- How a body begins: its record within a scope, and then its frame.
use Rattle.std.specs.Prelude.{◌≡◌, ℕ, suc, List, [], ◌∷◌, Option, Some}
use Rattle.std.specs.Prelude.{None as Absent}
use Rattle.wy_kernel.specs.Program.{Program}
use Rattle.wy_event.specs.declared.record.Use.{Use}
use Rattle.wy_steps.specs.Sets.{nothing}
use Rattle.wy_steps.specs.State.{Run, Around as Within, ◌>>=◌}
use Rattle.wy_steps.specs.Steps.{Made, activating, scoped}
use Rattle.wy_state.specs.Agrees.{Onward}
use Rattle.wy_calls.specs.Calls.{first_of, rest_of}
use Rattle.wy_state.specs.Steps.{back_to, enter_frame}
use Rattle.wy_operands.specs.Values.{Values, at}
use Rattle.wy_work.specs.declared.task.Task.TheVariants as task
use Rattle.wy_work.specs.declared.task.Step.{Step}
use Rattle.wy_work.specs.Tasks.{MachineState, around, newest}

-- the uses of a receiver by its place on the stack, or none
abbrev pub used_by : Option ℕ → Values → List Use
used_by Absent vs = []
used_by (Some above) vs = (at above vs).uses

-- what is recorded is active in all that comes after it, and then no more
abbrev pub begun : {X : Type 0} → Run nothing (Made nothing) → (ℕ → Run nothing X) → Run nothing X
begun noting next = scoped (activating Within noting >>= (λ e. next e.number))

-- the values are as they were, and so are those of the bodies that wait
pub record IsSameStack (m n : MachineState) : Type 0 where
  pub depth : n.depth ≡ m.depth
  pub values : n.values ≡ m.values
  pub saved : n.saved ≡ m.saved

-- a frame stands for an event from now on, with no value yet; at its end the step is taken, and the frame that is left is back
pub record Enters (p : Program) (event : ℕ) (leave : Step) (m n : MachineState) : Type 0 where
  pub onward : (f : Run nothing Values) → Onward p m.state (enter_frame event >>= (λ u. f)) n.state f
  pub work : n.work ≡ task.Plain leave ∷ m.work
  pub depth : suc n.depth ≡ m.depth
  pub bodies : (around n).bodies ≡ event ∷ (around m).bodies
  pub scopes : (around n).scopes ≡ (around m).scopes
  pub values : n.values ≡ []
  pub saved : n.saved ≡ m.values ∷ m.saved

-- the newest frame ends, and the body that waited has its values again
pub record Leaves (p : Program) (m n : MachineState) : Type 0 where
  pub onward : (f : Run nothing Values) → Onward p m.state (back_to (newest (rest_of (around m).bodies)) >>= (λ u. f)) n.state f
  pub work : n.work ≡ m.work
  pub depth : n.depth ≡ suc m.depth
  pub bodies : (around n).bodies ≡ rest_of (around m).bodies
  pub scopes : (around n).scopes ≡ (around m).scopes
  pub values : n.values ≡ first_of m.saved
  pub saved : n.saved ≡ rest_of m.saved
