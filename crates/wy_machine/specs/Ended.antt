-- What a run leaves, as the definition of a run has it.
use Rattle.std.specs.Prelude.{◌≡◌, ℕ, List, [], ◌∷◌, map, reverse, Option, option_and_then, slice_get}
use Rattle.wy_kernel.specs.Program.{Program}
use Rattle.wy_event.specs.declared.record.Tail.{Tail}
use Rattle.wy_event.specs.Record.{Recorded}
use Rattle.wy_steps.specs.Sets.{nothing}
use Rattle.wy_steps.specs.State.{State, Outcome, go_on, return}
use Rattle.wy_meaning.specs.Run as meaning
use Rattle.wy_meaning.specs.Kept.{kept_tail, kept_thrown}
use Rattle.wy_operands.specs.Values.{Values}
use Rattle.wy_machine.specs.declared.ended.Ended.{Ended}

-- it is the end of the run of the program, as it is kept in memory
abbrev pub IsTailOf : Program → List ℕ → ℕ → Tail → Type 0
IsTailOf p input steps end = kept_tail end ≡ meaning.tail nothing p input steps

-- it is what the run of the program leaves
pub record IsEndOf (p : Program) (input : List ℕ) (steps : ℕ) (e : Ended) : Type 0 where
  pub output : e.output.items ≡ meaning.output nothing p input steps
  pub tail : kept_tail e.tail ≡ meaning.tail nothing p input steps
  pub thrown : kept_thrown e.thrown ≡ meaning.thrown nothing p input steps

-- ---- the same by how the run ended

-- the whole run, its value on a stack
abbrev pub whole : Program → List ℕ → ℕ → Outcome nothing Values
whole p input steps = go_on (meaning.outcome p input steps) (λ v. return (v ∷ []))

-- the records of a state, the oldest first
abbrev pub events_in : State nothing → List Recorded
events_in s = map (λ e. e.event) (reverse s.noted)

abbrev pub events_of : Outcome nothing Values → List Recorded
events_of o = events_in (meaning.end o)

-- the Throw with this number among the records of a state
abbrev pub last_thrown : State nothing → Option ℕ → meaning.Thrown
last_thrown s last = meaning.thrown_in (events_in s) (option_and_then (slice_get (events_in s)) last)

pub record IsEndFor (p : Program) (steps : ℕ) (o : Outcome nothing Values) (e : Ended) : Type 0 where
  pub output : e.output.items ≡ (meaning.end o).output
  pub tail : kept_tail e.tail ≡ meaning.tail_of p steps o
  pub thrown : kept_thrown e.thrown ≡ last_thrown (meaning.end o) (meaning.last_of o)
