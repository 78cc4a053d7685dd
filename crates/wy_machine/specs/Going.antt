-- How a machine goes on until nothing is left to do.
use Rattle.std.specs.Prelude.{◌≡◌, ℕ, Option, Some, Result, Ok, Err, IfOk}
use Rattle.std.specs.Prelude.{None as Absent}
use Rattle.wy_kernel.specs.Program.{Program}
use Rattle.wy_steps.specs.Sets.{nothing}
use Rattle.wy_steps.specs.State.{Outcome}
use Rattle.wy_meaning.specs.Run.{stop_number}
use Rattle.wy_operands.specs.Values.{Values}
use Rattle.wy_state.specs.declared.parts.Halt.{Halt}
use Rattle.wy_state.specs.declared.parts.Halt.TheVariants as halt
use Rattle.wy_state.specs.declared.parts.Limit.TheVariants as limit
use Rattle.wy_state.specs.declared.parts.Reason.TheVariants as reason
use Rattle.wy_state.specs.Agrees.{Comes}
use Rattle.wy_state.specs.Seen.{stop_of}
use Rattle.wy_work.specs.declared.turn.Signal.{Signal}
use Rattle.wy_work.specs.declared.turn.Signal.TheVariants as signal
use Rattle.wy_work.specs.Tasks.{MachineState, goes, outcome_at}
use Rattle.wy_machine.specs.declared.refusal.RunError.{RunError}
use Rattle.wy_machine.specs.declared.refusal.RunError.TheVariants.{NoMemory}

-- the run that the machine has before it comes to this
abbrev pub ComesTo : Program → MachineState → Outcome nothing Values → Type 0
ComesTo p m o = Comes p m.state (goes p m) o

-- the run that the machine had before it is the one that ended so
abbrev pub GoesOn : Program → MachineState → Result Signal RunError → MachineState → Type 0
GoesOn p m result n = (o : Outcome nothing Values) → ComesTo p m o → IfOk result (λ signal. Comes p n.state (outcome_at signal n.values) o)

-- what a turn came to
abbrev pub signal_after : Result (Unit {0}) Halt → Result Signal RunError
signal_after (Ok x) = Ok signal.Going
signal_after (Err (halt.Left why)) = Ok (signal.Left why)
signal_after (Err (halt.Stopped why)) = Ok (signal.Stopped why)
signal_after (Err halt.Memory) = Err NoMemory

-- the number of what ended a run, and the Throw that did
abbrev pub stop_at : Signal → ℕ
stop_at signal.Going = 0
stop_at (signal.Left why) = 1
stop_at (signal.Stopped why) = stop_number (stop_of why)

abbrev pub last_at : Signal → Option ℕ
last_at (signal.Left (reason.Threw event value)) = Some event
last_at (signal.Stopped (limit.InitFailed last)) = Some last
last_at _ = Absent
