-- What the runs of a program take of their budgets.
use Rattle.std.specs.Prelude.{◌≡◌, ℕ, ◌+◌, List}
use Rattle.wy_kernel.specs.Program.{Program}
use Rattle.wy_steps.specs.Sets.{Sets}
use Rattle.wy_steps.specs.State.{StepLimit}
use Rattle.wy_meaning.specs.Run.{outcome, end, tail, stop_number}

-- a run that the step limit stops has taken its whole budget
abbrev pub TakesAllAtTheLimit : Sets → Program → Type 0
TakesAllAtTheLimit A p =
    (input : List ℕ) (budget : ℕ) →
    (tail A p input budget).stop ≡ stop_number StepLimit →
    (tail A p input budget).steps ≡ budget

-- the steps that a run took and those that are left at its end are its budget: it never takes more
abbrev pub AddsUp : Sets → Program → Type 0
AddsUp A p =
    (input : List ℕ) (budget : ℕ) →
    (tail A p input budget).steps + (end (outcome {A = A} p input budget)).left ≡ budget
