-- A run that the step limit stops has taken its whole budget, and no run takes more.
use Rattle.std.proofs.Common.{◌≡◌, ℕ, ◌+◌, ◌-◌, ◌≤◌, List, arith}
use Rattle.wy_kernel.specs.Program.{Program}
use Rattle.wy_steps.specs.Sets.{Sets}
use Rattle.wy_steps.specs.State.{StepLimit, EventLimit, UseLimit, ElementLimit, UnitLimit, OutputLimit, DepthLimit, Unassigned, FellOff, InitFailed, Outcome, Done, Left, Stopped}
use Rattle.wy_kernel.specs.Limits.{depth_limit}
use Rattle.wy_meaning.specs.Run.{world, start, outcome, end, stop_number, stop_of, tail_of, tail}
use Rattle.law_budget.specs.Budget.{TakesAllAtTheLimit, AddsUp}
use Rattle.law_budget.proofs.BudgetRules.{Within}
use Rattle.law_budget.proofs.Programs.{paid_main_run, world_paid}

module _ (A : Sets) where
  none_left : {X : Type 0} (n : ℕ) (o : Outcome A X) → Within A n o → stop_of o ≡ stop_number StepLimit → (end o).left ≡ 0
  unfolding stop_of stop_number end
  none_left n (Done x s) h e = absurd (omega (arith, e))
  none_left n (Left why s) h e = absurd (omega (arith, e))
  none_left n (Stopped StepLimit s) h e = h.1
  none_left n (Stopped EventLimit s) h e = absurd (omega (arith, e))
  none_left n (Stopped UseLimit s) h e = absurd (omega (arith, e))
  none_left n (Stopped ElementLimit s) h e = absurd (omega (arith, e))
  none_left n (Stopped UnitLimit s) h e = absurd (omega (arith, e))
  none_left n (Stopped OutputLimit s) h e = absurd (omega (arith, e))
  none_left n (Stopped DepthLimit s) h e = absurd (omega (arith, e))
  none_left n (Stopped Unassigned s) h e = absurd (omega (arith, e))
  none_left n (Stopped FellOff s) h e = absurd (omega (arith, e))
  none_left n (Stopped (InitFailed last) s) h e = absurd (omega (arith, e))

  left_within : {X : Type 0} (n : ℕ) (o : Outcome A X) → Within A n o → (end o).left ≤ n
  unfolding end
  left_within n (Done x s) h = h
  left_within n (Left why s) h = h
  left_within n (Stopped why s) h = h.0

  taken : (budget left : ℕ) → left ≡ 0 → budget - left ≡ budget
  taken budget left e = omega (arith, e)

  together : (budget left : ℕ) → left ≤ budget → (budget - left) + left ≡ budget
  together budget left h = omega (arith, h)

  of_run : (p : Program) (input : List ℕ) (budget : ℕ) → Within A budget (outcome {A = A} p input budget)
  unfolding outcome start
  of_run p input budget = (paid_main_run A (world p depth_limit) (world_paid A p depth_limit)).within (start input budget)

  pub takes_all : (p : Program) → TakesAllAtTheLimit A p
  unfolding tail tail_of
  takes_all p input budget h = taken budget _ (none_left budget (outcome {A = A} p input budget) (of_run p input budget) h)

  pub adds_up : (p : Program) → AddsUp A p
  unfolding tail tail_of
  adds_up p input budget = together budget _ (left_within budget (outcome {A = A} p input budget) (of_run p input budget))
