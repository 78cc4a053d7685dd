-- What is left to do is less by a turn, and the rest is the same run.
use Rattle.std.proofs.Common.{◌≡◌, ◌∙◌, ◌<◌, arith, length, List, [], ◌∷◌, refl, sym, subst, Option, Result, Ok, Err}
use Rattle.std.specs.Prelude.{IfOk}
use Rattle.std.specs.Prelude.{None as Absent}
use Rattle.std.specs.Option.{IsSome}
use Rattle.wy_kernel.specs.Program.{Program}
use Rattle.wy_steps.specs.Sets.{nothing}
use Rattle.wy_steps.specs.State.{Outcome, Run}
use Rattle.wy_operands.specs.Values.{Values}
use Rattle.wy_state.specs.declared.parts.Halt.{Halt}
use Rattle.wy_state.specs.declared.parts.Halt.TheVariants as halt
use Rattle.wy_state.specs.Agrees.{Shape, Comes, Onward}
use Rattle.wy_work.specs.declared.task.Task.{Task}
use Rattle.wy_work.specs.declared.turn.Signal.{Signal}
use Rattle.wy_work.specs.declared.turn.Signal.TheVariants as signal
use Rattle.wy_work.specs.Tasks.{MachineState, Ends, after, around, goes, outcome_at, pushed, then_all}
use Rattle.wy_machine.specs.declared.refusal.RunError.{RunError}
use Rattle.wy_machine.specs.declared.refusal.RunError.TheVariants.{NoMemory}
use Rattle.wy_machine.specs.Going.{ComesTo, GoesOn, signal_after}

-- the run that was before a machine is the one that ended so
abbrev pub Before : Program → MachineState → Signal → Outcome nothing Values → Type 0
Before p m x o = Comes p m.state (then_all p m (outcome_at x m.values)) o

comes_on : {X : Type 0} {p : Program} {m n : Shape} {f g : Run nothing X} {o : Outcome nothing X} → Onward p m f n g → Comes p m f o → Comes p n g o
comes_on a c = record {
  state = (a.from c.state c.agrees).state;
  agrees = (a.from c.state c.agrees).agrees;
  is = (a.from c.state c.agrees).is ∙ c.is;
}

-- a turn, and how it ended
module _ (p : Program) (m n : MachineState) (f : Task) (x : Signal) where
  pub turned : (r : Result (Unit {0}) Halt) (y : Signal) → signal_after r ≡ Ok y → Ends p f (outcome_at x m.values) m r n → (o : Outcome nothing Values) → Before p (pushed f m) x o → Before p n y o
  turned (Ok u) y is ends o before = let same : signal.Going ≡ y = cc in subst (λ z. Before p n z o) same (comes_on ends before)
  turned (Err (halt.Left why)) y is ends o before = let same : signal.Left why ≡ y = cc in subst (λ z. Before p n z o) same (comes_on ends before)
  turned (Err (halt.Stopped why)) y is ends o before = let same : signal.Stopped why ≡ y = cc in subst (λ z. Before p n z o) same (comes_on ends before)
  turned (Err halt.Memory) y is ends o before = absurd (cc)

  -- no event was handed on
  pub stayed : (r : Result (Unit {0}) Halt) (y : Signal) → signal_after r ≡ Ok y → Ends p f (outcome_at x m.values) m r n → n.state.keeps ≡ m.state.keeps
  stayed (Ok u) y is ends = ends.same
  stayed (Err (halt.Left why)) y is ends = ends.same
  stayed (Err (halt.Stopped why)) y is ends = ends.same
  stayed (Err halt.Memory) y is ends = absurd (cc)

-- else memory is wanting
pub halted : (r : Result (Unit {0}) Halt) (e : RunError) → signal_after r ≡ Err e → e ≡ NoMemory
halted (Ok u) e is = absurd (cc)
halted (Err (halt.Left why)) e is = absurd (cc)
halted (Err (halt.Stopped why)) e is = absurd (cc)
halted (Err halt.Memory) e is = let same : NoMemory ≡ e = cc in sym same

-- where nothing is left to do, the run ended
pub ended : (p : Program) (m : MachineState) (x : Signal) (o : Outcome nothing Values) → m.work ≡ [] → Before p m x o → Comes p m.state (outcome_at x m.values) o
ended p m x o none before = subst (λ fs. Comes p m.state (λ s. after p (around m) fs (outcome_at x m.values s)) o) none before

-- nothing is taken off exactly where there is nothing
pub nothing_popped : {X : Type 0} (r : Option X) (xs : List X) → r ≡ Absent → (0 < length xs → IsSome r) → xs ≡ []
nothing_popped {X = X} r [] none some = refl
nothing_popped {X = X} r (x ∷ xs) none some = absurd (never (subst IsSome none (some (omega arith))))
  where
    never : IsSome {T = X} Absent → ⊥
    never is = cc

-- the whole run was gone through
pub came : (p q : Program) (m n : MachineState) (r : Result Signal RunError) (x : Signal) (o : Outcome nothing Values) → q ≡ p → r ≡ Ok x → GoesOn q m r n → ComesTo p m o → Comes p n.state (outcome_at x n.values) o
came p q m n r x o same is gone start =
    let gone_here : GoesOn p m r n = subst (λ z. GoesOn z m r n) same gone in
    subst (λ z. IfOk z (λ x. Comes p n.state (outcome_at x n.values) o)) is (gone_here o start)

pub comes_as : (p q : Program) (m : MachineState) (o : Outcome nothing Values) → q ≡ p → ComesTo p m o → ComesTo q m o
comes_as p q m o same comes = subst (λ z. ComesTo z m o) (sym same) comes

-- what holds of all that is there
pub also : {X E : Type 0} (P Q : X → Type 0) (r : Result X E) → ((x : X) → P x → Q x) → IfOk r P → IfOk r Q
also P Q (Ok x) f h = f x h
also P Q (Err e) f h = tt
